-- Document 01's number, place and length for each case of a packer's answer.
use Rattle.std.specs.Prelude.{ℕ, Result, Ok, Err}
use Rattle.packers.specs.declared.Refusal.{Refusal}
use Rattle.packers.specs.declared.Refusal.TheVariants.{Entries, Column, Room}

-- what a packer answers: the length of the image that it wrote, or why it wrote nothing
abbrev pub Packed : Type 0
Packed = Result ℕ Refusal

abbrev pub refusal_number : Refusal → ℕ
refusal_number Entries = 13
refusal_number (Column k) = 14
refusal_number (Room n) = 4

abbrev pub refusal_place : Refusal → ℕ
refusal_place Entries = 0
refusal_place (Column k) = k
refusal_place (Room n) = n

abbrev pub packed_number : Packed → ℕ
packed_number (Ok n) = 0
packed_number (Err refusal) = refusal_number refusal

abbrev pub packed_place : Packed → ℕ
packed_place (Ok n) = 0
packed_place (Err refusal) = refusal_place refusal

-- "gives lengths and counts 0"
abbrev pub packed_length : Packed → ℕ
packed_length (Ok n) = n
packed_length (Err refusal) = 0
