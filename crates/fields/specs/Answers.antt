-- Document 01's number and place for each case of a check's answer.
use Rattle.std.specs.Prelude.{ℕ, Ok, Err}
use Rattle.fields.specs.Fields.{Checked}

-- a check's refusal is 1 for the grammar image, 2 for the token image, 3 for the tree image
abbrev pub checked_number : ℕ → Checked → ℕ
checked_number refusal (Ok good) = 0
checked_number refusal (Err fault) = refusal

abbrev pub checked_place : Checked → ℕ
checked_place (Ok good) = 0
checked_place (Err fault) = fault.byte
