-- A packer that answers a refusal leaves the output as it was.
use Rattle.std.proofs.Common.{◌≡◌, refl, List, ℕ, Ok, Err}
use Rattle.packers.specs.declared.Refusal.{Refusal}
use Rattle.packers.specs.Answers.{Packed, packed_number}
use Rattle.packers.specs.Packing.{written}

pub refused : (refusal : Refusal) (image out : List ℕ) → out ≡ written (Err refusal) image out
refused refusal image out = refl

-- by its number: one that is not 0
pub refusal_writes_nothing : (r : Packed) → (packed_number r ≡ 0 → ⊥) → (image out : List ℕ) → written r image out ≡ out
refusal_writes_nothing (Ok n) some image out = absurd (some refl)
refusal_writes_nothing (Err refusal) some image out = refl
