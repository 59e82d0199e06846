-- Laws of what is printed: what it says of the lists and the output that the text fits, and what the two ways out of the function come to.
use Rattle.std.proofs.Common.{◌≡◌, ◌∙◌, ℕ, ◌+◌, ◌*◌, ◌≤◌, true, false, List, length, zero-add, leb-true}
use Rattle.std.proofs.lemmas.Bool.{and_parts}
use Rattle.rules.specs.Limits.{max_nodes}
use Rattle.report.specs.declared.text.Text.{Text}
use Rattle.report.specs.Putting.{written_at, Puts}
use Rattle.report.specs.Text.{shown, text, fits, printed, Reported}

-- the tests that the text of so many nodes has passed
pub passed : (count sets indentations out : ℕ) → fits count sets indentations out ≡ true →
    (count ≤ max_nodes) × (2 * count ≤ sets) × (count ≤ indentations) × (42 + 84 * count ≤ out)
unfolding fits
passed count sets indentations out h =
    let a = and_parts _ _ h in
    let b = and_parts _ _ a.1 in
    let d = and_parts _ _ b.1 in
    (leb-true _ _ a.0, leb-true _ _ b.0, leb-true _ _ d.0, leb-true _ _ d.1)

module _ (number place nodes : ℕ) (sets indentations out : List ℕ) where
  -- nothing was written
  pub refused : fits (shown number nodes) (length sets) (length indentations) (length out) ≡ false → Reported number place nodes sets indentations out 0 out
  unfolding printed
  refused h = record { result = rw h; output = rw h }

  -- the text was put in front
  pub accepted : {old new : Text} {after : List ℕ} → fits (shown number nodes) (length sets) (length indentations) (length out) ≡ true →
      old.at ≡ 0 → old.out.now ≡ out → after ≡ new.out.now →
      Puts (text number place nodes sets indentations) old new → Reported number place nodes sets indentations out new.at after
  unfolding printed written_at
  accepted h at before after put =
      record { result = rw h (put.next ∙ rw (at, zero-add)); output = rw h (after ∙ (put.output ∙ rw (at, before, zero-add))) }
