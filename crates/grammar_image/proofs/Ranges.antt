-- A count that is held to a range by one test has two rules: the range's start, and its end.
use Rattle.std.proofs.Common.{◌≡◌, ℕ, Bool, true, false, ◌&&◌, refl, sym, ap₂, ◌∙◌, Some, leb, List, ◌∷◌, nat_cmp, is_le, true≢false, arith}
use Rattle.std.specs.Range.{range_inclusive_start, range_inclusive_end, range_inclusive_exhausted, range_inclusive_contains}
use Rattle.std.specs.declared.ops.RangeInclusive.{RangeInclusive}
use Rattle.std.proofs.lemmas.Bool.Decides.{nat_tests}
use Rattle.fields.specs.Fields.{Checked, Field, field, fault_at, first_fault}

le_is : (a b : ℕ) → is_le (nat_cmp a b) ≡ leb a b
le_is a b = grind (arith, nat_tests)

both : (n : ℕ) (a b : Bool) (fs : List Field) {r : Checked} → true ≡ (a && b) → r ≡ first_fault fs → r ≡ first_fault (field n a ∷ field n b ∷ fs)
unfolding first_fault
both n true true fs h e = e
both n true false fs h e = absurd (true≢false h)
both n false b fs h e = absurd (true≢false h)

either : (n : ℕ) (a b : Bool) (fs : List Field) → false ≡ (a && b) → fault_at n ≡ first_fault (field n a ∷ field n b ∷ fs)
unfolding first_fault
either n false b fs h = refl
either n true false fs h = refl
either n true true fs h = absurd (true≢false (sym h))

-- b is what the range s says of the count that the code read as x
module _ (n low high x : ℕ) (fs : List Field) {y : ℕ} {s : RangeInclusive ℕ} {b : Bool} (read : x ≡ y)
    (made : record { start : range_inclusive_start s ≡ low; end : range_inclusive_end s ≡ high; exhausted : range_inclusive_exhausted s ≡ false })
    (test : b ≡ range_inclusive_contains (λ i j. Some (nat_cmp i j)) s x) where
  says : b ≡ (leb low y && leb y high)
  says = rw read at (rw (made.start, made.end, made.exhausted) at test ∙ ap₂ (λ (a b : Bool). a && b) (le_is low x) (le_is x high))

  pub pass_range : {r : Checked} → b ≡ true → r ≡ first_fault fs → r ≡ first_fault (field n (leb low y) ∷ field n (leb y high) ∷ fs)
  pass_range h e = both n (leb low y) (leb y high) fs (sym h ∙ says) e

  pub fail_range : b ≡ false → fault_at n ≡ first_fault (field n (leb low y) ∷ field n (leb y high) ∷ fs)
  fail_range h = either n (leb low y) (leb y high) fs (sym h ∙ says)
