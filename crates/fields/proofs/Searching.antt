-- Laws of the search for the first field that breaks its rule. A check says with them what is left to be searched.
use Rattle.std.proofs.Common.{◌≡◌, refl, sym, ap, ◌∙◌, Bool, true, false, not, cond, List, [], ◌∷◌, ◌++◌, ℕ, suc, ◌+◌, ◌-◌, ◌<◌, ◌≤◌, arith, add-one, length, get_or, drop, drop_of_length-le, drop-cons, Result, Ok, Err, IsErr, IsErrAnd, le-leb, lt-ltb, le-ltb, eq-eqb, ne_eqb}
use Rattle.std.proofs.lemmas.Bool.{lt-leb, not-true, not-false}
use Rattle.std.proofs.lemmas.Result.{err_from_is_err_and}
use Rattle.fields.specs.declared.Fault.{Fault}
use Rattle.fields.specs.Fields.{Field, Checked, fault_at, nowhere, each_from, first_fault}

-- what `omega` needs to answer a test
pub ruleset tests = (arith, le-leb, lt-leb, lt-ltb, le-ltb, eq-eqb, ne_eqb)

-- the last arm of a match on a field's number
pub last_of_three : (f : ℕ) → f < 3 → (f ≡ 0 → ⊥) → (f ≡ 1 → ⊥) → f ≡ 2
last_of_three f h a b = omega arith

-- a field that keeps its rule is passed, and one that breaks it ends the search
pub pass : (f : Field) (fs : List Field) {r : Checked} → f.keeps ≡ true → r ≡ first_fault fs → r ≡ first_fault (f ∷ fs)
unfolding first_fault
pass f fs h e = e ∙ ap (λ (b : Bool). cond b (first_fault fs) (fault_at f.byte)) (sym h)

pub fail : (f : Field) (fs : List Field) {n : ℕ} → f.keeps ≡ false → n ≡ f.byte → fault_at n ≡ first_fault (f ∷ fs)
unfolding first_fault
fail f fs h e = ap fault_at e ∙ ap (λ (b : Bool). cond b (first_fault fs) (fault_at f.byte)) (sym h)

-- behind a field, one that always keeps its rule is none
pub kept_second : (f g : Field) (fs : List Field) → g.keeps ≡ true → first_fault (f ∷ g ∷ fs) ≡ first_fault (f ∷ fs)
unfolding first_fault
kept_second f g fs h = ap (λ (r : Checked). cond f.keeps r (fault_at f.byte)) (sym (pass g fs h refl))

pub done : Ok tt ≡ first_fault []
unfolding first_fault
done = refl

-- the fields that keep their rules are taken off
tail_good : (b : Bool) (later fault : Checked) → Ok tt ≡ cond b later fault → (fault ≡ Ok tt → ⊥) → (b ≡ true) × (Ok tt ≡ later)
tail_good true later fault e n = (refl, e)
tail_good false later fault e n = absurd (n (sym e))

pub fault≢good : (n : ℕ) → fault_at n ≡ Ok tt → ⊥
fault≢good n e = let z : ◌≡◌ {A = ℕ} 0 1 = cc in omega arith

pub head_passed : (f : Field) (fs : List Field) → Ok tt ≡ first_fault (f ∷ fs) → (f.keeps ≡ true) × (Ok tt ≡ first_fault fs)
unfolding first_fault
head_passed f fs e = tail_good f.keeps (first_fault fs) (fault_at f.byte) e (fault≢good f.byte)

-- one part after another: the second is searched where the first is good
pub then_good : (xs ys : List Field) {r : Checked} → Ok tt ≡ first_fault xs → r ≡ first_fault ys → r ≡ first_fault (xs ++ ys)
then_good [] ys g e = e
then_good (f ∷ fs) ys g e = let h = head_passed f fs g in pass f (fs ++ ys) h.0 (then_good fs ys h.1 e)

head_fault : (b : Bool) (later after fault : Checked) (e : Fault) → Err e ≡ cond b later fault → (Err e ≡ later → Err e ≡ after) → Err e ≡ cond b after fault
head_fault true later after fault e h k = k h
head_fault false later after fault e h k = h

pub then_fault : (xs ys : List Field) {e : Fault} → Err e ≡ first_fault xs → Err e ≡ first_fault (xs ++ ys)
unfolding first_fault
then_fault [] ys {e} h = absurd (fault≢good e.byte h)
then_fault (f ∷ fs) ys {e} h = head_fault f.keeps (first_fault fs) (first_fault (fs ++ ys)) (fault_at f.byte) e h (then_fault fs ys)

-- an error is handed on by `?` as it is
pub handed : {A E : Type 0} {r : Result A E} {e : E} → IsErr r × IsErrAnd r (λ (f : E). f ≡ e) → r ≡ Err e
handed {r} h = let p = err_from_is_err_and r h.1 in p.1 ∙ ap Err p.2

-- a record of n: its fields, then those of the records after it
pub each_first : (fields : ℕ → List Field) (k n : ℕ) → k < n → each_from k (n - k) fields ≡ fields k ++ each_from (k + 1) (n - (k + 1)) fields
unfolding each_from
each_first fields k n h =
    ap (λ (m : ℕ). each_from k m fields) (e k n h)
    ∙ ap (λ (m : ℕ). fields k ++ each_from m (n - (k + 1)) fields) (sym (add-one k))
  where
    e : (k n : ℕ) → k < n → n - k ≡ suc (n - (k + 1))
    e k n h = omega arith

pub each_none : (fields : ℕ → List Field) (k n : ℕ) → n ≤ k → each_from k (n - k) fields ≡ []
unfolding each_from
each_none fields k n h = ap (λ (m : ℕ). each_from k m fields) e
  where
    e : n - k ≡ 0
    e = omega arith

-- what is left from field f of record k on
abbrev pub left : (ℕ → List Field) → ℕ → ℕ → ℕ → List Field
left fields n k f = drop f (fields k) ++ each_from (k + 1) (n - (k + 1)) fields

next_field : (fields : ℕ → List Field) (n w : ℕ) → ((k : ℕ) → length (fields k) ≡ w) → (k f : ℕ) → f < w
    → left fields n k f ≡ get_or (fields k) f nowhere ∷ left fields n k (f + 1)
next_field fields n w wide k f h =
    ap (λ (l : List Field). l ++ each_from (k + 1) (n - (k + 1)) fields) (drop-cons (fields k) f nowhere (rw (wide k) h))
    ∙ ap (λ (i : ℕ). get_or (fields k) f nowhere ∷ (drop i (fields k) ++ each_from (k + 1) (n - (k + 1)) fields)) (sym (add-one f))

-- a loop over n records and, inside it, one over the w fields of a record; r is the answer of the whole
module _ (fields : ℕ → List Field) (n w : ℕ) (wide : (k : ℕ) → length (fields k) ≡ w) {r : Checked} where
  -- a turn of the outer loop begins at its record's first field
  pub turn : (k : ℕ) → k < n → r ≡ first_fault (each_from k (n - k) fields) → r ≡ first_fault (left fields n k 0)
  turn k h e = e ∙ ap first_fault (each_first fields k n h)

  -- and ends behind its last
  pub turned : (k f : ℕ) → w ≤ f → r ≡ first_fault (left fields n k f) → r ≡ first_fault (each_from (k + 1) (n - (k + 1)) fields)
  turned k f h e =
      e ∙ ap (λ (l : List Field). first_fault (l ++ each_from (k + 1) (n - (k + 1)) fields))
      (drop_of_length-le (fields k) {i = f} (rw (wide k) h))

  tested : (k f : ℕ) (b : Bool) → f < w → b ≡ (get_or (fields k) f nowhere).keeps → r ≡ first_fault (left fields n k f)
      → r ≡ cond b (first_fault (left fields n k (f + 1))) (fault_at (get_or (fields k) f nowhere).byte)
  unfolding first_fault
  tested k f b h t e =
      e ∙ ap first_fault (next_field fields n w wide k f h)
      ∙ ap (λ (b : Bool). cond b (first_fault (left fields n k (f + 1))) (fault_at (get_or (fields k) f nowhere).byte)) (sym t)

  -- field f of record k keeps its rule, by a test b, and is passed
  pub passed : (k f : ℕ) (b : Bool) → f < w → b ≡ (get_or (fields k) f nowhere).keeps → not b ≡ false
      → r ≡ first_fault (left fields n k f) → r ≡ first_fault (left fields n k (f + 1))
  passed k f b h t q e = rw (not-false b q) at (tested k f b h t e)

  -- field f of record k breaks its rule and ends the search
  pub failed : (k f : ℕ) (b : Bool) → f < w → b ≡ (get_or (fields k) f nowhere).keeps → not b ≡ true
      → r ≡ first_fault (left fields n k f) → r ≡ fault_at (get_or (fields k) f nowhere).byte
  failed k f b h t q e = rw (not-true b q) at (tested k f b h t e)

  pub finished : (k : ℕ) → n ≤ k → r ≡ first_fault (each_from k (n - k) fields) → r ≡ Ok tt
  unfolding first_fault
  finished k h e = e ∙ ap first_fault (each_none fields k n h)
