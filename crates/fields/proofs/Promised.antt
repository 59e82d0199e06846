-- What is promised of every check of an image: good exactly on well-formed images, else the first fault; and one
-- outcome for each input.
use Rattle.std.proofs.Common.{Bool, true, false, cond, ◌≡◌, refl, sym, ap, ◌∙◌, List, [], ◌∷◌, ◌++◌, ℕ, ◌+◌, ◌-◌, ◌≤◌, zero-add, arith, Ok}
use Rattle.fields.specs.Answers.{checked_place}
use Rattle.fields.specs.Fields.{Field, fault_at, each, each_from, first_fault, WellFormed, FirstAt}
use Rattle.fields.proofs.Formed.{each_more}
use Rattle.fields.proofs.Searching.{pass, fail, done, head_passed, then_good, fault≢good}

-- A check answers good exactly where every field keeps its rule.
pub good_well_formed : (fs : List Field) → Ok tt ≡ first_fault fs → WellFormed fs
unfolding WellFormed
good_well_formed [] g = tt
good_well_formed (f ∷ fs) g = let h = head_passed f fs g in (h.0, good_well_formed fs h.1)

pub well_formed_good : (fs : List Field) → WellFormed fs → Ok tt ≡ first_fault fs
unfolding WellFormed
well_formed_good [] w = done
well_formed_good (f ∷ fs) w = pass f fs w.0 (well_formed_good fs w.1)

fault_here : (f : Field) (fs : List Field) (n : ℕ) (b : Bool) → f.keeps ≡ b → fault_at n ≡ cond b (first_fault fs) (fault_at f.byte)
    → (fault_at n ≡ first_fault fs → FirstAt fs n) → FirstAt (f ∷ fs) n
unfolding WellFormed
fault_here f fs n true k e later =
    let h = later e in
    record {
      before = f ∷ h.before;
      fault = h.fault;
      after = h.after;
      split = ap (λ (l : List Field). f ∷ l) h.split;
      kept = (k, h.kept);
      broken = h.broken;
      place = h.place;
    }
fault_here f fs n false k e later =
    record { before = []; fault = f; after = fs; split = refl; kept = tt; broken = k; place = ap checked_place e }

-- A check answers a fault exactly at the first field that breaks its rule.
pub fault_first : (fs : List Field) (n : ℕ) → fault_at n ≡ first_fault fs → FirstAt fs n
unfolding first_fault
fault_first [] n e = absurd (fault≢good n e)
fault_first (f ∷ fs) n e = fault_here f fs n f.keeps refl e (fault_first fs n)

pub first_fault_lem : (fs : List Field) (n : ℕ) → FirstAt fs n → fault_at n ≡ first_fault fs
first_fault_lem fs n h =
    then_good h.before (h.fault ∷ h.after) (well_formed_good h.before h.kept) (fail h.fault h.after h.broken h.place)
    ∙ ap first_fault (sym h.split)

-- Records that keep their rules need no search.
pub search_behind : (fields : ℕ → List Field) (m n : ℕ) → m ≤ n → WellFormed (each m fields) → first_fault (each n fields) ≡ first_fault (each_from m (n - m) fields)
search_behind fields m n h formed =
    let split : m + (n - m) ≡ n = omega arith in
    ap (λ (l : ℕ). first_fault (each l fields)) (sym split)
    ∙ ap first_fault (each_more fields 0 m (n - m))
    ∙ ap (λ (k : ℕ). first_fault (each m fields ++ each_from k (n - m) fields)) (zero-add m)
    ∙ sym (then_good (each m fields) (each_from m (n - m) fields) (well_formed_good (each m fields) formed) refl)

-- Two outcomes are equal that are allowed by a contract which says what the result is.
pub one_result {ℓ} : {A : Type ℓ} {a r s : A} → r ≡ a → s ≡ a → r ≡ s
one_result p q = p ∙ sym q
