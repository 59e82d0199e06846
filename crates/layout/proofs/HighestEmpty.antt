-- Laws of the search for the highest-numbered empty set: one for each answer at a node, and of the search as a whole.
use Rattle.std.proofs.Common.{◌≡◌, refl, ap, ◌∙◌, List, [], ◌∷◌, ◌++◌, ℕ, zero, suc, ◌+◌, ◌*◌, ◌<◌, ◌≤◌, arith, length, get_or, lt-ltb, le-ltb}
use Rattle.std.proofs.Math.ListN.{get_or-append}
use denote.Ref.{Bor}
use denote.Param.Members.{Mut}
use Rattle.std.specs.Prelude.{Option, Bool, true, false, MatchOption, ⊤, Some, None}
use Rattle.std.specs.Option.{unwrap_or}
use Rattle.std.specs.Fn.{CalledAt}
use Rattle.std.specs.Iterator.{Yields, YieldsThen}
use Rattle.std.specs.List.{FoldsTo}
use Rattle.std.specs.declared.ops.Range.{Range}
use Rattle.std.specs.declared.iter.Rev.{Rev}
use Rattle.std.proofs.iter.runs.Sources.{nat_range_steps_back}
use Rattle.rules.specs.Interval.{highest_empty}

module _ (sets : List ℕ) where
  -- the last of n sets is empty
  pub highest_here : (m n : ℕ) → n ≡ m + 1 → get_or sets (2 * m + 1) 0 < get_or sets (2 * m) 0 → m ≡ highest_empty sets n
  unfolding highest_empty
  highest_here m zero e h = absurd (omega arith)
  highest_here m (suc n) e h =
      let same : n ≡ m = omega arith in
      rw (same, lt-ltb (get_or sets (2 * m + 1) 0) (get_or sets (2 * m) 0) h)

  -- it is not: those before it are searched
  pub highest_before : (m n : ℕ) → n ≡ m + 1 → get_or sets (2 * m) 0 ≤ get_or sets (2 * m + 1) 0 → highest_empty sets m ≡ highest_empty sets n
  unfolding highest_empty
  highest_before m zero e h = absurd (omega arith)
  highest_before m (suc n) e h =
      let same : n ≡ m = omega arith in
      rw (same, le-ltb (get_or sets (2 * m + 1) 0) (get_or sets (2 * m) 0) h)

  -- none is left
  pub highest_none : (n : ℕ) → n ≡ 0 → 0 ≡ highest_empty sets n
  unfolding highest_empty
  highest_none zero e = refl
  highest_none (suc n) e = absurd (omega arith)

-- what follows the n sets does not matter
pub highest_append : (xs ys : List ℕ) (n : ℕ) → 2 * n ≤ length xs → highest_empty (xs ++ ys) n ≡ highest_empty xs n
unfolding highest_empty
highest_append xs ys zero h = refl
highest_append xs ys (suc n) h =
    rw (get_or-append xs ys 0 (2 * n + 1) (omega arith), get_or-append xs ys 0 (2 * n) (omega arith), highest_append xs ys n (omega arith))

-- the search asks a closure that tests a node's set of the nodes from the last one down
module _ {F : Type 0} {g : Mut F (Bor ℕ × Unit {0}) Bool} (sets : List ℕ) (f : F)
    (hit : (n : ℕ) (q : F) → CalledAt g f n true q → get_or sets (2 * n + 1) 0 < get_or sets (2 * n) 0)
    (miss : (n : ℕ) (q : F) → CalledAt g f n false q → (q ≡ f) × (get_or sets (2 * n) 0 ≤ get_or sets (2 * n + 1) 0)) where
  abbrev steps : Rev (Range ℕ) → Option ℕ → Rev (Range ℕ) → Type 0
  steps s r t = nat_range_steps_back s.iter r t.iter

  end_of : {s t : Rev (Range ℕ)} → s ≡ t → s.iter.end ≡ t.iter.end
  end_of = ap (λ (s : Rev (Range ℕ)). s.iter.end)

  start_of : {s t : Rev (Range ℕ)} → s ≡ t → s.iter.start ≡ t.iter.start
  start_of = ap (λ (s : Rev (Range ℕ)). s.iter.start)

  found : (r : Option ℕ) (xs : List ℕ) (s t u : Rev (Range ℕ)) (p j : F) → p ≡ f → s.iter.start ≡ 0 → Yields steps s xs t → steps t r u →
      FoldsTo (λ p n q. CalledAt g p n false q) p xs j → MatchOption r ⊤ (λ n. (q : F) × CalledAt g j n true q) → unwrap_or r 0 ≡ highest_empty sets s.iter.end
  found None [] s t u p j same start y last asked answer = highest_none sets _ (omega (arith, start, last.1.0, end_of y, start_of y))
  found (Some n) [] s t u p j same start y last asked answer =
      highest_here sets n _ (omega (arith, last.1.1, last.1.2, end_of y)) (hit n answer.0 (rw (← asked, same) at answer.1))
  found r (n ∷ xs) s t u p j same start y last asked answer =
      let passed = miss n asked.0 (rw same at asked.1) in
      found r xs y.0 t u asked.0 j passed.0 (omega (arith, start, y.1.0)) y.2 last asked.2 answer ∙ highest_before sets _ _ y.1.1.2 (rw y.1.1.1 at passed.1)

  -- what it finds, or 0
  pub highest_found : (count : ℕ) (s u : Rev (Range ℕ)) (r : Option ℕ) →
      (xs : List ℕ) × (j : F) × YieldsThen steps s xs r u × FoldsTo (λ p n q. CalledAt g p n false q) f xs j × MatchOption r ⊤ (λ n. (q : F) × CalledAt g j n true q) →
      s.iter.start ≡ 0 → s.iter.end ≡ count → unwrap_or r 0 ≡ highest_empty sets count
  highest_found count s u r ran start end = found r ran.0 s ran.2.0 u f ran.1 refl start ran.2.1 ran.2.2 ran.3 ran.4 ∙ ap (highest_empty sets) end
