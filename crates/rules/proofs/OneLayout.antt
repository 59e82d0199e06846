-- A set is stored in one way only: by whether it is empty, all numbers, or has a lowest and a highest one. And two lists that are each nowhere above the other are one.
use Rattle.std.proofs.Common.{◌≡◌, refl, List, [], ◌∷◌, ℕ, zero, suc, ◌+◌, ◌*◌, ◌<◌, ◌≤◌, arith, length, get_or, ext_get_or}
use Rattle.rules.specs.Grammar.{Production}
use Rattle.rules.specs.Tree.{Tree}
use Rattle.rules.specs.Choice.{InSet, Least}
use Rattle.rules.specs.Stored.{Empty, Stored, empty, all, between, StoredSets, HighestEmpty}
use Rattle.rules.proofs.Least.{least_under, least_length}

module _ (S : ℕ → Type 0) where
  -- a high below the low is that of an empty set
  pub empty_stored : (low high : ℕ) → Stored S low high → high < low → Empty S
  empty_stored low high (empty none) h = none
  empty_stored low high (all each) h = absurd (omega arith)
  empty_stored low high (between some small inside each) h = absurd (omega arith)

  -- any other low is in its set
  pub some_stored : (low high : ℕ) → Stored S low high → low ≤ high → (i : ℕ) × S i
  some_stored low high (empty none) h = absurd (omega arith)
  some_stored low high (all each) h = (0, each 0)
  some_stored low high (between some small inside each) h = (low, each low (omega arith) some)

  -- a set has one low and one high
  pub one_stored : (low high low' high' : ℕ) → Stored S low high → Stored S low' high' → (low ≡ low') × (high ≡ high')
  one_stored low high low' high' (empty none) (empty none') = (refl, refl)
  one_stored low high low' high' (empty none) (all each) = absurd (none 0 (each 0))
  one_stored low high low' high' (empty none) (between some small inside each) = absurd (none low' (each low' (omega arith) some))
  one_stored low high low' high' (all each) (empty none) = absurd (none 0 (each 0))
  one_stored low high low' high' (all each) (all each') = (refl, refl)
  one_stored low high low' high' (all each) (between some small inside each') = absurd (omega (arith, inside (suc high') (each (suc high'))))
  one_stored low high low' high' (between some small inside each) (empty none) = absurd (none low (each low (omega arith) some))
  one_stored low high low' high' (between some small inside each) (all each') = absurd (omega (arith, inside (suc high) (each' (suc high))))
  one_stored low high low' high' (between some small inside each) (between some' small' inside' each') =
      let l = inside low' (each' low' (omega arith) some') in
      let l' = inside' low (each low (omega arith) some) in
      let h = inside high' (each' high' some' (omega arith)) in
      let h' = inside' high (each high some (omega arith)) in
      (omega arith, omega arith)

module _ (G : ℕ → Production) where
  -- the sets of given trees are stored in one way
  pub one_sets : (Ts : List Tree) (xs ys : List ℕ) → StoredSets G Ts xs → StoredSets G Ts ys → xs ≡ ys
  unfolding StoredSets
  one_sets [] [] [] s t = refl
  one_sets [] [] (y ∷ ys) s t = absurd t
  one_sets [] (x ∷ xs) ys s t = absurd s
  one_sets (T ∷ Ts) [] ys s t = absurd s
  one_sets (T ∷ Ts) (low ∷ []) ys s t = absurd s
  one_sets (T ∷ Ts) (low ∷ high ∷ xs) [] s t = absurd t
  one_sets (T ∷ Ts) (low ∷ high ∷ xs) (low' ∷ []) s t = absurd t
  one_sets (T ∷ Ts) (low ∷ high ∷ xs) (low' ∷ high' ∷ ys) s t =
      let both = one_stored (InSet G T) low high low' high' s.0 t.0 in
      let rest = one_sets Ts xs ys s.1 t.1 in
      cc

  -- two numbers a tree
  pub stored_length : (Ts : List Tree) (xs : List ℕ) → StoredSets G Ts xs → length xs ≡ 2 * length Ts
  unfolding StoredSets
  stored_length [] [] s = refl
  stored_length [] (x ∷ xs) s = absurd s
  stored_length (T ∷ Ts) [] s = absurd s
  stored_length (T ∷ Ts) (low ∷ []) s = absurd s
  stored_length (T ∷ Ts) (low ∷ high ∷ xs) s = omega (arith, stored_length Ts xs s.1)

  -- those of tree n at 2n and 2n + 1
  pub stored_at : (Ts : List Tree) (xs : List ℕ) → StoredSets G Ts xs → (n : ℕ) (d : Tree) → n < length Ts →
      Stored (InSet G (get_or Ts n d)) (get_or xs (2 * n) 0) (get_or xs (2 * n + 1) 0)
  unfolding StoredSets
  stored_at [] xs s n d h = absurd (omega arith)
  stored_at (T ∷ Ts) [] s n d h = absurd s
  stored_at (T ∷ Ts) (low ∷ []) s n d h = absurd s
  stored_at (T ∷ Ts) (low ∷ high ∷ xs) s zero d h = s.0
  stored_at (T ∷ Ts) (low ∷ high ∷ xs) s (suc n) d h =
      let even : 2 * suc n ≡ suc (suc (2 * n)) = omega arith in
      let odd : 2 * suc n + 1 ≡ suc (suc (2 * n + 1)) = omega arith in
      rw (odd, even) (stored_at Ts xs s.1 n d (omega arith))

  -- one node is the highest-numbered with an empty set
  pub one_highest : (T : Tree) (m n : ℕ) → HighestEmpty G T m → HighestEmpty G T n → m ≡ n
  one_highest T m n g h = omega (arith, not_below m n g h, not_below n m h g)
    where
      not_below : (m n : ℕ) → HighestEmpty G T m → HighestEmpty G T n → m < n → ⊥
      not_below m n g h l =
          let some = g.above n l h.node in
          h.here some.0 some.1

  -- one list is the least
  pub one_least : (T : Tree) (xs ys : List ℕ) → Least G T xs → Least G T ys → xs ≡ ys
  one_least T xs ys l m =
      ext_get_or 0 xs ys (omega (arith, least_length G T xs l, least_length G T ys m))
      (λ n h. omega (arith, least_under G T xs ys l m n, least_under G T ys xs m l n))
