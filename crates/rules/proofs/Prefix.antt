-- The walk only goes forward. So it ends alike on all lists that share what it looked at: each step up to its end finds there what it found here.
use Rattle.std.proofs.Common.{◌≡◌, refl, Bool, true, false, cond, List, [], ◌∷◌, ◌++◌, ℕ, zero, suc, ◌<◌, arith, ltb, eqb, length, get_or, take, length-append, length-take, get_or-take, ltb-true, lt-ltb}
use Rattle.std.proofs.Math.ListN.{get_or-append}
use Rattle.rules.specs.Grammar.{Symbol, Production, Token}
use Rattle.rules.specs.Walk.{Answer, answer, Walked, used, refused, and_then, no_token, token_due, node_met, symbol_due, row_due, node_due}

module _ {A : Type 0} (d : A) (l : List A) where
  -- what l has before index n, l' has at the same index
  abbrev pub Shared : List A → ℕ → Type 0
  Shared l' n = (i : ℕ) → i < n → i < length l → (i < length l') × (get_or l' i d ≡ get_or l i d)

  -- a list shares all of itself
  pub shared_same : (n : ℕ) → Shared l n
  shared_same n i h more = (more, refl)

  -- also where more follows
  pub shared_append : (x : List A) (n : ℕ) → Shared (l ++ x) n
  shared_append x n i h more = (omega (arith, length-append l x), get_or-append l x d i more)

  -- and its first elements where other ones follow
  pub shared_take : (x : List A) (n : ℕ) → Shared (take n l ++ x) n
  shared_take x n i h more =
      let short : i < length (take n l) = omega (arith, length-take n l) in
      (omega (arith, length-append (take n l) x), rw (get_or-append (take n l) x d i short) (get_or-take n l i d h))

module _ (G : ℕ → Production) (ns ns' : List ℕ) (ts ts' : List Token) where
  abbrev Nodes : ℕ → Type 0
  Nodes = Shared 0 ns ns'

  abbrev Tokens : ℕ → Type 0
  Tokens = Shared no_token ts ts'

  -- the lists share what a walk looked at that is refused so: what comes before the place and stands at it, or that a list ends there, and all of the other list
  abbrev pub Looked : ℕ → ℕ → Type 0
  Looked number place =
      cond (eqb number 6) (((n : ℕ) → Nodes n) × ((k : ℕ) → Tokens k) × (length ns' ≡ length ns))
      (cond (eqb number 7) (((n : ℕ) → Nodes n) × Tokens (suc place))
      (cond (eqb number 8) (((n : ℕ) → Nodes n) × ((k : ℕ) → Tokens k) × (length ts' ≡ length ts))
      (Nodes (suc place) × ((k : ℕ) → Tokens k))))

  -- and what one looked at that ends so
  abbrev Within : Walked → Type 0
  Within (used n k) = Nodes n × Tokens k
  Within (refused a) = Looked a.number a.place

  -- where they share what w looked at, they share what comes before n and k, where w begins, and w' ends as w does
  abbrev Kept : ℕ → ℕ → Walked → Walked → Type 0
  Kept n k w w' = Within w → Nodes n × Tokens k × (w' ≡ w)

  kept_then : {n k : ℕ} (w w' : Walked) {rest rest' : ℕ → ℕ → Walked} → Kept n k w w' → ((n₁ k₁ : ℕ) → Kept n₁ k₁ (rest n₁ k₁) (rest' n₁ k₁)) →
      Kept n k (and_then w rest) (and_then w' rest')
  unfolding and_then
  kept_then (used n₁ k₁) w' first follows h =
      let behind = follows n₁ k₁ h in
      let here = first (behind.0, behind.1) in
      (here.0, here.1, rw here.2 behind.2)
  kept_then (refused a) w' first follows h =
      let here = first h in
      (here.0, here.1, rw here.2)

  tested : {n k : ℕ} (b : Bool) {v w w' : Walked} → (b ≡ true → Kept n k v w') → (b ≡ false → Kept n k w w') → Kept n k (cond b v w) w'
  tested true f g = f refl
  tested false f g = g refl

  token_kept : (a n k : ℕ) → Kept n k (token_due ts a n k) (token_due ts' a n k)
  unfolding token_due
  token_kept a n k =
      tested (ltb k (length ts))
      (λ more. let met : k < length ts = ltb-true _ _ more in tested (eqb (get_or ts k no_token).terminal a)
      (λ same h. let at = h.1 k (omega arith) met in (h.0, λ i l. h.1 i (omega arith), rw (lt-ltb k (length ts') at.0, at.1, same)))
      (λ other h. let at = h.1 k (omega arith) met in (h.0 n, λ i l. h.1 i (omega arith), rw (lt-ltb k (length ts') at.0, at.1, other))))
      (λ none h. (h.0 n, h.1 k, rw (h.2, none)))

  met_kept : (A n k : ℕ) (rest : Walked) (rest' : ℕ → Walked) → Kept (suc n) k rest (rest' (get_or ns n 0)) →
      Kept n k (node_met G ns A n rest) (node_met G ns' A n (rest' (get_or ns' n 0)))
  unfolding node_met
  met_kept A n k rest rest' follows =
      tested (ltb n (length ns))
      (λ more. let met : n < length ns = ltb-true _ _ more in tested (eqb (G (get_or ns n 0)).left A)
      (λ same h. let f = follows h in let at = f.0 n (omega arith) met in (λ i l. f.0 i (omega arith), f.1, rw (lt-ltb n (length ns') at.0, at.1, same) f.2))
      (λ other h. let at = h.0 n (omega arith) met in (λ i l. h.0 i (omega arith), h.1 k, rw (lt-ltb n (length ns') at.0, at.1, other))))
      (λ none h. (h.0 n, h.1 k, rw (h.2, none)))

  row_kept : {below below' : ℕ → ℕ → ℕ → Walked} → ((A n k : ℕ) → Kept n k (below A n k) (below' A n k)) →
      (ss : List Symbol) (n k : ℕ) → Kept n k (row_due ts below ss n k) (row_due ts' below' ss n k)
  unfolding symbol_due row_due
  row_kept kept [] n k = λ h. (h.0, h.1, refl)
  row_kept {below} {below'} kept (s ∷ ss) n k =
      kept_then (symbol_due ts below s n k) (symbol_due ts' below' s n k) (symbol (eqb s.kind 0)) (row_kept kept ss)
    where
      symbol : (b : Bool) → Kept n k (cond b (token_due ts s.number n k) (below s.number n k)) (cond b (token_due ts' s.number n k) (below' s.number n k))
      symbol true = token_kept s.number n k
      symbol false = kept s.number n k

  node_kept : (levels A n k : ℕ) → Kept n k (node_due G ns ts levels A n k) (node_due G ns' ts' levels A n k)
  unfolding node_due
  node_kept zero A n k = met_kept A n k _ (λ p. refused (answer 9 n)) (λ h. (h.0, h.1 k, refl))
  node_kept (suc levels) A n k =
      met_kept A n k _ (λ p. row_due ts' (node_due G ns' ts' levels) (G p).right (suc n) k)
      (row_kept (node_kept levels) (G (get_or ns n 0)).right (suc n) k)

  -- a refusal stays on lists that share what the walk looked at
  pub refused_same : (levels A n k : ℕ) {a : Answer} → node_due G ns ts levels A n k ≡ refused a → Looked a.number a.place →
      node_due G ns' ts' levels A n k ≡ refused a
  refused_same levels A n k said looked = ((rw said at (node_kept levels A n k)) looked).2
