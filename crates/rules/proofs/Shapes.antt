-- What a computed set looks like: what a relation leaves of one of four shapes is of one of them again, and so is what is in two such sets.
use Rattle.std.proofs.Common.{◌≡◌, refl, List, [], ◌∷◌, ◌++◌, ℕ, suc, ◌-◌, ◌*◌, ◌<◌, ◌≤◌, max, min, arith, length, length-append}
use Rattle.rules.specs.Grammar.{Symbol, Production, Token, no_column, ColumnsUpTo}
use Rattle.rules.specs.Tree.{Tree, node, Row, end, token, child}
use Rattle.rules.specs.Derivation.{Right, RightRow, nodes, row_nodes, tokens, row_tokens}
use Rattle.rules.specs.Choice.{InSet}
use Rattle.rules.specs.Interval.{In, bounds, all_set, child_leaves, token_leaves, meet, set_of, row_set, sets_of, row_sets}
use Rattle.rules.specs.Stored.{unbounded, Empty, Stored, empty, all, between, subtrees, row_subtrees, StoredSets, Shape, nothing, everything, single, up_to}
use Rattle.rules.specs.declared.relation.Set.{Set}
use Rattle.rules.proofs.Relations.{by_meet, child_kept, token_kept}
use Rattle.rules.proofs.Sets.{columns_append, in_set, set_in_each}

-- a set has no number, all, one that is at most M, or all up to one that is at most M
data Shaped (top M : ℕ) (S : Set) : Type 0 where
  no : S.low ≡ 1 → S.high ≡ 0 → Shaped top M S
  whole : S.low ≡ 0 → S.high ≡ top → Shaped top M S
  one : S.low ≡ S.high → S.high ≤ M → Shaped top M S
  initial : S.low ≡ 0 → S.high ≤ M → Shaped top M S

module _ (top M : ℕ) (room : M < top) where
  same_shaped : {S X : Set} → X.low ≡ S.low → X.high ≡ S.high → Shaped top M S → Shaped top M X
  same_shaped l h (no a b) = no (omega arith) (omega arith)
  same_shaped l h (whole a b) = whole (omega arith) (omega arith)
  same_shaped l h (one a b) = one (omega arith) (omega arith)
  same_shaped l h (initial a b) = initial (omega arith) (omega arith)

  shaped_high : {S : Set} → Shaped top M S → S.high ≤ top
  shaped_high (no a b) = omega arith
  shaped_high (whole a b) = omega arith
  shaped_high (one a b) = omega arith
  shaped_high (initial a b) = omega arith

  child_shaped : (r : ℕ) (S : Set) → Shaped top M S → Shaped top M (child_leaves top r S)
  child_shaped r S x = child_kept top (Shaped top M) (no refl refl) (whole refl refl) r S x (upper x) (less x)
    where
      upper : {S : Set} → Shaped top M S → Shaped top M (bounds 0 S.high)
      upper (no a b) = initial refl (omega arith)
      upper (whole a b) = whole refl b
      upper (one a b) = initial refl b
      upper (initial a b) = initial refl b

      less : {S : Set} → Shaped top M S → S.high < top → Shaped top M (bounds 0 (S.high - 1))
      less (no a b) l = initial refl (omega arith)
      less (whole a b) l = absurd (omega arith)
      less (one a b) l = initial refl (omega arith)
      less (initial a b) l = initial refl (omega arith)

  token_shaped : (r column : ℕ) → ((column ≡ no_column → ⊥) → column ≤ M) → Shaped top M (token_leaves top r column)
  token_shaped r column c =
      token_kept top (Shaped top M) (no refl refl) (whole refl refl) r column (λ has. let low = c has in (one refl low, initial refl low, λ l. initial refl (omega arith)))

  meet_shaped : (S T : Set) → Shaped top M S → Shaped top M T → Shaped top M (meet S T)
  meet_shaped S T x y = by_meet (Shaped top M) S T (λ e. no refl refl) (some x y)
    where
      some : {S T : Set} → Shaped top M S → Shaped top M T → max S.low T.low ≤ min S.high T.high → Shaped top M (bounds (max S.low T.low) (min S.high T.high))
      some (no a b) y e = absurd (omega arith)
      some (whole a b) y e = let h = shaped_high y in same_shaped (omega arith) (omega arith) y
      some (one a b) y e = one (omega arith) (omega arith)
      some (initial a b) (no c d) e = absurd (omega arith)
      some (initial a b) (whole c d) e = initial (omega arith) (omega arith)
      some (initial a b) (one c d) e = one (omega arith) (omega arith)
      some (initial a b) (initial c d) e = initial (omega arith) (omega arith)

module _ (G : ℕ → Production) (top M : ℕ) (room : M < top) where
  mutual
    unfolding Right RightRow tokens row_tokens ColumnsUpTo set_of row_set

    set_shaped : (T : Tree) (A : ℕ) → Right G T A → ColumnsUpTo M (tokens T) → Shaped top M (set_of G top T)
    set_shaped (node p row) A f c = row_shaped row (G p).right (all_set top) f.1 c (whole refl refl)

    row_shaped : (row : Row) (ss : List Symbol) (S : Set) → RightRow G row ss → ColumnsUpTo M (row_tokens row) → Shaped top M S → Shaped top M (row_set G top row ss S)
    row_shaped end ss S f c x = x
    row_shaped (token t row) [] S f c x = x
    row_shaped (token t row) (s ∷ ss) S f c x = row_shaped row ss _ f.2 c.1 (meet_shaped top M room S _ x (token_shaped top M room s.relation t.column c.0))
    row_shaped (child T row) [] S f c x = x
    row_shaped (child T row) (s ∷ ss) S f c x =
        let cs = columns_append M (tokens T) (row_tokens row) c in
        row_shaped row ss _ f.2 cs.1 (meet_shaped top M room S _ x (child_shaped top M room s.relation _ (set_shaped T s.number f.1 cs.0)))

  -- the low of a set with a number in it is at most M
  pub low_near : (T : Tree) (A i : ℕ) → Right G T A → ColumnsUpTo M (tokens T) → In top (set_of G top T) i → (set_of G top T).low ≤ M
  low_near T A i f c h = near (set_shaped T A f c) h
    where
      near : {S : Set} → Shaped top M S → In top S i → S.low ≤ M
      near (no a b) h = absurd (omega (arith, h.1 (omega arith)))
      near (whole a b) h = omega arith
      near (one a b) h = omega arith
      near (initial a b) h = omega arith

-- with P true of just the numbers in S
module _ (top M : ℕ) (room : M < top) (P : ℕ → Type 0) (S : Set) (up : (i : ℕ) → P i → In top S i) (down : (i : ℕ) → In top S i → P i) where
  none : S.low ≡ 1 → S.high ≡ 0 → Empty P
  none a b i p = omega (arith, up i p, (up i p).1 (omega arith))

  bounded_stored : top ≡ unbounded → S.low ≤ S.high → S.high ≤ M → Stored P S.low S.high
  bounded_stored e a b = between {low = S.low} {high = S.high} a (omega arith) (λ i p. ((up i p).0, (up i p).1 (omega arith))) (λ i l h. down i (omega arith))

  shaped_stored : top ≡ unbounded → Shaped top M S → Stored P S.low S.high
  shaped_stored e (no a b) = rw (a, b) (empty (none a b))
  shaped_stored e (whole a b) = rw (a, b, e) (all (λ i. down i (omega arith)))
  shaped_stored e (one a b) = bounded_stored e (omega arith) b
  shaped_stored e (initial a b) = bounded_stored e (omega arith) b

  shaped_shape : Shaped top M S → Shape P
  shaped_shape (no a b) = nothing (none a b)
  shaped_shape (whole a b) = everything (λ i. down i (omega arith))
  shaped_shape (one a b) = single S.high (down S.high (omega arith)) (λ i p. omega (arith, up i p, (up i p).1 (omega arith)))
  shaped_shape (initial a b) = up_to S.high (λ i l. down i (omega arith)) (λ i p. (up i p).1 (omega arith))

stored_append : (G : ℕ → Production) (Ts Us : List Tree) (x y : List ℕ) → StoredSets G Ts x → StoredSets G Us y → StoredSets G (Ts ++ Us) (x ++ y)
unfolding StoredSets
stored_append G [] Us [] y f g = g
stored_append G [] Us (low ∷ x) y f g = absurd f
stored_append G (T ∷ Ts) Us [] y f g = absurd f
stored_append G (T ∷ Ts) Us (low ∷ []) y f g = absurd f
stored_append G (T ∷ Ts) Us (low ∷ high ∷ x) y f g = (f.0, stored_append G Ts Us x y f.1 g)

module _ (G : ℕ → Production) (top M : ℕ) (room : M < top) (e : top ≡ unbounded) where
  tree_stored : (T : Tree) (A : ℕ) → Right G T A → ColumnsUpTo M (tokens T) → Stored (InSet G T) (set_of G top T).low (set_of G top T).high
  tree_stored T A f c =
      shaped_stored top M room (InSet G T) (set_of G top T) (λ i. set_in_each G top M room T A i f c) (λ i. in_set G top M room T A i f c) e (set_shaped G top M room T A f c)

  mutual
    unfolding Right RightRow tokens row_tokens ColumnsUpTo sets_of row_sets subtrees row_subtrees StoredSets

    trees_stored : (T : Tree) (A : ℕ) → Right G T A → ColumnsUpTo M (tokens T) → StoredSets G (subtrees T) (sets_of G top T)
    trees_stored (node p row) A f c = (tree_stored (node p row) A f c, row_stored row (G p).right f.1 c)

    row_stored : (row : Row) (ss : List Symbol) → RightRow G row ss → ColumnsUpTo M (row_tokens row) → StoredSets G (row_subtrees row) (row_sets G top row)
    row_stored end ss f c = tt
    row_stored (token t row) [] f c = absurd f
    row_stored (token t row) (s ∷ ss) f c = row_stored row ss f.2 c.1
    row_stored (child T row) [] f c = absurd f
    row_stored (child T row) (s ∷ ss) f c =
        let cs = columns_append M (tokens T) (row_tokens row) c in
        stored_append G (subtrees T) (row_subtrees row) (sets_of G top T) (row_sets G top row) (trees_stored T s.number f.1 cs.0) (row_stored row ss f.2 cs.1)

module _ (G : ℕ → Production) where
  module _ (M : ℕ) (room : M < unbounded) (T : Tree) (A : ℕ) (f : Right G T A) (c : ColumnsUpTo M (tokens T)) where
    -- the computed low and high are those that the set of the node is stored with
    pub stored_set : Stored (InSet G T) (set_of G unbounded T).low (set_of G unbounded T).high
    stored_set = tree_stored G unbounded M room refl T A f c

    -- and so for all nodes, in preorder
    pub stored_sets : StoredSets G (subtrees T) (sets_of G unbounded T)
    stored_sets = trees_stored G unbounded M room refl T A f c

  mutual
    unfolding nodes row_nodes sets_of row_sets

    -- two numbers for each node
    pub length_sets : (top : ℕ) (T : Tree) → length (sets_of G top T) ≡ 2 * length (nodes T)
    length_sets top (node p row) = omega (arith, length_row top row)

    length_row : (top : ℕ) (row : Row) → length (row_sets G top row) ≡ 2 * length (row_nodes row)
    length_row top end = refl
    length_row top (token t row) = length_row top row
    length_row top (child T row) =
        omega (arith, length-append (sets_of G top T) (row_sets G top row), length-append (nodes T) (row_nodes row), length_sets top T, length_row top row)

-- the greatest column of a list of tokens
unfoldable pub greatest : List Token → ℕ
greatest [] = 0
greatest (t ∷ ts) = max t.column (greatest ts)

pub columns_greatest : (M : ℕ) (ts : List Token) → greatest ts ≤ M → ColumnsUpTo M ts
unfolding ColumnsUpTo greatest
columns_greatest M [] l = tt
columns_greatest M (t ∷ ts) l = (λ has. omega arith, columns_greatest M ts (omega arith))

-- lemma 4 of document 000
pub lemma_4 : (G : ℕ → Production) (T : Tree) (A : ℕ) → Right G T A → Shape (InSet G T)
lemma_4 G T A f =
    let M = greatest (tokens T) in
    let c = columns_greatest M (tokens T) (omega arith) in
    shaped_shape (suc M) M (omega arith) (InSet G T) (set_of G (suc M) T)
    (λ i. set_in_each G (suc M) M (omega arith) T A i f c)
    (λ i. in_set G (suc M) M (omega arith) T A i f c)
    (set_shaped G (suc M) M (omega arith) T A f c)
