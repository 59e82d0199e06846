-- The laws of the relation step. What stands above knows a relation by these alone.
use Rattle.std.proofs.Common.{◌≡◌, cond, ℕ, ◌+◌, ◌-◌, ◌<◌, ◌≤◌, max, min, arith, ltb, eqb, ltb-true, ltb-false, eqb-true}
use Rattle.std.proofs.lemmas.Bool.{cond_both, eqb-false}
use native.Mathlib.Omega.{min_cases}
use Rattle.rules.specs.Grammar.{Token, no_column, HasColumn}
use Rattle.rules.specs.Relation.{Holds, HoldsToken, rise}
use Rattle.rules.specs.Interval.{bounds, empty_set, In, all_set, below, leaves, child_leaves, token_leaves, meet, least}
use Rattle.rules.specs.declared.relation.Set.{Set}

-- what is true by either outcome of a test is true of the value that the test selects
by_less : {A : Type 0} (P : A → Type 0) (a b : ℕ) {v w : A} → (a < b → P v) → (b ≤ a → P w) → P (cond (ltb a b) v w)
by_less P a b f g = cond_both (ltb a b) _ _ P (λ e. f (ltb-true a b e)) (λ e. g (ltb-false a b e))

by_equal : {A : Type 0} (P : A → Type 0) (a b : ℕ) {v w : A} → (a ≡ b → P v) → ((a ≡ b → ⊥) → P w) → P (cond (eqb a b) v w)
by_equal P a b f g = cond_both (eqb a b) _ _ P (λ e. f (eqb-true a b e)) (λ e. g (eqb-false a b e))

-- the four relations, told apart as the definitions do
by_relation : {A : Type 0} (P : A → Type 0) (r : ℕ) {a b c d : A} →
    (r ≡ 0 → P a) → (r ≡ 1 → P b) → (r ≡ 2 → P c) → ((r ≡ 0 → ⊥) → (r ≡ 1 → ⊥) → (r ≡ 2 → ⊥) → P d) → P (cond (eqb r 0) a (cond (eqb r 1) b (cond (eqb r 2) c d)))
by_relation P r f g h k = by_equal P r 0 f (λ e. by_equal P r 1 g (λ e'. by_equal P r 2 h (λ e''. k e e' e'')))

-- `least`: no number of the set that a relation allows below i or above is smaller
pub least_least : (top r i j i' : ℕ) (S : Set) → In top S j → Holds r i' j → i ≤ i' → least r i S ≤ j
unfolding least Holds
least_least top r i j i' S h k l =
    by_relation (λ (x : ℕ). x ≤ j) r
    (λ e. omega (arith, k.0 e))
    (λ e. omega (arith, k.1 e))
    (λ e. omega (arith, k.2 e))
    (λ a b c. omega arith)

-- and it is not far above its parent and the low of its set
pub least_near : (r i : ℕ) (S : Set) → least r i S ≤ max S.low (i + rise)
unfolding least
least_near r i S = by_relation (λ (x : ℕ). x ≤ max S.low (i + rise)) r (λ e. omega arith) (λ e. omega arith) (λ e. omega arith) (λ a b c. omega arith)

-- neither bound of the set is above top
abbrev pub Fits : ℕ → Set → Type 0
Fits top S = (S.low ≤ top) × (S.high ≤ top)

-- what is in two sets, by whether the lesser high is below the greater low
pub by_meet : (P : Set → Type 0) (S T : Set) →
    (min S.high T.high < max S.low T.low → P empty_set) →
    (max S.low T.low ≤ min S.high T.high → P (bounds (max S.low T.low) (min S.high T.high))) → P (meet S T)
unfolding meet
by_meet P S T = by_less P (min S.high T.high) (max S.low T.low)

module _ (top : ℕ) where
  in_below : (high i j : ℕ) → (high < top → j ≤ high) → i < j → In top (below top high) i
  unfolding below
  in_below high i j h l =
      by_less (λ (S : Set). In top S i) high top
      (λ e. let up = h e in by_equal (λ (S : Set). In top S i) high 0 (λ z. absurd (omega arith)) (λ z. omega arith))
      (λ e. omega arith)

  below_in : (high i : ℕ) → In top (below top high) i → high < top → i < high
  unfolding below
  below_in high i =
      by_less (λ (S : Set). In top S i → high < top → i < high) high top
      (λ e. by_equal (λ (S : Set). In top S i → high < top → i < high) high 0
      (λ z h k. absurd (omega (arith, h.1 (omega arith))))
      (λ z h k. omega (arith, h.1 (omega arith))))
      (λ e h k. absurd (omega arith))

  leaves_up : (r i j : ℕ) (S : Set) → In top S j → Holds r i j → In top (leaves top r S) i
  unfolding leaves Holds
  leaves_up r i j S h k =
      by_relation (λ (X : Set). In top X i) r
      (λ e. let same = k.0 e in (omega arith, λ l. omega (arith, h.1 l)))
      (λ e. in_below S.high i j h.1 (k.1 e))
      (λ e. let less = k.2 e in (omega arith, λ l. omega (arith, h.1 l)))
      (λ a b c. omega arith)

  -- what the numbers that a relation leaves are, by the relation
  abbrev Left : ℕ → Set → ℕ → Type 0
  Left r S i = (r ≡ 0 → In top S i) × (r ≡ 1 → S.high < top → i < S.high) × (r ≡ 2 → S.high < top → i ≤ S.high)

  leaves_left : (r i : ℕ) (S : Set) → In top (leaves top r S) i → Left r S i
  unfolding leaves
  leaves_left r i S =
      by_relation (λ (X : Set). In top X i → Left r S i) r
      (λ e h. (λ z. h, λ z. absurd (omega arith), λ z. absurd (omega arith)))
      (λ e h. (λ z. absurd (omega arith), λ z. below_in S.high i h, λ z. absurd (omega arith)))
      (λ e h. (λ z. absurd (omega arith), λ z. absurd (omega arith), λ z. h.1))
      (λ a b c h. (λ z. absurd (a z), λ z. absurd (b z), λ z. absurd (c z)))

  left_least : (r i : ℕ) (S : Set) → S.low ≤ S.high → Left r S i → In top S (least r i S) × Holds r i (least r i S)
  unfolding least Holds
  left_least r i S f h =
      by_relation (λ (x : ℕ). In top S x × Holds r i x) r
      (λ e. (h.0 e, omega arith))
      (λ e. ((omega arith, λ l. omega (arith, h.1 e l)), omega arith))
      (λ e. ((omega arith, λ l. omega (arith, h.2 e l)), omega arith))
      (λ a b c. omega arith)

  -- `up`: what a child's set leaves its parent has every number that goes with one of the child's
  pub child_up : (r i j : ℕ) (S : Set) → Fits top S → In top S j → Holds r i j → In top (child_leaves top r S) i
  unfolding child_leaves
  child_up r i j S f h k =
      by_less (λ (X : Set). In top X i) S.high S.low (λ e. absurd (omega (arith, h.1 (omega arith)))) (λ e. leaves_up r i j S h k)

  -- and each number that it has goes with the child's least one
  pub child_least : (r i : ℕ) (S : Set) → Fits top S → In top (child_leaves top r S) i → In top S (least r i S) × Holds r i (least r i S)
  unfolding child_leaves
  child_least r i S f =
      by_less (λ (X : Set). In top X i → In top S (least r i S) × Holds r i (least r i S)) S.high S.low
      (λ e h. absurd (omega (arith, h.1 (omega arith))))
      (λ e h. left_least r i S e (leaves_left r i S h))

  -- what a token's column leaves its parent is every number that the relation allows
  pub token_up : (r i : ℕ) (t : Token) → (HasColumn t → t.column < top) → HoldsToken r i t → In top (token_leaves top r t.column) i
  unfolding token_leaves HoldsToken
  token_up r i t f k =
      by_equal (λ (S : Set). In top S i) t.column no_column
      (λ none. by_equal (λ (S : Set). In top S i) r 0 (λ e. absurd (k.1 none e)) (λ e. omega arith))
      (λ has. let room = f has in leaves_up r i t.column (bounds t.column t.column) (omega arith) (k.0 has))

  -- and no other
  pub token_holds : (r i : ℕ) (t : Token) → 1 ≤ top → (HasColumn t → t.column < top) → In top (token_leaves top r t.column) i → HoldsToken r i t
  unfolding token_leaves HoldsToken Holds
  token_holds r i t one f =
      by_equal (λ (S : Set). In top S i → HoldsToken r i t) t.column no_column
      (λ none. by_equal (λ (S : Set). In top S i → HoldsToken r i t) r 0
      (λ e h. absurd (omega (arith, h.1 (omega arith))))
      (λ e h. (λ has. absurd (has none), λ n z. e z)))
      (λ has h.
      let room = f has in
      let left = leaves_left r i (bounds t.column t.column) h in
      (λ a. (λ e. omega (arith, left.0 e, (left.0 e).1 room), λ e. left.1 e room, λ e. left.2 e room), λ n. absurd (has n)))

  -- `meet`: a number of both sets is in it
  pub meet_in : (i : ℕ) (S T : Set) → Fits top S → Fits top T → In top S i → In top T i → In top (meet S T) i
  meet_in i S T f g h k =
      let up : min S.high T.high < top → i ≤ min S.high T.high =
      λ l. min_cases S.high T.high _ (λ p e. omega (arith, h.1 (omega arith))) (λ p e. omega (arith, k.1 (omega arith))) in
      by_meet (λ (X : Set). In top X i) S T (λ e. absurd (omega (arith, up (omega arith)))) (λ e. (omega arith, up))

  -- and it has no other
  pub in_meet : (i : ℕ) (S T : Set) → Fits top S → Fits top T → In top (meet S T) i → In top S i × In top T i
  in_meet i S T f g =
      by_meet (λ (X : Set). In top X i → In top S i × In top T i) S T
      (λ e h. absurd (omega (arith, h.1 (omega arith))))
      (λ e h. ((omega arith, λ l. omega (arith, h.1 (omega arith))), (omega arith, λ l. omega (arith, h.1 (omega arith)))))

  -- what is true of each set that some relation leaves
  module _ (P : Set → Type 0) (none : P empty_set) (all : P (all_set top)) where
    leaves_kept : (r : ℕ) (S : Set) → P S → P (bounds 0 S.high) → (S.high < top → P (bounds 0 (S.high - 1))) → P (leaves top r S)
    unfolding leaves below
    leaves_kept r S same up_to less =
        by_relation P r (λ e. same) (λ e. by_less P S.high top (λ l. by_equal P S.high 0 (λ z. none) (λ z. less l)) (λ l. all)) (λ e. up_to) (λ a b c. all)

    -- is true of what a child's set leaves its parent, whatever the relation
    pub child_kept : (r : ℕ) (S : Set) → P S → P (bounds 0 S.high) → (S.high < top → P (bounds 0 (S.high - 1))) → P (child_leaves top r S)
    unfolding child_leaves
    child_kept r S same up_to less = by_less P S.high S.low (λ e. none) (λ e. leaves_kept r S same up_to less)

    -- and of what a token's column leaves it
    pub token_kept : (r column : ℕ) → ((column ≡ no_column → ⊥) → P (bounds column column) × P (bounds 0 column) × (column < top → P (bounds 0 (column - 1)))) → P (token_leaves top r column)
    unfolding token_leaves
    token_kept r column held =
        by_equal P column no_column
        (λ e. by_equal P r 0 (λ z. none) (λ z. all))
        (λ has. let h = held has in leaves_kept r (bounds column column) h.0 h.1 h.2)

  -- and what fits below top leaves what fits
  module _ (one : 1 ≤ top) where
    pub child_fits : (r : ℕ) (S : Set) → Fits top S → Fits top (child_leaves top r S)
    child_fits r S f = child_kept (Fits top) (omega arith) (omega arith) r S f (omega arith) (omega arith)

    pub token_fits : (r column : ℕ) → ((column ≡ no_column → ⊥) → column ≤ top) → Fits top (token_leaves top r column)
    token_fits r column f = token_kept (Fits top) (omega arith) (omega arith) r column (λ has. let room = f has in (omega arith, omega arith, omega arith))

    pub meet_fits : (S T : Set) → Fits top S → Fits top T → Fits top (meet S T)
    meet_fits S T f g = by_meet (Fits top) S T (λ e. omega arith) (λ e. omega arith)
