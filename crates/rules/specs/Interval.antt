-- Sets by a low and a high, and what the relations make of them: what the two passes compute. No promise to the desk
-- names them; that they are the sets and the least indentations is proved.
use Rattle.std.specs.Prelude.{cond, List, [], ◌∷◌, ◌++◌, ℕ, zero, suc, ◌+◌}
use Rattle.std.specs.Prelude.{◌*◌, ◌-◌, ◌<◌, ◌≤◌, max, min, ltb, eqb, get_or}
use Rattle.rules.specs.Grammar.{Symbol, Production, no_column}
use Rattle.rules.specs.Tree.{Tree, node, Row, end, token, child}
use Rattle.rules.specs.Choice.{Choice, given, Choices, none, next}
use Rattle.rules.specs.declared.relation.Set.{Set}

abbrev pub bounds : ℕ → ℕ → Set
bounds low high = record { low = low; high = high }

abbrev pub empty_set : Set
empty_set = bounds 1 0

-- with top the high of a set with no upper bound
module _ (top : ℕ) where
  -- i is in the set
  abbrev pub In : Set → ℕ → Type 0
  In S i = (S.low ≤ i) × (S.high < top → i ≤ S.high)

  abbrev pub all_set : Set
  all_set = bounds 0 top

  -- the numbers that have a greater one up to a high
  unfoldable pub below : ℕ → Set
  below high = cond (ltb high top) (cond (eqb high 0) empty_set (bounds 0 (high - 1))) all_set

  -- what a relation leaves the parent of a child with a set that is not empty: = leaves that set, > the numbers below
  -- its high, ≥ those up to its high, free all
  unfoldable pub leaves : ℕ → Set → Set
  leaves r S = cond (eqb r 0) S (cond (eqb r 1) (below S.high) (cond (eqb r 2) (bounds 0 S.high) all_set))

  -- what a child's set leaves its parent
  unfoldable pub child_leaves : ℕ → Set → Set
  child_leaves r S = cond (ltb S.high S.low) empty_set (leaves r S)

  -- what a token's column leaves its parent; without a column = leaves nothing and any other relation all
  unfoldable pub token_leaves : ℕ → ℕ → Set
  token_leaves r column =
      cond (eqb column no_column) (cond (eqb r 0) empty_set all_set) (leaves r (bounds column column))

-- the numbers that are in both sets
unfoldable pub meet : Set → Set → Set
meet S T =
    cond (ltb (min S.high T.high) (max S.low T.low)) empty_set
    (bounds (max S.low T.low) (min S.high T.high))

-- the least number of a child with the set S below a parent with indentation i
unfoldable pub least : ℕ → ℕ → Set → ℕ
least r i S = cond (eqb r 0) i (cond (eqb r 1) (max (i + 1) S.low) (cond (eqb r 2) (max i S.low) S.low))

-- in a list of lows and highs, the highest-numbered of the first n sets that is empty; 0 where none is
unfoldable pub highest_empty : List ℕ → ℕ → ℕ
highest_empty sets zero = 0
highest_empty sets (suc n) = cond (ltb (get_or sets (2 * n + 1) 0) (get_or sets (2 * n) 0)) n (highest_empty sets n)

-- with G the productions by their numbers
module _ (G : ℕ → Production) (top : ℕ) where
  -- the set of a node, from its row; S is what the symbols before this row left
  unfoldable mutual
    pub set_of : Tree → Set
    set_of (node p row) = row_set row (G p).right (all_set top)

    pub row_set : Row → List Symbol → Set → Set
    row_set end ss S = S
    row_set (token t row) [] S = S
    row_set (child T row) [] S = S
    row_set (token t row) (s ∷ ss) S = row_set row ss (meet S (token_leaves top s.relation t.column))
    row_set (child T row) (s ∷ ss) S = row_set row ss (meet S (child_leaves top s.relation (set_of T)))

  -- the sets of all nodes, low and high, in preorder
  unfoldable mutual
    pub sets_of : Tree → List ℕ
    sets_of (node p row) = (set_of (node p row)).low ∷ (set_of (node p row)).high ∷ row_sets row

    pub row_sets : Row → List ℕ
    row_sets end = []
    row_sets (token t row) = row_sets row
    row_sets (child T row) = sets_of T ++ row_sets row

  -- the least choice with i at the root
  unfoldable mutual
    pub least_choice : Tree → ℕ → Choice
    least_choice (node p row) i = given i (least_choices row (G p).right i)

    pub least_choices : Row → List Symbol → ℕ → Choices
    least_choices end ss i = none
    least_choices (token t row) [] i = none
    least_choices (child T row) [] i = none
    least_choices (token t row) (s ∷ ss) i = least_choices row ss i
    least_choices (child T row) (s ∷ ss) i =
        next (least_choice T (least s.relation i (set_of T))) (least_choices row ss i)
