-- A token without a column at = leaves a tree no choice, whatever stands beside it: no number goes with it at its own node.
use Rattle.std.proofs.Common.{inl, inr, List, [], ◌∷◌, ℕ}
use Rattle.rules.specs.Grammar.{Symbol, Production}
use Rattle.rules.specs.Tree.{Tree, node, Row, end, token, child}
use Rattle.rules.specs.Relation.{HoldsToken}
use Rattle.rules.specs.Choice.{Choice, given, Choices, none, next, Laid, LaidRow}
use Rattle.rules.specs.NoColumn.{NoColumnAtEqual, RowNoColumnAtEqual}

module _ (G : ℕ → Production) where
  mutual
    unfolding NoColumnAtEqual RowNoColumnAtEqual Laid LaidRow HoldsToken

    pub no_column_unlaid : (T : Tree) → NoColumnAtEqual G T → (C : Choice) → Laid G T C → ⊥
    no_column_unlaid (node p row) h (given i Cs) l = row_unlaid row (G p).right h i Cs l

    row_unlaid : (row : Row) (ss : List Symbol) → RowNoColumnAtEqual G row ss → (i : ℕ) (Cs : Choices) → LaidRow G row ss i Cs → ⊥
    row_unlaid end ss h i Cs l = h
    row_unlaid (token t row) [] h i Cs l = h
    row_unlaid (token t row) (s ∷ ss) (inl h) i Cs l = l.0.1 h.1 h.0
    row_unlaid (token t row) (s ∷ ss) (inr h) i Cs l = row_unlaid row ss h i Cs l.1
    row_unlaid (child T row) [] h i Cs l = h
    row_unlaid (child T row) (s ∷ ss) h i none l = l
    row_unlaid (child T row) (s ∷ ss) (inl h) i (next C Cs) l = no_column_unlaid T h C l.1
    row_unlaid (child T row) (s ∷ ss) (inr h) i (next C Cs) l = row_unlaid row ss h i Cs l.2
