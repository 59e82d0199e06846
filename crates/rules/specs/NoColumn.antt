-- For the makers: a token without a column that stands at = somewhere in a tree.
use Rattle.std.specs.Prelude.{◌≡◌, ◌⊎◌, List, [], ◌∷◌, ℕ}
use Rattle.rules.specs.Grammar.{Symbol, Production, NoColumn}
use Rattle.rules.specs.Tree.{Tree, node, Row, end, token, child}

-- with G the productions by their numbers
module _ (G : ℕ → Production) where
  unfoldable mutual
    pub NoColumnAtEqual : Tree → Type 0
    NoColumnAtEqual (node p row) = RowNoColumnAtEqual row (G p).right

    pub RowNoColumnAtEqual : Row → List Symbol → Type 0
    RowNoColumnAtEqual (token t row) (s ∷ ss) = ((s.relation ≡ 0) × NoColumn t) ⊎ RowNoColumnAtEqual row ss
    RowNoColumnAtEqual (child T row) (s ∷ ss) = NoColumnAtEqual T ⊎ RowNoColumnAtEqual row ss
    RowNoColumnAtEqual end ss = ⊥
    RowNoColumnAtEqual (token t row) [] = ⊥
    RowNoColumnAtEqual (child T row) [] = ⊥
