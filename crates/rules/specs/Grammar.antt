-- "The grammar rule": symbols, productions and tokens.
use Rattle.std.specs.Prelude.{◌≡◌, List, [], ◌∷◌, ℕ, ◌≤◌}

-- "Each symbol is a terminal or a nonterminal and carries one relation": kind 0 is a terminal, kind 1 a nonterminal
pub record Symbol : Type 0 where
  pub kind : ℕ
  pub relation : ℕ
  pub number : ℕ

-- "A production has a nonterminal on the left and a row of 0 to 16 symbols on the right"
pub record Production : Type 0 where
  pub left : ℕ
  pub right : List Symbol

-- "A terminal's indentation is the column of its token"
pub record Token : Type 0 where
  pub terminal : ℕ
  pub column : ℕ

-- ticket 1 of document 02: "Column 65,535 now means no column"
abbrev pub no_column : ℕ
no_column = 65535

-- a token without a column
abbrev pub NoColumn : Token → Type 0
NoColumn t = t.column ≡ no_column

-- and one with a column
abbrev pub HasColumn : Token → Type 0
HasColumn t = NoColumn t → ⊥

-- the column of every token that has one is at most M
unfoldable pub ColumnsUpTo : ℕ → List Token → Type 0
ColumnsUpTo M [] = Unit {0}
ColumnsUpTo M (t ∷ ts) = (HasColumn t → t.column ≤ M) × ColumnsUpTo M ts
