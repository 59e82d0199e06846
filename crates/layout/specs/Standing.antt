-- A right tree or row that stands in lists of nodes and tokens: what the passes are called on.
use Rattle.std.specs.Prelude.{◌≡◌, List, ◌++◌, ℕ, ◌-◌, drop}
use Rattle.rules.specs.Grammar.{Symbol, Production, Token}
use Rattle.rules.specs.Tree.{Tree, Row}
use Rattle.rules.specs.Derivation.{Right, RightRow, nodes, row_nodes, tokens, row_tokens}
use Rattle.fields.specs.Fields.{list_from}
use Rattle.fields.specs.Images.{Images}
use Rattle.grammar_image.specs.GrammarImage.{symbol_at, production_at}
use Rattle.token_image.specs.TokenImage.{tokens_of}
use Rattle.tree_image.specs.TreeImage.{nodes_of}

-- the symbols from entry y up to entry `to`
abbrev pub symbols : List ℕ → ℕ → ℕ → List Symbol
symbols grammar y to = list_from y (to - y) (symbol_at grammar)

module _ (G : ℕ → Production) (ns : List ℕ) (ts : List Token) where
  -- the right tree T is listed from node n on, and its tokens stand from token k on
  pub record TreeAt (n k : ℕ) (T : Tree) : Type 0 where
    pub left : ℕ
    pub right : Right G T left
    pub nodes_after : List ℕ
    pub listed : drop n ns ≡ nodes T ++ nodes_after
    pub tokens_after : List Token
    pub read : drop k ts ≡ tokens T ++ tokens_after

  -- and the row R, which is right for the symbols ss
  pub record RowAt (ss : List Symbol) (n k : ℕ) (R : Row) : Type 0 where
    pub right : RightRow G R ss
    pub nodes_after : List ℕ
    pub listed : drop n ns ≡ row_nodes R ++ nodes_after
    pub tokens_after : List Token
    pub read : drop k ts ≡ row_tokens R ++ tokens_after

-- in three images
abbrev pub TreeIn : Images → ℕ → ℕ → Tree → Type 0
TreeIn s = TreeAt (production_at s.grammar) (nodes_of s.tree) (tokens_of s.tokens)

abbrev pub RowIn : Images → List Symbol → ℕ → ℕ → Row → Type 0
RowIn s = RowAt (production_at s.grammar) (nodes_of s.tree) (tokens_of s.tokens)

-- in two images, with any tokens
abbrev pub TreeListed : List ℕ → List ℕ → List Token → ℕ → ℕ → Tree → Type 0
TreeListed grammar tree = TreeAt (production_at grammar) (nodes_of tree)

abbrev pub RowListed : List ℕ → List ℕ → List Token → List Symbol → ℕ → ℕ → Row → Type 0
RowListed grammar tree = RowAt (production_at grammar) (nodes_of tree)

-- some tree or row stands there
pub record SomeTree (s : Images) (n k : ℕ) : Type 0 where
  pub there : Tree
  pub stands : TreeIn s n k there

pub record SomeRow (s : Images) (ss : List Symbol) (n k : ℕ) : Type 0 where
  pub there : Row
  pub stands : RowIn s ss n k there

pub record SomeTreeListed (grammar tree : List ℕ) (n : ℕ) : Type 0 where
  pub ts : List Token
  pub k : ℕ
  pub there : Tree
  pub stands : TreeListed grammar tree ts n k there

pub record SomeRowListed (grammar tree : List ℕ) (ss : List Symbol) (n : ℕ) : Type 0 where
  pub ts : List Token
  pub k : ℕ
  pub there : Row
  pub stands : RowListed grammar tree ts ss n k there
