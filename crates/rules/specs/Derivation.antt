-- "Derivation": when a tree is right, and when a list of nodes derives a list of tokens.
-- Document 000, section 4, has the grammar (N, Σ, δ, S): δ is the table of productions here, S the start nonterminal,
-- and a parse tree shows how S rewrites to the tokens.
-- The relations and columns of a production are left to the sets: a tree that is right here derives once they are
-- erased, as the last paragraph of that section does.
use Rattle.std.specs.Prelude.{◌≡◌, List, [], ◌∷◌, ◌++◌, ℕ, suc, max, ◌≤◌}
use Rattle.rules.specs.Grammar.{Symbol, Production, Token}
use Rattle.rules.specs.Tree.{Tree, node, Row, end, token, child}

-- "Each symbol is a terminal or a nonterminal"
abbrev pub Terminal : Symbol → Type 0
Terminal s = s.kind ≡ 0

abbrev pub Nonterminal : Symbol → Type 0
Nonterminal s = Terminal s → ⊥

-- with G the productions by their numbers
module _ (G : ℕ → Production) where
  unfoldable mutual
    -- "a node is right when its row of children is right", and it has the nonterminal A on its left: a use of A → X₁ ..
    -- Xₙ in document 000
    pub Right : Tree → ℕ → Type 0
    Right (node p row) A = ((G p).left ≡ A) × RightRow row (G p).right

    -- "a row is right when, left to right, each nonterminal in it is met by the next node, right and with that
    -- nonterminal on its left, and each terminal by the next token, which carries it"
    pub RightRow : Row → List Symbol → Type 0
    RightRow end [] = Unit {0}
    RightRow (token t row) (s ∷ ss) = Terminal s × (t.terminal ≡ s.number) × RightRow row ss
    RightRow (child T row) (s ∷ ss) = Nonterminal s × Right T s.number × RightRow row ss
    RightRow end (s ∷ ss) = ⊥
    RightRow (token t row) [] = ⊥
    RightRow (child T row) [] = ⊥

-- "Nodes are numbered from 0 in preorder, and a tree is the list of their production numbers"
unfoldable mutual
  pub nodes : Tree → List ℕ
  nodes (node p row) = p ∷ row_nodes row

  pub row_nodes : Row → List ℕ
  row_nodes end = []
  row_nodes (token t row) = row_nodes row
  row_nodes (child T row) = nodes T ++ row_nodes row

-- the tokens from left to right: the word that document 000's S rewrites to
unfoldable mutual
  pub tokens : Tree → List Token
  tokens (node p row) = row_tokens row

  pub row_tokens : Row → List Token
  row_tokens end = []
  row_tokens (token t row) = t ∷ row_tokens row
  row_tokens (child T row) = tokens T ++ row_tokens row

-- "root is 1"
unfoldable mutual
  pub depth : Tree → ℕ
  depth (node p row) = suc (row_depth row)

  pub row_depth : Row → ℕ
  row_depth end = 0
  row_depth (token t row) = row_depth row
  row_depth (child T row) = max (depth T) (row_depth row)

-- "The root's production has the start nonterminal on its left. All nodes and all tokens are used": w in the language
-- of document 000
pub record Derives (G : ℕ → Production) (start : ℕ) (ns : List ℕ) (ts : List Token) : Type 0 where
  pub tree : Tree
  pub right : Right G tree start
  pub listed : nodes tree ≡ ns
  pub read : tokens tree ≡ ts

-- "a tree at most 1,024 deep", for any limit
pub record DerivesWithin (limit : ℕ) (G : ℕ → Production) (start : ℕ) (ns : List ℕ) (ts : List Token) : Type 0 where
  pub derives : Derives G start ns ts
  pub deep : depth derives.tree ≤ limit
