-- What the indentation pass of a node and of a row gives and writes.
use Rattle.std.specs.Prelude.{◌≡◌, List, [], ◌∷◌, ◌++◌, ℕ, ◌+◌, ◌*◌, ◌≤◌, length, drop}
use Rattle.rules.specs.Grammar.{Symbol, Token}
use Rattle.rules.specs.Tree.{Tree, Row}
use Rattle.rules.specs.Derivation.{nodes, row_nodes}
use Rattle.rules.specs.Choice.{flat, flats}
use Rattle.rules.specs.Stored.{unbounded}
use Rattle.rules.specs.Interval.{sets_of, row_sets, least_choice, least_choices}
use Rattle.grammar_image.specs.GrammarImage.{production_at}
use Rattle.layout.specs.Standing.{TreeListed, RowListed}
use Rattle.layout.specs.Written.{written_at}

-- no number of a list is above a limit
unfoldable pub AllUpTo : ℕ → List ℕ → Type 0
AllUpTo limit [] = Unit {0}
AllUpTo limit (i ∷ is) = (i ≤ limit) × AllUpTo limit is

-- numbers that 32 bits hold are written from index n on, where the sets that they come from stand in their places
abbrev pub Numbered : List ℕ → List ℕ → ℕ → List ℕ → List ℕ → List ℕ → Type 0
Numbered numbers from n sets old new =
    (after : List ℕ) → drop (2 * n) sets ≡ from ++ after → AllUpTo unbounded numbers → new ≡ written_at n numbers old

-- the indentation pass of the tree T from node n on, given the number i: what comes after it,
-- and its least choice in its place
pub record NodeGiven (grammar : List ℕ) (T : Tree) (n i : ℕ) (sets old new : List ℕ) (r : ℕ) : Type 0 where
  pub node : r ≡ n + length (nodes T)
  pub given : Numbered (flat (least_choice (production_at grammar) unbounded T i))
      (sets_of (production_at grammar) unbounded T) n sets old new

-- that of the row R of the symbols ss, below a node with the number i
pub record RowGiven (grammar : List ℕ) (R : Row) (ss : List Symbol) (n i : ℕ) (sets old new : List ℕ) (r : ℕ) : Type 0
  where
    pub node : r ≡ n + length (row_nodes R)
    pub given : Numbered (flats (least_choices (production_at grammar) unbounded R ss i))
        (row_sets (production_at grammar) unbounded R) n sets old new

-- the indentation pass of node n, whatever right tree is listed there, with any tokens
abbrev pub NodeNumber : List ℕ → List ℕ → ℕ → ℕ → List ℕ → List ℕ → List ℕ → ℕ → Type 0
NodeNumber grammar tree n i sets old new r =
    (ts : List Token) (k : ℕ) (T : Tree) → TreeListed grammar tree ts n k T → NodeGiven grammar T n i sets old new r

-- that of a row of the symbols ss from node n on, whatever right row is listed there
abbrev pub RowNumbers : List ℕ → List ℕ → List Symbol → ℕ → ℕ → List ℕ → List ℕ → List ℕ → ℕ → Type 0
RowNumbers grammar tree ss n i sets old new r =
    (ts : List Token) (k : ℕ) (R : Row) → RowListed grammar tree ts ss n k R →
    RowGiven grammar R ss n i sets old new r
