-- What the set pass of a node and of a row gives and writes.
use Rattle.std.specs.Prelude.{◌≡◌, List, ◌∷◌, ℕ, ◌+◌, ◌*◌, length}
use Rattle.rules.specs.Grammar.{Symbol}
use Rattle.rules.specs.Tree.{Tree, Row}
use Rattle.rules.specs.Derivation.{nodes, row_nodes, tokens, row_tokens}
use Rattle.rules.specs.Stored.{unbounded}
use Rattle.rules.specs.Interval.{all_set, set_of, row_set, sets_of, row_sets}
use Rattle.rules.specs.declared.relation.Set.{Set}
use Rattle.fields.specs.Images.{Images}
use Rattle.grammar_image.specs.GrammarImage.{production_at}
use Rattle.layout.specs.Standing.{TreeIn, RowIn}
use Rattle.layout.specs.Written.{written_at}
use Rattle.set_pass.specs.declared.next.Next.{Next}
use Rattle.set_pass.specs.Next.{next_node, next_token}

-- the set pass of the tree T from node n and token k on: what comes after it, and the sets of its nodes in their places
pub record NodePassed (grammar : List ℕ) (T : Tree) (n k : ℕ) (old new : List ℕ) (r : Next) : Type 0 where
  pub node : next_node r ≡ n + length (nodes T)
  pub token : next_token r ≡ k + length (tokens T)
  pub sets : new ≡ written_at (2 * n) (sets_of (production_at grammar) unbounded T) old

-- that of the row R of the symbols ss, where those before it left the set S: what is left, what comes after the row,
-- and the sets of its nodes in their places
pub record RowPassed (grammar : List ℕ) (R : Row) (ss : List Symbol) (S : Set) (n k : ℕ) (old new : List ℕ)
    (left : Set) (r : Next) : Type 0 where
  pub set : left ≡ row_set (production_at grammar) unbounded R ss S
  pub node : next_node r ≡ n + length (row_nodes R)
  pub token : next_token r ≡ k + length (row_tokens R)
  pub sets : new ≡ written_at (2 * n) (row_sets (production_at grammar) unbounded R) old

-- that of the row R behind node n, whose set is written as well
pub record RowStored (grammar : List ℕ) (R : Row) (ss : List Symbol) (n k : ℕ) (old new : List ℕ) (r : Next) : Type 0
  where
    pub node : next_node r ≡ n + 1 + length (row_nodes R)
    pub token : next_token r ≡ k + length (row_tokens R)
    pub sets : let S = row_set (production_at grammar) unbounded R ss (all_set unbounded) in
        new ≡ written_at (2 * n) (S.low ∷ S.high ∷ row_sets (production_at grammar) unbounded R) old

-- the set pass of the node that is next, whatever right tree stands there
abbrev pub NodeSet : Images → Next → List ℕ → List ℕ → Next → Type 0
NodeSet s next old new r =
    (T : Tree) → TreeIn s (next_node next) (next_token next) T →
    NodePassed s.grammar T (next_node next) (next_token next) old new r

-- that of a row of the symbols ss behind its parent, whatever right row stands there
abbrev pub RowSet : Images → List Symbol → Next → List ℕ → List ℕ → Next → Type 0
RowSet s ss parent old new r =
    (R : Row) → RowIn s ss (next_node parent + 1) (next_token parent) R →
    RowStored s.grammar R ss (next_node parent) (next_token parent) old new r

-- that of the whole tree: the root's set, and the sets of all nodes
pub record RootPassed (grammar : List ℕ) (T : Tree) (old new : List ℕ) (r : Set) : Type 0 where
  pub set : r ≡ set_of (production_at grammar) unbounded T
  pub sets : new ≡ written_at 0 (sets_of (production_at grammar) unbounded T) old

abbrev pub RootSet : Images → List ℕ → List ℕ → Set → Type 0
RootSet s old new r = (T : Tree) → TreeIn s 0 0 T → RootPassed s.grammar T old new r
