-- "Set of a node" and "Least indentations": indentations given to all nodes of a tree, when every relation holds, and
-- the least of them.
use Rattle.std.specs.Prelude.{◌≡◌, List, [], ◌∷◌, ◌++◌, ℕ, ◌≤◌, get_or}
use Rattle.rules.specs.Grammar.{Symbol, Production}
use Rattle.rules.specs.Tree.{Tree, node, Row, end, token, child}
use Rattle.rules.specs.Relation.{Holds, HoldsToken}

-- "A node's indentation is any whole number from 0 up": a choice gives every node a number, in the tree's own shape
mutual
  pub data Choice : Type 0 where
    given : ℕ → Choices → Choice

  -- the choices of the nodes in a row, from left to right
  pub data Choices : Type 0 where
    none : Choices
    next : Choice → Choices → Choices

-- the indentation of the choice's root
unfoldable pub root : Choice → ℕ
root (given i below) = i

-- one number a node, in preorder
unfoldable mutual
  pub flat : Choice → List ℕ
  flat (given i below) = i ∷ flats below

  pub flats : Choices → List ℕ
  flats none = []
  flats (next C Cs) = flat C ++ flats Cs

-- with G the productions by their numbers
module _ (G : ℕ → Production) where
  unfoldable mutual
    -- every relation inside the tree holds. "The root has no relation above it"
    pub Laid : Tree → Choice → Type 0
    Laid (node p row) (given i below) = LaidRow row (G p).right i below

    -- every relation holds in a row below a node with indentation i
    pub LaidRow : Row → List Symbol → ℕ → Choices → Type 0
    LaidRow end [] i none = Unit {0}
    LaidRow (token t row) (s ∷ ss) i Cs = HoldsToken s.relation i t × LaidRow row ss i Cs
    LaidRow (child T row) (s ∷ ss) i (next C Cs) = Holds s.relation i (root C) × Laid T C × LaidRow row ss i Cs
    LaidRow end [] i (next C Cs) = ⊥
    LaidRow end (s ∷ ss) i Cs = ⊥
    LaidRow (token t row) [] i Cs = ⊥
    LaidRow (child T row) [] i Cs = ⊥
    LaidRow (child T row) (s ∷ ss) i none = ⊥

  -- "All whole numbers i for which the nodes below it can be given indentations so that, with i at this node, every
  -- relation inside its subtree holds"
  pub record InSet (T : Tree) (i : ℕ) : Type 0 where
    pub choice : Choice
    pub here : root choice ≡ i
    pub laid : Laid T choice

  -- "the list in which every node has the smallest number that it has in any choice satisfying all relations. That list
  -- is itself such a choice"
  pub record Least (T : Tree) (is : List ℕ) : Type 0 where
    pub choice : Choice
    pub laid : Laid T choice
    pub listed : flat choice ≡ is
    pub least : (C : Choice) → Laid T C → (n : ℕ) → get_or is n 0 ≤ get_or (flat C) n 0
