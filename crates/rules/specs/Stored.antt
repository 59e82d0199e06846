-- How sets are stored: "low and high of node n at 2n and 2n + 1".
use Rattle.std.specs.Prelude.{◌≡◌, List, [], ◌∷◌, ◌++◌, ℕ, ◌<◌, ◌≤◌, length, get_or}
use Rattle.rules.specs.Grammar.{Production}
use Rattle.rules.specs.Tree.{Tree, node, Row, end, token, child}
use Rattle.rules.specs.Choice.{InSet}

-- the high of a set with no upper bound
abbrev pub unbounded : ℕ
unbounded = 4294967295

abbrev pub Empty : (ℕ → Type 0) → Type 0
Empty S = (i : ℕ) → S i → ⊥

-- the low and high that a set S is stored with
pub data Stored (S : ℕ → Type 0) : ℕ → ℕ → Type 0 where
  -- "An empty set is stored as low 1, high 0"
  empty : Empty S → Stored S 1 0
  -- "All whole numbers is low 0, high 4,294,967,295"
  all : ((i : ℕ) → S i) → Stored S 0 unbounded
  -- any other by its lowest and its highest number, with all between them in it
  between : {low high : ℕ} → low ≤ high → high < unbounded → ((i : ℕ) → S i → (low ≤ i) × (i ≤ high)) →
      ((i : ℕ) → low ≤ i → i ≤ high → S i) → Stored S low high

-- the subtrees at the nodes of a tree, in preorder: the first is the tree itself
unfoldable mutual
  pub subtrees : Tree → List Tree
  subtrees (node p row) = node p row ∷ row_subtrees row

  pub row_subtrees : Row → List Tree
  row_subtrees end = []
  row_subtrees (token t row) = row_subtrees row
  row_subtrees (child T row) = subtrees T ++ row_subtrees row

module _ (G : ℕ → Production) where
  -- low and high of the set of each node, one after another
  unfoldable pub StoredSets : List Tree → List ℕ → Type 0
  StoredSets [] [] = Unit {0}
  StoredSets (T ∷ Ts) (low ∷ high ∷ rest) = Stored (InSet G T) low high × StoredSets Ts rest
  StoredSets [] (low ∷ rest) = ⊥
  StoredSets (T ∷ Ts) [] = ⊥
  StoredSets (T ∷ Ts) (low ∷ []) = ⊥

  -- the set of node n
  abbrev pub SetOf : Tree → ℕ → ℕ → Type 0
  SetOf T n = InSet G (get_or (subtrees T) n T)

  -- "highest-numbered node with an empty set"
  pub record HighestEmpty (T : Tree) (n : ℕ) : Type 0 where
    pub node : n < length (subtrees T)
    pub here : Empty (SetOf T n)
    pub above : (m : ℕ) → n < m → m < length (subtrees T) → (i : ℕ) × SetOf T m i

-- lemma 4 of document 000: "a set that is not empty is all whole numbers, a single number, or all numbers up to some n"
pub data Shape (S : ℕ → Type 0) : Type 0 where
  nothing : Empty S → Shape S
  everything : ((i : ℕ) → S i) → Shape S
  single : (c : ℕ) → S c → ((i : ℕ) → S i → i ≡ c) → Shape S
  up_to : (n : ℕ) → ((i : ℕ) → i ≤ n → S i) → ((i : ℕ) → S i → i ≤ n) → Shape S
