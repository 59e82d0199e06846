-- A tree has one subtree a node, and what is given to a tree's nodes gives each subtree its part: where every relation of the tree holds, so does every relation of each subtree.
use Rattle.std.proofs.Common.{◌≡◌, refl, ap, List, [], ◌∷◌, ◌++◌, ℕ, zero, suc, ◌<◌, length, get_or, length-append}
use Rattle.rules.specs.Grammar.{Symbol, Production}
use Rattle.rules.specs.Tree.{Tree, node, Row, end, token, child}
use Rattle.rules.specs.Derivation.{nodes, row_nodes}
use Rattle.rules.specs.Choice.{Choice, given, Choices, none, next, root, Laid, LaidRow, InSet}
use Rattle.rules.specs.Stored.{Empty, subtrees, row_subtrees, SetOf}

-- what is so at each index of two lists is so at each index of both together
pub each_append : {A : Type 0} (P : A → Type 0) (d : A) (xs ys : List A) → ((n : ℕ) → P (get_or xs n d)) → ((n : ℕ) → P (get_or ys n d)) → (n : ℕ) → P (get_or (xs ++ ys) n d)
each_append P d [] ys f g n = g n
each_append P d (x ∷ xs) ys f g zero = f 0
each_append P d (x ∷ xs) ys f g (suc n) = each_append P d xs ys (λ m. f (suc m)) g n

mutual
  unfolding subtrees row_subtrees nodes row_nodes

  -- one subtree a node
  pub length_subtrees : (T : Tree) → length (subtrees T) ≡ length (nodes T)
  length_subtrees (node p row) = ap suc (length_row row)

  length_row : (row : Row) → length (row_subtrees row) ≡ length (row_nodes row)
  length_row end = refl
  length_row (token t row) = length_row row
  length_row (child T row) = simp (length-append, length_subtrees T, length_row row)

module _ (G : ℕ → Production) where
  abbrev Some : Tree → Type 0
  Some T = (i : ℕ) × InSet G T i

  laid_some : (T : Tree) (C : Choice) → Laid G T C → Some T
  laid_some T C l = (root C, record { choice = C; here = refl; laid = l })

  -- with U standing past the last subtree
  mutual
    unfolding subtrees row_subtrees Laid LaidRow

    laid_each : (U T : Tree) (C : Choice) → Some U → Laid G T C → (n : ℕ) → Some (get_or (subtrees T) n U)
    laid_each U (node p row) (given i Cs) s l zero = laid_some (node p row) (given i Cs) l
    laid_each U (node p row) (given i Cs) s l (suc n) = row_each U row (G p).right i Cs s l n

    row_each : (U : Tree) (row : Row) (ss : List Symbol) (i : ℕ) (Cs : Choices) → Some U → LaidRow G row ss i Cs → (n : ℕ) → Some (get_or (row_subtrees row) n U)
    row_each U end ss i Cs s l n = s
    row_each U (token t row) [] i Cs s l n = absurd l
    row_each U (token t row) (x ∷ ss) i Cs s l n = row_each U row ss i Cs s l.1 n
    row_each U (child T row) [] i Cs s l n = absurd l
    row_each U (child T row) (x ∷ ss) i none s l n = absurd l
    row_each U (child T row) (x ∷ ss) i (next C Cs) s l n =
        each_append Some U (subtrees T) (row_subtrees row) (λ m. laid_each U T C s l.1 m) (λ m. row_each U row ss i Cs s l.2 m) n

  -- where every relation of the tree holds, every node has a set that is not empty
  pub laid_below : (T : Tree) (C : Choice) → Laid G T C → (n : ℕ) → n < length (subtrees T) → (i : ℕ) × SetOf G T n i
  laid_below T C l n h = laid_each T T C (laid_some T C l) l n

  -- a set empty below makes the set above it empty, whatever the relations between them, free too
  pub empty_above : (T : Tree) (n : ℕ) → n < length (subtrees T) → Empty (SetOf G T n) → Empty (InSet G T)
  empty_above T n h empty i s =
      let some = laid_below T s.choice s.laid n h in
      empty some.0 some.1
