-- The least choice gives each child the least number that its own set and its parent's number allow, and no choice with a parent at least as high can give it less.
-- It rises from a parent to a child by no more than a relation asks for, from a lowest number that is at most the greatest column.
use Rattle.std.proofs.Common.{◌≡◌, refl, sym, ◌∙◌, List, [], ◌∷◌, ◌++◌, ℕ, zero, suc, ◌+◌, ◌-◌, ◌*◌, ◌<◌, ◌≤◌, arith, length, get_or, length-append}
use Rattle.rules.specs.Grammar.{Symbol, Production, ColumnsUpTo}
use Rattle.rules.specs.Tree.{Tree, node, Row, end, token, child}
use Rattle.rules.specs.Derivation.{Right, RightRow, nodes, row_nodes, tokens, row_tokens, depth, row_depth}
use Rattle.rules.specs.Relation.{rise}
use Rattle.rules.specs.Choice.{Choice, given, Choices, none, next, root, flat, flats, Laid, LaidRow, Least}
use Rattle.rules.specs.Interval.{In, least, set_of, least_choice, least_choices}
use Rattle.rules.specs.declared.relation.Set.{Set}
use Rattle.rules.proofs.Relations.{least_least, least_near}
use Rattle.rules.proofs.Sets.{columns_append, set_in, least_laid}
use Rattle.rules.proofs.Shapes.{low_near}
use Rattle.rules.proofs.Subtrees.{each_append}

-- the first list is nowhere above the second
abbrev Under : List ℕ → List ℕ → Type 0
Under xs ys = (n : ℕ) → get_or xs n 0 ≤ get_or ys n 0

under_append : (xs ys us vs : List ℕ) → length xs ≡ length ys → Under xs ys → Under us vs → Under (xs ++ us) (ys ++ vs)
under_append [] [] us vs e f g n = g n
under_append [] (y ∷ ys) us vs e f g n = absurd (omega arith)
under_append (x ∷ xs) [] us vs e f g n = absurd (omega arith)
under_append (x ∷ xs) (y ∷ ys) us vs e f g zero = f 0
under_append (x ∷ xs) (y ∷ ys) us vs e f g (suc n) = under_append xs ys us vs (omega arith) (λ m. f (suc m)) g n

-- the low of a set that is not empty is in it
low_in : (top : ℕ) (S : Set) (i : ℕ) → In top S i → In top S S.low
low_in top S i in_set = (omega arith, λ h. omega (arith, in_set.1 h))

module _ (G : ℕ → Production) where
  mutual
    unfolding Laid LaidRow flat flats nodes row_nodes

    -- a choice has one number a node
    pub length_flat : (T : Tree) (C : Choice) → Laid G T C → length (flat C) ≡ length (nodes T)
    length_flat (node p row) (given i Cs) l = omega (arith, length_flats row (G p).right i Cs l)

    length_flats : (row : Row) (ss : List Symbol) (i : ℕ) (Cs : Choices) → LaidRow G row ss i Cs → length (flats Cs) ≡ length (row_nodes row)
    length_flats end [] i none l = refl
    length_flats end [] i (next C Cs) l = absurd l
    length_flats end (s ∷ ss) i Cs l = absurd l
    length_flats (token t row) [] i Cs l = absurd l
    length_flats (token t row) (s ∷ ss) i Cs l = length_flats row ss i Cs l.1
    length_flats (child T row) [] i Cs l = absurd l
    length_flats (child T row) (s ∷ ss) i none l = absurd l
    length_flats (child T row) (s ∷ ss) i (next C Cs) l = simp (length-append, length_flat T C l.1, length_flats row ss i Cs l.2)

  -- a least list is nowhere above another
  pub least_under : (T : Tree) (xs ys : List ℕ) → Least G T xs → Least G T ys → (n : ℕ) → get_or xs n 0 ≤ get_or ys n 0
  least_under T xs ys l m n = rw m.listed at (l.least m.choice m.laid n)

  -- and has one number a node
  pub least_length : (T : Tree) (xs : List ℕ) → Least G T xs → length xs ≡ length (nodes T)
  least_length T xs l = rw l.listed at (length_flat T l.choice l.laid)

module _ (G : ℕ → Production) (top M : ℕ) (below : M < top) where
  mutual
    unfolding Right RightRow tokens row_tokens Laid LaidRow flat flats least_choice least_choices root ColumnsUpTo

    laid_smallest : (T : Tree) (A i : ℕ) → Right G T A → ColumnsUpTo M (tokens T) → Laid G T (least_choice G top T i) →
        (C : Choice) → Laid G T C → i ≤ root C → Under (flat (least_choice G top T i)) (flat C)
    laid_smallest (node p row) A i f c m (given j Cs) l h zero = h
    laid_smallest (node p row) A i f c m (given j Cs) l h (suc n) = laids_smallest row (G p).right i j f.1 c m Cs l h n

    laids_smallest : (row : Row) (ss : List Symbol) (i j : ℕ) → RightRow G row ss → ColumnsUpTo M (row_tokens row) → LaidRow G row ss i (least_choices G top row ss i) →
        (Cs : Choices) → LaidRow G row ss j Cs → i ≤ j → Under (flats (least_choices G top row ss i)) (flats Cs)
    laids_smallest end ss i j f c m Cs l h n = omega arith
    laids_smallest (token t row) [] i j f c m Cs l h n = absurd l
    laids_smallest (token t row) (s ∷ ss) i j f c m Cs l h n = laids_smallest row ss i j f.2 c.1 m.1 Cs l.1 h n
    laids_smallest (child T row) [] i j f c m Cs l h n = absurd l
    laids_smallest (child T row) (s ∷ ss) i j f c m none l h n = absurd l
    laids_smallest (child T row) (s ∷ ss) i j f c m (next C Cs) l h n =
        let both = columns_append M (tokens T) (row_tokens row) c in
        let k = least s.relation i (set_of G top T) in
        let lower = least_least top s.relation i (root C) j (set_of G top T) (set_in G top M below T s.number f.1 both.0 C l.1) l.0 h in
        under_append (flat (least_choice G top T k)) (flat C) (flats (least_choices G top row ss i)) (flats Cs) (length_flat G T _ m.1 ∙ sym (length_flat G T C l.1))
        (λ n. laid_smallest T s.number k f.1 both.0 m.1 C l.1 lower n)
        (λ n. laids_smallest row ss i j f.2 both.1 m.2 Cs l.2 h n) n

  mutual
    unfolding Right RightRow tokens row_tokens depth row_depth Laid LaidRow flat flats least_choice least_choices ColumnsUpTo

    laid_small : (T : Tree) (A i b d : ℕ) → Right G T A → ColumnsUpTo M (tokens T) → Laid G T (least_choice G top T i) →
        i ≤ b → M ≤ b → depth T ≤ suc d → (n : ℕ) → get_or (flat (least_choice G top T i)) n 0 ≤ b + rise * d
    laid_small (node p row) A i b d f c m h k e zero = omega arith
    laid_small (node p row) A i b d f c m h k e (suc n) = laids_small row (G p).right i b d f.1 c m h k (omega arith) n

    laids_small : (row : Row) (ss : List Symbol) (i b d : ℕ) → RightRow G row ss → ColumnsUpTo M (row_tokens row) → LaidRow G row ss i (least_choices G top row ss i) →
        i ≤ b → M ≤ b → row_depth row ≤ d → (n : ℕ) → get_or (flats (least_choices G top row ss i)) n 0 ≤ b + rise * d
    laids_small end ss i b d f c m h k e n = omega arith
    laids_small (token t row) [] i b d f c m h k e n = absurd f
    laids_small (token t row) (s ∷ ss) i b d f c m h k e n = laids_small row ss i b d f.2 c.1 m.1 h k e n
    laids_small (child T row) [] i b d f c m h k e n = absurd f
    laids_small (child (node q R) row) (s ∷ ss) i b zero f c m h k e n = absurd (omega arith)
    laids_small (child T row) (s ∷ ss) i b (suc d) f c m h k e n =
        let S = set_of G top T in
        let j = least s.relation i S in
        let both = columns_append M (tokens T) (row_tokens row) c in
        let in_set = set_in G top M below T s.number f.1 both.0 (least_choice G top T j) m.1 in
        let near : j ≤ b + rise = omega (arith, least_near s.relation i S, low_near G top M below T s.number _ f.1 both.0 in_set) in
        each_append (λ x. x ≤ b + rise * suc d) 0 (flat (least_choice G top T j)) (flats (least_choices G top row ss i))
        (λ n. omega (arith, laid_small T s.number j (b + rise) d f.1 both.0 m.1 near (omega arith) (omega arith) n))
        (λ n. laids_small row ss i b (suc d) f.2 both.1 m.2 h k (omega arith) n) n

  -- no choice that satisfies all relations, with the root at least as high, has a lower number at any node
  pub least_smallest : (T : Tree) (A i : ℕ) → Right G T A → ColumnsUpTo M (tokens T) → In top (set_of G top T) i →
      (C : Choice) → Laid G T C → i ≤ root C → (n : ℕ) → get_or (flat (least_choice G top T i)) n 0 ≤ get_or (flat C) n 0
  least_smallest T A i f c in_set = laid_smallest T A i f c (least_laid G top M below T A i f c in_set)

  -- no number is above the root's and the greatest column by more than the depth allows
  pub least_small : (T : Tree) (A i e : ℕ) → Right G T A → ColumnsUpTo M (tokens T) → In top (set_of G top T) i → i ≤ M + e →
      (n : ℕ) → get_or (flat (least_choice G top T i)) n 0 ≤ M + e + rise * (depth T - 1)
  least_small T A i e f c in_set h = laid_small T A i (M + e) (depth T - 1) f c (least_laid G top M below T A i f c in_set) h (omega arith) (omega arith)

  -- the least choice with the lowest number of its set at the root is the least of all
  pub least_list : (T : Tree) (A i : ℕ) → Right G T A → ColumnsUpTo M (tokens T) → In top (set_of G top T) i → Least G T (flat (least_choice G top T (set_of G top T).low))
  least_list T A i f c in_set =
      let low = (set_of G top T).low in
      let first = low_in top (set_of G top T) i in_set in
      record {
        choice = least_choice G top T low;
        laid = least_laid G top M below T A low f c first;
        listed = refl;
        least = λ C l. least_smallest T A low f c first C l (set_in G top M below T A f c C l).0;
      }

  -- the least numbers are bounded by the greatest column and the depth
  pub least_within : (T : Tree) (A : ℕ) (is : List ℕ) → Right G T A → ColumnsUpTo M (tokens T) → Least G T is → (n : ℕ) → get_or is n 0 ≤ M + rise * (depth T - 1)
  least_within T A is f c l n =
      let low = (set_of G top T).low in
      let in_set = set_in G top M below T A f c l.choice l.laid in
      let small = least_small T A low 0 f c (low_in top (set_of G top T) _ in_set) (omega (arith, low_near G top M below T A _ f c in_set)) n in
      omega (arith, least_under G T is _ l (least_list T A _ f c in_set) n)
