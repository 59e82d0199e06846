-- Laws of the numbers of the least choice, and of the sets that it is read from.
use Rattle.std.proofs.Common.{◌≡◌, refl, List, [], ◌∷◌, ◌++◌, ℕ, suc, ◌+◌, ◌*◌, ◌≤◌, arith, length, get_or, drop, length-append}
use Rattle.rules.specs.Grammar.{Symbol, Production}
use Rattle.rules.specs.Tree.{Tree, node, Row, end, token, child}
use Rattle.rules.specs.Derivation.{Right, RightRow, nodes, row_nodes}
use Rattle.rules.specs.Choice.{flat, flats}
use Rattle.rules.specs.Interval.{set_of, sets_of, row_sets, least, least_choice, least_choices}
use Rattle.rules.specs.declared.relation.Set.{Set}
use Rattle.layout.proofs.Sets.{set_there}
use Rattle.indentation_pass.specs.Passes.{AllUpTo}

-- no number of two parts is above a limit
pub up_to_append : (limit : ℕ) (a b : List ℕ) → AllUpTo limit (a ++ b) → AllUpTo limit a × AllUpTo limit b
unfolding AllUpTo
up_to_append limit [] b all = (tt, all)
up_to_append limit (i ∷ a) b all =
    let rest = up_to_append limit a b all.1 in
    ((all.0, rest.0), rest.1)

-- numbers that are at most a limit, each by its index
pub up_to : (limit : ℕ) (is : List ℕ) → ((n : ℕ) → get_or is n 0 ≤ limit) → AllUpTo limit is
unfolding AllUpTo
up_to limit [] h = tt
up_to limit (i ∷ is) h = (h 0, up_to limit is (λ n. h (suc n)))

module _ (G : ℕ → Production) (top : ℕ) where
  mutual
    unfolding Right RightRow nodes row_nodes flat flats least_choice least_choices

    -- one number a node
    pub length_least : (T : Tree) (A i : ℕ) → Right G T A → length (flat (least_choice G top T i)) ≡ length (nodes T)
    length_least (node p row) A i f = omega (arith, length_row row (G p).right i f.1)

    length_row : (row : Row) (ss : List Symbol) (i : ℕ) → RightRow G row ss → length (flats (least_choices G top row ss i)) ≡ length (row_nodes row)
    length_row end ss i f = refl
    length_row (token t row) [] i f = absurd f
    length_row (child T row) [] i f = absurd f
    length_row (token t row) (s ∷ ss) i f = length_row row ss i f.2
    length_row (child T row) (s ∷ ss) i f = simp (length-append, length_least T s.number (least s.relation i (set_of G top T)) f.1, length_row row ss i f.2)

  -- the root's number is the first
  pub root_up_to : (limit : ℕ) (T : Tree) (i : ℕ) → AllUpTo limit (flat (least_choice G top T i)) → i ≤ limit
  unfolding AllUpTo flat least_choice
  root_up_to limit (node p row) i all = all.0

  -- a set is read where the sets of its tree stand
  pub set_read : (T : Tree) (sets after : List ℕ) (n : ℕ) {S : Set} → drop (2 * n) sets ≡ sets_of G top T ++ after → S.low ≡ get_or sets (2 * n) 0 → S.high ≡ get_or sets (2 * n + 1) 0 → S ≡ set_of G top T
  unfolding sets_of
  set_read (node p row) sets after n stand low high = set_there sets (row_sets G top row ++ after) (2 * n) stand low high
