-- The computed set of a node is the set of the node: a row's set has just the numbers that every symbol of the row leaves.
-- Below each of these the least numbers are a choice, and no choice has another number at the node.
use Rattle.std.proofs.Common.{◌≡◌, refl, List, [], ◌∷◌, ◌++◌, ℕ, ◌<◌, ◌≤◌, arith}
use Rattle.rules.specs.Grammar.{Symbol, Production, Token, HasColumn, ColumnsUpTo}
use Rattle.rules.specs.Tree.{Tree, node, Row, end, token, child}
use Rattle.rules.specs.Derivation.{Right, RightRow, tokens, row_tokens}
use Rattle.rules.specs.Choice.{Choice, given, Choices, none, next, root, Laid, LaidRow, InSet}
use Rattle.rules.specs.Interval.{In, all_set, child_leaves, token_leaves, meet, least, set_of, row_set, least_choice, least_choices}
use Rattle.rules.specs.declared.relation.Set.{Set}
use Rattle.rules.proofs.Relations.{Fits, child_up, child_least, token_up, token_holds, meet_in, in_meet, child_fits, token_fits, meet_fits}

-- the columns of two lists, one behind the other
pub columns_append : (M : ℕ) (a b : List Token) → ColumnsUpTo M (a ++ b) → ColumnsUpTo M a × ColumnsUpTo M b
unfolding ColumnsUpTo
columns_append M [] b c = (tt, c)
columns_append M (t ∷ a) b c = let rest = columns_append M a b c.1 in ((c.0, rest.0), rest.1)

module _ (G : ℕ → Production) (top : ℕ) where
  -- the least choice with i at the root has it there
  pub root_least : (T : Tree) (i : ℕ) → root (least_choice G top T i) ≡ i
  unfolding root least_choice
  root_least (node p row) i = refl

  -- S has just the numbers that a tree's choices have at its root
  record Tells (T : Tree) (S : Set) : Type 0 where
    fits : Fits top S
    up : (C : Choice) → Laid G T C → In top S (root C)
    down : (i : ℕ) → In top S i → Laid G T (least_choice G top T i)

  -- X has just the numbers of S that a row can stand below
  record RowTells (row : Row) (ss : List Symbol) (S X : Set) : Type 0 where
    fits : Fits top X
    up : (i : ℕ) (Cs : Choices) → In top S i → LaidRow G row ss i Cs → In top X i
    down : (i : ℕ) → In top X i → In top S i × LaidRow G row ss i (least_choices G top row ss i)

  node_tells : (p : ℕ) (row : Row) (X : Set) → RowTells row (G p).right (all_set top) X → Tells (node p row) X
  unfolding root Laid least_choice
  node_tells p row X below = record { fits = below.fits; up = up; down = λ i h. (below.down i h).1 }
    where
      up : (C : Choice) → Laid G (node p row) C → In top X (root C)
      up (given i Cs) h = below.up i Cs (omega arith) h

  module _ (row : Row) (s : Symbol) (ss : List Symbol) (S X : Set) (h : Fits top S) where
    token_tells : (t : Token) → 1 ≤ top → (HasColumn t → t.column < top) → Fits top (token_leaves top s.relation t.column) →
        RowTells row ss (meet S (token_leaves top s.relation t.column)) X → RowTells (token t row) (s ∷ ss) S X
    unfolding LaidRow least_choices
    token_tells t one room g rest = record {
      fits = rest.fits;
      up = λ i Cs l k. rest.up i Cs (meet_in top i S _ h g l (token_up top s.relation i t room k.0)) k.1;
      down = λ i l.
          let d = rest.down i l in
          let both = in_meet top i S _ h g d.0 in
          (both.0, (token_holds top s.relation i t one room both.1, d.1));
    }

    child_tells : (T : Tree) → Tells T (set_of G top T) → Fits top (child_leaves top s.relation (set_of G top T)) →
        RowTells row ss (meet S (child_leaves top s.relation (set_of G top T))) X → RowTells (child T row) (s ∷ ss) S X
    unfolding LaidRow least_choices
    child_tells T this g rest = record {
      fits = rest.fits;
      up = up;
      down = λ i l.
          let d = rest.down i l in
          let both = in_meet top i S _ h g d.0 in
          let low = child_least top s.relation i _ this.fits both.1 in
          (both.0, (rw (root_least T (least s.relation i (set_of G top T))) low.1, this.down _ low.0, d.1));
    }
      where
        up : (i : ℕ) (Cs : Choices) → In top S i → LaidRow G (child T row) (s ∷ ss) i Cs → In top X i
        up i none l k = absurd k
        up i (next C Cs) l k = rest.up i Cs (meet_in top i S _ h g l (child_up top s.relation i (root C) _ this.fits (this.up C k.1) k.0)) k.2

  module _ (M : ℕ) (room : M < top) where
    mutual
      unfolding Right RightRow tokens row_tokens ColumnsUpTo set_of row_set LaidRow least_choices

      set_tells : (T : Tree) (A : ℕ) → Right G T A → ColumnsUpTo M (tokens T) → Tells T (set_of G top T)
      set_tells (node p row) A f c = node_tells p row _ (row_tells row (G p).right (all_set top) f.1 c (omega arith))

      row_tells : (row : Row) (ss : List Symbol) (S : Set) → RightRow G row ss → ColumnsUpTo M (row_tokens row) → Fits top S → RowTells row ss S (row_set G top row ss S)
      row_tells end [] S f c h = record { fits = h; up = λ i Cs l k. l; down = λ i l. (l, tt) }
      row_tells end (s ∷ ss) S f c h = absurd f
      row_tells (token t row) [] S f c h = absurd f
      row_tells (token t row) (s ∷ ss) S f c h =
          let g = token_fits top (omega arith) s.relation t.column (λ has. omega (arith, c.0 has)) in
          token_tells row s ss S _ h t (omega arith) (λ has. omega (arith, c.0 has)) g (row_tells row ss _ f.2 c.1 (meet_fits top (omega arith) S _ h g))
      row_tells (child T row) [] S f c h = absurd f
      row_tells (child T row) (s ∷ ss) S f c h =
          let cs = columns_append M (tokens T) (row_tokens row) c in
          let this = set_tells T s.number f.1 cs.0 in
          let g = child_fits top (omega arith) s.relation (set_of G top T) this.fits in
          child_tells row s ss S _ h T this g (row_tells row ss _ f.2 cs.1 (meet_fits top (omega arith) S _ h g))

    -- every choice has a number of the computed set at its root
    pub set_in : (T : Tree) (A : ℕ) → Right G T A → ColumnsUpTo M (tokens T) → (C : Choice) → Laid G T C → In top (set_of G top T) (root C)
    set_in T A f c = (set_tells T A f c).up

    -- with each number of it at the root, the least choice has every relation hold
    pub least_laid : (T : Tree) (A i : ℕ) → Right G T A → ColumnsUpTo M (tokens T) → In top (set_of G top T) i → Laid G T (least_choice G top T i)
    least_laid T A i f c = (set_tells T A f c).down i

    -- so each number of it is in the set of the node
    pub in_set : (T : Tree) (A i : ℕ) → Right G T A → ColumnsUpTo M (tokens T) → In top (set_of G top T) i → InSet G T i
    in_set T A i f c h = record { choice = least_choice G top T i; here = root_least T i; laid = least_laid T A i f c h }

    -- and no other is
    pub set_in_each : (T : Tree) (A i : ℕ) → Right G T A → ColumnsUpTo M (tokens T) → InSet G T i → In top (set_of G top T) i
    set_in_each T A i f c h = rw h.here at (set_in T A f c h.choice h.laid)
