-- The steps of the indentation pass, each a law: a node's number is written before those of its row, and those of a child before the rest of the row.
use Rattle.std.proofs.Common.{◌≡◌, sym, ◌∙◌, ℕ, ◌+◌, ◌*◌, ◌<◌, ◌≤◌, min, List, [], ◌∷◌, ◌++◌, length, get_or, slice_set, length-append, arith, Some, append_assoc}
use Rattle.std.specs.declared.ops.Range.{Range}
use Rattle.std.proofs.iter.Yields.{nat_range_steps}
use Rattle.rules.specs.Grammar.{Symbol, Token}
use Rattle.rules.specs.Tree.{Tree, Row}
use Rattle.rules.specs.Derivation.{nodes, row_nodes, tokens}
use Rattle.rules.specs.Choice.{flat, flats}
use Rattle.rules.specs.Stored.{unbounded}
use Rattle.rules.specs.Interval.{set_of, sets_of, row_sets, least, least_choice, least_choices}
use Rattle.rules.specs.declared.relation.Set.{Set}
use Rattle.rules.proofs.Lists.{front_met}
use Rattle.rules.proofs.Shapes.{length_sets}
use Rattle.grammar_image.specs.GrammarImage.{count_of, symbol_at, production_at, SymbolIs}
use Rattle.grammar_image.specs.Kinds.{kind_of}
use Rattle.grammar_image.specs.declared.Kind.TheVariants.{Terminal, Nonterminal}
use Rattle.grammar_image.specs.declared.Symbol.{Symbol as SymbolRead}
use Rattle.tree_image.specs.TreeImage.{node_count, node_at, nodes_of}
use Rattle.tree_image.proofs.Lists.{length_nodes}
use Rattle.layout.specs.Standing.{TreeListed, RowListed, SomeTreeListed, SomeRowListed}
use Rattle.indentation_pass.specs.Passes.{AllUpTo, NodeGiven, RowGiven}
use Rattle.indentation_pass.proofs.LeastNumbers.{up_to_append, length_least, root_up_to, set_read}
use Rattle.images.proofs.Rows.{listed_turn}
use Rattle.layout.proofs.Rows.{row_at, row_none, node_listed, RowOf, entries_of, row_of_node, row_symbols, row_behind as behind_tree, token_in, token_stands, ChildNext, child_in, child_stands}
use Rattle.layout.proofs.Standing.{Opened, opened, tree_opened, TokenFirst, token_first, ChildFirst, child_first, row_ended, node_within}
use Rattle.layout.proofs.Written.{written_none, written_one, written_then}

module _ (grammar tree : List ℕ) where
  -- a tree and a row of the images, opened
  abbrev OpenedIn : List Token → ℕ → ℕ → Tree → Type 0
  OpenedIn = Opened (production_at grammar) (nodes_of tree)

  abbrev TokenIn : List Token → List Symbol → ℕ → ℕ → Row → Type 0
  TokenIn = TokenFirst (production_at grammar) (nodes_of tree)

  abbrev ChildIn : List Token → List Symbol → ℕ → ℕ → Row → Type 0
  ChildIn = ChildFirst (production_at grammar) (nodes_of tree)

  -- what a pass gives, whichever tree or row stands from node n on
  abbrev pub NodeDone : ℕ → ℕ → List ℕ → List ℕ → List ℕ → ℕ → Type 0
  NodeDone n i sets old new next = (ts : List Token) (k : ℕ) (T : Tree) → TreeListed grammar tree ts n k T → NodeGiven grammar T n i sets old new next

  abbrev pub RowDone : List Symbol → ℕ → ℕ → List ℕ → List ℕ → List ℕ → ℕ → Type 0
  RowDone ss n i sets old new next = (ts : List Token) (k : ℕ) (R : Row) → RowListed grammar tree ts ss n k R → RowGiven grammar R ss n i sets old new next

  -- a row from node n on got as far as node `next`: the symbols that are left stand there, and what they give completes what the whole row gives
  pub record RowReached (entries left : Range ℕ) (n next i : ℕ) (sets old now : List ℕ) : Type 0 where
    pub end : left.end ≡ entries.end
    pub nodes : n ≤ next
    pub places : length now ≡ length old
    pub stands : SomeRowListed grammar tree (row_at grammar left) next
    pub completes : (final : List ℕ) (r : ℕ) → RowDone (row_at grammar left) next i sets now final r → RowDone (row_at grammar entries) n i sets old final r

  -- the row of node n
  module _ (n : ℕ) {entries : Range ℕ} (row : RowOf grammar tree n entries) where
    -- it stands behind the node
    pub row_behind : SomeTreeListed grammar tree n → SomeRowListed grammar tree (row_at grammar entries) (n + 1)
    row_behind s = let at = behind_tree grammar tree row s.stands in record { ts = s.ts; k = s.k; there = at.0; stands = at.1 }

    module _ {i next : ℕ} {sets old new : List ℕ} (room : node_count tree ≤ length old) (rest : RowDone (row_at grammar entries) (n + 1) i sets (slice_set old n i) new next) where
      opened_given : {ts : List Token} {k : ℕ} (T : Tree) → OpenedIn ts n k T → NodeGiven grammar T n i sets old new next
      unfolding nodes sets_of least_choice flat AllUpTo
      opened_given {ts} {k} T (opened R h at) =
          let same = row_symbols grammar tree n h row in
          let below = rw (← same) at (rest ts k R (rw (← same) at)) in
          let inside : n < length old = omega (arith, length_nodes tree) in
          let twice : 2 * n + 2 ≡ 2 * (n + 1) = omega arith in
          record {
            node = omega (arith, below.node);
            given = λ after stand all.
                rw (below.given after (rw (← twice) (front_met sets (2 * n) (_ ∷ _ ∷ []) _ stand)) all.1, written_one old n i inside, written_then n (i ∷ []) _ old (omega arith));
          }

      -- its number is written before those of its row
      pub node_given : NodeDone n i sets old new next
      node_given ts k T s = opened_given T (tree_opened _ _ _ _ _ T s)

  -- no symbol is left: nothing is written
  pub row_end_given : (entries : Range ℕ) {n i : ℕ} {sets old : List ℕ} → entries.end ≤ entries.start → RowDone (row_at grammar entries) n i sets old old n
  unfolding row_nodes least_choices flats
  row_end_given entries {n} {old = old} none ts k R at =
      let over = row_none grammar entries none in
      rw (over, row_ended _ _ _ n k R (rw over at at)) (record { node = omega arith; given = λ after stand all. sym (written_none n old) })

  -- the row of node n is empty: its number alone is written
  pub empty_given : (n : ℕ) {i : ℕ} {sets old : List ℕ} → count_of grammar (node_at tree n) ≡ 0 → node_count tree ≤ length old → NodeDone n i sets old (slice_set old n i) (n + 1)
  empty_given n none room =
      node_given n (row_of_node grammar tree n) room (row_end_given (entries_of grammar tree n) (omega (arith, none)))

  -- symbol y, which the reader gives as s, comes first of some entries, and the others are left
  module _ {from left : Range ℕ} {y : ℕ} {s : SymbolRead} (turn : nat_range_steps from (Some y) left) (symbol : SymbolIs grammar y s) where
    -- a terminal
    module _ {n : ℕ} (terminal : Terminal ≡ kind_of s.kind) where
      -- the rest of the row stands at the same node
      row_after_token : SomeRowListed grammar tree (row_at grammar from) n → SomeRowListed grammar tree (row_at grammar left) n
      row_after_token r =
          let here = token_stands grammar tree turn symbol terminal r.stands in
          record { ts = r.ts; k = r.k + 1; there = here.rest; stands = here.behind }

      module _ {i next : ℕ} {sets old new : List ℕ} (rest : RowDone (row_at grammar left) n i sets old new next) where
        first_token : {ts : List Token} {k : ℕ} (R : Row) → TokenIn ts (row_at grammar left) n k R → RowGiven grammar R (row_at grammar from) n i sets old new next
        unfolding row_nodes row_sets least_choices flats
        first_token {ts} {k} R (token_first later h at) =
            let below = rest ts (k + 1) later at in
            rw (listed_turn (symbol_at grammar) turn) (record { node = below.node; given = below.given })

        -- a token has no number
        token_given : RowDone (row_at grammar from) n i sets old new next
        token_given ts k R at = first_token R (token_in grammar tree turn symbol terminal R at)

      pub token_reached : {entries : Range ℕ} {m i : ℕ} {sets old now : List ℕ} → RowReached entries from m n i sets old now → RowReached entries left m n i sets old now
      token_reached row =
          record {
            end = turn.0 ∙ row.end;
            nodes = row.nodes;
            places = row.places;
            stands = row_after_token row.stands;
            completes = λ final r rest. row.completes final r (token_given rest);
          }

    -- a nonterminal
    module _ {n : ℕ} (nonterminal : Nonterminal ≡ kind_of s.kind) where
      child_here : (r : SomeRowListed grammar tree (row_at grammar from) n) → ChildNext grammar tree r.ts (row_at grammar left) n r.k
      child_here r = child_stands grammar tree turn symbol nonterminal r.stands

      -- its tree stands there
      pub tree_here : SomeRowListed grammar tree (row_at grammar from) n → SomeTreeListed grammar tree n
      tree_here r = let here = child_here r in record { ts = r.ts; k = r.k; there = here.child; stands = here.stands }

      -- so the next node is one of the tree image
      pub child_listed : SomeRowListed grammar tree (row_at grammar from) n → n < node_count tree
      child_listed r = node_listed grammar tree (tree_here r).stands

      module _ {j next : ℕ} {sets old new : List ℕ} (first : NodeDone n j sets old new next) where
        -- and the rest of the row behind it
        row_after_child : SomeRowListed grammar tree (row_at grammar from) n → SomeRowListed grammar tree (row_at grammar left) next × (n ≤ next)
        row_after_child r =
            let here = child_here r in
            let below = first r.ts r.k here.child here.stands in
            (record { ts = r.ts; k = r.k + length (tokens here.child); there = here.rest; stands = rw below.node here.behind }, omega (arith, below.node))

        module _ {i last : ℕ} {S : Set} {final : List ℕ} (room : node_count tree ≤ length old) (low : S.low ≡ get_or sets (2 * n) 0) (high : S.high ≡ get_or sets (2 * n + 1) 0)
            (number : j ≡ min (least s.relation i S) unbounded) (rest : RowDone (row_at grammar left) next i sets new final last) where
          first_child : {ts : List Token} {k : ℕ} (R : Row) → ChildIn ts (row_at grammar left) n k R → RowGiven grammar R (row_at grammar from) n i sets old final last
          unfolding row_nodes row_sets least_choices flats
          first_child {ts} {k} R (child_first T later there at) =
              let G = production_at grammar in
              let due = least (symbol_at grammar y).relation i (set_of G unbounded T) in
              let w = flats (least_choices G unbounded later (row_at grammar left) i) in
              let above = first ts k T there in
              let below = rest ts (k + length (tokens T)) later (rw above.node at) in
              rw (listed_turn (symbol_at grammar) turn) (record {
                node = rw length-append (omega (arith, above.node, below.node));
                given = λ after stand all.
                    let x = row_sets G unbounded later ++ after in
                    let placed = rw append_assoc at stand in
                    let both = up_to_append unbounded (flat (least_choice G unbounded T due)) w all in
                    let set = set_read G unbounded T sets x n placed low high in
                    let same : j ≡ due = rw (← set, ← symbol.relation) (omega (arith, rw (← set, ← symbol.relation) at (root_up_to G unbounded unbounded T due both.0))) in
                    let v = flat (least_choice G unbounded T j) in
                    let long : next ≡ n + length v = omega (arith, above.node, length_least G unbounded T there.left j there.right) in
                    let behind : 2 * next ≡ 2 * n + length (sets_of G unbounded T) = omega (arith, above.node, length_sets G unbounded T) in
                    let written = above.given x placed (rw same both.0) in
                    let rest-written = below.given after (rw behind (front_met sets (2 * n) (sets_of G unbounded T) x placed)) both.1 in
                    rw (rest-written, written, long, written_then n v w old (omega (arith, length_nodes tree, node_within _ _ _ n k T there)), same);
              })

          -- its numbers are written before those of the rest
          child_given : RowDone (row_at grammar from) n i sets old final last
          child_given ts k R at = first_child R (child_in grammar tree turn symbol nonterminal R at)

        pub child_reached : {entries : Range ℕ} {m i : ℕ} {S : Set} {start : List ℕ} → node_count tree ≤ length start → S.low ≡ get_or sets (2 * n) 0 → S.high ≡ get_or sets (2 * n + 1) 0 →
            j ≡ min (least s.relation i S) unbounded → length new ≡ length old → RowReached entries from m n i sets start old → RowReached entries left m next i sets start new
        child_reached {S = S} room low high number same row =
            let rest = row_after_child row.stands in
            record {
              end = turn.0 ∙ row.end;
              nodes = omega (arith, rest.1, row.nodes);
              places = same ∙ row.places;
              stands = rest.0;
              completes = λ final r later. row.completes final r (child_given {S = S} (omega (arith, room, row.places)) low high number later);
            }
