-- The steps of the set pass, each a law: what a node's row leaves is its own set, and what a token or a child leaves is met before the rest of the row.
use Rattle.std.proofs.Common.{◌≡◌, refl, sym, ap, ◌∙◌, ℕ, ◌+◌, ◌*◌, ◌<◌, ◌≤◌, List, [], ◌∷◌, length, get_or, length-append, arith, Some}
use Rattle.std.specs.declared.ops.Range.{Range}
use Rattle.std.proofs.iter.Yields.{nat_range_steps}
use Rattle.fields.specs.Images.{Images}
use Rattle.rules.specs.Grammar.{Symbol}
use Rattle.rules.specs.Tree.{Tree, node, Row}
use Rattle.rules.specs.Derivation.{nodes, row_nodes, tokens, row_tokens}
use Rattle.rules.specs.Stored.{unbounded}
use Rattle.rules.specs.Interval.{all_set, meet, token_leaves, child_leaves, set_of, row_set, sets_of, row_sets}
use Rattle.rules.specs.declared.relation.Set.{Set}
use Rattle.rules.specs.Walk.{no_token}
use Rattle.rules.proofs.Shapes.{length_sets}
use Rattle.grammar_image.specs.GrammarImage.{count_of, symbol_at, production_at, SymbolIs}
use Rattle.grammar_image.specs.Kinds.{kind_of}
use Rattle.grammar_image.specs.declared.Kind.TheVariants.{Terminal, Nonterminal}
use Rattle.grammar_image.specs.declared.Symbol.{Symbol as SymbolRead}
use Rattle.token_image.specs.declared.Token.{Token as TokenRead}
use Rattle.token_image.specs.TokenImage.{token_count, tokens_of, TokenIs}
use Rattle.tree_image.specs.TreeImage.{node_count, node_at, nodes_of}
use Rattle.token_image.proofs.Lists.{length_tokens, token_of}
use Rattle.tree_image.proofs.Lists.{length_nodes}
use Rattle.layout.specs.Standing.{TreeIn, RowIn, SomeTree, SomeRow}
use Rattle.layout.specs.Written.{written_at}
use Rattle.images.proofs.Rows.{listed_turn}
use Rattle.layout.proofs.Rows.{row_at, row_none, RowOf, entries_of, row_of_node, row_symbols, row_behind as behind_tree, TokenNext, token_in, token_stands, ChildNext, child_in, child_stands}
use Rattle.layout.proofs.Sets.{set_written}
use Rattle.layout.proofs.Standing.{Opened, opened, tree_opened, TokenFirst, token_first, ChildFirst, child_first, row_ended, node_within}
use Rattle.layout.proofs.Written.{written_none, written_then, written_before}
use Rattle.set_pass.specs.declared.next.Next.{Next}
use Rattle.set_pass.specs.Next.{next_node, next_token}
use Rattle.set_pass.specs.Passes.{NodePassed, RowPassed, RowStored}

module _ (s : Images) where
  -- a tree and a row of the images, opened
  abbrev OpenedIn : ℕ → ℕ → Tree → Type 0
  OpenedIn = Opened (production_at s.grammar) (nodes_of s.tree) (tokens_of s.tokens)

  abbrev TokenIn : List Symbol → ℕ → ℕ → Row → Type 0
  TokenIn = TokenFirst (production_at s.grammar) (nodes_of s.tree) (tokens_of s.tokens)

  abbrev ChildIn : List Symbol → ℕ → ℕ → Row → Type 0
  ChildIn = ChildFirst (production_at s.grammar) (nodes_of s.tree) (tokens_of s.tokens)

  -- what the pass gives, whichever tree or row stands from node n and token k on
  abbrev NodeDone : ℕ → ℕ → List ℕ → List ℕ → Next → Type 0
  NodeDone n k old new next = (T : Tree) → TreeIn s n k T → NodePassed s.grammar T n k old new next

  abbrev pub RowDone : List Symbol → Set → ℕ → ℕ → List ℕ → List ℕ → Set → Next → Type 0
  RowDone ss S n k old new left next = (R : Row) → RowIn s ss n k R → RowPassed s.grammar R ss S n k old new left next

  abbrev SetHere : ℕ → ℕ → Set → Type 0
  SetHere n k S = (T : Tree) → TreeIn s n k T → S ≡ set_of (production_at s.grammar) unbounded T

  -- the row of node n
  module _ {n k : ℕ} {entries : Range ℕ} (row-of : RowOf s.grammar s.tree n entries) where
    -- where a tree stands, it stands behind the node
    pub row_behind : SomeTree s n k → SomeRow s (row_at s.grammar entries) (n + 1) k
    row_behind t = let row = behind_tree s.grammar s.tree row-of t.stands in record { there = row.0; stands = row.1 }

    module _ {old new : List ℕ} {next : Next} (row : (R : Row) → RowIn s (row_at s.grammar entries) (n + 1) k R → RowStored s.grammar R (row_at s.grammar entries) n k old new next) where
      opened_passed : (T : Tree) → OpenedIn n k T → NodePassed s.grammar T n k old new next
      unfolding set_of sets_of nodes tokens
      opened_passed T (opened R h at) =
          let symbols-are = row_symbols s.grammar s.tree n h row-of in
          let below = row R (rw (← symbols-are) at) in
          let leaves : List Symbol → Set = λ ss. row_set (production_at s.grammar) unbounded R ss (all_set unbounded) in
          record {
            node = omega (arith, below.node);
            token = below.token;
            sets = below.sets
                ∙ ap (λ (ss : List Symbol). written_at (2 * n) ((leaves ss).low ∷ (leaves ss).high ∷ row_sets (production_at s.grammar) unbounded R) old) (sym symbols-are);
          }

      -- the sets of a row with that of its node before them are those of the tree
      pub node_passed : NodeDone n k old new next
      node_passed T t = opened_passed T (tree_opened _ _ _ n k T t)

    module _ {S : Set} {old new : List ℕ} {left : Set} {next : Next} (all : S ≡ all_set unbounded) (row : RowDone (row_at s.grammar entries) S (n + 1) k old new left next) where
      opened_set : (T : Tree) → OpenedIn n k T → left ≡ set_of (production_at s.grammar) unbounded T
      unfolding set_of
      opened_set T (opened R h at) =
          let symbols-are = row_symbols s.grammar s.tree n h row-of in
          rw (symbols-are, ← all) (row R (rw (← symbols-are) at)).set

      -- what a row leaves of all whole numbers is the set of its node
      pub node_set : SetHere n k left
      node_set T t = opened_set T (tree_opened _ _ _ n k T t)

  -- the set of a node is stored before those of its row
  pub row_stored : {ss : List Symbol} {S : Set} {n k : ℕ} {old new final : List ℕ} {left : Set} {next : Next} → S ≡ all_set unbounded → 2 * n + 2 ≤ length old →
      RowDone ss S (n + 1) k old new left next → final ≡ written_at (2 * n) (left.low ∷ left.high ∷ []) new →
      (R : Row) → RowIn s ss (n + 1) k R → RowStored s.grammar R ss n k old final next
  row_stored {n = n} {old = old} {left = left} all room row stored R at =
      let below = row R at in
      let behind : 2 * (n + 1) ≡ 2 * n + 2 = omega arith in
      let set = rw all at below.set in
      record {
        node = below.node;
        token = below.token;
        sets = rw (← set) (rw (stored, rw behind at below.sets, written_before (2 * n) (left.low ∷ left.high ∷ []) (row_sets (production_at s.grammar) unbounded R) old room));
      }

  -- no symbol is left: the set stays, and nothing is written
  pub row_end_passed : (entries : Range ℕ) {n k : ℕ} {S : Set} {old : List ℕ} {next : Next} → entries.end ≤ entries.start → next_node next ≡ n → next_token next ≡ k → RowDone (row_at s.grammar entries) S n k old old S next
  unfolding row_set row_sets row_nodes row_tokens
  row_end_passed entries {n} {k} {S} {old} none e f R at =
      let over = row_none s.grammar entries none in
      rw (over, row_ended _ _ _ n k R (rw over at at)) (record { set = refl; node = omega arith; token = omega arith; sets = sym (written_none (2 * n) old) })

  -- node n has an empty row
  module _ (n k : ℕ) (next : Next) (none : count_of s.grammar (node_at s.tree n) ≡ 0) (e : next_node next ≡ n + 1) (f : next_token next ≡ k) where
    row_done : (old : List ℕ) → RowDone (row_at s.grammar (entries_of s.grammar s.tree n)) (all_set unbounded) (n + 1) k old old (all_set unbounded) next
    row_done old = row_end_passed (entries_of s.grammar s.tree n) (omega (arith, none)) e f

    -- its set is all whole numbers
    pub empty_set_lem : SetHere n k (all_set unbounded)
    empty_set_lem = node_set (row_of_node s.grammar s.tree n) refl (row_done [])

    -- and nothing else is written
    pub empty_passed : {old final : List ℕ} {S : Set} → S ≡ all_set unbounded → 2 * n + 2 ≤ length old → final ≡ written_at (2 * n) (S.low ∷ S.high ∷ []) old → NodeDone n k old final next
    empty_passed {old} all room stored = node_passed (row_of_node s.grammar s.tree n) (row_stored refl room (row_done old) (rw all at stored))

  -- the set of a child is read back where it was written
  pub child_set : {n k : ℕ} {old new : List ℕ} {next : Next} {S : Set} → 2 * n ≤ length old → S.low ≡ get_or new (2 * n) 0 → S.high ≡ get_or new (2 * n + 1) 0 → NodeDone n k old new next → SetHere n k S
  unfolding sets_of
  child_set {n} {old = old} room low high done (node p R) there = set_written (2 * n) (row_sets (production_at s.grammar) unbounded R) old room (done (node p R) there).sets low high

  -- symbol y, which the reader gives as r, comes first of some entries, and the others are left
  module _ {from others : Range ℕ} {y n k : ℕ} {r : SymbolRead} (turn : nat_range_steps from (Some y) others) (symbol : SymbolIs s.grammar y r) where
    -- a terminal: the token that is next
    module _ (terminal : Terminal ≡ kind_of r.kind) where
      token_here : SomeRow s (row_at s.grammar from) n k → TokenNext s.grammar s.tree (tokens_of s.tokens) (row_at s.grammar others) n k
      token_here row = token_stands s.grammar s.tree turn symbol terminal row.stands

      -- so there is a token k
      pub token_within : SomeRow s (row_at s.grammar from) n k → k < token_count s.tokens
      token_within row = omega (arith, length_tokens s.tokens, (token_here row).there)

      -- the rest of the row stands behind it
      pub row_after_token : SomeRow s (row_at s.grammar from) n k → SomeRow s (row_at s.grammar others) n (k + 1)
      row_after_token row = let here = token_here row in record { there = here.rest; stands = here.behind }

      module _ {t : TokenRead} {S left last : Set} {old new : List ℕ} {next : Next} (read : TokenIs s.tokens k t) (leaves : left ≡ meet S (token_leaves unbounded r.relation t.column))
          (rest : RowDone (row_at s.grammar others) left n (k + 1) old new last next) where
        first_token : (R : Row) → TokenIn (row_at s.grammar others) n k R → RowPassed s.grammar R (row_at s.grammar from) S n k old new last next
        unfolding row_set row_sets row_nodes row_tokens
        first_token R (token_first later h at) =
            let below = rest later at in
            let same : left ≡ meet S (token_leaves unbounded (symbol_at s.grammar y).relation (get_or (tokens_of s.tokens) k no_token).column) = rw (token_of s.tokens k no_token (omega (arith, length_tokens s.tokens)), ← read.column, ← symbol.relation) leaves in
            rw (listed_turn (symbol_at s.grammar) turn) (record {
              set = below.set ∙ ap (row_set (production_at s.grammar) unbounded later (row_at s.grammar others)) same;
              node = below.node;
              token = omega (arith, below.token);
              sets = below.sets;
            })

        -- it is met before the rest of the row
        pub token_passed : RowDone (row_at s.grammar from) S n k old new last next
        token_passed R at = first_token R (token_in s.grammar s.tree turn symbol terminal R at)

    -- a nonterminal: the tree that is next
    module _ (nonterminal : Nonterminal ≡ kind_of r.kind) where
      child_here : SomeRow s (row_at s.grammar from) n k → ChildNext s.grammar s.tree (tokens_of s.tokens) (row_at s.grammar others) n k
      child_here row = child_stands s.grammar s.tree turn symbol nonterminal row.stands

      -- it stands there
      pub tree_here : SomeRow s (row_at s.grammar from) n k → SomeTree s n k
      tree_here row = let here = child_here row in record { there = here.child; stands = here.stands }

      module _ {old new : List ℕ} {next : Next} (passed-child : NodeDone n k old new next) where
        -- the node that comes next is behind it
        pub next_behind : SomeRow s (row_at s.grammar from) n k → n ≤ next_node next
        next_behind row =
            let here = child_here row in
            omega (arith, (passed-child here.child here.stands).node)

        -- and the rest of the row stands there
        pub row_after_child : SomeRow s (row_at s.grammar from) n k → SomeRow s (row_at s.grammar others) (next_node next) (next_token next)
        row_after_child row =
            let here = child_here row in
            let first = passed-child here.child here.stands in
            record { there = here.rest; stands = rw (first.node, first.token) here.behind }

        module _ {S below left last : Set} {final : List ℕ} {behind : Next} (room : 2 * node_count s.tree ≤ length old) (here : SetHere n k below)
            (leaves : left ≡ meet S (child_leaves unbounded r.relation below))
            (rest : RowDone (row_at s.grammar others) left (next_node next) (next_token next) new final last behind) where
          first_child : (R : Row) → ChildIn (row_at s.grammar others) n k R → RowPassed s.grammar R (row_at s.grammar from) S n k old final last behind
          unfolding row_set row_sets row_nodes row_tokens
          first_child R (child_first T later there at) =
              let first = passed-child T there in
              let after = rest later (rw (first.node, first.token) at) in
              let same : left ≡ meet S (child_leaves unbounded (symbol_at s.grammar y).relation (set_of (production_at s.grammar) unbounded T)) = rw (← here T there, ← symbol.relation) leaves in
              let twice : 2 * next_node next ≡ 2 * n + length (sets_of (production_at s.grammar) unbounded T) = omega (arith, first.node, length_sets (production_at s.grammar) unbounded T) in
              let within : 2 * n ≤ length old = omega (arith, length_nodes s.tree, node_within _ _ _ n k T there) in
              rw (listed_turn (symbol_at s.grammar) turn) (record {
                set = after.set ∙ ap (row_set (production_at s.grammar) unbounded later (row_at s.grammar others)) same;
                node = rw length-append (omega (arith, first.node, after.node));
                token = rw length-append (omega (arith, first.token, after.token));
                sets = rw (after.sets, twice, first.sets) (written_then (2 * n) (sets_of (production_at s.grammar) unbounded T) (row_sets (production_at s.grammar) unbounded later) old within);
              })

          -- its set is met before the rest of the row
          pub child_passed : RowDone (row_at s.grammar from) S n k old final last behind
          child_passed R at = first_child R (child_in s.grammar s.tree turn symbol nonterminal R at)
