-- A row's loop: what is due is read, and what it leaves is met before the rest of the row.
use Rattle.std.proofs.Common.{refl, sym, ap, ◌∙◌, ℕ, ◌<◌, ◌≤◌, ◌*◌, length, arith, eqb-true}
use Rattle.rules.specs.Stored.{unbounded}
use Rattle.rules.specs.Interval.{meet, child_leaves}
use Rattle.grammar_image.specs.GrammarImage.{count_of}
use Rattle.token_image.specs.TokenImage.{token_count}
use Rattle.tree_image.specs.TreeImage.{node_count, node_at}
use Rattle.images.specs.Held.{images_of}
use Rattle.layout.specs.Standing.{SomeTree}
use Rattle.images.proofs.Within.{nodes_fit, tokens_fit}
use Rattle.layout.proofs.Rows.{node_listed, row_of}
use Rattle.set_pass.specs.Next.{next_node, next_token}
use Rattle.set_pass.proofs.SetPass.{row_behind, node_passed, row_stored, row_end_passed, empty_set_lem, empty_passed, child_set, token_within, row_after_token, token_passed, tree_here, next_behind, row_after_child, child_passed}
use Rattle.set_pass.proofs.+node_row.Goals as goal
use Rattle.set_pass.proofs.+node_row.Goals.{row-In-Terminal, row-In-Nonterminal}

pub node-production_of-production-requires : goal.node-production_of-production-requires
node-production_of-production-requires t c = omega (arith, node_listed _ _ c.requires.stands.stands)

pub node-row-requires : goal.node-row-requires
node-row-requires t c =
    let read = c.production_of-production.ensures in
    let row = row_of _ _ read.production c.entries.ensures.start c.entries.ensures.end in
    let there = node_listed _ _ c.requires.stands.stands in
    (omega arith, (omega (arith, read.row, c.entries.ensures.end), (there, (row_behind _ row c.requires.stands, c.requires.room))))

pub node-returns : goal.node-returns
node-returns t c =
    node_passed _ (row_of _ _ c.production_of-production.ensures.production c.entries.ensures.start c.entries.ensures.end) c.row.ensures

pub row-past_node-next-requires : goal.row-past_node-next-requires
row-past_node-next-requires t c = omega (arith, nodes_fit _ _ c.args.formed.now.formed.nodes_formed)

pub row-loop-y-init : goal.row-loop-y-init
row-loop-y-init t c =
    let past = c.past_node-next.ensures in
    rw (c.into_iter-y-iterator.ensures.into_iter_gives, c.all-left.ensures) (record {
      behind = omega arith;
      within = c.requires.row;
      stands = rw (past.0, past.1) c.requires.stands;
      gives = λ final last r rest. rw (past.0, past.1) at rest;
    })

-- an entry is due
pub row-symbol_at-symbol-requires : goal.row-symbol_at-symbol-requires
row-symbol_at-symbol-requires t c = omega (arith, c.in-Some.ensures.steps, c.loop-y.invariant.within)

-- a terminal is due: there is a token
token_here : (t : ℕ) (c : row-In-Terminal t) → next_token c.loop-y.next < token_count c.args.formed.now.tokens.now
token_here t c =
    let s = images_of c.args.formed.now in
    token_within s c.in-Some.ensures.steps c.symbol_at-symbol.ensures c.in-Terminal.ensures c.loop-y.invariant.stands

pub row-token_at-token-requires : goal.row-token_at-token-requires
row-token_at-token-requires t c = omega (arith, token_here t (goal.at.row-token_at-token-requires t c).In-Terminal)

pub row-past_token-next-requires : goal.row-past_token-next-requires
row-past_token-next-requires t c =
    let here = token_here t (goal.at.row-past_token-next-requires t c).In-Terminal in
    omega (arith, tokens_fit _ c.args.formed.now.formed)

pub row-loop-y-preserved-in-Terminal : goal.row-loop-y-preserved-in-Terminal
row-loop-y-preserved-in-Terminal t c =
    let s = images_of c.args.formed.now in
    let steps = c.in-Some.ensures.steps in
    let symbol = c.symbol_at-symbol.ensures in
    let terminal = c.in-Terminal.ensures in
    let inv = c.loop-y.invariant in
    let past = c.past_token-next.ensures in
    let token = c.token_at-token.ensures in
    let leaves = c.meet-left.ensures ∙ ap (meet _) c.token_leaves.ensures in
    record {
      behind = omega arith;
      within = rw steps.0 inv.within;
      stands = rw (past.0, past.1) (row_after_token s steps symbol terminal inv.stands);
      gives = λ final last r rest. inv.gives final last r (token_passed s steps symbol terminal token leaves (rw (← past.0, ← past.1) rest));
    }

-- a nonterminal is due: its tree stands there
child_here : (t : ℕ) (c : row-In-Nonterminal t) → SomeTree (images_of c.args.formed.now) (next_node c.loop-y.next) (next_token c.loop-y.next)
child_here t c =
    let s = images_of c.args.formed.now in
    tree_here s c.in-Some.ensures.steps c.symbol_at-symbol.ensures c.in-Nonterminal.ensures c.loop-y.invariant.stands

-- so there is a node, and room for its set
node_here : (t : ℕ) (c : row-In-Nonterminal t) → next_node c.loop-y.next < node_count c.args.formed.now.nodes.tree.now
node_here t c = node_listed _ _ (child_here t c).stands

pub row-is_empty-requires : goal.row-is_empty-requires
row-is_empty-requires t c = omega (arith, node_here t (goal.at.row-is_empty-requires t c).In-Nonterminal)

pub row-store-requires : goal.row-store-requires
row-store-requires t c =
    let here = node_here t (goal.at.row-store-requires t c).In-Nonterminal in
    omega arith

pub row-past_node-next-requires-then-is_empty : goal.row-past_node-next-requires-then-is_empty
row-past_node-next-requires-then-is_empty t c =
    let here = node_here t (goal.at.row-past_node-next-requires-then-is_empty t c).In-Nonterminal in
    omega (arith, nodes_fit _ _ c.args.formed.now.formed.nodes_formed)

pub row-loop-y-preserved-then-is_empty : goal.row-loop-y-preserved-then-is_empty
row-loop-y-preserved-then-is_empty t c =
    let s = images_of c.args.formed.now in
    let steps = c.in-Some.ensures.steps in
    let symbol = c.symbol_at-symbol.ensures in
    let nonterminal = c.in-Nonterminal.ensures in
    let inv = c.loop-y.invariant in
    let past = c.past_node-next-then-is_empty.ensures in
    let here = node_here t (goal.at.row-loop-y-preserved-then-is_empty t c).In-Nonterminal in
    let room : 2 * node_count s.tree ≤ length c.loop-y.sets = omega arith in
    let none = eqb-true (count_of s.grammar (node_at s.tree c.loop-y.next.node)) 0 (sym c.is_empty.ensures ∙ c.if-is_empty.true) in
    let passed = empty_passed s _ _ _ none past.0 past.1 c.all.ensures (omega arith) c.store.ensures in
    let leaves = c.meet-left-then-is_empty.ensures ∙ ap (meet _) (c.child_leaves.ensures ∙ ap (child_leaves unbounded _) c.all-then-is_empty.ensures) in
    record {
      behind = omega arith;
      within = rw steps.0 inv.within;
      stands = row_after_child s steps symbol nonterminal passed inv.stands;
      gives = λ final last r rest. inv.gives final last r (child_passed s steps symbol nonterminal passed room (empty_set_lem s _ _ _ none past.0 past.1) leaves rest);
    }

pub row-node-next-requires : goal.row-node-next-requires
row-node-next-requires t c =
    let at = (goal.at.row-node-next-requires t c).In-Nonterminal in
    let here = node_here t at in
    (omega arith, (child_here t at, omega arith))

pub row-set_at-requires : goal.row-set_at-requires
row-set_at-requires t c =
    let here = node_here t (goal.at.row-set_at-requires t c).In-Nonterminal in
    omega arith

pub row-loop-y-preserved : goal.row-loop-y-preserved
row-loop-y-preserved t c =
    let s = images_of c.args.formed.now in
    let steps = c.in-Some.ensures.steps in
    let symbol = c.symbol_at-symbol.ensures in
    let nonterminal = c.in-Nonterminal.ensures in
    let inv = c.loop-y.invariant in
    let passed = c.node-next.ensures in
    let here = node_here t (goal.at.row-loop-y-preserved t c).In-Nonterminal in
    let room : 2 * node_count s.tree ≤ length c.loop-y.sets = omega arith in
    let below = child_set s (omega arith) c.set_at.ensures.low c.set_at.ensures.high passed in
    let leaves = c.meet-left-else-is_empty.ensures ∙ ap (meet _) c.child_leaves-else-is_empty.ensures in
    record {
      behind = omega (arith, next_behind s steps symbol nonterminal passed inv.stands);
      within = rw steps.0 inv.within;
      stands = row_after_child s steps symbol nonterminal passed inv.stands;
      gives = λ final last r rest. inv.gives final last r (child_passed s steps symbol nonterminal passed room below leaves rest);
    }

pub row-returns : goal.row-returns
row-returns t c =
    let none : c.loop-y.y-iterator.end ≤ c.loop-y.y-iterator.start = omega (arith, c.in-None.ensures.steps) in
    row_stored _ refl (omega arith) (c.loop-y.invariant.gives _ _ _ (row_end_passed _ _ none refl refl))
    c.store-2.ensures
