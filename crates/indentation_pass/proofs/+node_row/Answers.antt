use Rattle.std.proofs.Common.{◌≡◌, refl, sym, ◌∙◌, arith, eqb-true}
use Rattle.std.proofs.Math.ListN.{length-set}
use Rattle.images.proofs.Within.{nodes_fit}
use Rattle.layout.proofs.Rows.{node_listed, row_of}
use Rattle.indentation_pass.proofs.IndentationPass.{row_behind, node_given, row_end_given, empty_given, token_reached, tree_here, child_listed, child_reached}
use Rattle.indentation_pass.proofs.+node_row.Goals as goal

pub node-bounds-indentations-from : goal.node-bounds-indentations-from
node-bounds-indentations-from t c = omega (arith, node_listed _ _ c.requires.stands.stands)

pub node-production_of-production-requires : goal.node-production_of-production-requires
node-production_of-production-requires t c = node_listed _ _ c.requires.stands.stands

pub node-overflow_add-n : goal.node-overflow_add-n
node-overflow_add-n t c = omega (arith, node_listed _ _ c.requires.stands.stands, nodes_fit _ _ c.args.nodes.now.formed)

pub node-row-requires : goal.node-row-requires
node-row-requires t c =
    let read = c.production_of-production.ensures in
    let row = row_of _ _ read.production c.entries.ensures.start c.entries.ensures.end in (
      omega (arith, node_listed _ _ c.requires.stands.stands),
      (omega (arith, read.row, c.entries.ensures.end), (row_behind _ _ _ row c.requires.stands, (c.requires.sets, rw length-set c.requires.room))),
    )

pub node-returns : goal.node-returns
node-returns t c =
    let place : c.from.result ≡ c.args.n = omega arith in
    node_given _ _ _ (row_of _ _ c.production_of-production.ensures.production c.entries.ensures.start c.entries.ensures.end) c.requires.room (rw place at c.row.ensures)

pub row-loop-y-init : goal.row-loop-y-init
row-loop-y-init t c =
    rw c.into_iter-y-iterator.ensures.into_iter_gives
    (record { end = refl; nodes = omega arith; places = refl; stands = c.requires.stands; completes = λ final r done. done })

pub row-loop-y-preserved-in-Terminal : goal.row-loop-y-preserved-in-Terminal
row-loop-y-preserved-in-Terminal t c = token_reached _ _ c.in-Some.ensures.steps c.symbol_at-symbol.ensures c.in-Terminal.ensures c.loop-y.invariant

-- the tree of a nonterminal stands at the next node, whose number fits 16 bits and has a place in the list
pub row-set_at-requires : goal.row-set_at-requires
row-set_at-requires t c =
    omega (arith, c.requires.sets, child_listed _ _ c.in-Some.ensures.steps c.symbol_at-symbol.ensures c.in-Nonterminal.ensures c.loop-y.invariant.stands)

pub row-is_empty-requires : goal.row-is_empty-requires
row-is_empty-requires t c = child_listed _ _ c.in-Some.ensures.steps c.symbol_at-symbol.ensures c.in-Nonterminal.ensures c.loop-y.invariant.stands

pub row-bounds-indentations-from : goal.row-bounds-indentations-from
row-bounds-indentations-from t c =
    omega (arith, child_listed _ _ c.in-Some.ensures.steps c.symbol_at-symbol.ensures c.in-Nonterminal.ensures c.loop-y.invariant.stands, c.requires.room, c.loop-y.invariant.places)

pub row-overflow_add-next : goal.row-overflow_add-next
row-overflow_add-next t c =
    omega (arith, child_listed _ _ c.in-Some.ensures.steps c.symbol_at-symbol.ensures c.in-Nonterminal.ensures c.loop-y.invariant.stands, nodes_fit _ _ c.args.nodes.now.formed)

-- a child is done, with its least number: the symbols behind it are left
pub row-loop-y-preserved-then-is_empty : goal.row-loop-y-preserved-then-is_empty
row-loop-y-preserved-then-is_empty t c =
    let place : c.from.result ≡ c.loop-y.next = omega arith in
    rw place (child_reached _ _ c.in-Some.ensures.steps c.symbol_at-symbol.ensures c.in-Nonterminal.ensures
    (empty_given _ _ _ (eqb-true _ 0 (sym c.is_empty.ensures ∙ c.if-is_empty.true)) (omega (arith, c.requires.room, c.loop-y.invariant.places)))
    c.requires.room c.set_at.ensures.low c.set_at.ensures.high c.least-j.ensures (length-set _ _ _) c.loop-y.invariant)

pub row-node-next-requires : goal.row-node-next-requires
row-node-next-requires t c =
    let tree = tree_here _ _ c.in-Some.ensures.steps c.symbol_at-symbol.ensures c.in-Nonterminal.ensures c.loop-y.invariant.stands in
    (omega (arith, node_listed _ _ tree.stands, c.loop-y.invariant.nodes), (tree, (c.requires.sets, omega (arith, c.requires.room, c.loop-y.invariant.places))))

pub row-loop-y-preserved : goal.row-loop-y-preserved
row-loop-y-preserved t c =
    child_reached _ _ c.in-Some.ensures.steps c.symbol_at-symbol.ensures c.in-Nonterminal.ensures c.node-next.ensures
    c.requires.room c.set_at.ensures.low c.set_at.ensures.high c.least-j.ensures (omega arith) c.loop-y.invariant

pub row-returns : goal.row-returns
row-returns t c = c.loop-y.invariant.completes _ _ (row_end_given _ _ _ (omega (arith, c.in-None.ensures.steps)))
