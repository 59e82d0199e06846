-- A node's row begins at the next node, and a row's children at no node before the row's own, so twice the nodes that remain falls, with
-- one more for a row.
use Rattle.std.proofs.Common.{◌+◌, ◌*◌, ◌-◌}
use Rattle.tree_image.specs.TreeImage.{node_count}
use Rattle.indentation_pass.proofs.IndentationPass.{RowReached}
use Rattle.indentation_pass.proofs.+node_row.Given as goal

abbrev pub decreases-node : goal.decreases-node
decreases-node l = 2 * (node_count l.nodes.now.tree.now - l.n)

abbrev pub decreases-row : goal.decreases-row
decreases-row l = 2 * (node_count l.nodes.now.tree.now - l.n) + 1

-- each turn of a row takes one symbol off
abbrev pub invariant-row-loop-y : goal.invariant-row-loop-y
invariant-row-loop-y l = RowReached l.nodes.grammar.now l.nodes.tree.now l.fn.entries l.y-iterator l.n l.next l.i l.sets l.fn.indentations l.indentations
