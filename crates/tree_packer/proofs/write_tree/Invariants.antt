-- The header is written first, and each turn writes the next field: before turn n the first 3 + n fields of the image stand in the output.
use Rattle.std.proofs.Common.{◌+◌}
use Rattle.packers.proofs.Packing.{tree_list, Grown}
use Rattle.tree_packer.proofs.write_tree.Given as goal

abbrev pub invariant-loop-n : goal.invariant-loop-n
invariant-loop-n l = Grown (tree_list l.productions) (3 + l.n) l.initial.out l.out
