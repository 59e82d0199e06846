-- A turn writes the next field, and after the last turn every field is written.
use Rattle.std.proofs.Common.{◌+◌, ◌*◌, length, sym, arith}
use Rattle.packers.specs.Packing.{tree_image}
use Rattle.packers.proofs.Packing.{tree_list, started, put_grows, past_header, all_written}
use Rattle.tree_packer.proofs.write_tree.Goals as goal

pub loop-n-preserved : goal.loop-n-preserved
loop-n-preserved c =
    let productions = c.args.productions.now in
    let n = c.loop-n.n in
    put_grows (tree_list productions) (3 + n) (omega arith) (omega arith) (sym (past_header _ _ _ productions n)) (omega arith)
    c.loop-n.invariant c.put.ensures

pub returns : goal.returns
unfolding tree_image started
returns c =
    let productions = c.args.productions.now in
    let entry = c.args.out.now in
    all_written (tree_list productions) (3 + c.loop-n.n) (6 + 2 * length productions) entry (omega arith) (omega arith)
    (c.loop-n.invariant entry (omega arith) c.put_header.ensures)
