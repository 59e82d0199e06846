-- The root is node 0, and its set is read back where it was written.
use Rattle.std.proofs.Common.{arith}
use Rattle.images.specs.Held.{images_of}
use Rattle.layout.proofs.Rows.{node_listed}
use Rattle.set_pass.proofs.SetPass.{child_set}
use Rattle.set_pass.proofs.root.Goals as goal

pub set_at-requires : goal.set_at-requires
set_at-requires c = omega (arith, node_listed _ _ c.requires.stands.stands, c.requires.room, c.node.auto.sets)

pub returns : goal.returns
returns c T there =
    let done = c.node.ensures in
    let s = images_of c.args.formed.now in
    record { set = child_set s (omega arith) c.set_at.ensures.low c.set_at.ensures.high done T there; sets = (done T there).sets }
