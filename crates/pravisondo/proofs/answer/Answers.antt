-- the nodes are counted in a tree image that is well formed, because it was accepted, and the text that is written is a part of the list that it was put
-- into
use Rattle.std.proofs.Common.{sym, ap, Result, length-take-le}
use Rattle.tree_image.proofs.Within.{header_within}
use Rattle.judge.specs.Judged.{given}
use Rattle.judge.specs.declared.Refusal.{Refusal}
use Rattle.judge.proofs.Demands.{accepted_only_if}
use Rattle.report.proofs.Promised.{within}
use Rattle.pravisondo.proofs.answer.Goals as goal

pub node_count-requires : goal.node_count-requires
node_count-requires g c =
    let fits = (accepted_only_if c.check_delivery.ensures (ap (λ (r : Result (Unit {0}) Refusal). (given r).number) c.in-Ok.is)).0 in
    rw c.tree_in.ensures (header_within _ _ fits.tree_formed)

pub slice_bounds-write_all-end : goal.slice_bounds-write_all-end
slice_bounds-write_all-end g c = sym (length-take-le _ _ (within c.report-length.ensures))
