-- What is refused is refused before anything is written, and what both passes write is the verdict on the tree that the nodes derive.
use Rattle.std.proofs.Common.{sym, arith, ltb-true, ltb-false}
use Rattle.fields.proofs.Searching.{handed}
use Rattle.judge.proofs.Outcomes.{refused_judged, fitting, some_tree, some_tree_listed, empty_judged, accepted_judged}
use Rattle.judge.proofs.Tests.{some_number}
use Rattle.judge.proofs.check.Goals as goal

pub returns-in_err-formed : goal.returns-in_err-formed
returns-in_err-formed c = rw (handed c.from_residual.ensures) (refused_judged _ _ c.in_err-formed.ensures.answer (some_number _))

-- behind it no test refuses, and what is read are the images that came
pub root-root-requires-clause-stands : goal.root-root-requires-clause-stands
root-root-requires-clause-stands c = some_tree _ c.in_ok-formed.ensures.answer c.in_ok-formed.ensures.images

pub root-root-requires-clause-room : goal.root-root-requires-clause-room
root-root-requires-clause-room c =
    let fits = fitting _ c.in_ok-formed.ensures.answer c.in_ok-formed.ensures.images in
    omega (arith, fits.sets_room)

pub highest_empty-node-requires : goal.highest_empty-node-requires
highest_empty-node-requires c =
    let fits = fitting _ c.in_ok-formed.ensures.answer c.in_ok-formed.ensures.images in
    omega (arith, fits.sets_room, c.node_count.ensures, c.root-root.auto.sets)

pub returns-then-is_empty : goal.returns-then-is_empty
returns-then-is_empty c =
    empty_judged _ c.in_ok-formed.ensures.answer c.in_ok-formed.ensures.images c.root-root.ensures
    (omega (arith, ltb-true _ _ (sym c.if-is_empty.ensures))) c.node_count.ensures c.highest_empty-node.ensures

pub node-requires-clause-stands : goal.node-requires-clause-stands
node-requires-clause-stands c = some_tree_listed _ c.in_ok-formed.ensures.answer c.in_ok-formed.ensures.images

pub node-requires-clause-sets : goal.node-requires-clause-sets
node-requires-clause-sets c =
    let fits = fitting _ c.in_ok-formed.ensures.answer c.in_ok-formed.ensures.images in
    omega (arith, fits.sets_room, c.root-root.auto.sets)

pub node-requires-clause-room : goal.node-requires-clause-room
node-requires-clause-room c =
    let fits = fitting _ c.in_ok-formed.ensures.answer c.in_ok-formed.ensures.images in
    omega (arith, fits.indentations_room)

pub returns : goal.returns
returns c =
    accepted_judged _ c.in_ok-formed.ensures.answer c.in_ok-formed.ensures.images c.root-root.ensures
    (omega (arith, ltb-false _ _ (sym c.if-is_empty.ensures))) c.node.ensures
