-- One part of the tests after another.
use Rattle.std.proofs.Common.{ap, ◌∙◌, Ok, Err}
use Rattle.judge.specs.Judged.{given}
use Rattle.fields.proofs.Searching.{handed}
use Rattle.judge.proofs.Tests.{some_number, images_first, room_first, walk_first, walked, room_as}
use Rattle.judge.proofs.tested.Goals as goal

pub returns-in_err-formed-clause-answer : goal.returns-in_err-formed-clause-answer
returns-in_err-formed-clause-answer c =
    ap given (handed c.from_residual.ensures) ∙ images_first _ _ c.in_err-formed.ensures.answer (some_number _)

pub returns-in_err-room-clause-answer : goal.returns-in_err-room-clause-answer
returns-in_err-room-clause-answer c =
    ap given (handed c.from_residual-in_err-room.ensures)
    ∙ room_first _ _ c.in_ok-formed.ensures.answer (room_as _ c.node_count.ensures c.in_ok-formed.ensures.images c.in_err-room.ensures) (some_number _)

pub returns-in_err-derive-clause-answer : goal.returns-in_err-derive-clause-answer
returns-in_err-derive-clause-answer c =
    ap given (handed c.from_residual-in_err-derive.ensures)
    ∙ walk_first _ _ c.in_ok-formed.ensures.answer (room_as _ c.node_count.ensures c.in_ok-formed.ensures.images c.in_ok-room.ensures)
    (walked _ (Err c.in_err-derive.field-0.0) c.in_ok-formed.ensures.images c.in_err-derive.ensures)

pub returns-clause-answer : goal.returns-clause-answer
returns-clause-answer c =
    walk_first _ _ c.in_ok-formed.ensures.answer (room_as _ c.node_count.ensures c.in_ok-formed.ensures.images c.in_ok-room.ensures)
    (walked _ (Ok tt) c.in_ok-formed.ensures.images c.in_ok-derive.ensures)
