-- With room for every node no test but those of the images and of the walk refuses.
use Rattle.std.proofs.Common.{ap, ◌∙◌, Ok, Err}
use Rattle.judge.specs.Judged.{given}
use Rattle.fields.proofs.Searching.{handed}
use Rattle.judge.proofs.Tests.{some_number, images_first, walked, walk_alone}
use Rattle.judge.proofs.check_derivation.Goals as goal

pub returns-in_err-images : goal.returns-in_err-images
returns-in_err-images c = ap given (handed c.from_residual.ensures) ∙ images_first _ _ c.in_err-images.ensures.answer (some_number _)

pub returns-in_err-derive : goal.returns-in_err-derive
returns-in_err-derive c =
    ap given (handed c.from_residual-in_err-derive.ensures)
    ∙ walk_alone _ c.in_ok-images.ensures.answer (walked _ (Err c.in_err-derive.field-0.0) c.in_ok-images.ensures.images c.in_err-derive.ensures)

pub returns : goal.returns
returns c =
    walk_alone _ c.in_ok-images.ensures.answer (walked _ (Ok tt) c.in_ok-images.ensures.images c.in_ok-derive.ensures)
