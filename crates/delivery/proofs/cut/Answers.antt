-- Each way to the length is the definition's.
use Rattle.std.proofs.Common.{rules}
use Rattle.delivery.specs.Delivery.{image_length}
use Rattle.delivery.proofs.cut.Goals.{then-there-header, else-there-header}
use Rattle.delivery.proofs.cut.Goals as goal

pub returns : goal.returns
unfolding image_length
returns g c =
    elim c.if-there-header.branch [
      | then-there-header w ↦ (0, search rules, search rules, search rules)
      | else-there-header w ↦ (w.total_length.result, search rules, search rules, search rules)
    ]
