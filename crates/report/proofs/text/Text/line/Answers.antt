-- Four runs of bytes, each behind the one before, are the line.
use Rattle.report.specs.Text.{line}
use Rattle.report.proofs.Putting.{puts_then}
use Rattle.report.proofs.text.Text.line.Goals as goal

pub returns-clause-put : goal.returns-clause-put
unfolding line
returns-clause-put c =
    rw (c.from.ensures, c.from-2.ensures) at (puts_then (puts_then (puts_then c.number.ensures.put c.number-2.ensures.put) c.upper.ensures.put) c.number-3.ensures.put)
