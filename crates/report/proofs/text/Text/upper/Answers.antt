-- The test of the code is the one of the definition.
use Rattle.std.proofs.Common.{eq-eqb, ne_eqb}
use Rattle.rules.specs.Stored.{unbounded}
use Rattle.report.specs.Text.{upper}
use Rattle.report.proofs.Putting.{puts_then}
use Rattle.report.proofs.text.Text.upper.Goals as goal

pub returns-then-high-eq-UNBOUNDED-clause-put : goal.returns-then-high-eq-UNBOUNDED-clause-put
unfolding upper
returns-then-high-eq-UNBOUNDED-clause-put c =
    rw (eq-eqb _ unbounded c.if-high-eq-UNBOUNDED.true) (puts_then c.byte.ensures.put c.byte-then-high-eq-UNBOUNDED.ensures.put)

pub returns-else-high-eq-UNBOUNDED-clause-put : goal.returns-else-high-eq-UNBOUNDED-clause-put
unfolding upper
returns-else-high-eq-UNBOUNDED-clause-put c =
    rw (ne_eqb _ unbounded c.if-high-eq-UNBOUNDED.false) (rw c.from.ensures at c.number.ensures.put)
