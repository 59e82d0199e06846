-- The test of the code is the one of the definition.
use Rattle.std.proofs.Common.{eq-eqb, ne_eqb}
use Rattle.report.specs.Text.{shown}
use Rattle.report.proofs.shown_nodes.Goals as goal

pub returns-then-number-eq0 : goal.returns-then-number-eq0
unfolding shown
returns-then-number-eq0 c = rw (eq-eqb _ 0 c.if-number-eq0.true)

pub returns-else-number-eq0 : goal.returns-else-number-eq0
unfolding shown
returns-else-number-eq0 c = rw (ne_eqb _ 0 c.if-number-eq0.false)
