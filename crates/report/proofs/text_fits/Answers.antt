-- Each test of the code decides one of the definition's.
use Rattle.std.proofs.Common.{rules, tests}
use Rattle.report.specs.Text.{fits}
use Rattle.report.proofs.text_fits.Goals as goal

pub returns-then-count-indentations : goal.returns-then-count-indentations
unfolding fits
returns-then-count-indentations c = search (rules, tests)

pub returns-else-count-indentations : goal.returns-else-count-indentations
unfolding fits
returns-else-count-indentations c = search (rules, tests)
