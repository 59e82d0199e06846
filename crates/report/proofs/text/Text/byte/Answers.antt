-- One store is a run of one byte.
use Rattle.std.proofs.Common.{refl}
use Rattle.report.proofs.Putting.{puts_one}
use Rattle.report.proofs.text.Text.byte.Goals as goal

pub returns-clause-put : goal.returns-clause-put
returns-clause-put c = puts_one c.requires refl refl refl
