use Rattle.std.proofs.Common.{arith}
use Rattle.fields.specs.Fields.{field_at}
use Rattle.fields.proofs.field_at.Goals as goal

pub returns : goal.returns
unfolding field_at
returns c = omega arith
