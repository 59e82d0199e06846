-- The byte is put behind the digits.
use Rattle.std.proofs.Common.{refl, arith}
use Rattle.report.proofs.Putting.{puts_then}
use Rattle.report.proofs.Decimal.{decimal_short}
use Rattle.report.proofs.text.Text.number.Goals as goal

pub digits-self-requires : goal.digits-self-requires
digits-self-requires c = omega (arith, c.requires, decimal_short _ c.ranges.n.fits)

pub byte-requires : goal.byte-requires
byte-requires c =
    omega (arith, c.requires, c.digits-self.auto.out, c.digits-self.ensures.behind, decimal_short _ c.ranges.n.fits)

pub returns-clause-put : goal.returns-clause-put
returns-clause-put c =
    puts_then (record { next = c.digits-self.ensures.behind; output = c.digits-self.ensures.put; same = refl }) c.byte.ensures.put

pub returns-clause-left : goal.returns-clause-left
returns-clause-left c =
    omega (arith, c.requires, c.digits-self.auto.out, c.digits-self.ensures.behind, c.byte.ensures.left, decimal_short _ c.ranges.n.fits)
