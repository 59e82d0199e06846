-- The last digit is written behind those of the tenth part.
use Rattle.std.proofs.Common.{rules, ◌∙◌, [], ◌∷◌, ◌+◌, ◌/◌, ◌%◌, ◌<◌, length, arith, mod-eq_of_lt}
use Rattle.report.specs.Text.{decimal}
use Rattle.report.proofs.Putting.{written_one, written_then}
use Rattle.report.proofs.Decimal.{decimal_one, decimal_more, length_one, length_more}
use Rattle.report.proofs.text.Text.+digits.Goals as goal

pub bounds-out-at : goal.bounds-out-at
bounds-out-at t c = omega (arith, c.requires, length_one _ c.if-n-lt10.true)

pub returns-then-n-lt10-clause-put : goal.returns-then-n-lt10-clause-put
returns-then-n-lt10-clause-put t c =
    rw (decimal_one _ c.if-n-lt10.true, mod-eq_of_lt c.if-n-lt10.true) (written_one _ _ _ (omega (arith, c.requires, length_one _ c.if-n-lt10.true)))

pub returns-then-n-lt10-clause-behind : goal.returns-then-n-lt10-clause-behind
returns-then-n-lt10-clause-behind t c = omega (arith, length_one _ c.if-n-lt10.true)

pub digits-last-requires : goal.digits-last-requires
digits-last-requires t c = (omega arith, omega (arith, c.requires, length_more _ c.if-n-lt10.false c.ranges.n.fits))

pub bounds-out-last : goal.bounds-out-last
bounds-out-last t c =
    omega (arith, c.requires, c.digits-last.auto.out, c.digits-last.ensures.behind, length_more _ c.if-n-lt10.false c.ranges.n.fits)

pub overflow_add-result-2 : goal.overflow_add-result-2
overflow_add-result-2 t c =
    let within : c.digits-last.result < length c.digits-last.new.out = bounds-out-last t c in
    search (rules, within)

pub returns-clause-put : goal.returns-clause-put
returns-clause-put t c =
    rw (decimal_more _ c.if-n-lt10.false c.ranges.n.fits)
    (written_one _ _ _ (bounds-out-last t c) ∙ rw (c.digits-last.ensures.behind, c.digits-last.ensures.put) (written_then (decimal (c.args.n / 10)) ((48 + c.args.n % 10) ∷ []) c.args.at c.args.out.now))

pub returns-clause-behind : goal.returns-clause-behind
returns-clause-behind t c = omega (arith, c.digits-last.ensures.behind, length_more _ c.if-n-lt10.false c.ranges.n.fits)
