-- the bytes that came never exceed the list, and fewer remain after each read
use Rattle.std.proofs.Common.{rules, arith}
use Rattle.std.proofs.lemmas.Slice.{overwrites}
use Rattle.pravisondo.proofs.Came.{one_more, no_more}
use Rattle.pravisondo.proofs.input.read.Goals as goal

pub loop-done-preserved : goal.loop-done-preserved
loop-done-preserved g c = record {
  in_bounds = search (rules, overwrites);
  came = one_more _ _ _ _ _ _ _ _ c.loop-done.invariant.in_bounds c.in_ok-came.ensures.bound.0 c.loop-done.invariant.came c.in_ok-came.ensures.bytes.0;
}

pub returns-then-came-eq0-clause-came : goal.returns-then-came-eq0-clause-came
returns-then-came-eq0-clause-came g c =
    no_more _ _ _ _ _ _ _ _ (omega (arith, c.if-came-eq0.true)) c.loop-done.invariant.in_bounds c.in_ok-came.ensures.bound.0 c.loop-done.invariant.came c.in_ok-came.ensures.bytes.0
