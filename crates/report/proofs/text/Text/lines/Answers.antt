-- A turn puts the line of its node behind those before.
use Rattle.std.proofs.Common.{rules, add-one, arith, sym, ◌∙◌}
use Rattle.std.specs.Iterator.Adapters.{enumerate_count}
use Rattle.report.specs.Text.{lines}
use Rattle.report.proofs.Putting.{puts_none, puts_then}
use Rattle.report.proofs.Lines.{set_taken, indentation_taken}
use Rattle.report.proofs.text.Text.lines.Goals as goal

pub loop-n-init : goal.loop-n-init
unfolding lines
loop-n-init c = search (rules, puts_none)

pub loop-n-preserved : goal.loop-n-preserved
unfolding lines
loop-n-preserved c =
    let n = enumerate_count c.loop-n.n-iterator in
    let before = c.loop-n.invariant in
    let steps = c.in-Some.ensures.steps in
    let next = steps.2 in
    let set = set_taken n c.args.sets.now c.in-Some.set.now (sym before.sets ∙ steps.0.0.0.1.0) (steps.0.0.0.1.1 ∙ before.pairs) in
    let indentation = indentation_taken n c.args.indentations.now (sym before.indentations ∙ steps.0.0.1) in
    record {
      can_next = search rules;
      is_finite = search rules;
      due = omega (arith, next, steps.0.1, before.due);
      pairs = search rules;
      sets = rw next (sym set.0);
      indentations = rw next (sym indentation.0);
      left = omega (arith, next, before.left, c.line.ensures.left);
      put = rw (next, add-one, set.1, set.2, indentation.1) (puts_then before.put (rw steps.1 at c.line.ensures.put));
    }
