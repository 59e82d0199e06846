-- Where the test of the room fails nothing is written, and else number, place and lines are put one behind the other from index 0 on.
use Rattle.std.proofs.Common.{rules, refl, sym, ◌∙◌, arith}
use Rattle.report.specs.Text.{text}
use Rattle.report.proofs.Putting.{puts_then}
use Rattle.report.proofs.Printing.{passed, refused, accepted}
use Rattle.report.proofs.report.Goals as goal

pub returns-then-not-text_fits : goal.returns-then-not-text_fits
returns-then-not-text_fits c =
    refused _ _ _ _ _ _ (rw (← c.shown_nodes-count.ensures) (sym c.text_fits.ensures ∙ c.if-not-text_fits.true))

pub number-requires : goal.number-requires
number-requires c =
    let fit = passed _ _ _ _ (sym c.text_fits.ensures ∙ c.if-not-text_fits.false) in
    omega arith

pub number-requires-2 : goal.number-requires-2
number-requires-2 c =
    let fit = passed _ _ _ _ (sym c.text_fits.ensures ∙ c.if-not-text_fits.false) in
    omega (arith, c.number.ensures.left)

pub lines-requires-clause-entries : goal.lines-requires-clause-entries
lines-requires-clause-entries c =
    let fit = passed _ _ _ _ (sym c.text_fits.ensures ∙ c.if-not-text_fits.false) in
    (fit.1, fit.2)

pub lines-requires-clause-room : goal.lines-requires-clause-room
lines-requires-clause-room c =
    let fit = passed _ _ _ _ (sym c.text_fits.ensures ∙ c.if-not-text_fits.false) in
    omega (arith, c.number.ensures.left, c.number-2.ensures.left)

pub returns : goal.returns
unfolding text
returns c =
    accepted _ _ _ _ _ _ (rw (← c.shown_nodes-count.ensures) (sym c.text_fits.ensures ∙ c.if-not-text_fits.false)) refl refl (search (rules, c.number.ensures.put.same, c.number-2.ensures.put.same, c.lines.ensures.same))
    (rw (c.shown_nodes-count.ensures, c.from.ensures, c.from-2.ensures) at (puts_then (puts_then c.number.ensures.put c.number-2.ensures.put) c.lines.ensures))
