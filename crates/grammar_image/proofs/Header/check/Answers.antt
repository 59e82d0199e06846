-- The second part is searched where the first is good.
use Rattle.std.proofs.Common.{◌∙◌}
use Rattle.grammar_image.specs.GrammarImage.{count_fields, offset_fields}
use Rattle.fields.proofs.Searching.{then_good, then_fault, handed}
use Rattle.grammar_image.proofs.Header.check.Goals as goal

pub returns-in_err-check_counts : goal.returns-in_err-check_counts
returns-in_err-check_counts c =
    let image = c.args.self.now.image.now in
    handed c.from_residual.ensures ∙ then_fault (count_fields image) (offset_fields image) c.in_err-check_counts.ensures

pub returns : goal.returns
returns c =
    let image = c.args.self.now.image.now in
    then_good (count_fields image) (offset_fields image) c.in_ok-check_counts.ensures c.check_offsets.ensures
