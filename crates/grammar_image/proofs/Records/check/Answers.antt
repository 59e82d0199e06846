-- The second part is searched where the first is good.
use Rattle.std.proofs.Common.{◌∙◌}
use Rattle.grammar_image.specs.GrammarImage.{productions_fields, symbols_fields}
use Rattle.fields.proofs.Searching.{then_good, then_fault, handed}
use Rattle.grammar_image.proofs.Records.check.Goals as goal

pub returns-in_err-check_productions : goal.returns-in_err-check_productions
returns-in_err-check_productions c =
    let image = c.args.self.now.header.image.now in
    handed c.from_residual.ensures
    ∙ then_fault (productions_fields image) (symbols_fields image) c.in_err-check_productions.ensures

pub returns : goal.returns
returns c =
    let image = c.args.self.now.header.image.now in
    then_good (productions_fields image) (symbols_fields image) c.in_ok-check_productions.ensures c.check_symbols.ensures
