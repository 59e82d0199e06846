-- The second part is searched where the first is good.
use Rattle.std.proofs.Common.{◌++◌, ◌∙◌}
use Rattle.grammar_image.specs.GrammarImage.{count_fields, offset_fields, productions_fields, symbols_fields, grammar_fields}
use Rattle.fields.proofs.Formed.{formed_parts}
use Rattle.fields.proofs.Promised.{good_well_formed}
use Rattle.fields.proofs.Searching.{then_good, then_fault, handed}
use Rattle.grammar_image.proofs.Within.{counts_within, entries_within}
use Rattle.grammar_image.proofs.check_grammar.Goals as goal

pub returns-in_err-check : goal.returns-in_err-check
unfolding grammar_fields
returns-in_err-check c =
    let image = c.args.image.now in
    let broken = rw c.in_ok-header.ensures.read at c.in_err-check.ensures in
    handed c.from_residual-in_err-check.ensures
    ∙ then_fault (count_fields image ++ offset_fields image) (productions_fields image ++ symbols_fields image) broken

pub invariant_of-check : goal.invariant_of-check
invariant_of-check c =
    let image = c.in_ok-header.header.image.now in
    let parts = formed_parts (count_fields image) (offset_fields image) (good_well_formed (count_fields image ++ offset_fields image) c.in_ok-check.ensures) in
    let limits = counts_within image parts.0 in
    record { productions = limits.0; entries = limits.1; within = entries_within image parts.1 }

pub returns : goal.returns
unfolding grammar_fields
returns c =
    let image = c.args.image.now in
    let header = c.in_ok-header.ensures.read in
    then_good (count_fields image ++ offset_fields image) (productions_fields image ++ symbols_fields image)
    (rw header at c.in_ok-check.ensures)
    (rw header at c.check-2.ensures)
