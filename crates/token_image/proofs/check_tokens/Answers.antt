-- The second part is searched where the first is good.
use Rattle.std.proofs.Common.{◌∙◌}
use Rattle.token_image.specs.TokenImage.{header_fields, records_fields, token_fields}
use Rattle.fields.proofs.Promised.{good_well_formed}
use Rattle.fields.proofs.Searching.{then_good, then_fault, handed}
use Rattle.token_image.proofs.Within.{tokens_within}
use Rattle.token_image.proofs.check_tokens.Goals as goal

pub check_records-requires : goal.check_records-requires
check_records-requires c =
    let image = c.args.image.now in
    tokens_within image (good_well_formed (header_fields image) c.in_ok-check_header.ensures)

pub returns-in_err-check_header : goal.returns-in_err-check_header
unfolding token_fields
returns-in_err-check_header c =
    let image = c.args.image.now in
    handed c.from_residual.ensures ∙ then_fault (header_fields image) (records_fields c.args.terminals image) c.in_err-check_header.ensures

pub returns : goal.returns
unfolding token_fields
returns c =
    let image = c.args.image.now in
    then_good (header_fields image) (records_fields c.args.terminals image) c.in_ok-check_header.ensures c.check_records.ensures
