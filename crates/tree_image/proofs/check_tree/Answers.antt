-- The second part is searched where the first is good.
use Rattle.std.proofs.Common.{◌∙◌}
use Rattle.tree_image.specs.TreeImage.{header_fields, records_fields, tree_fields}
use Rattle.fields.proofs.Promised.{good_well_formed}
use Rattle.fields.proofs.Searching.{then_good, then_fault, handed}
use Rattle.tree_image.proofs.Within.{nodes_within}
use Rattle.tree_image.proofs.check_tree.Goals as goal

pub check_records-requires : goal.check_records-requires
check_records-requires c =
    let image = c.args.image.now in
    nodes_within image (good_well_formed (header_fields image) c.in_ok-check_header.ensures)

pub returns-in_err-check_header : goal.returns-in_err-check_header
unfolding tree_fields
returns-in_err-check_header c =
    let image = c.args.image.now in
    handed c.from_residual.ensures ∙ then_fault (header_fields image) (records_fields c.args.productions image) c.in_err-check_header.ensures

pub returns : goal.returns
unfolding tree_fields
returns c =
    let image = c.args.image.now in
    then_good (header_fields image) (records_fields c.args.productions image) c.in_ok-check_header.ensures c.check_records.ensures
