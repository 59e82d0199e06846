-- At each step what is left to be searched has the answer of the whole.
use Rattle.std.proofs.Common.{◌≡◌, ◌-◌}
use Rattle.fields.specs.Fields.{each_from, first_fault}
use Rattle.tree_image.specs.TreeImage.{record_fields, records_fields}
use Rattle.tree_image.proofs.check_records.Given as goal

abbrev pub invariant-loop-n : goal.invariant-loop-n
invariant-loop-n l =
    first_fault (records_fields l.productions l.image) ≡ first_fault (each_from l.n (l.count - l.n) (record_fields l.productions l.image))

abbrev pub invariant-search : goal.invariant-search
invariant-search l = Unit {0}

abbrev pub decreases-search : goal.decreases-search
decreases-search l = 0
