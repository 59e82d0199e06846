-- At each step what is left to be searched has the answer of the whole.
use Rattle.std.proofs.Common.{◌≡◌, ◌-◌}
use Rattle.fields.specs.Fields.{each_from, first_fault}
use Rattle.token_image.specs.TokenImage.{record_fields, records_fields}
use Rattle.fields.proofs.Searching.{left}
use Rattle.token_image.proofs.check_records.Given as goal

abbrev pub invariant-loop-f : goal.invariant-loop-f
invariant-loop-f l =
    first_fault (records_fields l.terminals l.image) ≡ first_fault (left (record_fields l.terminals l.image) l.count l.k l.f)

abbrev pub invariant-loop-k : goal.invariant-loop-k
invariant-loop-k l =
    first_fault (records_fields l.terminals l.image) ≡ first_fault (each_from l.k (l.count - l.k) (record_fields l.terminals l.image))

abbrev pub invariant-search : goal.invariant-search
invariant-search l = Unit {0}

abbrev pub decreases-search : goal.decreases-search
decreases-search l = 0
