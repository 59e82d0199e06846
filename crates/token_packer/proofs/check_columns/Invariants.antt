-- Before turn k every column below k has passed, so what is left to search are the columns from k on.
use Rattle.std.proofs.Common.{◌≡◌, ℕ, ◌-◌, List, [], ◌∷◌, length, get_or}
use Rattle.rules.specs.Limits.{column_allowed}
use Rattle.fields.specs.Fields.{Field, field, each_from, first_fault}
use Rattle.packers.specs.Packing.{column_fields}
use Rattle.token_packer.proofs.check_columns.Given as goal

abbrev pub fields : List ℕ → ℕ → List Field
fields columns k = field k (column_allowed (get_or columns k 0)) ∷ []

abbrev pub invariant-loop-k : goal.invariant-loop-k
invariant-loop-k l =
    first_fault (column_fields l.columns) ≡ first_fault (each_from l.k (length l.columns - l.k) (fields l.columns))
