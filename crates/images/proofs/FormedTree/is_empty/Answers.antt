-- The count of the node's production is tested.
use Rattle.std.proofs.Common.{ap, ℕ, eqb}
use Rattle.images.proofs.FormedTree.is_empty.Goals as goal

pub returns : goal.returns
returns c = ap (λ (count : ℕ). eqb count 0) c.production_of.ensures.production.count
