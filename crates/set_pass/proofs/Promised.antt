-- What the contract of the set pass allows is one outcome: the tree that stands there fixes it.
use Rattle.std.proofs.Common.{◌≡◌, sym, ◌∙◌, ℕ, List}
use Rattle.fields.specs.Images.{Images}
use Rattle.rules.specs.declared.relation.Set.{Set}
use Rattle.layout.specs.Standing.{SomeTree}
use Rattle.set_pass.specs.Passes.{RootSet}

-- the root's set, and every entry of the list
pub one_set_pass : {s : Images} {old new new' : List ℕ} {r r' : Set} →
    SomeTree s 0 0 → RootSet s old new r → RootSet s old new' r' → (r ≡ r') × (new ≡ new')
one_set_pass s f g =
    let a = f s.there s.stands in
    let b = g s.there s.stands in
    (a.set ∙ sym b.set, a.sets ∙ sym b.sets)
