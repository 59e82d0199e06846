-- What the contract of the indentation pass allows is one outcome: the tree that stands there fixes it.
use Rattle.std.proofs.Common.{◌≡◌, sym, ◌∙◌, List, ◌++◌, ℕ, ◌*◌, drop}
use Rattle.rules.specs.Choice.{flat}
use Rattle.rules.specs.Stored.{unbounded}
use Rattle.rules.specs.Interval.{sets_of, least_choice}
use Rattle.grammar_image.specs.GrammarImage.{production_at}
use Rattle.layout.specs.Standing.{SomeTreeListed}
use Rattle.indentation_pass.specs.Passes.{AllUpTo, NodeNumber}

-- the next node, and every entry of the list where the sets of that tree stand in theirs and
-- 32 bits hold its least numbers
pub one_indentation_pass : {grammar tree : List ℕ} {n i : ℕ} {sets old new new' : List ℕ} {r r' : ℕ}
    (s : SomeTreeListed grammar tree n) →
    NodeNumber grammar tree n i sets old new r → NodeNumber grammar tree n i sets old new' r' →
    (r ≡ r') × ((after : List ℕ) → drop (2 * n) sets ≡ sets_of (production_at grammar) unbounded s.there ++ after →
    AllUpTo unbounded (flat (least_choice (production_at grammar) unbounded s.there i)) → new ≡ new')
one_indentation_pass s f g =
    let a = f s.ts s.k s.there s.stands in
    let b = g s.ts s.k s.there s.stands in
    (a.node ∙ sym b.node, λ after stand fit. a.given after stand fit ∙ sym (b.given after stand fit))
