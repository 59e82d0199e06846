-- At each step what is left to be searched has the answer of the whole, and the production that is due starts where
-- the one before ended, which is not past the last entry.
use Rattle.std.proofs.Common.{◌≡◌, ◌+◌, ◌-◌, ◌<◌, ◌≤◌}
use Rattle.fields.specs.Fields.{each, each_from, first_fault}
use Rattle.grammar_image.specs.GrammarImage.{entry_count, production_count, count_of, starts_at, production_fields}
use Rattle.fields.proofs.Searching.{left}
use Rattle.grammar_image.proofs.Records.check_productions.Given as goal

abbrev pub invariant-loop-f : goal.invariant-loop-f
invariant-loop-f l =
    (first_fault (each (production_count l.self.header.image.now) (production_fields l.self.header.image.now)) ≡ first_fault (left (production_fields l.self.header.image.now) l.counts.productions l.p l.f))
    × (2 < l.f → starts_at l.self.header.image.now l.p + count_of l.self.header.image.now l.p ≤ entry_count l.self.header.image.now)

abbrev pub invariant-loop-p : goal.invariant-loop-p
invariant-loop-p l =
    (first_fault (each (production_count l.self.header.image.now) (production_fields l.self.header.image.now)) ≡ first_fault (each_from l.p (l.counts.productions - l.p) (production_fields l.self.header.image.now)))
    × (l.starts ≡ starts_at l.self.header.image.now l.p)
    × (l.starts ≤ entry_count l.self.header.image.now)

abbrev pub invariant-search : goal.invariant-search
invariant-search l = l.starts ≡ 0

abbrev pub decreases-search : goal.decreases-search
decreases-search l = 0
