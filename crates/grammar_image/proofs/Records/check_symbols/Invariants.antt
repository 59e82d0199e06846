-- At each step what is left to be searched has the answer of the whole.
use Rattle.std.proofs.Common.{◌≡◌, ◌-◌}
use Rattle.fields.specs.Fields.{each_from, first_fault}
use Rattle.grammar_image.specs.GrammarImage.{symbol_fields, symbols_fields}
use Rattle.fields.proofs.Searching.{left}
use Rattle.grammar_image.proofs.Records.check_symbols.Given as goal

abbrev pub invariant-loop-f : goal.invariant-loop-f
invariant-loop-f l = first_fault (symbols_fields l.self.header.image.now) ≡ first_fault (left (symbol_fields l.self.header.image.now) l.self.header.counts.entries l.y l.f)

abbrev pub invariant-loop-y : goal.invariant-loop-y
invariant-loop-y l = first_fault (symbols_fields l.self.header.image.now) ≡ first_fault (each_from l.y (l.self.header.counts.entries - l.y) (symbol_fields l.self.header.image.now))

abbrev pub invariant-search : goal.invariant-search
invariant-search l = Unit {0}

abbrev pub decreases-search : goal.decreases-search
decreases-search l = 0
