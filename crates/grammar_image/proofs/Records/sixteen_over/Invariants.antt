use Rattle.std.proofs.Common.{◌≡◌, ◌*◌, ◌≤◌}
use Rattle.fields.specs.Fields.{each_from, WellFormed}
use Rattle.grammar_image.specs.GrammarImage.{symbol_fields}
use Rattle.grammar_image.proofs.Records.sixteen_over.Given as goal

abbrev pub invariant-loop-e : goal.invariant-loop-e
invariant-loop-e l = (l.over ≤ 256 * l.e) × (l.over ≡ 0 → WellFormed (each_from l.y l.e (symbol_fields l.self.header.image.now)))
