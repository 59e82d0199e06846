use Rattle.std.proofs.Common.{◌*◌}
use Rattle.fields.specs.Fields.{each, WellFormed}
use Rattle.grammar_image.specs.GrammarImage.{symbol_fields}
use Rattle.grammar_image.proofs.Records.good_entries.Given as goal

abbrev pub invariant-loop-g : goal.invariant-loop-g
invariant-loop-g l = WellFormed (each (16 * l.g) (symbol_fields l.self.header.image.now))
