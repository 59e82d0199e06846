-- Where the sum is 0, each entry that was added breaks its rules by nothing.
use Rattle.std.proofs.Common.{arith}
use Rattle.fields.specs.Fields.{each_from, WellFormed}
use Rattle.grammar_image.specs.GrammarImage.{symbol_fields}
use Rattle.fields.proofs.Formed.{formed_next}
use Rattle.grammar_image.proofs.Records.sixteen_over.Goals as goal

pub loop-e-init : goal.loop-e-init
unfolding each_from WellFormed
loop-e-init c = (omega arith, λ none. tt)

pub loop-e-preserved : goal.loop-e-preserved
loop-e-preserved c =
    let a = c.args in (
      omega arith,
      λ none. formed_next (symbol_fields a.self.now.header.image.now) a.y c.loop-e.e (c.loop-e.invariant.1 (omega arith)) (c.entry_over-over.ensures.good (omega arith)),
    )
