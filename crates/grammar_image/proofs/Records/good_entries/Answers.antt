-- Sixteen entries are passed where their sum is 0.
use Rattle.std.proofs.Common.{◌≡◌, ◌+◌, ◌*◌, zero-add, arith}
use Rattle.fields.specs.Fields.{each_from, WellFormed}
use Rattle.fields.proofs.Formed.{formed_more}
use Rattle.grammar_image.specs.GrammarImage.{symbol_fields}
use Rattle.grammar_image.proofs.Records.good_entries.Goals as goal

pub loop-g-init : goal.loop-g-init
unfolding each_from WellFormed
loop-g-init c = tt

pub loop-g-preserved : goal.loop-g-preserved
loop-g-preserved c =
    let fields = symbol_fields c.args.self.now.header.image.now in
    let next = c.sixteen_over.ensures (omega arith) in
    let ends : 16 * c.loop-g.g + 16 ≡ 16 * (c.loop-g.g + 1) = omega arith in
    rw ends at (formed_more fields 0 (16 * c.loop-g.g) 16 c.loop-g.invariant (rw (zero-add (16 * c.loop-g.g)) next))
