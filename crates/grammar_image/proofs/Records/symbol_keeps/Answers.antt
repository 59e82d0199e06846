-- Each arm tests the field that it stands for.
use Rattle.std.proofs.Common.{◌≡◌, ℕ, ◌∙◌, ap, arith, leb, ltb, ap₂}
use Rattle.grammar_image.specs.GrammarImage.{symbol_at, symbol_fields}
use Rattle.grammar_image.specs.Kinds.{kind_of, bound_of}
use Rattle.grammar_image.proofs.Bounds.{bound_is}
use Rattle.grammar_image.proofs.Records.symbol_keeps.Goals as goal

pub returns-in-0 : goal.returns-in-0
unfolding symbol_fields symbol_at
returns-in-0 c =
    let which : c.args.f ≡ 0 = c.in-0.is in
    rw which (ap (λ (kind : ℕ). leb kind 1) (rw c.entry_byte-at.ensures at c.byte_at.ensures))

pub returns-in-1 : goal.returns-in-1
unfolding symbol_fields symbol_at
returns-in-1 c =
    let which : c.args.f ≡ 1 = c.in-1.is in
    rw which (ap (λ (relation : ℕ). leb relation 3) (rw c.entry_byte-at.ensures at c.byte_at-in-1.ensures))

pub returns-in_default : goal.returns-in_default
unfolding symbol_fields symbol_at
returns-in_default c =
    let header = c.args.self.now.header in
    let which : c.args.f ≡ 2 = omega arith in
    let kind = rw c.entry_byte-at.ensures at c.byte_at-in_default.ensures in
    let number = rw c.entry_byte-at.ensures at c.field_at.ensures in
    let bound = c.of-in_default.ensures ∙ ap (bound_of header.counts) (c.of.ensures ∙ ap kind_of kind) ∙ bound_is header.image.now header.counts header.counted _ in
    rw which (ap₂ ltb number bound)
