-- Each part of the sum is 0 where its field keeps its rule.
use Rattle.std.proofs.Common.{◌≡◌, ℕ, ◌+◌, ◌<◌, ◌∙◌, ap, arith, leb, Bool, true, false, refl, leb-false}
use mir.Val.{bool_byte}
use Rattle.fields.specs.Fields.{field_at}
use Rattle.grammar_image.proofs.Over.{entry_formed}
use Rattle.grammar_image.proofs.Records.entry_over.Goals as goal
use Rattle.grammar_image.proofs.Records.entry_over.Goals.{then-kind-eq0, else-kind-eq0}

-- a test that gives 0 as a number says no
below : (number limit n : ℕ) → n ≡ 0 → n ≡ bool_byte (leb limit number) → number < limit
below number limit n z e = by (leb limit number) refl e
  where
    by : (b : Bool) → leb limit number ≡ b → n ≡ bool_byte b → number < limit
    by true t e = absurd (omega arith)
    by false t e = leb-false limit number t

pub returns-clause-good : goal.returns-clause-good
returns-clause-good c = λ none.
    let header = c.args.self.now.header in
    let image = header.image.now in
    let entry = c.entry_byte-at.ensures in
    entry_formed image c.args.y {limit = c.if-kind-eq0.limit} header.bytes
    (c.field_at-head.ensures ∙ ap (field_at image) entry)
    (c.field_at.ensures ∙ ap (λ (at : ℕ). field_at image (at + 2)) entry)
    (λ even. elim c.if-kind-eq0.branch [ then-kind-eq0 w ↦ omega (arith, w.limit-is) | else-kind-eq0 w ↦ absurd (omega arith) ])
    (λ odd. elim c.if-kind-eq0.branch [ then-kind-eq0 w ↦ absurd (omega arith) | else-kind-eq0 w ↦ omega (arith, w.limit-is) ])
    (omega arith)
    (omega arith)
    (below _ _ _ (omega arith) c.from-beyond.ensures)
