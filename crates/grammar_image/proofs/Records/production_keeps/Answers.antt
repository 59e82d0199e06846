-- Each arm tests the field that it stands for, which is the one that was read.
use Rattle.std.proofs.Common.{◌≡◌, ◌+◌, ◌*◌, true, false, ◌∙◌, ap, arith, leb, ltb, eqb, ap₂}
use Rattle.rules.specs.Limits.{max_row}
use Rattle.fields.specs.Fields.{field_at}
use Rattle.grammar_image.specs.GrammarImage.{count_of, production_fields}
use Rattle.fields.proofs.Searching.{tests}
use Rattle.grammar_image.proofs.Records.production_keeps.Goals as goal

pub returns-in-0 : goal.returns-in-0
unfolding production_fields
returns-in-0 c =
    let a = c.args in
    let which : a.f ≡ 0 = c.in-0.is in
    let at : 16 + 6 * c.from.result + 2 * a.f ≡ 16 + 6 * a.p = omega (arith, c.from.ensures) in
    rw which (ap₂ ltb (c.field_at-value.ensures ∙ ap (field_at a.self.now.header.image.now) at) a.self.now.header.counted.nonterminals)

pub returns-in-1 : goal.returns-in-1
unfolding production_fields
returns-in-1 c =
    let a = c.args in
    let which : a.f ≡ 1 = c.in-1.is in
    let at : 16 + 6 * c.from.result + 2 * a.f ≡ 16 + 6 * a.p + 2 = omega (arith, c.from.ensures) in
    rw which (ap₂ eqb (c.field_at-value.ensures ∙ ap (field_at a.self.now.header.image.now) at) c.requires.starts.0)

pub returns-then-value-le-ROW : goal.returns-then-value-le-ROW
unfolding production_fields
returns-then-value-le-ROW c =
    let a = c.args in
    let which : a.f ≡ 2 = omega arith in
    let at : 16 + 6 * c.from.result + 2 * a.f ≡ 16 + 6 * a.p + 4 = omega (arith, c.from.ensures) in
    let count = c.field_at-value.ensures ∙ ap (field_at a.self.now.header.image.now) at in
    let small : leb (count_of a.self.now.header.image.now a.p) max_row ≡ true = omega tests in
    rw (which, small) (ap₂ leb (omega (arith, c.requires.starts.0, count)) a.self.now.header.counted.entries)

pub returns-else-value-le-ROW : goal.returns-else-value-le-ROW
unfolding production_fields
returns-else-value-le-ROW c =
    let a = c.args in
    let which : a.f ≡ 2 = omega arith in
    let at : 16 + 6 * c.from.result + 2 * a.f ≡ 16 + 6 * a.p + 4 = omega (arith, c.from.ensures) in
    let count : c.field_at-value.result ≡ count_of a.self.now.header.image.now a.p = c.field_at-value.ensures ∙ ap (field_at a.self.now.header.image.now) at in
    let small : leb (count_of a.self.now.header.image.now a.p) max_row ≡ false = omega tests in
    rw (which, count, small)
