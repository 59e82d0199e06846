-- Each field is read at its byte.
use Rattle.std.proofs.Common.{ℕ, get_or, ◌∙◌, ap, arith}
use Rattle.fields.specs.Fields.{field_at}
use Rattle.grammar_image.specs.GrammarImage.{symbol_at}
use Rattle.grammar_image.proofs.symbol_at.Goals as goal

pub returns : goal.returns
unfolding symbol_at
returns c =
    let image = c.args.image.now in
    let productions = c.from.ensures ∙ c.field_at.ensures in
    record {
      kind = c.byte_at.ensures ∙ ap (λ (at : ℕ). get_or image at 0) (omega (arith, productions));
      relation = c.byte_at-2.ensures ∙ ap (λ (at : ℕ). get_or image at 0) (omega (arith, productions));
      number = c.field_at-2.ensures ∙ ap (field_at image) (omega (arith, productions));
    }
