-- Each arm tests the field that it stands for.
use Rattle.std.proofs.Common.{◌≡◌, ℕ, ap, ◌∙◌, arith, ltb}
use Rattle.rules.specs.Limits.{column_allowed}
use Rattle.fields.specs.Fields.{field_at}
use Rattle.token_image.specs.TokenImage.{record_fields}
use Rattle.token_image.proofs.token_keeps.Goals as goal

pub returns-in-0 : goal.returns-in-0
unfolding record_fields
returns-in-0 c =
    let a = c.args in
    let which : a.f ≡ 0 = omega arith in
    rw which (ap (λ (value : ℕ). ltb value a.terminals) (c.field_at-value.ensures ∙ ap (field_at a.image.now) (omega arith)))

pub returns-in_default : goal.returns-in_default
unfolding record_fields
returns-in_default c =
    let a = c.args in
    let which : a.f ≡ 1 = omega arith in
    rw which (c.column_allowed.ensures ∙ ap column_allowed (c.field_at-value.ensures ∙ ap (field_at a.image.now) (omega arith)))
