-- Each return passes the fields that were tested before it.
use Rattle.std.proofs.Common.{ℕ, ◌*◌, refl, ap₂, ◌∙◌}
use Rattle.fields.specs.Fields.{counted_fields}
use Rattle.fields.proofs.Searching.{tests, pass, fail, done}
use Rattle.fields.proofs.Header.check.Goals as goal

pub returns-then-length-from : goal.returns-then-length-from
unfolding counted_fields
returns-then-length-from c = fail _ _ (omega tests) refl

pub returns-then-count-self : goal.returns-then-count-self
unfolding counted_fields
returns-then-count-self c = pass _ _ (omega tests) (fail _ _ (omega tests) refl)

pub returns-then-count-self-2 : goal.returns-then-count-self-2
unfolding counted_fields
returns-then-count-self-2 c = pass _ _ (omega tests) (pass _ _ (omega tests) (fail _ _ (omega tests) refl))

pub returns-then-field_at-self : goal.returns-then-field_at-self
unfolding counted_fields
returns-then-field_at-self c = pass _ _ (omega tests) (pass _ _ (omega tests) (pass _ _ (omega tests) (fail _ _ (omega tests) refl)))

pub returns-then-total-from : goal.returns-then-total-from
unfolding counted_fields
returns-then-total-from c =
    let records = ap₂ (λ (m n : ℕ). m * n) c.from-3.ensures (c.from-4.ensures ∙ c.field_at-count.ensures) in
    pass _ _ (omega tests) (pass _ _ (omega tests) (pass _ _ (omega tests) (pass _ _ (omega tests) (fail _ _ (omega tests) refl))))

pub returns-then-total-length : goal.returns-then-total-length
unfolding counted_fields
returns-then-total-length c =
    let records = ap₂ (λ (m n : ℕ). m * n) c.from-3.ensures (c.from-4.ensures ∙ c.field_at-count.ensures) in
    pass _ _ (omega tests) (pass _ _ (omega tests) (pass _ _ (omega tests) (pass _ _ (omega tests) (pass _ _ (omega tests) (fail _ _ (omega tests) refl)))))

pub returns : goal.returns
unfolding counted_fields
returns c =
    let records = ap₂ (λ (m n : ℕ). m * n) c.from-3.ensures (c.from-4.ensures ∙ c.field_at-count.ensures) in
    pass _ _ (omega tests) (pass _ _ (omega tests) (pass _ _ (omega tests) (pass _ _ (omega tests) (pass _ _ (omega tests) (pass _ _ (omega tests) done)))))
