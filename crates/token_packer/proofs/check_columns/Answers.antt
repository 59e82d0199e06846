-- Each turn takes a column off what is left to be searched.
use Rattle.std.proofs.Common.{◌∙◌, length, refl, sym, ap, arith}
use Rattle.std.proofs.Math.Nat.{sub-zero}
use Rattle.fields.specs.Fields.{first_fault}
use Rattle.packers.specs.Packing.{column_fields, columns_refusal}
use Rattle.fields.proofs.Searching.{pass, fail, done, each_first, each_none}
use Rattle.token_packer.proofs.check_columns.Invariants.{fields}
use Rattle.token_packer.proofs.check_columns.Goals as goal

pub loop-k-init : goal.loop-k-init
unfolding column_fields
loop-k-init c = rw sub-zero

pub returns-then-not-column_allowed : goal.returns-then-not-column_allowed
returns-then-not-column_allowed c =
    let columns = c.args.columns.now in
    ap columns_refusal
    (fail _ _ (sym c.column_allowed.ensures ∙ c.if-not-column_allowed.true) refl
    ∙ sym (c.loop-k.invariant ∙ ap first_fault (each_first (fields columns) c.loop-k.k (length columns) (omega arith))))

pub loop-k-preserved : goal.loop-k-preserved
loop-k-preserved c =
    let columns = c.args.columns.now in
    c.loop-k.invariant
    ∙ ap first_fault (each_first (fields columns) c.loop-k.k (length columns) (omega arith))
    ∙ sym (pass _ _ (sym c.column_allowed.ensures ∙ c.if-not-column_allowed.false) refl)

pub returns : goal.returns
returns c =
    let columns = c.args.columns.now in
    ap columns_refusal (done ∙ sym (c.loop-k.invariant ∙ ap first_fault (each_none (fields columns) c.loop-k.k (length columns) (omega arith))))
