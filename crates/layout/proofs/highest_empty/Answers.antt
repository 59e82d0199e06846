use Rattle.std.proofs.Common.{rules, tests, arith, ap, ◌∙◌, ℕ}
use Rattle.std.specs.declared.ops.Range.{Range}
use Rattle.layout.proofs.HighestEmpty.{highest_found}
use Rattle.layout.proofs.highest_empty.Goals as goal

pub returns : goal.returns
returns c =
    let start = ap (λ (r : Range ℕ). r.start) c.rev.ensures.source in
    let end = ap (λ (r : Range ℕ). r.end) c.rev.ensures.source in
    c.unwrap_or.ensures
    ∙ highest_found c.args.sets.now _ (λ n q k. search (rules, tests)) (λ n q k. search (rules, tests)) c.args.count _ _ c.find.result c.find.ensures.ran start (omega (arith, end))
