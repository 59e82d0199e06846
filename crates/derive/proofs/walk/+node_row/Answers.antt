use Rattle.std.proofs.Common.{ap, ◌∙◌, arith}
use Rattle.fields.proofs.Searching.{handed}
use Rattle.derive.specs.Answers.{walked_as}
use Rattle.derive.proofs.Walking.{no_node, other_left, too_deep_lem, row_empty, row_walked, row_refused, row_goes_on, row_used, terminal_due, nonterminal_due, row_begins}
use Rattle.derive.proofs.walk.+node_row.Goals as goal

pub node-returns-then-n-count : goal.node-returns-then-n-count
node-returns-then-n-count t c = no_node _ _ _ _ _ _ _ (omega arith) (omega arith)

pub node-returns-then-production-nonterminal : goal.node-returns-then-production-nonterminal
node-returns-then-production-nonterminal t c =
    other_left _ _ _ _ _ _ c.production_of-production.ensures.production _ (omega arith) (omega arith) (λ e. omega arith)

pub node-returns-then-levels-eq0 : goal.node-returns-then-levels-eq0
node-returns-then-levels-eq0 t c =
    too_deep_lem _ _ _ _ _ _ c.production_of-production.ensures.production _ (omega arith) (omega arith) (omega arith)

pub node-returns-then-production-eq0 : goal.node-returns-then-production-eq0
node-returns-then-production-eq0 t c =
    row_empty _ _ _ _ _ _ c.production_of-production.ensures.production _ c.if-levels-eq0.false (omega arith) (omega arith) (omega arith)

pub node-returns : goal.node-returns
node-returns t c =
    row_walked _ _ _ _ _ _ c.production_of-production.ensures.production _ c.if-levels-eq0.false (omega arith) (omega arith)
    (c.row.ensures ∙ row_begins _ _ _ _ _ _ _ _ c.entries.ensures.start c.entries.ensures.end)

pub row-returns-in_err-used-in-Terminal : goal.row-returns-in_err-used-in-Terminal
row-returns-in_err-used-in-Terminal t c =
    ap walked_as (handed c.from_residual.ensures)
    ∙ row_refused _ _ _ _ _ _ c.in-Some.ensures.steps (terminal_due _ _ c.symbol_at-symbol.ensures _ _ c.in-Terminal.ensures c.in_err-used-in-Terminal.ensures)
    ∙ c.loop-y.invariant.1

pub row-returns-in_err-used-in-Nonterminal : goal.row-returns-in_err-used-in-Nonterminal
row-returns-in_err-used-in-Nonterminal t c =
    ap walked_as (handed c.from_residual-in_err-used-in-Nonterminal.ensures)
    ∙ row_refused _ _ _ _ _ _ c.in-Some.ensures.steps (nonterminal_due _ _ c.symbol_at-symbol.ensures _ _ c.in-Nonterminal.ensures c.in_err-used-in-Nonterminal.ensures)
    ∙ c.loop-y.invariant.1

pub row-loop-y-preserved-in_ok-used-in-Terminal : goal.row-loop-y-preserved-in_ok-used-in-Terminal
row-loop-y-preserved-in_ok-used-in-Terminal t c = (
  omega arith,
  row_goes_on _ _ _ _ _ _ c.in-Some.ensures.steps (terminal_due _ _ c.symbol_at-symbol.ensures _ _ c.in-Terminal.ensures c.in_ok-used-in-Terminal.ensures)
      ∙ c.loop-y.invariant.1,
)

pub row-loop-y-preserved : goal.row-loop-y-preserved
row-loop-y-preserved t c = (
  omega arith,
  row_goes_on _ _ _ _ _ _ c.in-Some.ensures.steps (nonterminal_due _ _ c.symbol_at-symbol.ensures _ _ c.in-Nonterminal.ensures c.in_ok-used-in-Nonterminal.ensures)
      ∙ c.loop-y.invariant.1,
)

pub row-returns : goal.row-returns
row-returns t c = row_used _ _ _ _ _ _ (omega (arith, c.in-None.ensures.steps)) ∙ c.loop-y.invariant.1
