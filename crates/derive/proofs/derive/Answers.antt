-- The walk begins at the root, with the start nonterminal due and all levels left, and what remains is told after it.
use Rattle.std.proofs.Common.{ap, refl, ◌∙◌, arith}
use Rattle.grammar_image.proofs.Within.{header_within}
use Rattle.derive.specs.Answers.{derivation_answer}
use Rattle.fields.proofs.Searching.{handed}
use Rattle.derive.proofs.Walking.{refused_done, walk_done_lem}
use Rattle.derive.proofs.derive.Goals as goal

pub counts_at-counts-requires : goal.counts_at-counts-requires
counts_at-counts-requires c = header_within c.args.formed.now.nodes.grammar.now c.args.formed.now.formed.nodes_formed.grammar_formed

pub returns-in_err-used : goal.returns-in_err-used
returns-in_err-used c = ap derivation_answer (handed c.from_residual.ensures) ∙ walk_done_lem _ _ _ c.in_err-used.ensures refl (omega arith) (refused_done _ _)

pub returns : goal.returns
returns c = walk_done_lem _ _ _ c.in_ok-used.ensures refl (omega arith) c.remaining.ensures
