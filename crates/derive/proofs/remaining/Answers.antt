-- Nodes that remain are told before tokens that remain.
use Rattle.std.proofs.Common.{arith}
use Rattle.derive.proofs.Walking.{nodes_remain, tokens_remain, all_used}
use Rattle.derive.proofs.remaining.Goals as goal

pub returns-then-used-node_count : goal.returns-then-used-node_count
returns-then-used-node_count c = nodes_remain _ _ _ _ (omega arith)

pub returns-then-used-token_count : goal.returns-then-used-token_count
returns-then-used-token_count c = tokens_remain _ _ _ _ (omega arith) (omega arith)

pub returns : goal.returns
returns c = all_used _ _ _ _ (omega arith) (omega arith)
