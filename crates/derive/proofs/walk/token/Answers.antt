-- A token that is due is missing, another or met, in this order.
use Rattle.std.proofs.Common.{arith}
use Rattle.derive.proofs.Walking.{no_token_lem, other_token, token_met}
use Rattle.derive.proofs.walk.token.Goals as goal

pub returns-then-used-count : goal.returns-then-used-count
returns-then-used-count c = no_token_lem _ _ _ _ (omega arith) (omega arith)

pub returns : goal.returns
returns c = token_met _ _ _ _ (omega arith) (omega arith)

pub returns-then-token_at-terminal : goal.returns-then-token_at-terminal
returns-then-token_at-terminal c = other_token _ _ _ _ (omega arith) (λ e. omega arith)
