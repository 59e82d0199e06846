-- Document 01's number and place for each case of the derivation's answer.
use Rattle.std.specs.Prelude.{Result, Ok, Err}
use Rattle.rules.specs.Walk.{Answer, answer, Walked, used, refused}
use Rattle.derive.specs.declared.Refusal.{Refusal}
use Rattle.derive.specs.declared.Refusal.TheVariants.{WrongNode, NodesEnd, WrongToken, TokensEnd, TooDeep}
use Rattle.derive.specs.declared.Refusal.TheVariants.{NodesRemain, TokensRemain}
use Rattle.derive.specs.declared.walk.Used.{Used}

abbrev pub refusal_answer : Refusal → Answer
refusal_answer (WrongNode node) = answer 5 node
refusal_answer (NodesEnd count) = answer 6 count
refusal_answer (WrongToken token) = answer 7 token
refusal_answer (TokensEnd count) = answer 8 count
refusal_answer (TooDeep node) = answer 9 node
refusal_answer (NodesRemain node) = answer 10 node
refusal_answer (TokensRemain token) = answer 11 token

-- what the derivation walk answers: `Ok tt` where the tree derives the whole token list, else why it does not
abbrev pub Derivation : Type 0
Derivation = Result (Unit {0}) Refusal

abbrev pub derivation_answer : Derivation → Answer
derivation_answer (Ok derived) = answer 0 0
derivation_answer (Err refusal) = refusal_answer refusal

-- how the walk of a node or of a row ends, in the words of the definition
abbrev pub walked_as : Result Used Refusal → Walked
walked_as (Ok u) = used u.nodes u.tokens
walked_as (Err refusal) = refused (refusal_answer refusal)
