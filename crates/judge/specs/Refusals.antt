-- Document 01's number and place for each refusal of the check.
use Rattle.rules.specs.Walk.{Answer, answer}
use Rattle.derive.specs.Answers.{refusal_answer as walk_answer}
use Rattle.judge.specs.declared.Refusal.{Refusal}
use Rattle.judge.specs.declared.Refusal.TheVariants.{Grammar, Tokens, Tree, Room, Derivation, Empty}

abbrev pub refusal_answer : Refusal → Answer
refusal_answer (Grammar fault) = answer 1 fault.byte
refusal_answer (Tokens fault) = answer 2 fault.byte
refusal_answer (Tree fault) = answer 3 fault.byte
refusal_answer (Room needed) = answer 4 needed
refusal_answer (Derivation refusal) = walk_answer refusal
refusal_answer (Empty node) = answer 12 node
