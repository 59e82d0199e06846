-- What follows the grammar image is cut as the definition says.
use Rattle.std.proofs.Common.{rules}
use Rattle.delivery.specs.Delivery.{image_length, grammar_in, tokens_in, tree_in, grammar_length, token_length, after_grammar}
use Rattle.delivery.proofs.images_in.Goals as goal

pub returns-clause-grammar : goal.returns-clause-grammar
unfolding grammar_in grammar_length image_length
returns-clause-grammar c = search rules

pub returns-clause-tokens : goal.returns-clause-tokens
unfolding tokens_in token_length after_grammar grammar_length image_length
returns-clause-tokens c = search rules

pub returns-clause-tree : goal.returns-clause-tree
unfolding tree_in token_length after_grammar grammar_length image_length
returns-clause-tree c = search rules
