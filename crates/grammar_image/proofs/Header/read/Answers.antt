-- An image of under 16 bytes breaks the rule of its length, which is the first.
use Rattle.std.proofs.Common.{refl}
use Rattle.grammar_image.specs.GrammarImage.{count_fields, grammar_fields}
use Rattle.fields.proofs.Searching.{tests, fail}
use Rattle.grammar_image.proofs.Header.read.Goals as goal

pub returns-then-length-lt16-clause-short : goal.returns-then-length-lt16-clause-short
unfolding grammar_fields count_fields
returns-then-length-lt16-clause-short c = fail _ _ (omega tests) refl
