-- Each return passes the fields that were tested before it.
use Rattle.std.proofs.Common.{refl}
use Rattle.grammar_image.specs.GrammarImage.{offset_fields}
use Rattle.fields.proofs.Searching.{tests, pass, fail, done}
use Rattle.grammar_image.proofs.Header.check_offsets.Goals as goal
use Rattle.grammar_image.proofs.Header.check_offsets.Goals.{then-from-entry_byte-2-via-then-from-entry_byte-2 as other_end, then-from-entry_byte-2-via-else-from-entry_byte-2+then-from-self as other_length}

pub returns-then-field_at-ne16 : goal.returns-then-field_at-ne16
unfolding offset_fields
returns-then-field_at-ne16 c = fail _ _ (omega tests) refl

pub returns-then-from-entry_byte : goal.returns-then-from-entry_byte
unfolding offset_fields
returns-then-from-entry_byte c = pass _ _ (omega tests) (fail _ _ (omega tests) refl)

pub returns-then-from-entry_byte-2 : goal.returns-then-from-entry_byte-2
unfolding offset_fields
returns-then-from-entry_byte-2 c =
    pass _ _ (omega tests)
    (pass _ _ (omega tests)
    (elim c.then-from-entry_byte-2.branch [ other_end w ↦ fail _ _ (omega tests) refl | other_length w ↦ pass _ _ (omega tests) (fail _ _ (omega tests) refl) ]))

pub returns : goal.returns
unfolding offset_fields
returns c =
    pass _ _ (omega tests) (pass _ _ (omega tests) (pass _ _ (omega tests) (pass _ _ (omega tests) done)))
