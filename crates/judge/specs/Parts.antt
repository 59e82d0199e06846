-- The tests of the check in parts, as the code makes them. No promise to the desk names them.
use Rattle.std.specs.Prelude.{List, [], ◌∷◌, ℕ, ◌*◌}
use Rattle.rules.specs.Walk.{Answer}
use Rattle.fields.specs.Fields.{first_fault}
use Rattle.fields.specs.Images.{Images}
use Rattle.grammar_image.specs.GrammarImage.{terminal_count, production_count, grammar_fields}
use Rattle.token_image.specs.TokenImage.{token_fields}
use Rattle.tree_image.specs.TreeImage.{tree_fields}
use Rattle.derive.specs.Images.{walk_in}
use Rattle.judge.specs.Judged.{Entries, checked, room}

-- 1 to 3
abbrev pub image_tests : Images → List Answer
image_tests s =
    checked 1 (first_fault (grammar_fields s.grammar))
    ∷ checked 2 (first_fault (token_fields (terminal_count s.grammar) s.tokens))
    ∷ checked 3 (first_fault (tree_fields (production_count s.grammar) s.tree))
    ∷ []

-- 4, for a tree of so many nodes
abbrev pub room_tests : ℕ → Entries → List Answer
room_tests nodes lent = room (2 * nodes) lent.sets ∷ room nodes lent.indentations ∷ []

-- 5 to 11
abbrev pub walk_tests : Images → List Answer
walk_tests s = walk_in s ∷ []
