-- A delivery: "grammar, token and tree image one after another". It is the list of its bytes.
use Rattle.std.specs.Prelude.{cond, List, ℕ, min, ltb, length, take, drop}
use Rattle.fields.specs.Fields.{field_at}
use Rattle.fields.specs.Images.{Images, images}

-- "cut by their total-length field, or take all that remains where fewer bytes remain or the header is short":
-- how many of the bytes that are there an image takes, by the length of its header and what its total-length field says
unfoldable pub image_length : ℕ → ℕ → ℕ → ℕ
image_length there header says = cond (ltb there header) there (min says there)

-- the header of a grammar image has 16 bytes, with the total length at byte 14
unfoldable pub grammar_length : List ℕ → ℕ
grammar_length delivery = image_length (length delivery) 16 (field_at delivery 14)

unfoldable pub grammar_in : List ℕ → List ℕ
grammar_in delivery = take (grammar_length delivery) delivery

unfoldable pub after_grammar : List ℕ → List ℕ
after_grammar delivery = drop (grammar_length delivery) delivery

-- that of a token image has 6 bytes, with the total length at byte 4
unfoldable pub token_length : List ℕ → ℕ
token_length rest = image_length (length rest) 6 (field_at rest 4)

unfoldable pub tokens_in : List ℕ → List ℕ
tokens_in delivery = take (token_length (after_grammar delivery)) (after_grammar delivery)

-- "the third is the rest"
unfoldable pub tree_in : List ℕ → List ℕ
tree_in delivery = drop (token_length (after_grammar delivery)) (after_grammar delivery)

-- the three together
abbrev pub images_in : List ℕ → Images
images_in delivery = images (grammar_in delivery) (tokens_in delivery) (tree_in delivery)
