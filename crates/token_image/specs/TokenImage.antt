-- "Token image. Bytes 0: count K, 0 to 4,096. 2: offset, 6. 4: total length, 6 + 4K, also the real length. Each token:
-- terminal (below T), column (0 to 4,095)", or 65,535, "no column".
use Rattle.std.specs.Prelude.{◌≡◌, List, [], ◌∷◌, ◌++◌, ℕ, ◌+◌, ◌*◌, leb, ltb, eqb, length}
use Rattle.rules.specs.Limits.{max_tokens, column_allowed}
use Rattle.rules.specs.Grammar.{Token}
use Rattle.fields.specs.Fields.{field_at, Field, field, each, list}
use Rattle.token_image.specs.declared.Token.{Token as TokenRead}

abbrev pub token_count : List ℕ → ℕ
token_count image = field_at image 0

-- token k
unfoldable pub token_at : List ℕ → ℕ → Token
token_at image k = record { terminal = field_at image (6 + 4 * k); column = field_at image (6 + 4 * k + 2) }

-- what the image holds: the list of tokens
unfoldable pub tokens_of : List ℕ → List Token
tokens_of image = list (token_count image) (token_at image)

-- what the reader gives: token k
pub record TokenIs (image : List ℕ) (k : ℕ) (r : TokenRead) : Type 0 where
  pub terminal : r.terminal ≡ (token_at image k).terminal
  pub column : r.column ≡ (token_at image k).column

-- "byte of the field; the length if under 6"
unfoldable pub header_fields : List ℕ → List Field
header_fields image =
    field (length image) (leb 6 (length image))
    ∷ field 0 (leb (token_count image) max_tokens)
    ∷ field 2 (eqb (field_at image 2) 6)
    ∷ field 4 (eqb (field_at image 4) (6 + 4 * token_count image))
    ∷ field 4 (eqb (field_at image 4) (length image))
    ∷ []

-- token k: its terminal, its column
unfoldable pub record_fields : ℕ → List ℕ → ℕ → List Field
record_fields T image k =
    field (6 + 4 * k) (ltb (field_at image (6 + 4 * k)) T)
    ∷ field (6 + 4 * k + 2) (column_allowed (field_at image (6 + 4 * k + 2)))
    ∷ []

unfoldable pub records_fields : ℕ → List ℕ → List Field
records_fields T image = each (token_count image) (record_fields T image)

-- the whole image, for a grammar of T terminals
unfoldable pub token_fields : ℕ → List ℕ → List Field
token_fields T image = header_fields image ++ records_fields T image
