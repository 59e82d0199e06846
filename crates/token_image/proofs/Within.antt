-- Where the header and the tokens of a well-formed token image lie: what its readers ask for.
use Rattle.std.proofs.Common.{◌≡◌, List, ℕ, ◌+◌, ◌*◌, ◌<◌, ◌≤◌, arith, length, eqb-true}
use Rattle.rules.specs.Limits.{max_tokens}
use Rattle.fields.specs.Fields.{field_at, counted_fields, first_fault, WellFormed}
use Rattle.token_image.specs.TokenImage.{token_count, header_fields, records_fields, token_fields}
use Rattle.fields.proofs.Formed.{formed_parts}
use Rattle.fields.proofs.Searching.{tests, kept_second}

-- its header is one with a count, of which the least is no rule
pub header_lem : (image : List ℕ)
    → first_fault (counted_fields (record { least = 0; most = max_tokens; bytes = 6; record_bytes = 4 }) image) ≡ first_fault (header_fields image)
unfolding header_fields counted_fields
header_lem image = kept_second _ _ _ (omega tests)

-- the tokens end where the image does
pub tokens_within : (image : List ℕ) → WellFormed (header_fields image) → 6 + 4 * token_count image ≤ length image
unfolding header_fields WellFormed
tokens_within image formed =
    let total = eqb-true (field_at image 4) (6 + 4 * token_count image) formed.1.1.1.0 in
    let real = eqb-true (field_at image 4) (length image) formed.1.1.1.1.0 in
    omega arith

module _ (T : ℕ) (image : List ℕ) (formed : WellFormed (token_fields T image)) where
  header : WellFormed (header_fields image)
  unfolding token_fields
  header = (formed_parts (header_fields image) (records_fields T image) formed).0

  -- for all tokens
  pub tokens_end_lem : 6 + 4 * token_count image ≤ length image
  tokens_end_lem = tokens_within image header

  -- for `token_count` and `total_length`
  pub header_within : 6 ≤ length image
  header_within = omega (arith, tokens_end_lem)

  -- for `token_at`
  pub token_within : (k : ℕ) → k < token_count image → 6 + 4 * k + 4 ≤ length image
  token_within k h = omega (arith, tokens_end_lem)
