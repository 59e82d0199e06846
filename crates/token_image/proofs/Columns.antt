-- In a well-formed token image no column is above the limit: each token's second field keeps that rule, or says that there is no column.
use Rattle.std.proofs.Common.{◌≡◌, refl, Bool, true, false, List, ℕ, zero, suc, ◌+◌, ◌<◌, ◌≤◌, arith, leb, leb-true, eqb-true}
use Rattle.rules.specs.Limits.{max_column, column_allowed}
use Rattle.rules.specs.Grammar.{no_column, ColumnsUpTo}
use Rattle.fields.specs.Fields.{WellFormed, list_from}
use Rattle.token_image.specs.TokenImage.{token_count, token_at, tokens_of, header_fields, record_fields, records_fields, token_fields}
use Rattle.fields.proofs.Formed.{formed_parts, each_formed}

-- a column that is allowed and is one
allowed_low : (column : ℕ) → column_allowed column ≡ true → (column ≡ no_column → ⊥) → column ≤ max_column
unfolding column_allowed
allowed_low column allowed has = by (leb column max_column) refl
  where
    by : (b : Bool) → leb column max_column ≡ b → column ≤ max_column
    by true e = leb-true column max_column e
    by false e = absurd (has (eqb-true column no_column (rw e at allowed)))

columns_from : (T : ℕ) (image : List ℕ) (k n : ℕ) → ((i : ℕ) → i < k + n → WellFormed (record_fields T image i)) → ColumnsUpTo max_column (list_from k n (token_at image))
unfolding ColumnsUpTo list_from token_at record_fields WellFormed
columns_from T image k zero h = tt
columns_from T image k (suc n) h = (allowed_low _ (h k (omega arith)).1.0, columns_from T image (suc k) n (λ i l. h i (omega arith)))

pub columns_kept : (T : ℕ) (image : List ℕ) → WellFormed (token_fields T image) → ColumnsUpTo max_column (tokens_of image)
unfolding tokens_of token_fields records_fields
columns_kept T image formed =
    columns_from T image 0 (token_count image) (λ i l. each_formed (record_fields T image) (token_count image) i (formed_parts (header_fields image) (records_fields T image) formed).1 (omega arith))
