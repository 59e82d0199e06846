-- Where the header and the records of a well-formed grammar image lie: what its readers ask for.
use Rattle.std.proofs.Common.{ℕ, ◌+◌, ◌*◌, ◌<◌, ◌≤◌, List, ◌++◌, length, leb, leb-true, eqb-true, arith}
use Rattle.rules.specs.Limits.{max_productions, max_entries, max_row}
use Rattle.fields.specs.Fields.{field_at, WellFormed, each}
use Rattle.grammar_image.specs.GrammarImage.{production_count, entry_count, entry_byte, first_of, count_of, starts_at}
use Rattle.grammar_image.specs.GrammarImage.{count_fields, offset_fields, production_fields, productions_fields, symbols_fields, grammar_fields}
use Rattle.fields.proofs.Formed.{formed_parts, each_formed, both_true}

-- the limits that the records need
pub counts_within : (image : List ℕ) → WellFormed (count_fields image) → (production_count image ≤ max_productions) × (entry_count image ≤ max_entries)
unfolding count_fields WellFormed
counts_within image formed =
    (leb-true (production_count image) max_productions formed.1.1.1.1.1.1.1.0, leb-true (entry_count image) max_entries formed.1.1.1.1.1.1.1.1.0)

-- the entries end where the image does
pub entries_within : (image : List ℕ) → WellFormed (offset_fields image) → entry_byte image (entry_count image) ≤ length image
unfolding offset_fields WellFormed
entries_within image formed =
    let total = eqb-true (field_at image 14) (16 + 6 * production_count image + 4 * entry_count image) formed.1.1.0 in
    let real = eqb-true (field_at image 14) (length image) formed.1.1.1.0 in
    omega arith

module _ (image : List ℕ) (formed : WellFormed (grammar_fields image)) where
  header : WellFormed (count_fields image ++ offset_fields image)
  unfolding grammar_fields
  header = (formed_parts (count_fields image ++ offset_fields image) (productions_fields image ++ symbols_fields image) formed).0

  records : WellFormed (productions_fields image)
  unfolding grammar_fields
  records = (formed_parts (productions_fields image) (symbols_fields image) (formed_parts (count_fields image ++ offset_fields image) (productions_fields image ++ symbols_fields image) formed).1).0

  ends : entry_byte image (entry_count image) ≤ length image
  ends = entries_within image (formed_parts (count_fields image) (offset_fields image) header).1

  -- for `counts_at` and `total_length`
  pub header_within : 16 ≤ length image
  header_within = omega (arith, ends)

  -- for `production_at`
  pub production_within : (p : ℕ) → p < production_count image → 16 + 6 * p + 6 ≤ length image
  production_within p h = omega (arith, ends)

  -- the row of a production ends within the entries
  pub row_within : (p : ℕ) → p < production_count image → first_of image p + count_of image p ≤ entry_count image
  unfolding productions_fields production_fields WellFormed
  row_within p h =
      let fields = each_formed (production_fields image) (production_count image) p (formed_parts (each (production_count image) (production_fields image)) _ records).0 h in
      let starts = eqb-true (first_of image p) (starts_at image p) fields.1.0 in
      let last = leb-true (starts_at image p + count_of image p) (entry_count image) (both_true (leb (count_of image p) max_row) _ fields.1.1.0).1 in
      omega arith

  -- for `symbol_at`, by the number of entries
  pub entry_within : (y : ℕ) → y < entry_count image → entry_byte image y + 4 ≤ length image
  entry_within y h = omega (arith, ends)

  -- and by the production whose row the entry is of
  pub symbol_within : (p y : ℕ) → p < production_count image → y < first_of image p + count_of image p → entry_byte image y + 4 ≤ length image
  symbol_within p y h below = entry_within y (omega (arith, row_within p h))
