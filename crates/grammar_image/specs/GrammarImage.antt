-- "Grammar image. Bytes 0: terminals T, 1 to 1,024. 2: nonterminals N, 1 to 1,024. 4: start nonterminal, below N. 6:
-- productions P, 1 to 1,024.
-- 8: symbol entries Y, 0 to 4,096. 10: offset of the productions, 16. 12: offset of the symbols, 16 + 6P. 14: total
-- length, 16 + 6P + 4Y, which is also the image's real length."
use Rattle.std.specs.Prelude.{◌≡◌, ◌&&◌, cond, List, [], ◌∷◌, ◌++◌, ℕ}
use Rattle.std.specs.Prelude.{zero, suc, ◌+◌, ◌*◌, leb, ltb, eqb, length, get_or}
use Rattle.rules.specs.Limits.{max_terminals, max_nonterminals, max_productions, max_entries, max_row}
use Rattle.rules.specs.Grammar.{Symbol, Production}
use Rattle.fields.specs.Fields.{field_at, Field, field, each, list, list_from}
use Rattle.grammar_image.specs.declared.Counts.{Counts}
use Rattle.grammar_image.specs.declared.Symbol.{Symbol as SymbolRead}
use Rattle.grammar_image.specs.declared.Production.{Production as ProductionRead}

abbrev pub terminal_count : List ℕ → ℕ
terminal_count image = field_at image 0

abbrev pub nonterminal_count : List ℕ → ℕ
nonterminal_count image = field_at image 2

abbrev pub start_nonterminal : List ℕ → ℕ
start_nonterminal image = field_at image 4

abbrev pub production_count : List ℕ → ℕ
production_count image = field_at image 6

abbrev pub entry_count : List ℕ → ℕ
entry_count image = field_at image 8

-- "A production is 6 bytes: left side (below N), number of its first symbol entry, count of symbols (0 to 16)"
abbrev pub left_of : List ℕ → ℕ → ℕ
left_of image p = field_at image (16 + 6 * p)

abbrev pub first_of : List ℕ → ℕ → ℕ
first_of image p = field_at image (16 + 6 * p + 2)

abbrev pub count_of : List ℕ → ℕ → ℕ
count_of image p = field_at image (16 + 6 * p + 4)

-- "A symbol entry is 4 bytes: one byte kind (0 terminal, 1 nonterminal), one byte relation (0 to 3), then the symbol's
-- number (below T or N)": the byte of entry y
abbrev pub entry_byte : List ℕ → ℕ → ℕ
entry_byte image y = 16 + 6 * production_count image + 4 * y

unfoldable pub symbol_at : List ℕ → ℕ → Symbol
symbol_at image y =
    record {
      kind = get_or image (entry_byte image y) 0;
      relation = get_or image (entry_byte image y + 1) 0;
      number = field_at image (entry_byte image y + 2);
    }

-- production p with its row
unfoldable pub production_at : List ℕ → ℕ → Production
production_at image p =
    record { left = left_of image p; right = list_from (first_of image p) (count_of image p) (symbol_at image) }

-- what the image holds: the productions with their rows
unfoldable pub productions_of : List ℕ → List Production
productions_of image = list (production_count image) (production_at image)

-- what the readers give: the counts, production p, the symbol of entry y
pub record Counted (image : List ℕ) (r : Counts) : Type 0 where
  pub terminals : r.terminals ≡ terminal_count image
  pub nonterminals : r.nonterminals ≡ nonterminal_count image
  pub start : r.start ≡ start_nonterminal image
  pub productions : r.productions ≡ production_count image
  pub entries : r.entries ≡ entry_count image

pub record ProductionIs (image : List ℕ) (p : ℕ) (r : ProductionRead) : Type 0 where
  pub left : r.left ≡ left_of image p
  pub first : r.first ≡ first_of image p
  pub count : r.count ≡ count_of image p

pub record SymbolIs (image : List ℕ) (y : ℕ) (r : SymbolRead) : Type 0 where
  pub kind : r.kind ≡ (symbol_at image y).kind
  pub relation : r.relation ≡ (symbol_at image y).relation
  pub number : r.number ≡ (symbol_at image y).number

-- "byte of the field; the image's length if under 16"
unfoldable pub count_fields : List ℕ → List Field
count_fields image =
    field (length image) (leb 16 (length image))
    ∷ field 0 (leb 1 (terminal_count image))
    ∷ field 0 (leb (terminal_count image) max_terminals)
    ∷ field 2 (leb 1 (nonterminal_count image))
    ∷ field 2 (leb (nonterminal_count image) max_nonterminals)
    ∷ field 4 (ltb (start_nonterminal image) (nonterminal_count image))
    ∷ field 6 (leb 1 (production_count image))
    ∷ field 6 (leb (production_count image) max_productions)
    ∷ field 8 (leb (entry_count image) max_entries)
    ∷ []

unfoldable pub offset_fields : List ℕ → List Field
offset_fields image =
    field 10 (eqb (field_at image 10) 16)
    ∷ field 12 (eqb (field_at image 12) (16 + 6 * production_count image))
    ∷ field 14 (eqb (field_at image 14) (16 + 6 * production_count image + 4 * entry_count image))
    ∷ field 14 (eqb (field_at image 14) (length image))
    ∷ []

-- "The first entry of production 0 is 0; each later one starts where the one before ended": the entry where production
-- p has to start
unfoldable pub starts_at : List ℕ → ℕ → ℕ
starts_at image zero = 0
starts_at image (suc p) = starts_at image p + count_of image p

-- "a production never runs past Y (a fault of its count)"
unfoldable pub production_fields : List ℕ → ℕ → List Field
production_fields image p =
    field (16 + 6 * p) (ltb (left_of image p) (nonterminal_count image))
    ∷ field (16 + 6 * p + 2) (eqb (first_of image p) (starts_at image p))
    ∷ field (16 + 6 * p + 4)
    (leb (count_of image p) max_row && leb (starts_at image p + count_of image p) (entry_count image))
    ∷ []

-- "After the last production and before the symbols, a last end other than Y is a fault of byte 8"
unfoldable pub productions_fields : List ℕ → List Field
productions_fields image =
    each (production_count image) (production_fields image)
    ++ (field 8 (eqb (starts_at image (production_count image)) (entry_count image)) ∷ [])

-- a symbol's number is below T or N, by its kind
abbrev pub number_bound : List ℕ → ℕ → ℕ
number_bound image kind = cond (eqb kind 0) (terminal_count image) (nonterminal_count image)

unfoldable pub symbol_fields : List ℕ → ℕ → List Field
symbol_fields image y =
    field (entry_byte image y) (leb (symbol_at image y).kind 1)
    ∷ field (entry_byte image y + 1) (leb (symbol_at image y).relation 3)
    ∷ field (entry_byte image y + 2) (ltb (symbol_at image y).number (number_bound image (symbol_at image y).kind))
    ∷ []

unfoldable pub symbols_fields : List ℕ → List Field
symbols_fields image = each (entry_count image) (symbol_fields image)

-- the whole image: "header first, then records"
unfoldable pub grammar_fields : List ℕ → List Field
grammar_fields image = (count_fields image ++ offset_fields image) ++ (productions_fields image ++ symbols_fields image)
