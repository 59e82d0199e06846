-- A symbol entry that breaks its rules by nothing keeps them.
use Rattle.std.proofs.Common.{◌≡◌, ℕ, zero, suc, ◌+◌, ◌<◌, ◌≤◌, ◌/◌, ◌%◌, List, get_or, le-leb, lt-ltb, ne_eqb, arith}
use Rattle.fields.specs.Fields.{field_at, Bytes, WellFormed}
use Rattle.grammar_image.specs.GrammarImage.{terminal_count, nonterminal_count, entry_byte, number_bound, symbol_at, symbol_fields}

-- a number below the limit of its kind is below its bound
bounded : (image : List ℕ) (kind number limit : ℕ) → kind < 2 → (kind % 2 ≡ 0 → limit ≡ terminal_count image) → ((kind % 2 ≡ 0 → ⊥) → limit ≡ nonterminal_count image)
    → number < limit → number < number_bound image kind
bounded image zero number limit h even odd below = omega (arith, even (omega arith))
bounded image (suc kind) number limit h even odd below = rw (ne_eqb (suc kind) 0 (λ e. omega arith)) (omega (arith, odd (λ e. omega arith)))

-- head is the field of kind and relation
pub entry_formed : (image : List ℕ) (y : ℕ) {head number limit : ℕ} → Bytes image → head ≡ field_at image (entry_byte image y) → number ≡ field_at image (entry_byte image y + 2)
    → (head % 256 % 2 ≡ 0 → limit ≡ terminal_count image) → ((head % 256 % 2 ≡ 0 → ⊥) → limit ≡ nonterminal_count image)
    → head % 256 / 2 ≡ 0 → head / 256 / 4 ≡ 0 → number < limit → WellFormed (symbol_fields image y)
unfolding symbol_fields symbol_at WellFormed field_at
entry_formed image y {head} {number} {limit} bytes first last even odd low high below =
    let kind = get_or image (entry_byte image y) 0 in
    let small = bytes (entry_byte image y) in
    let same : head % 256 ≡ kind = omega arith in
    let relation = get_or image (entry_byte image y + 1) 0 in
    let low-kind : kind < 2 = omega arith in
    let low-relation : relation ≤ 3 = omega arith in
    let under = bounded image kind number limit low-kind (rw same at even) (rw same at odd) below in
    (le-leb kind 1 (omega arith), (le-leb relation 3 low-relation, (lt-ltb _ _ (rw last at under), tt)))
