-- What a reader of the cutting may rely on: no byte is lost, three well-formed images one after another are cut into
-- those three, and 47,133 bytes are one more than these have.
use Rattle.std.proofs.Common.{◌≡◌, sym, ap, ◌∙◌, List, ◌++◌, ℕ, ◌+◌, ◌*◌, ◌≤◌, arith, leb-true, eqb-true, le-ltb, length, take, drop}
use Rattle.std.proofs.Common.{take-append-drop, length-append, take_at, drop_at}
use Rattle.std.proofs.Math.ListN.{get_or-append}
use Rattle.rules.specs.Limits.{max_productions, max_entries, max_tokens, max_nodes}
use Rattle.fields.specs.Fields.{field_at, WellFormed}
use Rattle.grammar_image.specs.GrammarImage.{production_count, entry_count, count_fields, offset_fields}
use Rattle.grammar_image.specs.GrammarImage.{productions_fields, symbols_fields, grammar_fields}
use Rattle.token_image.specs.TokenImage.{token_count, token_fields}
use Rattle.token_image.specs.TokenImage.{header_fields as token_header, records_fields as token_records}
use Rattle.tree_image.specs.TreeImage.{node_count, tree_fields}
use Rattle.tree_image.specs.TreeImage.{header_fields as tree_header, records_fields as tree_records}
use Rattle.fields.proofs.Formed.{formed_parts}
use Rattle.delivery.specs.Delivery.{image_length, grammar_length, token_length, grammar_in, after_grammar, tokens_in}
use Rattle.delivery.specs.Delivery.{tree_in}

-- the three parts one after another are the delivery
pub whole : (delivery : List ℕ) → grammar_in delivery ++ (tokens_in delivery ++ tree_in delivery) ≡ delivery
unfolding grammar_in tokens_in tree_in after_grammar
whole delivery =
    let rest = drop (grammar_length delivery) delivery in
    ap (λ (l : List ℕ). take (grammar_length delivery) delivery ++ l) (take-append-drop (token_length rest) rest) ∙ take-append-drop (grammar_length delivery) delivery

-- the header is there, and its total-length field at byte `total` says the image's length
pub record Sized (total : ℕ) (image : List ℕ) : Type 0 where
  pub header : total + 2 ≤ length image
  pub says : field_at image total ≡ length image

field_before : (image rest : List ℕ) (at : ℕ) → at + 2 ≤ length image → field_at (image ++ rest) at ≡ field_at image at
unfolding field_at
field_before image rest at h = rw (get_or-append image rest 0 at (omega arith), get_or-append image rest 0 (at + 1) (omega arith))

-- such an image is cut off whole, whatever follows it
cut : (total : ℕ) (image rest : List ℕ) → Sized total image → image_length (length (image ++ rest)) (total + 2) (field_at (image ++ rest) total) ≡ length image
unfolding image_length
cut total image rest s =
    let there = length (image ++ rest) in
    let header : total + 2 ≤ there = omega (arith, s.header, length-append image rest) in
    rw (le-ltb there (total + 2) header) (omega (arith, field_before image rest total s.header, s.says, length-append image rest))

module _ (grammar tokens tree : List ℕ) (g : Sized 14 grammar) (t : Sized 4 tokens) where
  grammar_back : grammar_in (grammar ++ (tokens ++ tree)) ≡ grammar
  unfolding grammar_in grammar_length
  grammar_back = take_at grammar (tokens ++ tree) _ (sym (cut 14 grammar (tokens ++ tree) g))

  rest_back : after_grammar (grammar ++ (tokens ++ tree)) ≡ tokens ++ tree
  unfolding after_grammar grammar_length
  rest_back = drop_at grammar (tokens ++ tree) _ (sym (cut 14 grammar (tokens ++ tree) g))

  tokens_back : tokens_in (grammar ++ (tokens ++ tree)) ≡ tokens
  unfolding tokens_in token_length
  tokens_back = ap (λ (l : List ℕ). take (token_length l) l) rest_back ∙ take_at tokens tree _ (sym (cut 4 tokens tree t))

  tree_back : tree_in (grammar ++ (tokens ++ tree)) ≡ tree
  unfolding tree_in token_length
  tree_back = ap (λ (l : List ℕ). drop (token_length l) l) rest_back ∙ drop_at tokens tree _ (sym (cut 4 tokens tree t))

-- a well-formed image says its length, and is at most so long
grammar_sized : (grammar : List ℕ) → WellFormed (grammar_fields grammar) → Sized 14 grammar × (length grammar ≤ 22544)
unfolding WellFormed grammar_fields count_fields offset_fields
grammar_sized grammar h =
    let header = formed_parts (count_fields grammar) (offset_fields grammar) (formed_parts (count_fields grammar ++ offset_fields grammar) (productions_fields grammar ++ symbols_fields grammar) h).0 in
    let counts = header.0 in
    let offsets = header.1 in
    let says = eqb-true (field_at grammar 14) (length grammar) offsets.1.1.1.0 in
    let total = eqb-true (field_at grammar 14) (16 + 6 * production_count grammar + 4 * entry_count grammar) offsets.1.1.0 in
    (record { header = leb-true 16 (length grammar) counts.0; says = says }, omega (arith, says, total, leb-true (production_count grammar) max_productions counts.1.1.1.1.1.1.1.0, leb-true (entry_count grammar) max_entries counts.1.1.1.1.1.1.1.1.0))

tokens_sized : (T : ℕ) (tokens : List ℕ) → WellFormed (token_fields T tokens) → Sized 4 tokens × (length tokens ≤ 16390)
unfolding WellFormed token_fields token_header
tokens_sized T tokens h =
    let header = (formed_parts (token_header tokens) (token_records T tokens) h).0 in
    let says = eqb-true (field_at tokens 4) (length tokens) header.1.1.1.1.0 in
    let total = eqb-true (field_at tokens 4) (6 + 4 * token_count tokens) header.1.1.1.0 in
    (record { header = leb-true 6 (length tokens) header.0; says = says }, omega (arith, says, total, leb-true (token_count tokens) max_tokens header.1.0))

tree_sized : (P : ℕ) (tree : List ℕ) → WellFormed (tree_fields P tree) → length tree ≤ 8198
unfolding WellFormed tree_fields tree_header
tree_sized P tree h =
    let header = (formed_parts (tree_header tree) (tree_records P tree) h).0 in
    omega (arith, eqb-true (field_at tree 4) (length tree) header.1.1.1.1.1.0, eqb-true (field_at tree 4) (6 + 2 * node_count tree) header.1.1.1.1.0, leb-true (node_count tree) max_nodes header.1.1.0)

-- "grammar, token and tree image one after another": what is cut are the images that were put there
pub images_back : (T : ℕ) (grammar tokens tree : List ℕ) →
    WellFormed (grammar_fields grammar) → WellFormed (token_fields T tokens) →
    let delivery = grammar ++ (tokens ++ tree) in
    (grammar_in delivery ≡ grammar) × (tokens_in delivery ≡ tokens) × (tree_in delivery ≡ tree)
images_back T grammar tokens tree g t =
    let gs = (grammar_sized grammar g).0 in
    let ts = (tokens_sized T tokens t).0 in
    (grammar_back grammar tokens tree gs ts, tokens_back grammar tokens tree gs ts, tree_back grammar tokens tree gs ts)

-- "It reads at most 47,133 bytes": a delivery of well-formed images has fewer
pub longest : (T P : ℕ) (delivery : List ℕ) →
    WellFormed (grammar_fields (grammar_in delivery)) → WellFormed (token_fields T (tokens_in delivery)) →
    WellFormed (tree_fields P (tree_in delivery)) →
    length delivery ≤ 47132
longest T P delivery g t n =
    let sum = ap (λ (l : List ℕ). length l) (whole delivery) in
    omega (arith, sum, length-append (grammar_in delivery) (tokens_in delivery ++ tree_in delivery), length-append (tokens_in delivery) (tree_in delivery), (grammar_sized (grammar_in delivery) g).1, (tokens_sized T (tokens_in delivery) t).1, tree_sized P (tree_in delivery) n)
