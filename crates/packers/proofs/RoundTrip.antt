-- What a packer writes reads back as what was packed, and what a well-formed image holds is packed as that image again.
use Rattle.std.proofs.Common.{◌≡◌, refl, sym, ap, ◌∙◌, List, ◌++◌, map, ℕ, suc, ◌+◌, ◌*◌, ◌<◌, ◌≤◌, zero-add, arith, length, get_or, take, drop, take_at, le-leb, lt-ltb, leb-true, Ok}
use Rattle.std.proofs.lemmas.List.{length-map}
use Rattle.rules.specs.Limits.{max_nodes, max_tokens}
use Rattle.rules.specs.Grammar.{Token}
use Rattle.fields.specs.Fields.{field_at, Bytes, WellFormed, first_fault, list}
use Rattle.packers.specs.Packing.{tree_image, token_image, column_fields, written, TreePacked, TokensPacked}
use Rattle.tree_image.specs.TreeImage.{node_count, node_at, nodes_of, tree_fields}
use Rattle.tree_image.specs.TreeImage as tree
use Rattle.token_image.specs.TokenImage.{token_count, token_at, tokens_of, token_fields}
use Rattle.token_image.specs.TokenImage as token
use Rattle.packers.specs.Answers.{Packed}
use Rattle.fields.proofs.Formed.{formed_append, formed_parts, formed_each, each_formed}
use Rattle.fields.proofs.Promised.{good_well_formed, well_formed_good}
use Rattle.fields.proofs.Lists.{length_list, get_d_list}
use Rattle.packers.proofs.Packing.{tree_list, token_list, Headed, headed_formed, formed_headed, TreeFits, TokensFit, past_header, length_in_turn, terminal_field, column_field, map_list, list_same, list_in_turn, list_get_d, length_bytes, fields_back, image_back, tree_written, tokens_written, tree_fits, tokens_fit}

-- of a token, its entry in the one list and in the other
abbrev pub terminal_of : Token → ℕ
terminal_of t = t.terminal

abbrev pub column_of : Token → ℕ
column_of t = t.column

-- the fields of a tree image that was packed
module _ (productions : List ℕ) where
  tree_size : length (tree_image productions) ≡ 6 + 2 * length productions
  unfolding tree_image
  tree_size = omega (arith, length_bytes (tree_list productions))

  tree_field : (i : ℕ) → field_at (tree_image productions) (2 * i) ≡ get_or (tree_list productions) i 0
  unfolding tree_image
  tree_field i = fields_back (tree_list productions) i

  node_field : (n : ℕ) → node_at (tree_image productions) n ≡ get_or productions n 0
  node_field n = ap (field_at (tree_image productions)) (at n) ∙ tree_field (3 + n) ∙ past_header _ _ _ productions n
    where
      at : (n : ℕ) → 6 + 2 * n ≡ 2 * (3 + n)
      at n = omega arith

  nodes_back : nodes_of (tree_image productions) ≡ productions
  unfolding nodes_of
  nodes_back = rw (tree_field 0) (list_same (node_at (tree_image productions)) (λ n. get_or productions n 0) (length productions) node_field ∙ list_get_d productions)

module _ (productions out : List ℕ) (r : Packed) (after : List ℕ) (n : ℕ) (packed : TreePacked productions out r after) (said : r ≡ Ok n) where
  tree_known : TreeFits productions (length out) n
  tree_known = tree_fits productions (length out) n (sym packed.answer ∙ said)

  tree_stands : take n after ≡ tree_image productions
  tree_stands =
      let size : length (tree_image productions) ≡ n = omega (arith, tree_known, tree_size productions) in
      rw (packed.output, said, take_at)

  -- what packing a tree writes reads back as the list that was packed
  pub tree_reads_back : nodes_of (take n after) ≡ productions
  tree_reads_back = rw tree_stands (nodes_back productions)

  -- a packed tree is well formed for every number of productions above all of its own
  pub tree_formed_lem : (P : ℕ) → ((i : ℕ) → i < length productions → get_or productions i 0 < P) → WellFormed (tree_fields P (take n after))
  unfolding tree_fields tree.header_fields tree.records_fields tree.record_fields WellFormed
  tree_formed_lem P below =
      let known = tree_known in
      let image = tree_image productions in
      let size = tree_size productions in
      let count = tree_field productions 0 in
      let total = tree_field productions 2 in
      let long = le-leb 6 (length image) (omega arith) in
      let some = le-leb 1 (node_count image) (omega arith) in
      let few = le-leb (node_count image) max_nodes (omega arith) in
      let last = headed_formed image (6 + 2 * node_count image) record { offset = tree_field productions 1; said = omega arith; real = omega arith } in
      rw tree_stands
      (formed_append (tree.header_fields image) (tree.records_fields P image) (long, (some, (few, last)))
      (formed_each (tree.record_fields P image) (node_count image) (λ i l. (lt-ltb (node_at image i) P (omega (arith, node_field productions i, below i (omega arith))), tt))))

-- what is known of a well-formed tree image
module _ (P : ℕ) (image : List ℕ) (bytes : Bytes image) (formed : WellFormed (tree_fields P image)) where
  tree_header_lem : (1 ≤ node_count image) × (node_count image ≤ max_nodes) × Headed image (6 + 2 * node_count image)
  unfolding tree_fields tree.header_fields WellFormed
  tree_header_lem =
      let header = (formed_parts (tree.header_fields image) (tree.records_fields P image) formed).0.1 in
      (leb-true 1 (node_count image) header.0, leb-true (node_count image) max_nodes header.1.0, formed_headed image (6 + 2 * node_count image) header.1.1)

  count_nodes : length (nodes_of image) ≡ node_count image
  unfolding nodes_of
  count_nodes = length_list 0 (node_count image) (node_at image)

  -- the nodes of a well-formed tree image are packed as that image
  pub tree_is_packed : tree_image (nodes_of image) ≡ image
  unfolding tree_image nodes_of
  tree_is_packed = rw count_nodes (image_back image (node_count image) (6 + 2 * node_count image) refl bytes tree_header_lem.2)

  -- packing the nodes of a well-formed tree image into an output that has room writes that image
  pub tree_packs : (out : List ℕ) (r : Packed) (after : List ℕ) → length image ≤ length out → TreePacked (nodes_of image) out r after →
      (r ≡ Ok (length image)) × (after ≡ image ++ drop (length image) out)
  tree_packs out r after room packed =
      let header = tree_header_lem in
      let count = count_nodes in
      let size : 6 + 2 * length (nodes_of image) ≡ length image = omega arith in
      let said : r ≡ Ok (length image) = packed.answer ∙ sym (tree_written (nodes_of image) (length out) (omega arith) (omega arith) (omega arith)) ∙ ap Ok size in
      (said, rw (packed.output, said, tree_is_packed))

-- packing a tree has one outcome
pub tree_outcome_unique : (productions out : List ℕ) (r r' : Packed) (after after' : List ℕ) →
    TreePacked productions out r after → TreePacked productions out r' after' → (r ≡ r') × (after ≡ after')
tree_outcome_unique productions out r r' after after' p q =
    let same : r ≡ r' = cc in
    (same, p.output ∙ ap (λ (s : Packed). written s (tree_image productions) out) same ∙ sym q.output)

-- the terminals and the columns that an image holds
abbrev terminal_at : List ℕ → ℕ → ℕ
terminal_at image k = field_at image (6 + 4 * k)

abbrev column_at : List ℕ → ℕ → ℕ
column_at image k = field_at image (6 + 4 * k + 2)

module _ (image : List ℕ) where
  terminals_are : map terminal_of (tokens_of image) ≡ list (token_count image) (terminal_at image)
  unfolding tokens_of token_at
  terminals_are = map_list terminal_of 0 (token_count image) (token_at image)

  columns_are : map column_of (tokens_of image) ≡ list (token_count image) (column_at image)
  unfolding tokens_of token_at
  columns_are = map_list column_of 0 (token_count image) (token_at image)

-- the fields of a token image that was packed
module _ (terminals columns : List ℕ) (same : length terminals ≡ length columns) where
  tokens_size : length (token_image terminals columns) ≡ 6 + 4 * length terminals
  unfolding token_image
  tokens_size = omega (arith, length_bytes (token_list terminals columns), length_in_turn terminals columns same)

  token_field : (i : ℕ) → field_at (token_image terminals columns) (2 * i) ≡ get_or (token_list terminals columns) i 0
  unfolding token_image
  token_field i = fields_back (token_list terminals columns) i

  terminal_back : (k : ℕ) → terminal_at (token_image terminals columns) k ≡ get_or terminals k 0
  terminal_back k = ap (field_at (token_image terminals columns)) (at k) ∙ token_field (3 + 2 * k) ∙ terminal_field terminals columns k same
    where
      at : (k : ℕ) → 6 + 4 * k ≡ 2 * (3 + 2 * k)
      at k = omega arith

  column_back : (k : ℕ) → column_at (token_image terminals columns) k ≡ get_or columns k 0
  column_back k = ap (field_at (token_image terminals columns)) (at k) ∙ token_field (4 + 2 * k) ∙ column_field terminals columns k same
    where
      at : (k : ℕ) → 6 + 4 * k + 2 ≡ 2 * (4 + 2 * k)
      at k = omega arith

  tokens_back : (map terminal_of (tokens_of (token_image terminals columns)) ≡ terminals) × (map column_of (tokens_of (token_image terminals columns)) ≡ columns)
  tokens_back = (
    rw (terminals_are, token_field 0) (list_same _ (λ k. get_or terminals k 0) (length terminals) terminal_back ∙ list_get_d terminals),
    rw (columns_are, token_field 0, same) (list_same _ (λ k. get_or columns k 0) (length columns) column_back ∙ list_get_d columns),
  )

module _ (terminals columns out : List ℕ) (r : Packed) (after : List ℕ) (n : ℕ) (packed : TokensPacked terminals columns out r after) (said : r ≡ Ok n) where
  tokens_known : TokensFit terminals columns (length out) n
  tokens_known = tokens_fit terminals columns (length out) n (sym packed.answer ∙ said)

  tokens_stand : take n after ≡ token_image terminals columns
  tokens_stand =
      let size : length (token_image terminals columns) ≡ n = omega (arith, tokens_known, tokens_size terminals columns tokens_known.same) in
      rw (packed.output, said, take_at)

  -- what packing tokens writes reads back as the two lists that were packed
  pub tokens_read_back : (map terminal_of (tokens_of (take n after)) ≡ terminals) × (map column_of (tokens_of (take n after)) ≡ columns)
  tokens_read_back = rw tokens_stand (tokens_back terminals columns tokens_known.same)

  -- packed tokens are well formed for every number of terminals above all of their own
  pub tokens_formed_lem : (T : ℕ) → ((i : ℕ) → i < length terminals → get_or terminals i 0 < T) → WellFormed (token_fields T (take n after))
  unfolding token_fields token.header_fields token.records_fields token.record_fields column_fields WellFormed
  tokens_formed_lem T below =
      let known = tokens_known in
      let same = known.same in
      let image = token_image terminals columns in
      let size = tokens_size terminals columns same in
      let count = token_field terminals columns same 0 in
      let total = token_field terminals columns same 2 in
      let low = good_well_formed (column_fields columns) known.low in
      let long = le-leb 6 (length image) (omega arith) in
      let few = le-leb (token_count image) max_tokens (omega arith) in
      let last = headed_formed image (6 + 4 * token_count image) record { offset = token_field terminals columns same 1; said = omega arith; real = omega arith } in
      rw tokens_stand
      (formed_append (token.header_fields image) (token.records_fields T image) (long, (few, last))
      (formed_each (token.record_fields T image) (token_count image) (λ k l.
      let terminal = lt-ltb (terminal_at image k) T (omega (arith, terminal_back terminals columns same k, below k (omega arith))) in
      let column = rw (← column_back terminals columns same k) at (each_formed _ (length columns) k low (omega arith)).0 in
      (terminal, (column, tt)))))

-- what is known of a well-formed token image
module _ (T : ℕ) (image : List ℕ) (bytes : Bytes image) (formed : WellFormed (token_fields T image)) where
  tokens_header : (token_count image ≤ max_tokens) × Headed image (6 + 4 * token_count image)
  unfolding token_fields token.header_fields WellFormed
  tokens_header =
      let header = (formed_parts (token.header_fields image) (token.records_fields T image) formed).0.1 in
      (leb-true (token_count image) max_tokens header.0, formed_headed image (6 + 4 * token_count image) header.1)

  count_tokens : length (tokens_of image) ≡ token_count image
  unfolding tokens_of
  count_tokens = length_list 0 (token_count image) (token_at image)

  columns_low : Ok tt ≡ first_fault (column_fields (map column_of (tokens_of image)))
  unfolding token_fields token.records_fields token.record_fields column_fields WellFormed
  columns_low =
      let records = (formed_parts (token.header_fields image) (token.records_fields T image) formed).1 in
      rw columns_are
      (well_formed_good _ (formed_each _ (length (list (token_count image) (column_at image))) (λ k l.
      let count = length_list 0 (token_count image) (column_at image) in
      (rw (get_d_list 0 (token_count image) k (column_at image) 0 (omega arith), zero-add) (each_formed (token.record_fields T image) (token_count image) k records (omega arith)).1.0, tt))))

  -- the tokens of a well-formed token image are packed as that image
  pub tokens_are_packed : token_image (map terminal_of (tokens_of image)) (map column_of (tokens_of image)) ≡ image
  unfolding token_image
  tokens_are_packed =
      let count = token_count image in
      let fields = list_in_turn (terminal_at image) (column_at image) (λ i. field_at image (6 + 2 * i)) 0 count (λ k. ap (field_at image) (even k)) (λ k. ap (field_at image) (odd k)) in
      rw (terminals_are, columns_are, length_list, fields) (image_back image (2 * count) (6 + 4 * count) (even count) bytes tokens_header.1)
    where
      even : (k : ℕ) → 6 + 4 * k ≡ 6 + 2 * (2 * k)
      even k = omega arith

      odd : (k : ℕ) → 6 + 4 * k + 2 ≡ 6 + 2 * suc (2 * k)
      odd k = omega arith

  -- packing the tokens of a well-formed token image into an output that has room writes that image
  pub tokens_pack : (out : List ℕ) (r : Packed) (after : List ℕ) → length image ≤ length out →
      TokensPacked (map terminal_of (tokens_of image)) (map column_of (tokens_of image)) out r after →
      (r ≡ Ok (length image)) × (after ≡ image ++ drop (length image) out)
  tokens_pack out r after room packed =
      let header = tokens_header in
      let count = count_tokens in
      let terminals = map terminal_of (tokens_of image) in
      let columns = map column_of (tokens_of image) in
      let many = length-map (tokens_of image) terminal_of in
      let same = length-map (tokens_of image) column_of in
      let size : 6 + 4 * length terminals ≡ length image = omega arith in
      let said : r ≡ Ok (length image) = packed.answer ∙ sym (tokens_written terminals columns (length out) (omega arith) (omega arith) columns_low (omega arith)) ∙ ap Ok size in
      (said, rw (packed.output, said, tokens_are_packed))

-- packing tokens has one outcome
pub tokens_outcome_unique : (terminals columns out : List ℕ) (r r' : Packed) (after after' : List ℕ) →
    TokensPacked terminals columns out r after → TokensPacked terminals columns out r' after' → (r ≡ r') × (after ≡ after')
tokens_outcome_unique terminals columns out r r' after after' p q =
    let same : r ≡ r' = cc in
    (same, p.output ∙ ap (λ (s : Packed). written s (token_image terminals columns) out) same ∙ sym q.output)
