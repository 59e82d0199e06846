-- Where the header and the nodes of a well-formed tree image lie: what its readers ask for.
use Rattle.std.proofs.Common.{◌≡◌, refl, List, ℕ, ◌+◌, ◌*◌, ◌<◌, ◌≤◌, arith, length, eqb-true, ltb-true}
use Rattle.rules.specs.Limits.{max_nodes}
use Rattle.fields.specs.Fields.{field_at, counted_fields, first_fault, WellFormed}
use Rattle.tree_image.specs.TreeImage.{node_count, node_at, header_fields, record_fields, records_fields, tree_fields}
use Rattle.fields.proofs.Formed.{formed_parts, each_formed}

-- its header is one with a count
pub header_lem : (image : List ℕ)
    → first_fault (counted_fields (record { least = 1; most = max_nodes; bytes = 6; record_bytes = 2 }) image) ≡ first_fault (header_fields image)
unfolding header_fields counted_fields first_fault
header_lem image = refl

-- the nodes end where the image does
pub nodes_within : (image : List ℕ) → WellFormed (header_fields image) → 6 + 2 * node_count image ≤ length image
unfolding header_fields WellFormed
nodes_within image formed =
    let total = eqb-true (field_at image 4) (6 + 2 * node_count image) formed.1.1.1.1.0 in
    let real = eqb-true (field_at image 4) (length image) formed.1.1.1.1.1.0 in
    omega arith

module _ (P : ℕ) (image : List ℕ) (formed : WellFormed (tree_fields P image)) where
  header : WellFormed (header_fields image)
  unfolding tree_fields
  header = (formed_parts (header_fields image) (records_fields P image) formed).0

  -- for `node_count`
  pub header_within : 6 ≤ length image
  header_within = omega (arith, nodes_within image header)

  -- for `node_at`
  pub node_within : (n : ℕ) → n < node_count image → 6 + 2 * n + 2 ≤ length image
  node_within n h = omega (arith, nodes_within image header)

  -- a node's production is one of the grammar's
  pub node_below : (n : ℕ) → n < node_count image → node_at image n < P
  unfolding tree_fields records_fields record_fields WellFormed
  node_below n h =
      let records = (formed_parts (header_fields image) (records_fields P image) formed).1 in
      ltb-true (node_at image n) P (each_formed (record_fields P image) (node_count image) n records h).0
