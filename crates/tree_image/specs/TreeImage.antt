-- "Tree image. Bytes 0: count D, 1 to 4,096. 2: offset, 6. 4: total length, 6 + 2D, also the real length. Each node:
-- production number (below P)."
use Rattle.std.specs.Prelude.{List, [], ◌∷◌, ◌++◌, ℕ, ◌+◌, ◌*◌, leb, ltb, eqb, length}
use Rattle.rules.specs.Limits.{max_nodes}
use Rattle.fields.specs.Fields.{field_at, Field, field, each, list}

abbrev pub node_count : List ℕ → ℕ
node_count image = field_at image 0

-- the production number of node n
abbrev pub node_at : List ℕ → ℕ → ℕ
node_at image n = field_at image (6 + 2 * n)

-- what the image holds: "a tree is the list of their production numbers"
unfoldable pub nodes_of : List ℕ → List ℕ
nodes_of image = list (node_count image) (node_at image)

-- "byte of the field; the length if under 6"
unfoldable pub header_fields : List ℕ → List Field
header_fields image =
    field (length image) (leb 6 (length image))
    ∷ field 0 (leb 1 (node_count image))
    ∷ field 0 (leb (node_count image) max_nodes)
    ∷ field 2 (eqb (field_at image 2) 6)
    ∷ field 4 (eqb (field_at image 4) (6 + 2 * node_count image))
    ∷ field 4 (eqb (field_at image 4) (length image))
    ∷ []

unfoldable pub record_fields : ℕ → List ℕ → ℕ → List Field
record_fields P image n = field (6 + 2 * n) (ltb (node_at image n) P) ∷ []

unfoldable pub records_fields : ℕ → List ℕ → List Field
records_fields P image = each (node_count image) (record_fields P image)

-- the whole image, for a grammar of P productions
unfoldable pub tree_fields : ℕ → List ℕ → List Field
tree_fields P image = header_fields image ++ records_fields P image
