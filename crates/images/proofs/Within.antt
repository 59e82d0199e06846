-- What a node's production is in images that were tested, where its row lies, and how many nodes and tokens there are.
use Rattle.std.proofs.Common.{List, ℕ, ◌+◌, ◌<◌, ◌≤◌, arith, leb-true}
use Rattle.rules.specs.Limits.{max_nodes, max_tokens}
use Rattle.fields.specs.Fields.{WellFormed}
use Rattle.fields.specs.Images.{Images}
use Rattle.fields.proofs.Formed.{formed_parts}
use Rattle.grammar_image.specs.GrammarImage.{terminal_count, production_count, entry_count, ProductionIs}
use Rattle.grammar_image.specs.declared.Production.{Production}
use Rattle.grammar_image.proofs.Within.{row_within}
use Rattle.token_image.specs.TokenImage.{token_count, token_fields, header_fields as token_header, records_fields as token_records}
use Rattle.tree_image.specs.TreeImage.{node_count, node_at, tree_fields, header_fields as tree_header, records_fields as tree_records}
use Rattle.tree_image.proofs.Within.{node_below}
use Rattle.images.specs.Formed.{FormedTree, Formed}

module _ (grammar tree : List ℕ) (formed : FormedTree grammar tree) where
  -- the number of nodes fits 16 bits
  pub nodes_fit : node_count tree < 65536
  unfolding tree_fields tree_header WellFormed
  nodes_fit =
      let header = (formed_parts (tree_header tree) (tree_records (production_count grammar) tree) formed.tree_formed).0 in
      omega (arith, leb-true (node_count tree) max_nodes header.1.1.0)

  module _ (n : ℕ) (there : n < node_count tree) where
    -- a node's production is one of the grammar's
    pub production_below : node_at tree n < production_count grammar
    production_below = node_below (production_count grammar) tree formed.tree_formed n there

    -- and its row, which the reader gives as r, ends within the entries
    pub row_ends : {r : Production} → ProductionIs grammar (node_at tree n) r → r.first + r.count ≤ entry_count grammar
    row_ends read = omega (arith, read.first, read.count, row_within grammar formed.grammar_formed (node_at tree n) production_below)

-- and so does the number of tokens
pub tokens_fit : (s : Images) → Formed s → token_count s.tokens < 65536
unfolding token_fields token_header WellFormed
tokens_fit s formed =
    let header = (formed_parts (token_header s.tokens) (token_records (terminal_count s.grammar) s.tokens) formed.tokens_formed).0 in
    omega (arith, leb-true (token_count s.tokens) max_tokens header.1.0)
