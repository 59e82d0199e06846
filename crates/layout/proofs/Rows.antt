-- The row of a node as the code reads it, in lists where a right tree stands.
use Rattle.std.proofs.Common.{◌≡◌, refl, ◌∙◌, ℕ, ◌+◌, ◌<◌, ◌≤◌, List, [], length, get_or, arith, Some}
use Rattle.std.specs.declared.ops.Range.{Range}
use Rattle.std.proofs.iter.Yields.{nat_range_steps}
use Rattle.rules.specs.Grammar.{Symbol, Token}
use Rattle.rules.specs.Tree.{Tree, Row}
use Rattle.rules.specs.Derivation.{nodes, tokens}
use Rattle.fields.specs.Fields.{field_at, Bytes}
use Rattle.grammar_image.specs.GrammarImage.{first_of, count_of, symbol_at, production_at, ProductionIs, SymbolIs}
use Rattle.grammar_image.specs.Kinds.{kind_of}
use Rattle.grammar_image.specs.declared.Kind.TheVariants.{Terminal, Nonterminal}
use Rattle.grammar_image.specs.declared.Production.{Production as ProductionRead}
use Rattle.grammar_image.specs.declared.Symbol.{Symbol as SymbolRead}
use Rattle.tree_image.specs.TreeImage.{node_count, node_at, nodes_of}
use Rattle.tree_image.proofs.Lists.{length_nodes, node_of}
use Rattle.images.proofs.Rows.{listed_turn, listed_over, listed_whole, terminal_is, nonterminal_is}
use Rattle.layout.specs.Standing.{symbols, TreeListed, RowListed}
use Rattle.layout.proofs.Standing.{Opened, opened, tree_opened, TokenFirst, token_first, token_first_lem, ChildFirst, child_first, child_first_lem, node_within}

-- the symbols of some entries
abbrev pub row_at : List ℕ → Range ℕ → List Symbol
row_at grammar entries = symbols grammar entries.start entries.end

-- no symbol is left
pub row_none : (grammar : List ℕ) (entries : Range ℕ) → entries.end ≤ entries.start → row_at grammar entries ≡ []
row_none grammar = listed_over (symbol_at grammar)

-- a count of an image fits 16 bits
pub count_fits : (image : List ℕ) → Bytes image → field_at image 0 < 65536
unfolding field_at
count_fits image bytes = omega (arith, bytes 0, bytes 1)

module _ (grammar tree : List ℕ) where
  -- where a tree stands, its node is one of the tree image
  pub node_listed : {ts : List Token} {n k : ℕ} {T : Tree} → TreeListed grammar tree ts n k T → n < node_count tree
  node_listed at = omega (arith, length_nodes tree, node_within _ _ _ _ _ _ at)

  -- these entries are the row of node n
  pub record RowOf (n : ℕ) (entries : Range ℕ) : Type 0 where
    pub start : entries.start ≡ first_of grammar (node_at tree n)
    pub end : entries.end ≡ first_of grammar (node_at tree n) + count_of grammar (node_at tree n)

  -- as the readers of its production and of that production's entries tell
  pub row_of : {n : ℕ} {r : ProductionRead} {entries : Range ℕ} → ProductionIs grammar (node_at tree n) r → entries.start ≡ r.first → entries.end ≡ r.first + r.count → RowOf n entries
  row_of read start end = record { start = start ∙ read.first; end = omega (arith, end, read.first, read.count) }

  -- so they hold the symbols on its production's right
  pub row_symbols : (n : ℕ) {entries : Range ℕ} → n < length (nodes_of tree) → RowOf n entries → (production_at grammar (get_or (nodes_of tree) n 0)).right ≡ row_at grammar entries
  unfolding production_at
  row_symbols n h row =
      let p = node_at tree n in
      rw (node_of tree n (omega (arith, length_nodes tree)), listed_whole (symbol_at grammar) (first_of grammar p) (count_of grammar p) row.start row.end)

  -- as its production's fields are
  abbrev pub entries_of : ℕ → Range ℕ
  entries_of n =
      let p = node_at tree n in
      record { start = first_of grammar p; end = first_of grammar p + count_of grammar p }

  pub row_of_node : (n : ℕ) → RowOf n (entries_of n)
  row_of_node n = record { start = refl; end = refl }

  behind_node : {ts : List Token} {n k : ℕ} {entries : Range ℕ} (T : Tree) → RowOf n entries → Opened (production_at grammar) (nodes_of tree) ts n k T → (R : Row) × RowListed grammar tree ts (row_at grammar entries) (n + 1) k R
  behind_node {n = n} T row (opened R h at) = (R, rw (← row_symbols n h row) at)

  -- where a tree stands, the row of its node stands behind the node
  pub row_behind : {ts : List Token} {n k : ℕ} {entries : Range ℕ} {T : Tree} → RowOf n entries → TreeListed grammar tree ts n k T → (R : Row) × RowListed grammar tree ts (row_at grammar entries) (n + 1) k R
  row_behind {n = n} {k = k} {T = T} row at = behind_node T row (tree_opened _ _ _ n k T at)

  -- a token is next, and the symbols ss stand behind it
  pub record TokenNext (ts : List Token) (ss : List Symbol) (n k : ℕ) : Type 0 where
    pub there : k < length ts
    pub rest : Row
    pub behind : RowListed grammar tree ts ss n (k + 1) rest

  token_next : {ts : List Token} {ss : List Symbol} {n k : ℕ} (R : Row) → TokenFirst (production_at grammar) (nodes_of tree) ts ss n k R → TokenNext ts ss n k
  token_next R (token_first rest h at) = record { there = h; rest = rest; behind = at }

  -- a tree is next, and the symbols ss stand behind it
  pub record ChildNext (ts : List Token) (ss : List Symbol) (n k : ℕ) : Type 0 where
    pub child : Tree
    pub stands : TreeListed grammar tree ts n k child
    pub rest : Row
    pub behind : RowListed grammar tree ts ss (n + length (nodes child)) (k + length (tokens child)) rest

  child_next : {ts : List Token} {ss : List Symbol} {n k : ℕ} (R : Row) → ChildFirst (production_at grammar) (nodes_of tree) ts ss n k R → ChildNext ts ss n k
  child_next R (child_first T rest there at) = record { child = T; stands = there; rest = rest; behind = at }

  -- symbol y, which the reader gives as s, comes first of some entries, and the others are left
  module _ {ts : List Token} {from left : Range ℕ} {y n k : ℕ} {s : SymbolRead} (turn : nat_range_steps from (Some y) left) (symbol : SymbolIs grammar y s) where
    -- a terminal: the token that is next
    pub token_in : Terminal ≡ kind_of s.kind → (R : Row) → RowListed grammar tree ts (row_at grammar from) n k R → TokenFirst (production_at grammar) (nodes_of tree) ts (row_at grammar left) n k R
    token_in terminal R at = token_first_lem _ _ _ (symbol_at grammar y) (row_at grammar left) n k R (omega (arith, symbol.kind, terminal_is _ terminal)) (rw (listed_turn (symbol_at grammar) turn) at at)

    pub token_stands : Terminal ≡ kind_of s.kind → {R : Row} → RowListed grammar tree ts (row_at grammar from) n k R → TokenNext ts (row_at grammar left) n k
    token_stands terminal {R} at = token_next R (token_in terminal R at)

    -- a nonterminal: the tree that is next
    pub child_in : Nonterminal ≡ kind_of s.kind → (R : Row) → RowListed grammar tree ts (row_at grammar from) n k R → ChildFirst (production_at grammar) (nodes_of tree) ts (row_at grammar left) n k R
    child_in nonterminal R at = child_first_lem _ _ _ (symbol_at grammar y) (row_at grammar left) n k R (λ e. nonterminal_is _ nonterminal (omega (arith, symbol.kind))) (rw (listed_turn (symbol_at grammar) turn) at at)

    pub child_stands : Nonterminal ≡ kind_of s.kind → {R : Row} → RowListed grammar tree ts (row_at grammar from) n k R → ChildNext ts (row_at grammar left) n k
    child_stands nonterminal {R} at = child_next R (child_in nonterminal R at)
