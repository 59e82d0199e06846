-- Laws of the walk over the images, one for each way that a token, a node or a row ends.
use Rattle.std.proofs.Common.{◌≡◌, refl, sym, ◌∙◌, true, false, List, ℕ, zero, suc, ◌+◌, ◌-◌, ◌<◌, ◌≤◌, ltb, arith, add-one, Some, ne_eqb}
use Rattle.std.specs.declared.ops.Range.{Range}
use Rattle.std.proofs.iter.Yields.{nat_range_steps}
use Rattle.rules.specs.Grammar.{Symbol, Production, Token}
use Rattle.rules.specs.Walk.{Walked, used, refused, Answer, answer, and_then, no_token, token_due, node_met, symbol_due, row_due, node_due, walk_done, walk}
use Rattle.rules.specs.Limits.{max_depth}
use Rattle.fields.specs.Fields.{list_from}
use Rattle.grammar_image.specs.GrammarImage.{left_of, symbol_at, production_at, ProductionIs, SymbolIs}
use Rattle.grammar_image.specs.Kinds.{kind_of}
use Rattle.grammar_image.specs.declared.Kind.TheVariants.{Terminal, Nonterminal}
use Rattle.grammar_image.specs.declared.Production.{Production as ProductionRead}
use Rattle.grammar_image.specs.declared.Symbol.{Symbol as SymbolRead}
use Rattle.token_image.specs.TokenImage.{token_count, token_at, tokens_of}
use Rattle.tree_image.specs.TreeImage.{node_count, node_at, nodes_of}
use Rattle.rules.proofs.Steps.{token_missing, token_other, token_meets, node_missing, node_other, node_meets}
use Rattle.token_image.proofs.Lists.{length_tokens, token_of}
use Rattle.tree_image.proofs.Lists.{length_nodes, node_of}
use Rattle.images.proofs.Rows.{listed, listed_turn, listed_over, listed_whole, terminal_is, nonterminal_is}
use Rattle.fields.proofs.Searching.{tests}

-- the terminal a is due
module _ (image : List ℕ) (a n k : ℕ) where
  pub no_token_lem : {count : ℕ} → count ≡ token_count image → count ≤ k → refused (answer 8 count) ≡ token_due (tokens_of image) a n k
  no_token_lem e h = rw (token_missing (tokens_of image) a n k (omega (arith, length_tokens image)), length_tokens, e)

  pub other_token : k < token_count image → ((token_at image k).terminal ≡ a → ⊥) → refused (answer 7 k) ≡ token_due (tokens_of image) a n k
  other_token h other = sym (token_other (tokens_of image) a n k (omega (arith, length_tokens image)) (rw (token_of image k no_token h) other))

  pub token_met : k < token_count image → (token_at image k).terminal ≡ a → used n (k + 1) ≡ token_due (tokens_of image) a n k
  token_met h same = rw (token_meets (tokens_of image) a n k (omega (arith, length_tokens image)) (rw (token_of image k no_token h) same), add-one)

-- the nonterminal A is due
module _ (grammar tree : List ℕ) (A n : ℕ) where
  met_none : {count : ℕ} (rest : Walked) → count ≡ node_count tree → count ≤ n → refused (answer 6 count) ≡ node_met (production_at grammar) (nodes_of tree) A n rest
  met_none rest e h = rw (node_missing (production_at grammar) (nodes_of tree) A n rest (omega (arith, length_nodes tree)), length_nodes, e)

  met_other : (rest : Walked) → n < node_count tree → (left_of grammar (node_at tree n) ≡ A → ⊥) → refused (answer 5 n) ≡ node_met (production_at grammar) (nodes_of tree) A n rest
  unfolding production_at
  met_other rest h other = sym (node_other (production_at grammar) (nodes_of tree) A n rest (omega (arith, length_nodes tree)) (rw (node_of tree n h) other))

  met : (rest : Walked) → n < node_count tree → left_of grammar (node_at tree n) ≡ A → rest ≡ node_met (production_at grammar) (nodes_of tree) A n rest
  unfolding production_at
  met rest h same = sym (node_meets (production_at grammar) (nodes_of tree) A n rest (omega (arith, length_nodes tree)) (rw (node_of tree n h) same))

  module _ (ts : List Token) (k : ℕ) where
    pub no_node : (levels : ℕ) {count : ℕ} → count ≡ node_count tree → count ≤ n → refused (answer 6 count) ≡ node_due (production_at grammar) (nodes_of tree) ts levels A n k
    unfolding node_due
    no_node zero e h = met_none _ e h
    no_node (suc levels) e h = met_none _ e h

    -- node n has a production, which the reader gives as r
    module _ {r : ProductionRead} (read : ProductionIs grammar (node_at tree n) r) where
      pub other_left : (levels : ℕ) {place : ℕ} → place ≡ n → n < node_count tree → (r.left ≡ A → ⊥) → refused (answer 5 place) ≡ node_due (production_at grammar) (nodes_of tree) ts levels A n k
      unfolding node_due
      other_left zero at h other = rw at (met_other _ h (λ e. other (read.left ∙ e)))
      other_left (suc levels) at h other = rw at (met_other _ h (λ e. other (read.left ∙ e)))

      pub too_deep_lem : (levels : ℕ) → levels ≡ 0 → n < node_count tree → r.left ≡ A → refused (answer 9 n) ≡ node_due (production_at grammar) (nodes_of tree) ts levels A n k
      unfolding node_due
      too_deep_lem zero e h same = met _ h (sym read.left ∙ same)
      too_deep_lem (suc levels) e h same = absurd (omega arith)

      pub row_walked : (levels : ℕ) {w : Walked} → (levels ≡ 0 → ⊥) → n < node_count tree → r.left ≡ A →
          w ≡ row_due ts (node_due (production_at grammar) (nodes_of tree) ts (levels - 1)) (list_from r.first r.count (symbol_at grammar)) (n + 1) k →
          w ≡ node_due (production_at grammar) (nodes_of tree) ts levels A n k
      unfolding node_due production_at
      row_walked zero some h same e = absurd (some refl)
      row_walked (suc levels) some h same e =
          let one_less : suc levels - 1 ≡ levels = omega arith in
          (rw (one_less, add-one, read.first, read.count, ← node_of tree n h) at e) ∙ met _ h (sym read.left ∙ same)

      -- its row is empty
      pub row_empty : (levels : ℕ) → (levels ≡ 0 → ⊥) → n < node_count tree → r.left ≡ A → r.count ≡ 0 → used (n + 1) k ≡ node_due (production_at grammar) (nodes_of tree) ts levels A n k
      unfolding row_due list_from
      row_empty levels some h same none = row_walked levels some h same (rw none)

-- a symbol is due, which the reader gives as r
module _ (ts : List Token) (below : ℕ → ℕ → ℕ → Walked) {image : List ℕ} {y : ℕ} {r : SymbolRead} (read : SymbolIs image y r) (n k : ℕ) {w : Walked} where
  pub terminal_due : Terminal ≡ kind_of r.kind → w ≡ token_due ts r.number n k → w ≡ symbol_due ts below (symbol_at image y) n k
  unfolding symbol_due
  terminal_due terminal e = rw (← read.kind, terminal_is _ terminal, ← read.number) e

  pub nonterminal_due : Nonterminal ≡ kind_of r.kind → w ≡ below r.number n k → w ≡ symbol_due ts below (symbol_at image y) n k
  unfolding symbol_due
  nonterminal_due nonterminal e = rw (← read.kind, ne_eqb _ _ (nonterminal_is _ nonterminal), ← read.number) e

-- a row of which the symbols of some entries are left
module _ (ts : List Token) (below : ℕ → ℕ → ℕ → Walked) (f : ℕ → Symbol) (entries : Range ℕ) (n k : ℕ) where
  -- y is the first of them, and `rest` are the others
  module _ {y : ℕ} {rest : Range ℕ} (turn : nat_range_steps entries (Some y) rest) where
    pub row_refused : {a : Answer} → refused a ≡ symbol_due ts below (f y) n k → refused a ≡ row_due ts below (listed f entries) n k
    unfolding row_due and_then
    row_refused e = rw (listed_turn f turn, ← e)

    pub row_goes_on : {m j : ℕ} → used m j ≡ symbol_due ts below (f y) n k → row_due ts below (listed f rest) m j ≡ row_due ts below (listed f entries) n k
    unfolding row_due and_then
    row_goes_on e = rw (listed_turn f turn, ← e)

  pub row_used : entries.end ≤ entries.start → used n k ≡ row_due ts below (listed f entries) n k
  unfolding row_due
  row_used over = rw (listed_over f entries over)

  -- all symbols of a row are left at its first entry
  pub row_begins : (first count : ℕ) → entries.start ≡ first → entries.end ≡ first + count → row_due ts below (listed f entries) n k ≡ row_due ts below (list_from first count f) n k
  row_begins first count start end = rw (listed_whole f first count start end)

-- the walk is done
module _ (tree tokens : List ℕ) (n k : ℕ) where
  pub nodes_remain : n < node_count tree → answer 10 n ≡ walk_done (nodes_of tree) (tokens_of tokens) (used n k)
  unfolding walk_done
  nodes_remain h =
      let some : ltb n (node_count tree) ≡ true = omega tests in
      rw (length_nodes, some)

  pub tokens_remain : node_count tree ≤ n → k < token_count tokens → answer 11 k ≡ walk_done (nodes_of tree) (tokens_of tokens) (used n k)
  unfolding walk_done
  tokens_remain h i =
      let none : ltb n (node_count tree) ≡ false = omega tests in
      let some : ltb k (token_count tokens) ≡ true = omega tests in
      rw (length_nodes, none, length_tokens, some)

  pub all_used : node_count tree ≤ n → token_count tokens ≤ k → answer 0 0 ≡ walk_done (nodes_of tree) (tokens_of tokens) (used n k)
  unfolding walk_done
  all_used h i =
      let no-node-left : ltb n (node_count tree) ≡ false = omega tests in
      let no-token-left : ltb k (token_count tokens) ≡ false = omega tests in
      rw (length_nodes, no-node-left, length_tokens, no-token-left)

-- the walk from the root on, which ends as w: all levels are left, and the start nonterminal is due
module _ (G : ℕ → Production) (ns : List ℕ) (ts : List Token) {levels s start : ℕ} {w : Walked} (walked : w ≡ node_due G ns ts levels s 0 0) (all : levels ≡ max_depth) (due : s ≡ start) where
  pub walk_done_lem : {a : Answer} → a ≡ walk_done ns ts w → a ≡ walk G ns ts start
  unfolding walk
  walk_done_lem d = rw (← all, ← due, ← walked) d

-- where it is refused, nothing else is told
pub refused_done : (ns : List ℕ) (ts : List Token) {a : Answer} → a ≡ walk_done ns ts (refused a)
unfolding walk_done
refused_done ns ts = refl
