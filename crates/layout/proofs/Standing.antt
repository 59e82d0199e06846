-- Where a right tree stands, its row stands behind its node; where a right row stands, its first child stands there and the rest of the row behind it.
use Rattle.std.proofs.Common.{◌≡◌, refl, List, [], ◌∷◌, ◌++◌, append_assoc, ℕ, ◌+◌, ◌<◌, add-one, length, get_or}
use Rattle.rules.specs.Grammar.{Symbol, Production, Token}
use Rattle.rules.specs.Tree.{Tree, node, Row, end, token, child}
use Rattle.rules.specs.Derivation.{Terminal, Nonterminal, Right, RightRow, nodes, row_nodes, tokens, row_tokens}
use Rattle.rules.specs.Walk.{no_token}
use Rattle.rules.proofs.Lists.{head_met, front_met}
use Rattle.layout.specs.Standing.{TreeAt, RowAt}

module _ (G : ℕ → Production) (ns : List ℕ) (ts : List Token) where
  -- a tree by its production, with the row behind its node
  pub data Opened (n k : ℕ) : Tree → Type 0 where
    opened : (R : Row) → n < length ns → RowAt G ns ts (G (get_or ns n 0)).right (n + 1) k R → Opened n k (node (get_or ns n 0) R)

  pub tree_opened : (n k : ℕ) (T : Tree) → TreeAt G ns ts n k T → Opened n k T
  unfolding Right nodes tokens
  tree_opened n k (node p R) s =
      let at = head_met ns n 0 p _ s.listed in
      rw (← at.1) (opened R at.0 record {
        right = rw at.1 s.right.1;
        nodes_after = s.nodes_after;
        listed = rw add-one at.2;
        tokens_after = s.tokens_after;
        read = s.read;
      })

  -- so there is a node n
  node_there : {n k : ℕ} {T : Tree} → Opened n k T → n < length ns
  node_there (opened R h at) = h

  pub node_within : (n k : ℕ) (T : Tree) → TreeAt G ns ts n k T → n < length ns
  node_within n k T s = node_there (tree_opened n k T s)

  -- a row whose first symbol is a terminal
  pub data TokenFirst (ss : List Symbol) (n k : ℕ) : Row → Type 0 where
    token_first : (R : Row) → k < length ts → RowAt G ns ts ss n (k + 1) R → TokenFirst ss n k (token (get_or ts k no_token) R)

  pub token_first_lem : (s : Symbol) (ss : List Symbol) (n k : ℕ) (R : Row) → Terminal s → RowAt G ns ts (s ∷ ss) n k R → TokenFirst ss n k R
  unfolding RightRow row_nodes row_tokens
  token_first_lem s ss n k end t r = absurd r.right
  token_first_lem s ss n k (child T R) t r = absurd (r.right.0 t)
  token_first_lem s ss n k (token x R) t r =
      let at = head_met ts k no_token x _ r.read in
      rw (← at.1) (token_first R at.0 record {
        right = r.right.2;
        nodes_after = r.nodes_after;
        listed = r.listed;
        tokens_after = r.tokens_after;
        read = rw add-one at.2;
      })

  -- a row whose first symbol is a nonterminal
  pub data ChildFirst (ss : List Symbol) (n k : ℕ) : Row → Type 0 where
    child_first : (T : Tree) (R : Row) → TreeAt G ns ts n k T → RowAt G ns ts ss (n + length (nodes T)) (k + length (tokens T)) R → ChildFirst ss n k (child T R)

  pub child_first_lem : (s : Symbol) (ss : List Symbol) (n k : ℕ) (R : Row) → Nonterminal s → RowAt G ns ts (s ∷ ss) n k R → ChildFirst ss n k R
  unfolding RightRow row_nodes row_tokens
  child_first_lem s ss n k end t r = absurd r.right
  child_first_lem s ss n k (token x R) t r = absurd (t r.right.0)
  child_first_lem s ss n k (child T R) t r =
      let listed = rw append_assoc at r.listed in
      let read = rw append_assoc at r.read in
      child_first T R record {
        left = s.number;
        right = r.right.1;
        nodes_after = row_nodes R ++ r.nodes_after;
        listed = listed;
        tokens_after = row_tokens R ++ r.tokens_after;
        read = read;
      } record {
        right = r.right.2;
        nodes_after = r.nodes_after;
        listed = front_met ns n (nodes T) _ listed;
        tokens_after = r.tokens_after;
        read = front_met ts k (tokens T) _ read;
      }

  -- a row of no symbols
  pub row_ended : (n k : ℕ) (R : Row) → RowAt G ns ts [] n k R → R ≡ end
  unfolding RightRow
  row_ended n k end r = refl
  row_ended n k (token x R) r = absurd r.right
  row_ended n k (child T R) r = absurd r.right
