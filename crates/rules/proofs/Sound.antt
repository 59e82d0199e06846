-- What the walk ends with: without a refusal it has read off a tree, one node or token of it at each step, and a refusal has a place of its number.
use Rattle.std.proofs.Common.{◌≡◌, refl, Bool, true, false, cond, List, [], ◌∷◌, ◌++◌, append_assoc, ℕ, zero, suc, ◌+◌, ◌<◌, ◌≤◌, arith, ltb, eqb, length, get_or, drop, length-append, drop-cons, ltb-true, eqb-true}
use Rattle.std.proofs.lemmas.Bool.{eqb-false}
use Rattle.rules.specs.Grammar.{Symbol, Production, Token}
use Rattle.rules.specs.Tree.{Tree, node, Row, end, token, child}
use Rattle.rules.specs.Derivation.{Terminal, Nonterminal, Right, RightRow, nodes, row_nodes, tokens, row_tokens, depth, row_depth}
use Rattle.rules.specs.Walk.{Answer, answer, Walked, used, refused, and_then, no_token, token_due, node_met, symbol_due, row_due, node_due}

module _ (ns : List ℕ) (ts : List Token) where
  -- the numbers that a walk is refused with, and the place of each
  pub data Placed : Answer → Type 0 where
    wrong_node : {n : ℕ} → n < length ns → Placed (answer 5 n)
    nodes_end : Placed (answer 6 (length ns))
    wrong_token : {k : ℕ} → k < length ts → Placed (answer 7 k)
    tokens_end : Placed (answer 8 (length ts))
    too_deep : {n : ℕ} → n < length ns → Placed (answer 9 n)

  -- what is known by how a walk ends
  data Ended (P : ℕ → ℕ → Type 0) : Walked → Type 0 where
    whole : {n k : ℕ} → P n k → Ended P (used n k)
    placed : {a : Answer} → Placed a → Ended P (refused a)

  ended_map : {P Q : ℕ → ℕ → Type 0} {w : Walked} → ((n k : ℕ) → P n k → Q n k) → Ended P w → Ended Q w
  ended_map f (whole {n} {k} p) = whole (f n k p)
  ended_map f (placed a) = placed a

  ended_then : {P Q : ℕ → ℕ → Type 0} {w : Walked} {rest : ℕ → ℕ → Walked} → Ended P w → ((n k : ℕ) → P n k → Ended Q (rest n k)) → Ended Q (and_then w rest)
  unfolding and_then
  ended_then (whole {n} {k} p) follows = follows n k p
  ended_then (placed a) follows = placed a

  tested : {P : ℕ → ℕ → Type 0} (b : Bool) {v w : Walked} → (b ≡ true → Ended P v) → (b ≡ false → Ended P w) → Ended P (cond b v w)
  tested true f g = f refl
  tested false f g = g refl

module _ (G : ℕ → Production) (ns : List ℕ) (ts : List Token) where
  -- a right tree at most so many levels deep is listed from node n to before node n', and reads the tokens from k to before k'
  pub record Stands (levels A n k n' k' : ℕ) : Type 0 where
    pub tree : Tree
    pub right : Right G tree A
    pub listed : drop n ns ≡ nodes tree ++ drop n' ns
    pub read : drop k ts ≡ tokens tree ++ drop k' ts
    pub last : n' ≡ n + length (nodes tree)
    pub last_token : k' ≡ k + length (tokens tree)
    pub deep : depth tree ≤ levels

  -- and a right row
  pub record RowStands (levels : ℕ) (ss : List Symbol) (n k n' k' : ℕ) : Type 0 where
    pub row : Row
    pub right : RightRow G row ss
    pub listed : drop n ns ≡ row_nodes row ++ drop n' ns
    pub read : drop k ts ≡ row_tokens row ++ drop k' ts
    pub last : n' ≡ n + length (row_nodes row)
    pub last_token : k' ≡ k + length (row_tokens row)
    pub deep : row_depth row ≤ levels

  -- a row that stands at n₁ and k₁ stands at n and k with s before it
  abbrev Grows : ℕ → Symbol → ℕ → ℕ → ℕ → ℕ → Type 0
  Grows levels s n k n₁ k₁ = (ss : List Symbol) (n' k' : ℕ) → RowStands levels ss n₁ k₁ n' k' → RowStands levels (s ∷ ss) n k n' k'

  token_ended : (levels : ℕ) (s : Symbol) (n k : ℕ) → Terminal s → Ended ns ts (Grows levels s n k) (token_due ts s.number n k)
  unfolding token_due RightRow row_nodes row_tokens row_depth
  token_ended levels s n k t =
      tested ns ts (ltb k (length ts))
      (λ more. tested ns ts (eqb (get_or ts k no_token).terminal s.number)
      (λ same. whole (λ ss n' k' r.
      let first = drop-cons ts k no_token (ltb-true _ _ more) in
      record {
        row = token (get_or ts k no_token) r.row;
        right = (t, eqb-true _ _ same, r.right);
        listed = r.listed;
        read = cc;
        last = r.last;
        last_token = omega arith;
        deep = r.deep;
      }))
      (λ other. placed (wrong_token (ltb-true _ _ more))))
      (λ none. placed tokens_end)

  child_grows : (levels : ℕ) (s : Symbol) (n k : ℕ) → Nonterminal s → (n₁ k₁ : ℕ) → Stands levels s.number n k n₁ k₁ → Grows levels s n k n₁ k₁
  unfolding RightRow row_nodes row_tokens row_depth
  child_grows levels s n k t n₁ k₁ c ss n' k' r = record {
    row = child c.tree r.row;
    right = (t, c.right, r.right);
    listed = rw append_assoc (cc);
    read = rw append_assoc (cc);
    last = rw length-append (omega arith);
    last_token = rw length-append (omega arith);
    deep = omega arith;
  }

  row_ended : (levels : ℕ) {below : ℕ → ℕ → ℕ → Walked} → ((A n k : ℕ) → Ended ns ts (Stands levels A n k) (below A n k)) →
      (ss : List Symbol) (n k : ℕ) → Ended ns ts (RowStands levels ss n k) (row_due ts below ss n k)
  unfolding symbol_due row_due RightRow row_nodes row_tokens row_depth
  row_ended levels stands [] n k = whole {n = n} {k = k} record {
    row = end;
    right = tt;
    listed = refl;
    read = refl;
    last = omega arith;
    last_token = omega arith;
    deep = omega arith;
  }
  row_ended levels stands (s ∷ ss) n k =
      ended_then ns ts
      (tested ns ts (eqb s.kind 0)
      (λ t. token_ended levels s n k (eqb-true _ _ t))
      (λ t. ended_map ns ts (child_grows levels s n k (eqb-false _ _ t)) (stands s.number n k)))
      (λ n₁ k₁ grow. ended_map ns ts (grow ss) (row_ended levels stands ss n₁ k₁))

  met_ended : {P : ℕ → ℕ → Type 0} (A n : ℕ) {rest : Walked} → (n < length ns → (G (get_or ns n 0)).left ≡ A → Ended ns ts P rest) → Ended ns ts P (node_met G ns A n rest)
  unfolding node_met
  met_ended A n follows =
      tested ns ts (ltb n (length ns))
      (λ more. tested ns ts (eqb (G (get_or ns n 0)).left A)
      (λ same. follows (ltb-true _ _ more) (eqb-true _ _ same))
      (λ other. placed (wrong_node (ltb-true _ _ more))))
      (λ none. placed nodes_end)

  node_ended : (levels A n k : ℕ) → Ended ns ts (Stands levels A n k) (node_due G ns ts levels A n k)
  unfolding node_due Right nodes tokens depth
  node_ended zero A n k = met_ended A n (λ more same. placed (too_deep more))
  node_ended (suc levels) A n k =
      met_ended A n (λ more same.
      let first = drop-cons ns n 0 more in
      ended_map ns ts
      (λ n' k' r. record {
        tree = node (get_or ns n 0) r.row;
        right = (same, r.right);
        listed = cc;
        read = r.read;
        last = omega arith;
        last_token = r.last_token;
        deep = omega arith;
      })
      (row_ended levels (node_ended levels) (G (get_or ns n 0)).right (suc n) k))

  -- where the walk of a node ends without refusal, a right tree stands there
  pub node_stands : (levels A n k n' k' : ℕ) → node_due G ns ts levels A n k ≡ used n' k' → Stands levels A n k n' k'
  node_stands levels A n k n' k' e = stood (rw e at (node_ended levels A n k))
    where
      stood : {P : ℕ → ℕ → Type 0} → Ended ns ts P (used n' k') → P n' k'
      stood (whole p) = p

  -- where it is refused, the number is one of 5 to 9 with its place
  pub node_placed : (levels A n k : ℕ) (a : Answer) → node_due G ns ts levels A n k ≡ refused a → Placed ns ts a
  node_placed levels A n k a e = stood (rw e at (node_ended levels A n k))
    where
      stood : {P : ℕ → ℕ → Type 0} → Ended ns ts P (refused a) → Placed ns ts a
      stood (placed p) = p
