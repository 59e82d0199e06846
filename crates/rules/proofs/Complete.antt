-- Where a right tree stands, each step of the walk meets the next node or token of it. So only the levels can end the walk before the tree does.
use Rattle.std.proofs.Common.{◌≡◌, refl, List, [], ◌∷◌, ◌++◌, append_assoc, ℕ, zero, suc, ◌+◌, ◌<◌, ◌≤◌, max, add-zero, add-suc, suc-add, arith, length, drop, eq-eqb, ne_eqb}
use Rattle.rules.specs.Grammar.{Symbol, Production, Token}
use Rattle.rules.specs.Tree.{Tree, node, Row, end, token, child}
use Rattle.rules.specs.Derivation.{Right, RightRow, nodes, row_nodes, tokens, row_tokens, depth, row_depth}
use Rattle.rules.specs.Walk.{answer, Walked, used, refused, and_then, no_token, token_due, node_met, symbol_due, row_due, node_due}
use Rattle.rules.proofs.Lists.{head_met, front_met, length_two}
use Rattle.rules.proofs.Steps.{token_meets, node_meets}

-- the walk of what is so deep: it ends at n and k where the levels suffice, and with 9 where they do not
pub data Met (deep levels n k : ℕ) : Walked → Type 0 where
  within : deep ≤ levels → Met deep levels n k (used n k)
  beyond : {place : ℕ} → levels < deep → Met deep levels n k (refused (answer 9 place))

met_deep : {deep levels deep' levels' n k : ℕ} {w : Walked} → (deep ≤ levels → deep' ≤ levels') → (levels < deep → levels' < deep') →
    Met deep levels n k w → Met deep' levels' n k w
met_deep f g (within h) = within (f h)
met_deep f g (beyond h) = beyond (g h)

met_then : {deep deep' levels n₁ k₁ n k : ℕ} {w : Walked} (rest : ℕ → ℕ → Walked) →
    Met deep levels n₁ k₁ w → Met deep' levels n k (rest n₁ k₁) → Met (max deep deep') levels n k (and_then w rest)
unfolding and_then
met_then rest (within h) m = met_deep (λ l. omega arith) (λ l. omega arith) m
met_then rest (beyond h) m = beyond (omega arith)

module _ (G : ℕ → Production) (ns : List ℕ) (ts : List Token) where
  node_met_lem : (A n p : ℕ) (x : List ℕ) (rest : Walked) → (G p).left ≡ A → drop n ns ≡ p ∷ x → node_met G ns A n rest ≡ rest
  node_met_lem A n p x rest f e =
      let at = head_met ns n 0 p x e in
      node_meets G ns A n rest at.0 (rw at.1 f)

  token_met : (n k : ℕ) (t : Token) (y : List Token) → drop k ts ≡ t ∷ y → token_due ts t.terminal n k ≡ used n (suc k)
  token_met n k t y e =
      let at = head_met ts k no_token t y e in
      token_meets ts t.terminal n k at.0 (rw at.1)

  mutual
    unfolding Right RightRow nodes row_nodes tokens row_tokens depth row_depth symbol_due row_due node_due and_then

    -- where a right tree stands, the walk meets all of it that the levels allow
    pub tree_met : (T : Tree) (A levels n k : ℕ) (x : List ℕ) (y : List Token) → Right G T A → drop n ns ≡ nodes T ++ x → drop k ts ≡ tokens T ++ y →
        Met (depth T) levels (n + length (nodes T)) (k + length (tokens T)) (node_due G ns ts levels A n k)
    tree_met (node p R) A zero n k x y f e h = rw (node_met_lem A n p _ _ f.0 e) (beyond (omega arith))
    tree_met (node p R) A (suc levels) n k x y f e h =
        let at = head_met ns n 0 p _ e in
        rw (node_met_lem A n p _ _ f.0 e, at.1, add-suc, ← suc-add)
        (met_deep (λ l. omega arith) (λ l. omega arith) (row_met R (G p).right levels (suc n) k x y f.1 at.2 h))

    row_met : (R : Row) (ss : List Symbol) (levels n k : ℕ) (x : List ℕ) (y : List Token) → RightRow G R ss → drop n ns ≡ row_nodes R ++ x → drop k ts ≡ row_tokens R ++ y →
        Met (row_depth R) levels (n + length (row_nodes R)) (k + length (row_tokens R)) (row_due ts (node_due G ns ts levels) ss n k)
    row_met end [] levels n k x y f e h = rw (add-zero n, add-zero k) (within (omega arith))
    row_met end (s ∷ ss) levels n k x y f e h = absurd f
    row_met (token t R) [] levels n k x y f e h = absurd f
    row_met (token t R) (s ∷ ss) levels n k x y f e h =
        let at = head_met ts k no_token t _ h in
        rw (eq-eqb s.kind 0 f.0, ← f.1, token_met n k t _ h, add-suc, ← suc-add) (row_met R ss levels n (suc k) x y f.2 e at.2)
    row_met (child T R) [] levels n k x y f e h = absurd f
    row_met (child T R) (s ∷ ss) levels n k x y f e h =
        let e' = rw append_assoc at e in
        let h' = rw append_assoc at h in
        rw (ne_eqb s.kind 0 f.0, length_two n (nodes T) (row_nodes R), length_two k (tokens T) (row_tokens R))
        (met_then (row_due ts (node_due G ns ts levels) ss) (tree_met T s.number levels n k _ _ f.1 e' h')
        (row_met R ss levels _ _ x y f.2 (front_met ns n (nodes T) _ e') (front_met ts k (tokens T) _ h')))

  module _ (T : Tree) (A levels n k : ℕ) (x : List ℕ) (y : List Token) (right : Right G T A) (listed : drop n ns ≡ nodes T ++ x) (read : drop k ts ≡ tokens T ++ y) where
    -- where a right tree stands and the levels suffice, the walk uses just its nodes and tokens
    pub right_used : depth T ≤ levels → node_due G ns ts levels A n k ≡ used (n + length (nodes T)) (k + length (tokens T))
    right_used deep = ended deep (tree_met T A levels n k x y right listed read)
      where
        ended : {d n k : ℕ} {w : Walked} → d ≤ levels → Met d levels n k w → w ≡ used n k
        ended h (within l) = refl
        ended h (beyond l) = absurd (omega arith)

    -- where they do not, it gives 9
    pub right_too_deep : levels < depth T → (place : ℕ) × (node_due G ns ts levels A n k ≡ refused (answer 9 place))
    right_too_deep deep = ended deep (tree_met T A levels n k x y right listed read)
      where
        ended : {d n k : ℕ} {w : Walked} → levels < d → Met d levels n k w → (place : ℕ) × (w ≡ refused (answer 9 place))
        ended h (within l) = absurd (omega arith)
        ended h (beyond {place} l) = (place, refl)
