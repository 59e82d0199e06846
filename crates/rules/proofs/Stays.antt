-- A walk that is refused has met no right tree at the head of its lists, unless one too deep for it.
-- It is refused alike on all lists that share what it looked at, so the same is true of these.
use Rattle.std.proofs.Common.{◌≡◌, refl, List, ℕ, suc, ◌<◌, arith, length}
use Rattle.rules.specs.Grammar.{Production, Token}
use Rattle.rules.specs.Derivation.{depth}
use Rattle.rules.specs.Walk.{Answer, answer, refused, no_token, node_due}
use Rattle.rules.specs.Refusals.{EachTree, NoTree, AllDeeper, WrongNode, NodesEnd, WrongToken, TokensEnd, TooDeep}
use Rattle.rules.proofs.Complete.{Met, beyond, tree_met}
use Rattle.rules.proofs.Prefix.{shared_same, shared_append, shared_take, Looked, refused_same}

module _ (G : ℕ → Production) (start limit : ℕ) where
  -- the walk from the root on is refused so
  abbrev pub Refused : List ℕ → List Token → Answer → Type 0
  Refused ns ts a = node_due G ns ts limit start 0 0 ≡ refused a

  each_deep : (ns : List ℕ) (ts : List Token) {a : Answer} → Refused ns ts a → EachTree G start ns ts (λ T. (a.number ≡ 9) × (limit < depth T))
  each_deep ns ts said T r x y e f = nine (rw said at (tree_met G ns ts T start limit 0 0 x y r e f))
    where
      nine : {d n k : ℕ} {a : Answer} → Met d limit n k (refused a) → (a.number ≡ 9) × (limit < d)
      nine (beyond h) = (refl, h)

  none : (ns : List ℕ) (ts : List Token) {a : Answer} → a.number < 9 → Refused ns ts a → NoTree G start ns ts
  none ns ts less said T r x y e f = omega (arith, each_deep ns ts said T r x y e f)

  deeper : (ns : List ℕ) (ts : List Token) {a : Answer} → Refused ns ts a → AllDeeper G start ns ts limit
  deeper ns ts said T r x y e f = (each_deep ns ts said T r x y e f).1

  module _ (ns : List ℕ) (ts : List Token) where
    there : (ns' : List ℕ) (ts' : List Token) {a : Answer} → Refused ns ts a → Looked G ns ns' ts ts' a.number a.place → Refused ns' ts' a
    there ns' ts' said looked = refused_same G ns ns' ts ts' limit start 0 0 said looked

    pub wrong_node_stays : {n : ℕ} → n < length ns → Refused ns ts (answer 5 n) → WrongNode G start ns ts n
    wrong_node_stays {n} h said =
        (h, none ns ts (omega arith) said, λ x y. none _ _ (omega arith) (there _ _ said (shared_take 0 ns x (suc n), shared_append no_token ts y)))

    pub nodes_end_stays : Refused ns ts (answer 6 (length ns)) → NodesEnd G start ns ts (length ns)
    nodes_end_stays said = (refl, none ns ts (omega arith) said, λ y. none _ _ (omega arith) (there _ _ said (shared_same 0 ns, shared_append no_token ts y, refl)))

    pub wrong_token_stays : {k : ℕ} → k < length ts → Refused ns ts (answer 7 k) → WrongToken G start ns ts k
    wrong_token_stays {k} h said =
        (h, none ns ts (omega arith) said, λ x y. none _ _ (omega arith) (there _ _ said (shared_append 0 ns x, shared_take no_token ts y (suc k))))

    pub tokens_end_stays : Refused ns ts (answer 8 (length ts)) → TokensEnd G start ns ts (length ts)
    tokens_end_stays said = (refl, none ns ts (omega arith) said, λ x. none _ _ (omega arith) (there _ _ said (shared_append 0 ns x, shared_same no_token ts, refl)))

    pub too_deep_stays : {n : ℕ} → n < length ns → Refused ns ts (answer 9 n) → TooDeep G start ns ts limit n
    too_deep_stays {n} h said = (h, deeper ns ts said, λ x y. deeper _ _ (there _ _ said (shared_take 0 ns x (suc n), shared_append no_token ts y)))
