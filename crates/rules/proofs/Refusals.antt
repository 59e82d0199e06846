-- The walk uses all nodes and all tokens exactly if the nodes derive the tokens within the limit, and every other answer says what is wrong.
use Rattle.std.proofs.Common.{◌≡◌, refl, subst, ◌⊎◌, List, ℕ, ◌<◌, ◌≤◌}
use Rattle.rules.specs.Limits.{max_depth}
use Rattle.rules.specs.Grammar.{Production, Token}
use Rattle.rules.specs.Derivation.{depth, Derives, DerivesWithin}
use Rattle.rules.specs.Walk.{answer, walk}
use Rattle.rules.specs.Refusals.{WrongNode, NodesEnd, WrongToken, TokensEnd, TooDeep, NodesRemain, TokensRemain}
use Rattle.rules.proofs.Meaning.{Means, Meant, ended_meant, within_answered, deep_answered, neither}

module _ (G : ℕ → Production) (start : ℕ) (ns : List ℕ) (ts : List Token) where
  meant : Meant G start ns ts max_depth (walk G ns ts start)
  unfolding walk
  meant = ended_meant G start ns ts max_depth _ refl

  told : {r : ℕ} → (walk G ns ts start).number ≡ r → Means G start ns ts max_depth r (walk G ns ts start).place
  told e = subst (λ (r : ℕ). Means G start ns ts max_depth r (walk G ns ts start).place) e meant.means

  -- the number is one of 0, 5, 6, 7, 8, 9, 10 and 11
  pub answers : ((walk G ns ts start).number ≡ 0) ⊎ ((5 ≤ (walk G ns ts start).number) × ((walk G ns ts start).number ≤ 11))
  answers = meant.known

  -- 0 has the place 0
  pub zero_place : (walk G ns ts start).number ≡ 0 → (walk G ns ts start).place ≡ 0
  zero_place e = (told e).0

  -- 0: the nodes derive the tokens by a tree within the limit
  pub derived : (walk G ns ts start).number ≡ 0 → DerivesWithin max_depth G start ns ts
  derived e = (told e).1

  -- 5: the place is a node, and no right tree stands at the head of the lists, whatever follows that node and the tokens
  pub wrong_node_lem : (walk G ns ts start).number ≡ 5 → WrongNode G start ns ts (walk G ns ts start).place
  wrong_node_lem e = told e

  -- 6: the place is the end of the nodes, and no right tree stands at the head of the lists, whatever follows the tokens
  pub nodes_end_lem : (walk G ns ts start).number ≡ 6 → NodesEnd G start ns ts (walk G ns ts start).place
  nodes_end_lem e = told e

  -- 7: the place is a token, and no right tree stands at the head of the lists, whatever follows the nodes and that token
  pub wrong_token_lem : (walk G ns ts start).number ≡ 7 → WrongToken G start ns ts (walk G ns ts start).place
  wrong_token_lem e = told e

  -- 8: the place is the end of the tokens, and no right tree stands at the head of the lists, whatever follows the nodes
  pub tokens_end_lem : (walk G ns ts start).number ≡ 8 → TokensEnd G start ns ts (walk G ns ts start).place
  tokens_end_lem e = told e

  -- 9: the place is a node, and every right tree at the head of the lists is deeper than the limit, whatever follows that node and the tokens
  pub all_deeper : (walk G ns ts start).number ≡ 9 → TooDeep G start ns ts max_depth (walk G ns ts start).place
  all_deeper e = told e

  -- 10: the place is a node, a right tree has just the nodes before it and reads the first of the tokens, and the lists do not derive
  pub nodes_remain : (walk G ns ts start).number ≡ 10 → NodesRemain G start ns ts (walk G ns ts start).place
  nodes_remain e = told e

  -- 11: the place is a token, a right tree has all nodes and reads just the tokens before it, and the lists do not derive
  pub tokens_remain : (walk G ns ts start).number ≡ 11 → TokensRemain G start ns ts (walk G ns ts start).place
  tokens_remain e = told e

  -- nodes that derive the tokens within the limit are answered with 0
  pub derives_answered : DerivesWithin max_depth G start ns ts → walk G ns ts start ≡ answer 0 0
  unfolding walk
  derives_answered d = within_answered G start ns ts max_depth d

  -- those whose tree is deeper are answered with 9
  pub too_deep_lem : (d : Derives G start ns ts) → max_depth < depth d.tree → (walk G ns ts start).number ≡ 9
  unfolding walk
  too_deep_lem d deep = deep_answered G start ns ts max_depth d deep

  -- where the number is neither 0 nor 9, the nodes do not derive the tokens
  pub not_derived_lem : ((walk G ns ts start).number ≡ 0 → ⊥) → ((walk G ns ts start).number ≡ 9 → ⊥) → Derives G start ns ts → ⊥
  unfolding walk
  not_derived_lem not-zero not-nine d = neither G start ns ts max_depth not-zero not-nine d
