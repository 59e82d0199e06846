-- The order of events of "What comes back": "5 to 9 arise during one walk in preorder, and the first met is given".
-- This definition runs.
use Rattle.std.specs.Prelude.{cond, List, [], ◌∷◌, ℕ, zero, suc, ltb, eqb, length, get_or}
use Rattle.rules.specs.Limits.{max_depth}
use Rattle.rules.specs.Grammar.{Symbol, Production, Token}

-- "It gives a number and a place"
pub record Answer : Type 0 where
  pub number : ℕ
  pub place : ℕ

abbrev pub answer : ℕ → ℕ → Answer
answer number place = record { number = number; place = place }

-- how the walk of a node or of a row ends: with so many nodes and tokens used since the root, or refused
pub data Walked : Type 0 where
  used : ℕ → ℕ → Walked
  refused : Answer → Walked

-- "the first met is given": only what ends without a refusal is followed by the rest
unfoldable pub and_then : Walked → (ℕ → ℕ → Walked) → Walked
and_then (used n k) rest = rest n k
and_then (refused a) rest = refused a

-- stands where a list of tokens has no token
abbrev pub no_token : Token
no_token = record { terminal = 0; column = 0 }

-- Below n nodes and k tokens are used, so node n and token k are next.
-- "for a token that is due, 8, 7": the terminal a is due, and ts are the tokens
unfoldable pub token_due : List Token → ℕ → ℕ → ℕ → Walked
token_due ts a n k =
    cond (ltb k (length ts))
    (cond (eqb (get_or ts k no_token).terminal a) (used n (suc k)) (refused (answer 7 k)))
    (refused (answer 8 (length ts)))

-- "For a node that is due the order is 6, 5, 9": the nonterminal A is due, and where node n has it on its left, `rest`
-- follows; G are the productions by their numbers, ns the nodes
unfoldable pub node_met : (ℕ → Production) → List ℕ → ℕ → ℕ → Walked → Walked
node_met G ns A n rest =
    cond (ltb n (length ns))
    (cond (eqb (G (get_or ns n 0)).left A) rest (refused (answer 5 n)))
    (refused (answer 6 (length ns)))

-- the symbol s is due, a terminal or a nonterminal, where `below` walks a node that is due
unfoldable pub symbol_due : List Token → (ℕ → ℕ → ℕ → Walked) → Symbol → ℕ → ℕ → Walked
symbol_due ts below s n k = cond (eqb s.kind 0) (token_due ts s.number n k) (below s.number n k)

-- a row of symbols is due, "left to right"
unfoldable pub row_due : List Token → (ℕ → ℕ → ℕ → Walked) → List Symbol → ℕ → ℕ → Walked
row_due ts below [] n k = used n k
row_due ts below (s ∷ ss) n k = and_then (symbol_due ts below s n k) (row_due ts below ss)

-- the nonterminal A is due, with so many levels left: a node with no level left is "deeper than 1,024", and any other's
-- row follows
unfoldable pub node_due : (ℕ → Production) → List ℕ → List Token → ℕ → ℕ → ℕ → ℕ → Walked
node_due G ns ts zero A n k = node_met G ns A n (refused (answer 9 n))
node_due G ns ts (suc levels) A n k =
    node_met G ns A n (row_due ts (node_due G ns ts levels) (G (get_or ns n 0)).right (suc n) k)

-- "walk done, nodes remain", then "walk done, tokens remain"
unfoldable pub walk_done : List ℕ → List Token → Walked → Answer
walk_done ns ts (refused a) = a
walk_done ns ts (used n k) =
    cond (ltb n (length ns)) (answer 10 n) (cond (ltb k (length ts)) (answer 11 k) (answer 0 0))

-- the walk from the root on, where the start nonterminal is due
unfoldable pub walk : (ℕ → Production) → List ℕ → List Token → ℕ → Answer
walk G ns ts start = walk_done ns ts (node_due G ns ts max_depth start 0 0)
