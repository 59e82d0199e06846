-- Number and place of "What comes back", and what is written at the head of each lent list, over the grammar rule.
use Rattle.std.specs.Prelude.{◌≡◌, List, [], ℕ}
use Rattle.rules.specs.Grammar.{Production, Token}
use Rattle.rules.specs.Derivation.{Derives}
use Rattle.rules.specs.Walk.{Answer, answer}
use Rattle.rules.specs.Choice.{InSet, Least}
use Rattle.rules.specs.Stored.{Empty, subtrees, StoredSets, HighestEmpty}

-- with G the productions, ns the nodes, ts the tokens, and the first refusal among 1 to 11, whose number is 0 where
-- there is none
module _ (G : ℕ → Production) (start : ℕ) (ns : List ℕ) (ts : List Token) (refusal : Answer) where
  -- number and place, the sets and the indentations that are written
  pub data Verdict : Answer → List ℕ → List ℕ → Type 0 where
    -- 1 to 11: both lists "unchanged"
    refused : (refusal.number ≡ 0 → ⊥) → Verdict refusal [] []
    -- 12: "root's set empty", "highest-numbered node with an empty set", "first 2D of sets written, indentations
    -- unchanged"
    empty : {n : ℕ} {sets : List ℕ} → refusal.number ≡ 0 → (d : Derives G start ns ts) →
        Empty (InSet G d.tree) → HighestEmpty G d.tree n → StoredSets G (subtrees d.tree) sets →
        Verdict (answer 12 n) sets []
    -- 0: "first 2D of sets and first D of indentations written"
    accepted : {sets is : List ℕ} → refusal.number ≡ 0 → (d : Derives G start ns ts) →
        StoredSets G (subtrees d.tree) sets → Least G d.tree is → Verdict (answer 0 0) sets is
