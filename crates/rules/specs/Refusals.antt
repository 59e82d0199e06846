-- What is true of each refusal of the walk, with G the productions, ns the nodes and ts the tokens.
use Rattle.std.specs.Prelude.{◌≡◌, List, ◌++◌, ℕ, suc, ◌<◌, length, take}
use Rattle.rules.specs.Grammar.{Production, Token}
use Rattle.rules.specs.Tree.{Tree}
use Rattle.rules.specs.Derivation.{Right, nodes, tokens, depth, Derives}

module _ (G : ℕ → Production) (start : ℕ) (ns : List ℕ) (ts : List Token) where
  -- every tree that is right at the start nonterminal and stands at the head of the lists is as P says
  abbrev pub EachTree : (Tree → Type 0) → Type 0
  EachTree P =
      (T : Tree) → Right G T start → (x : List ℕ) (y : List Token) → ns ≡ nodes T ++ x → ts ≡ tokens T ++ y → P T

  -- no such tree stands there
  abbrev pub NoTree : Type 0
  NoTree = EachTree (λ T. ⊥)

  -- each that does is deeper than the limit
  abbrev pub AllDeeper : ℕ → Type 0
  AllDeeper limit = EachTree (λ T. limit < depth T)

-- Of 5 to 9 each says the place, what is true of the lists, and that it stays true, whatever follows what the walk
-- looked at.
module _ (G : ℕ → Production) (start : ℕ) (ns : List ℕ) (ts : List Token) where
  -- 5: no tree, whatever follows node n and the tokens
  abbrev pub WrongNode : ℕ → Type 0
  WrongNode n =
      (n < length ns) × NoTree G start ns ts
      × ((x : List ℕ) (y : List Token) → NoTree G start (take (suc n) ns ++ x) (ts ++ y))

  -- 6: no tree, whatever follows the tokens
  abbrev pub NodesEnd : ℕ → Type 0
  NodesEnd n = (n ≡ length ns) × NoTree G start ns ts × ((y : List Token) → NoTree G start ns (ts ++ y))

  -- 7: no tree, whatever follows the nodes and token k
  abbrev pub WrongToken : ℕ → Type 0
  WrongToken k =
      (k < length ts) × NoTree G start ns ts
      × ((x : List ℕ) (y : List Token) → NoTree G start (ns ++ x) (take (suc k) ts ++ y))

  -- 8: no tree, whatever follows the nodes
  abbrev pub TokensEnd : ℕ → Type 0
  TokensEnd k = (k ≡ length ts) × NoTree G start ns ts × ((x : List ℕ) → NoTree G start (ns ++ x) ts)

  -- 9: only deeper trees, whatever follows node n and the tokens
  abbrev pub TooDeep : ℕ → ℕ → Type 0
  TooDeep limit n =
      (n < length ns) × AllDeeper G start ns ts limit
      × ((x : List ℕ) (y : List Token) → AllDeeper G start (take (suc n) ns ++ x) (ts ++ y) limit)

  -- "walk done, nodes remain": a right tree has just the nodes before node n and reads the first of the tokens
  pub record NodesRemain (n : ℕ) : Type 0 where
    pub place : n < length ns
    pub tree : Tree
    pub right : Right G tree start
    pub listed : nodes tree ≡ take n ns
    pub rest : List Token
    pub read : ts ≡ tokens tree ++ rest
    pub not_derived : Derives G start ns ts → ⊥

  -- "walk done, tokens remain": a right tree has all nodes and reads just the tokens before token k
  pub record TokensRemain (k : ℕ) : Type 0 where
    pub place : k < length ts
    pub tree : Tree
    pub right : Right G tree start
    pub listed : nodes tree ≡ ns
    pub read : tokens tree ≡ take k ts
    pub not_derived : Derives G start ns ts → ⊥
