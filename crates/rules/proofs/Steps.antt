-- What a node or a token that is due gives, by how the tests of document 01 end: the definitions with their tests answered.
use Rattle.std.proofs.Common.{◌≡◌, List, ℕ, suc, ◌<◌, ◌≤◌, length, get_or, lt-ltb, le-ltb, eq-eqb, ne_eqb}
use Rattle.rules.specs.Grammar.{Production, Token}
use Rattle.rules.specs.Walk.{answer, Walked, used, refused, no_token, token_due, node_met}

-- the terminal a is due
module _ (ts : List Token) (a n k : ℕ) where
  pub token_missing : length ts ≤ k → token_due ts a n k ≡ refused (answer 8 (length ts))
  unfolding token_due
  token_missing none = rw (le-ltb k (length ts) none)

  pub token_other : k < length ts → ((get_or ts k no_token).terminal ≡ a → ⊥) → token_due ts a n k ≡ refused (answer 7 k)
  unfolding token_due
  token_other more other = rw (lt-ltb k (length ts) more, ne_eqb (get_or ts k no_token).terminal a other)

  pub token_meets : k < length ts → (get_or ts k no_token).terminal ≡ a → token_due ts a n k ≡ used n (suc k)
  unfolding token_due
  token_meets more same = rw (lt-ltb k (length ts) more, eq-eqb (get_or ts k no_token).terminal a same)

-- the nonterminal A is due
module _ (G : ℕ → Production) (ns : List ℕ) (A n : ℕ) (rest : Walked) where
  pub node_missing : length ns ≤ n → node_met G ns A n rest ≡ refused (answer 6 (length ns))
  unfolding node_met
  node_missing none = rw (le-ltb n (length ns) none)

  pub node_other : n < length ns → ((G (get_or ns n 0)).left ≡ A → ⊥) → node_met G ns A n rest ≡ refused (answer 5 n)
  unfolding node_met
  node_other more other = rw (lt-ltb n (length ns) more, ne_eqb (G (get_or ns n 0)).left A other)

  pub node_meets : n < length ns → (G (get_or ns n 0)).left ≡ A → node_met G ns A n rest ≡ rest
  unfolding node_met
  node_meets more same = rw (lt-ltb n (length ns) more, eq-eqb (G (get_or ns n 0)).left A same)
