-- The three images that travel together. Each is the list of its bytes.
use Rattle.std.specs.Prelude.{List, ℕ}

pub record Images : Type 0 where
  pub grammar : List ℕ
  pub tokens : List ℕ
  pub tree : List ℕ

abbrev pub images : List ℕ → List ℕ → List ℕ → Images
images grammar tokens tree = record { grammar = grammar; tokens = tokens; tree = tree }
