-- "Node and row are two rules that refer to each other": a tree, and the row of a node's children.
use Rattle.std.specs.Prelude.{ℕ}
use Rattle.rules.specs.Grammar.{Token}

mutual
  -- a node, by its production number, with its children
  pub data Tree : Type 0 where
    node : ℕ → Row → Tree

  -- children from left to right, each a token or a node
  pub data Row : Type 0 where
    end : Row
    token : Token → Row → Row
    child : Tree → Row → Row
