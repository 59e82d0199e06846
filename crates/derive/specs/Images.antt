-- The walk over what three images hold.
use Rattle.std.specs.Prelude.{List, ℕ, ◌-◌}
use Rattle.std.specs.declared.ops.Range.{Range}
use Rattle.rules.specs.Grammar.{Symbol}
use Rattle.rules.specs.Walk.{Answer, Walked, node_due, row_due, walk}
use Rattle.fields.specs.Fields.{list_from}
use Rattle.fields.specs.Images.{Images}
use Rattle.grammar_image.specs.GrammarImage.{production_at, start_nonterminal, symbol_at}
use Rattle.token_image.specs.TokenImage.{tokens_of}
use Rattle.tree_image.specs.TreeImage.{nodes_of}

-- a node is due, with so many levels left, that has a nonterminal on its left
abbrev pub node_due_in : Images → ℕ → ℕ → ℕ → ℕ → Walked
node_due_in s = node_due (production_at s.grammar) (nodes_of s.tree) (tokens_of s.tokens)

-- a row of symbols is due, with so many levels left
abbrev pub row_due_in : Images → ℕ → List Symbol → ℕ → ℕ → Walked
row_due_in s levels = row_due (tokens_of s.tokens) (node_due_in s levels)

-- the symbols of some entries are due
abbrev pub entries_due_in : Images → ℕ → Range ℕ → ℕ → ℕ → Walked
entries_due_in s levels entries =
    row_due_in s levels (list_from entries.start (entries.end - entries.start) (symbol_at s.grammar))

-- "The root's production has the start nonterminal on its left"
abbrev pub walk_in : Images → Answer
walk_in s = walk (production_at s.grammar) (nodes_of s.tree) (tokens_of s.tokens) (start_nonterminal s.grammar)
