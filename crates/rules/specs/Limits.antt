-- The limits of document 01, each under its name, as the definitions cite them.
use Rattle.std.specs.Prelude.{Bool, ◌||◌, ℕ, ◌+◌, ◌*◌, ◌-◌, leb, eqb}
use Rattle.rules.specs.Grammar.{no_column}
use Rattle.rules.specs.Relation.{rise}

abbrev pub max_terminals : ℕ
max_terminals = 1024

abbrev pub max_nonterminals : ℕ
max_nonterminals = 1024

abbrev pub max_productions : ℕ
max_productions = 1024

abbrev pub max_entries : ℕ
max_entries = 4096

abbrev pub max_row : ℕ
max_row = 16

abbrev pub max_tokens : ℕ
max_tokens = 4096

abbrev pub max_column : ℕ
max_column = 4095

-- "column (0 to 4,095)", or none
unfoldable pub column_allowed : ℕ → Bool
column_allowed column = leb column max_column || eqb column no_column

abbrev pub max_nodes : ℕ
max_nodes = 4096

abbrev pub max_depth : ℕ
max_depth = 1024

-- "The greatest indentation that may be returned": the root's least indentation is at most the greatest column of the
-- tokens that have one, and each level below it may rise
abbrev pub max_indentation : ℕ
max_indentation = max_column + rise * (max_depth - 1)
