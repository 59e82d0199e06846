-- "kind (0 terminal, 1 nonterminal)": what stands at a symbol, and how many of a kind there are.
use Rattle.std.specs.Prelude.{ℕ, if◌then◌else◌, ◌==◌}
use Rattle.grammar_image.specs.declared.Counts.{Counts}
use Rattle.grammar_image.specs.declared.Kind.{Kind}
use Rattle.grammar_image.specs.declared.Kind.TheVariants.{Terminal, Nonterminal}

abbrev pub kind_of : ℕ → Kind
kind_of number = if number == 0 then Terminal else Nonterminal

abbrev pub bound_of : Counts → Kind → ℕ
bound_of counts Terminal = counts.terminals
bound_of counts Nonterminal = counts.nonterminals
