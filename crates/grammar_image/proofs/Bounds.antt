-- The bound of a symbol's number, as the code takes it from the counts that it read.
use Rattle.std.proofs.Common.{◌≡◌, List, ℕ, Bool, true, false, cond, eqb, if◌then◌else◌}
use Rattle.grammar_image.specs.declared.Counts.{Counts}
use Rattle.grammar_image.specs.declared.Kind.TheVariants.{Terminal, Nonterminal}
use Rattle.grammar_image.specs.GrammarImage.{terminal_count, nonterminal_count, number_bound, Counted}
use Rattle.grammar_image.specs.Kinds.{kind_of, bound_of}

by_kind : (image : List ℕ) (counts : Counts) → Counted image counts → (terminal : Bool)
    → bound_of counts (if terminal then Terminal else Nonterminal) ≡ cond terminal (terminal_count image) (nonterminal_count image)
by_kind image counts counted true = counted.terminals
by_kind image counts counted false = counted.nonterminals

pub bound_is : (image : List ℕ) (counts : Counts) → Counted image counts → (kind : ℕ) → bound_of counts (kind_of kind) ≡ number_bound image kind
bound_is image counts counted kind = by_kind image counts counted (eqb kind 0)
