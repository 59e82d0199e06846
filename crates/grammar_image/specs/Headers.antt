-- Counts are those of a header in one way.
use Rattle.std.specs.Prelude.{List, ℕ}
use Rattle.std.specs.Coded.{Coded-set, coded_ℕ}
use Rattle.grammar_image.specs.declared.Counts.{Counts}
use Rattle.grammar_image.specs.GrammarImage.{Counted}
use Rattle.grammar_image.specs.GrammarImage.{terminal_count, nonterminal_count, start_nonterminal}
use Rattle.grammar_image.specs.GrammarImage.{production_count, entry_count}

pub counted_prop : (image : List ℕ) (r : Counts) → IsProp (Counted image r)
counted_prop image r a b i =
    record {
      terminals = Coded-set coded_ℕ r.terminals (terminal_count image) a.terminals b.terminals i;
      nonterminals = Coded-set coded_ℕ r.nonterminals (nonterminal_count image) a.nonterminals b.nonterminals i;
      start = Coded-set coded_ℕ r.start (start_nonterminal image) a.start b.start i;
      productions = Coded-set coded_ℕ r.productions (production_count image) a.productions b.productions i;
      entries = Coded-set coded_ℕ r.entries (entry_count image) a.entries b.entries i;
    }
