-- Two outcomes that the contract of a reader allows are equal, field by field.
use Rattle.std.proofs.Common.{◌≡◌, ℕ, List}
use Rattle.grammar_image.specs.GrammarImage.{Counted, ProductionIs, SymbolIs}
use Rattle.grammar_image.specs.declared.Counts.{Counts}
use Rattle.grammar_image.specs.declared.Production.{Production}
use Rattle.grammar_image.specs.declared.Symbol.{Symbol}
use Rattle.fields.proofs.Promised.{one_result}

pub one_counts : (image : List ℕ) (r s : Counts) → Counted image r → Counted image s → r ≡ s
one_counts image r s p q =
    λ i. record {
      terminals = one_result p.terminals q.terminals i;
      nonterminals = one_result p.nonterminals q.nonterminals i;
      start = one_result p.start q.start i;
      productions = one_result p.productions q.productions i;
      entries = one_result p.entries q.entries i;
    }

pub one_production : (image : List ℕ) (n : ℕ) (r s : Production) →
    ProductionIs image n r → ProductionIs image n s → r ≡ s
one_production image n r s p q =
    λ i. record { left = one_result p.left q.left i; first = one_result p.first q.first i; count = one_result p.count q.count i }

pub one_symbol : (image : List ℕ) (y : ℕ) (r s : Symbol) → SymbolIs image y r → SymbolIs image y s → r ≡ s
one_symbol image y r s p q =
    λ i. record { kind = one_result p.kind q.kind i; relation = one_result p.relation q.relation i; number = one_result p.number q.number i }
