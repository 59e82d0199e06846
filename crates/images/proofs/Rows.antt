-- A row as the code reads it: the symbols of a range of entries, which a loop takes one by one, each told by its kind.
use Rattle.std.proofs.Common.{◌≡◌, ◌≢◌, refl, ℕ, zero, suc, ◌+◌, ◌-◌, ◌≤◌, List, [], ◌∷◌, Some, arith, add-one}
use Rattle.std.proofs.Math.Dec.{eqb-suc-zero}
use Rattle.std.specs.declared.ops.Range.{Range}
use Rattle.std.proofs.iter.Yields.{nat_range_steps}
use Rattle.fields.specs.Fields.{list_from}
use Rattle.grammar_image.specs.Kinds.{kind_of}
use Rattle.grammar_image.specs.declared.Kind.TheVariants.{Terminal, Nonterminal}

module _ {A : Type 0} (f : ℕ → A) where
  -- what stands at the entries
  abbrev pub listed : Range ℕ → List A
  listed entries = list_from entries.start (entries.end - entries.start) f

  -- a loop takes the first, and the others are left
  pub listed_turn : {from left : Range ℕ} {y : ℕ} → nat_range_steps from (Some y) left → listed from ≡ f y ∷ listed left
  unfolding list_from
  listed_turn {from} {left} turn =
      let e : from.end - from.start ≡ suc (left.end - left.start) = omega (arith, turn.0, turn.1.0, turn.1.2) in
      rw (e, turn.1.1, turn.1.2, add-one)

  -- none is left
  pub listed_over : (entries : Range ℕ) → entries.end ≤ entries.start → listed entries ≡ []
  unfolding list_from
  listed_over entries over =
      let e : entries.end - entries.start ≡ 0 = omega (arith, over) in
      rw e

  -- those of a production are as many as it counts, from its first on
  pub listed_whole : {entries : Range ℕ} (first count : ℕ) → entries.start ≡ first → entries.end ≡ first + count → listed entries ≡ list_from first count f
  listed_whole {entries} first count start end =
      let e : entries.end - entries.start ≡ count = omega (arith, start, end) in
      rw (e, start)

-- what stands at a symbol is told by its kind
pub terminal_is : (kind : ℕ) → Terminal ≡ kind_of kind → kind ≡ 0
terminal_is zero is = refl
terminal_is (suc k) is =
    let other : Terminal ≡ Nonterminal = rw eqb-suc-zero at is in
    cc

pub nonterminal_is : (kind : ℕ) → Nonterminal ≡ kind_of kind → kind ≢ 0
nonterminal_is zero is e = cc
nonterminal_is (suc k) is e = cc
