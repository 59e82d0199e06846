-- What is promised of the check of the derivation: it accepts exactly what derives, and where there is room for the lists it says what the check says.
use Rattle.std.proofs.Common.{◌≡◌, refl, sym, ap, ◌∙◌, ◌⊎◌, inl, inr, ⊎_elim, List, [], ◌∷◌, Bool, true, false, cond, ℕ, ◌*◌, ◌≤◌, arith, eqb, length, le-ltb, Ok, Err}
use Rattle.rules.specs.Grammar.{Production, Token}
use Rattle.rules.specs.Walk.{Answer, answer}
use Rattle.rules.specs.Verdict.{Verdict, refused, empty, accepted}
use Rattle.rules.proofs.Refusals.{answers, derives_answered}
use Rattle.fields.specs.Images.{Images}
use Rattle.fields.specs.Fields.{Checked}
use Rattle.fields.specs.Answers.{checked_number}
use Rattle.fields.specs.Fields.{first_fault}
use Rattle.fields.proofs.Promised.{well_formed_good}
use Rattle.grammar_image.specs.GrammarImage.{terminal_count, production_count, start_nonterminal, production_at, grammar_fields}
use Rattle.token_image.specs.TokenImage.{tokens_of, token_fields}
use Rattle.tree_image.specs.TreeImage.{node_count, nodes_of, tree_fields}
use Rattle.derive.specs.Images.{walk_in}
use Rattle.images.specs.Formed.{Formed}
use Rattle.judge.specs.Judged.{Lists, Entries, entries_of, room, tests, first_refusal, enough, derivation, DerivesIn, Judged}
use Rattle.judge.proofs.Passed.{all_passed}

-- two outcomes that its contract allows are equal
pub one_derivation : (s : Images) {a b : Answer} → a ≡ derivation s → b ≡ derivation s → a ≡ b
one_derivation s e f = e ∙ sym f

-- a refused sheet is refused with the first refusal, and any other is accepted or has an empty set
refused_first : {G : ℕ → Production} {start : ℕ} {ns : List ℕ} {ts : List Token} {refusal a : Answer} {xs is : List ℕ} →
    Verdict G start ns ts refusal a xs is → (refusal.number ≡ 0 → ⊥) → a ≡ refusal
refused_first (refused f) some = refl
refused_first (empty y d none high sets) some = absurd (some y)
refused_first (accepted y d sets l) some = absurd (some y)

accepted_or_empty : {G : ℕ → Production} {start : ℕ} {ns : List ℕ} {ts : List Token} {refusal a : Answer} {xs is : List ℕ} →
    Verdict G start ns ts refusal a xs is → refusal.number ≡ 0 → (a.number ≡ 0) ⊎ (a.number ≡ 12)
accepted_or_empty (refused f) z = absurd (f z)
accepted_or_empty (empty y d none high sets) z = inr refl
accepted_or_empty (accepted y d sets l) z = inl refl

module _ (s : Images) where
  -- "for callers who only want the derivation": 0 exactly if the images are well formed and the nodes derive all tokens within the limit
  pub derived_only_if : (derivation s).number ≡ 0 → Formed s × DerivesIn s
  derived_only_if e =
      let passed = all_passed s (enough s) e in
      let fits = passed.0 in
      (record { nodes_formed = record { grammar_formed = fits.grammar_formed; tree_formed = fits.tree_formed }; tokens_formed = fits.tokens_formed }, passed.1)

  pub derived_if : Formed s → DerivesIn s → derivation s ≡ answer 0 0
  unfolding tests first_refusal room
  derived_if f d =
      rw (
        ← well_formed_good (grammar_fields s.grammar) f.nodes_formed.grammar_formed,
        ← well_formed_good (token_fields (terminal_count s.grammar) s.tokens) f.tokens_formed,
        ← well_formed_good (tree_fields (production_count s.grammar) s.tree) f.nodes_formed.tree_formed,
        le-ltb (2 * node_count s.tree) (2 * node_count s.tree) (omega arith),
        le-ltb (node_count s.tree) (node_count s.tree) (omega arith),
        derives_answered (production_at s.grammar) (start_nonterminal s.grammar) (nodes_of s.tree) (tokens_of s.tokens) d,
      )

  -- where there is room, the tests are the same
  same_tests : (lent : Entries) → 2 * node_count s.tree ≤ lent.sets → node_count s.tree ≤ lent.indentations → first_refusal (tests s lent) ≡ derivation s
  unfolding tests room
  same_tests lent g h =
      rw (
        le-ltb lent.sets (2 * node_count s.tree) g,
        le-ltb lent.indentations (node_count s.tree) h,
        le-ltb (2 * node_count s.tree) (2 * node_count s.tree) (omega arith),
        le-ltb (node_count s.tree) (node_count s.tree) (omega arith),
      )

  -- a call of `check` whose lists have room
  module _ {old new : Lists} {a : Answer} (j : Judged s old a new) (sets : 2 * node_count s.tree ≤ length old.sets) (indentations : node_count s.tree ≤ length old.indentations) where
    -- what the check of the derivation refuses, the check refuses with the same number and place
    pub same_refusal : ((derivation s).number ≡ 0 → ⊥) → a ≡ derivation s
    same_refusal some =
        let same = same_tests (entries_of old) sets indentations in
        refused_first j.verdict (λ z. some (sym (ap (λ (x : Answer). x.number) same) ∙ z)) ∙ same

    -- and what it accepts, the check accepts or answers with 12
    pub zero_or_twelve : (derivation s).number ≡ 0 → (a.number ≡ 0) ⊎ (a.number ≡ 12)
    zero_or_twelve e = accepted_or_empty j.verdict (ap (λ (x : Answer). x.number) (same_tests (entries_of old) sets indentations) ∙ e)

-- no room is asked for: 4 is never its answer
not_four : (b : Bool) (x y : Answer) → (x.number ≡ 4 → ⊥) → (y.number ≡ 4 → ⊥) → (cond b x y).number ≡ 4 → ⊥
not_four true x y h k = h
not_four false x y h k = k

unfoldable NoneFour : List Answer → Type 0
NoneFour [] = Unit {0}
NoneFour (a ∷ later) = (a.number ≡ 4 → ⊥) × NoneFour later

first_not_four : (all : List Answer) → NoneFour all → (first_refusal all).number ≡ 4 → ⊥
unfolding first_refusal NoneFour
first_not_four [] h e = omega arith
first_not_four (a ∷ later) h e = not_four (eqb a.number 0) (first_refusal later) a (first_not_four later h.1) h.0 e

checked_not_four : (refusal : ℕ) (c : Checked) → (refusal ≡ 4 → ⊥) → checked_number refusal c ≡ 4 → ⊥
checked_not_four refusal (Ok good) h e = omega arith
checked_not_four refusal (Err fault) h e = h e

pub never_four : (s : Images) → (derivation s).number ≡ 4 → ⊥
unfolding tests room NoneFour
never_four s =
    rw (
      le-ltb (2 * node_count s.tree) (2 * node_count s.tree) (omega arith),
      le-ltb (node_count s.tree) (node_count s.tree) (omega arith),
    )
    (first_not_four _ (
      checked_not_four 1 (first_fault (grammar_fields s.grammar)) (λ e. omega arith),
      (
        checked_not_four 2 (first_fault (token_fields (terminal_count s.grammar) s.tokens)) (λ e. omega arith),
        (checked_not_four 3 (first_fault (tree_fields (production_count s.grammar) s.tree)) (λ e. omega arith), ((λ e. omega arith), ((λ e. omega arith), (walk_not_four, tt)))),
      ),
    ))
  where
    walk_not_four : (walk_in s).number ≡ 4 → ⊥
    walk_not_four e = ⊎_elim (λ z. omega arith) (λ z. omega arith) (answers (production_at s.grammar) (start_nonterminal s.grammar) (nodes_of s.tree) (tokens_of s.tokens))
