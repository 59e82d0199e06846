-- "What comes back": the table of document 01, for every content of the three images and every length of the two lists.
use Rattle.std.specs.Prelude.{◌≡◌, cond, List, [], ◌∷◌, ◌++◌, ℕ, ◌*◌, ◌≤◌, ltb, eqb, length, drop}
use Rattle.rules.specs.Limits.{max_depth}
use Rattle.rules.specs.Derivation.{DerivesWithin}
use Rattle.rules.specs.Walk.{Answer, answer}
use Rattle.rules.specs.Verdict.{Verdict}
use Rattle.fields.specs.Fields.{Checked}
use Rattle.fields.specs.Answers.{checked_number, checked_place}
use Rattle.fields.specs.Fields.{WellFormed, first_fault}
use Rattle.fields.specs.Images.{Images}
use Rattle.grammar_image.specs.GrammarImage.{terminal_count, production_count, start_nonterminal, production_at}
use Rattle.grammar_image.specs.GrammarImage.{grammar_fields}
use Rattle.token_image.specs.TokenImage.{tokens_of, token_fields}
use Rattle.tree_image.specs.TreeImage.{node_count, nodes_of, tree_fields}
use Rattle.derive.specs.Images.{walk_in}
use Rattle.std.specs.Prelude.{Result, Ok, Err}
use Rattle.judge.specs.declared.Refusal.{Refusal}
use Rattle.judge.specs.Refusals.{refusal_answer}

-- "two lent lists of 32-bit numbers": what they hold
pub record Lists : Type 0 where
  pub sets : List ℕ
  pub indentations : List ℕ

abbrev pub lists : List ℕ → List ℕ → Lists
lists sets indentations = record { sets = sets; indentations = indentations }

-- and how many entries they have
pub record Entries : Type 0 where
  pub sets : ℕ
  pub indentations : ℕ

abbrev pub entries : ℕ → ℕ → Entries
entries sets indentations = record { sets = sets; indentations = indentations }

abbrev pub entries_of : Lists → Entries
entries_of l = entries (length l.sets) (length l.indentations)

-- the number and the place of what the check gives
abbrev pub given : {A : Type 0} → Result A Refusal → Answer
given (Ok accepted) = answer 0 0
given (Err refusal) = refusal_answer refusal

-- 1 to 3: the check of an image
abbrev pub checked : ℕ → Checked → Answer
checked refusal c = answer (checked_number refusal c) (checked_place c)

-- 4: "no room": a list is shorter than what is needed
unfoldable pub room : ℕ → ℕ → Answer
room needed there = cond (ltb there needed) (answer 4 needed) (answer 0 0)

-- "Tests run in the order of the table", 5 to 11 in one walk; each gives its refusal, or number 0
unfoldable pub tests : Images → Entries → List Answer
tests s lent =
    checked 1 (first_fault (grammar_fields s.grammar))
    ∷ checked 2 (first_fault (token_fields (terminal_count s.grammar) s.tokens))
    ∷ checked 3 (first_fault (tree_fields (production_count s.grammar) s.tree))
    ∷ room (2 * node_count s.tree) lent.sets
    ∷ room (node_count s.tree) lent.indentations
    ∷ walk_in s
    ∷ []

-- the first test that refuses; number 0 where none does
unfoldable pub first_refusal : List Answer → Answer
first_refusal [] = answer 0 0
first_refusal (a ∷ later) = cond (eqb a.number 0) (first_refusal later) a

-- lists with room for every node
abbrev pub enough : Images → Entries
enough s = entries (2 * node_count s.tree) (node_count s.tree)

-- what the check of the derivation alone gives: the first test that refuses where there is room, 1 to 3 and 5 to 11
abbrev pub derivation : Images → Answer
derivation s = first_refusal (tests s (enough s))

-- "With well-formed images, room": what the tests 1 to 4 ask
pub record Fitting (s : Images) (lent : Entries) : Type 0 where
  pub grammar_formed : WellFormed (grammar_fields s.grammar)
  pub tokens_formed : WellFormed (token_fields (terminal_count s.grammar) s.tokens)
  pub tree_formed : WellFormed (tree_fields (production_count s.grammar) s.tree)
  pub sets_room : 2 * node_count s.tree ≤ lent.sets
  pub indentations_room : node_count s.tree ≤ lent.indentations

-- the nodes of the tree image derive all tokens of the token image, by "a tree at most 1,024 deep"
abbrev pub DerivesIn : Images → Type 0
DerivesIn s =
    DerivesWithin max_depth (production_at s.grammar) (start_nonterminal s.grammar) (nodes_of s.tree)
    (tokens_of s.tokens)

-- a list with entries written at its head; "Entries beyond those named never change"
abbrev pub written : List ℕ → List ℕ → List ℕ
written new old = new ++ drop (length new) old

-- what the check gives and leaves: number and place, and what each list holds, by what it held
pub record Judged (s : Images) (old : Lists) (a : Answer) (new : Lists) : Type 0 where
  pub sets : List ℕ
  pub indentations : List ℕ
  pub verdict : Verdict (production_at s.grammar) (start_nonterminal s.grammar) (nodes_of s.tree)
      (tokens_of s.tokens) (first_refusal (tests s (entries_of old))) a sets indentations
  pub sets_after : new.sets ≡ written sets old.sets
  pub indentations_after : new.indentations ≡ written indentations old.indentations
