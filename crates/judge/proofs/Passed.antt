-- No test refuses exactly if the images are well formed, there is room, and the nodes derive the tokens within the limit.
use Rattle.std.proofs.Common.{◌≡◌, refl, sym, ap, ◌∙◌, ⊎_elim, Bool, true, false, true≢false, cond, List, [], ◌∷◌, ℕ, ◌*◌, ◌<◌, ◌≤◌, arith, eqb, ltb, eqb-true, ltb-false, le-ltb, Ok, Err}
use Rattle.fields.specs.Images.{Images}
use Rattle.rules.specs.Walk.{Answer, answer}
use Rattle.rules.proofs.Refusals.{answers, derived, derives_answered}
use Rattle.fields.specs.Fields.{Checked}
use Rattle.fields.specs.Answers.{checked_number}
use Rattle.fields.specs.Fields.{first_fault}
use Rattle.grammar_image.specs.GrammarImage.{terminal_count, production_count, start_nonterminal, production_at, grammar_fields}
use Rattle.token_image.specs.TokenImage.{tokens_of, token_fields}
use Rattle.tree_image.specs.TreeImage.{node_count, nodes_of, tree_fields}
use Rattle.fields.proofs.Promised.{good_well_formed, well_formed_good}
use Rattle.derive.specs.Images.{walk_in}
use Rattle.judge.specs.Judged.{Entries, checked, room, tests, first_refusal, Fitting, DerivesIn}

-- an answer that is the first refusal, and whose number is 0: no test refuses
pub answered_zero : {a : Answer} (later : List Answer) → a ≡ first_refusal later → a.number ≡ 0 → (first_refusal later).number ≡ 0
answered_zero later e zero = sym (ap (λ (a : Answer). a.number) e) ∙ zero

-- where no test refuses, the first does not and no later one does
pub first_passed : (a : Answer) (later : List Answer) → (first_refusal (a ∷ later)).number ≡ 0 → (a.number ≡ 0) × ((first_refusal later).number ≡ 0)
unfolding first_refusal
first_passed a later e = by (eqb a.number 0) refl e
  where
    by : (b : Bool) → eqb a.number 0 ≡ b → (cond b (first_refusal later) a).number ≡ 0 → (a.number ≡ 0) × ((first_refusal later).number ≡ 0)
    by true t e = (eqb-true _ _ t, e)
    by false t e = absurd (true≢false (sym (ap (λ (n : ℕ). eqb n 0) e) ∙ t))

-- a bound of all tests' numbers is one of the first refusal's
unfoldable AllBelow : List Answer → ℕ → Type 0
AllBelow [] limit = Unit {0}
AllBelow (a ∷ later) limit = (a.number < limit) × AllBelow later limit

either_below : (limit : ℕ) (b : Bool) (x y : Answer) → x.number < limit → y.number < limit → (cond b x y).number < limit
either_below limit true x y h k = h
either_below limit false x y h k = k

first_below : (all : List Answer) (limit : ℕ) → 0 < limit → AllBelow all limit → (first_refusal all).number < limit
unfolding first_refusal AllBelow
first_below [] limit some h = some
first_below (a ∷ later) limit some h = either_below limit (eqb a.number 0) (first_refusal later) a (first_below later limit some h.1) h.0

checked_below : (refusal limit : ℕ) (c : Checked) → refusal < limit → checked_number refusal c < limit
checked_below refusal limit (Ok good) h = omega arith
checked_below refusal limit (Err fault) h = h

room_below : (needed there : ℕ) → (room needed there).number < 12
unfolding room
room_below needed there = either_below 12 (ltb there needed) (answer 4 needed) (answer 0 0) (omega arith) (omega arith)

-- a check that passes is good
checked_good : (refusal : ℕ) (c : Checked) → (refusal ≡ 0 → ⊥) → checked_number refusal c ≡ 0 → Ok tt ≡ c
checked_good refusal (Ok good) some e = refl
checked_good refusal (Err fault) some e = absurd (some e)

-- room that is there
room_there : (needed there : ℕ) → (room needed there).number ≡ 0 → needed ≤ there
unfolding room
room_there needed there e = by (ltb there needed) refl e
  where
    by : (b : Bool) → ltb there needed ≡ b → (cond b (answer 4 needed) (answer 0 0)).number ≡ 0 → needed ≤ there
    by true t e = absurd (omega arith)
    by false t e = ltb-false _ _ t

module _ (s : Images) (lent : Entries) where
  abbrev grammar : List ℕ
  grammar = s.grammar

  abbrev tokens : List ℕ
  tokens = s.tokens

  abbrev tree : List ℕ
  tree = s.tree

  -- no test refuses: images, room and derivation are right
  pub all_passed : (first_refusal (tests s lent)).number ≡ 0 → Fitting s lent × DerivesIn s
  unfolding tests
  all_passed e =
      let one = first_passed (checked 1 (first_fault (grammar_fields grammar))) _ e in
      let two = first_passed (checked 2 (first_fault (token_fields (terminal_count grammar) tokens))) _ one.1 in
      let three = first_passed (checked 3 (first_fault (tree_fields (production_count grammar) tree))) _ two.1 in
      let four = first_passed (room (2 * node_count tree) lent.sets) _ three.1 in
      let too = first_passed (room (node_count tree) lent.indentations) _ four.1 in
      let walked = first_passed (walk_in s) _ too.1 in (
        record {
          grammar_formed = good_well_formed _ (checked_good 1 _ (λ z. omega arith) one.0);
          tokens_formed = good_well_formed _ (checked_good 2 _ (λ z. omega arith) two.0);
          tree_formed = good_well_formed _ (checked_good 3 _ (λ z. omega arith) three.0);
          sets_room = room_there _ _ four.0;
          indentations_room = room_there _ _ too.0;
        },
        derived _ _ _ _ walked.0,
      )

  -- what the tests refuse with is below 12
  pub refusal_below : (first_refusal (tests s lent)).number < 12
  unfolding tests AllBelow
  refusal_below =
      first_below (tests s lent) 12 (omega arith) (
        checked_below 1 12 (first_fault (grammar_fields grammar)) (omega arith),
        (
          checked_below 2 12 (first_fault (token_fields (terminal_count grammar) tokens)) (omega arith),
          (
            checked_below 3 12 (first_fault (tree_fields (production_count grammar) tree)) (omega arith),
            (room_below (2 * node_count tree) lent.sets, (room_below (node_count tree) lent.indentations, (walk_below, tt))),
          ),
        ),
      )
    where
      walk_below : (walk_in s).number < 12
      walk_below = ⊎_elim (λ e. omega arith) (λ e. omega arith) (answers (production_at grammar) (start_nonterminal grammar) (nodes_of tree) (tokens_of tokens))

  -- images, room and derivation are right: no test refuses
  pub none_refuses : Fitting s lent → DerivesIn s → (first_refusal (tests s lent)).number ≡ 0
  unfolding tests first_refusal room
  none_refuses f d =
      rw (
        ← well_formed_good (grammar_fields grammar) f.grammar_formed,
        ← well_formed_good (token_fields (terminal_count grammar) tokens) f.tokens_formed,
        ← well_formed_good (tree_fields (production_count grammar) tree) f.tree_formed,
        le-ltb lent.sets (2 * node_count tree) f.sets_room,
        le-ltb lent.indentations (node_count tree) f.indentations_room,
        derives_answered (production_at grammar) (start_nonterminal grammar) (nodes_of tree) (tokens_of tokens) d,
      )
