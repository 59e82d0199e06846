-- The tests in the order of the table: the first that refuses gives the refusal, whatever comes after it.
use Rattle.std.proofs.Common.{◌≡◌, refl, sym, ap, ◌∙◌, Bool, true, false, cond, List, [], ◌∷◌, ◌++◌, ℕ, ◌*◌, ◌≤◌, arith, eqb, le-ltb, eq-eqb, Ok, Err, Result}
use Rattle.fields.specs.Images.{Images}
use Rattle.rules.specs.Walk.{Answer, answer}
use Rattle.tree_image.specs.TreeImage.{node_count}
use Rattle.derive.specs.declared.Refusal.{Refusal}
use Rattle.derive.specs.declared.Refusal.TheVariants.{WrongNode, NodesEnd, WrongToken, TokensEnd, TooDeep, NodesRemain, TokensRemain}
use Rattle.derive.specs.Answers.{refusal_answer, derivation_answer}
use Rattle.derive.specs.Images.{walk_in}
use Rattle.grammar_image.proofs.Within.{header_within}
use Rattle.judge.specs.Judged.{Entries, entries, room, tests, first_refusal, enough, derivation}
use Rattle.judge.specs.declared.Refusal.{Refusal as CheckRefusal}
use Rattle.judge.specs.Refusals.{refusal_answer as check_answer}
use Rattle.judge.specs.declared.Refusal.TheVariants.{Grammar, Tokens, Tree, Room, Derivation, Empty}
use Rattle.judge.specs.Parts.{image_tests, room_tests, walk_tests}
use Rattle.fields.proofs.Promised.{good_well_formed}
use Rattle.judge.proofs.Passed.{answered_zero, first_passed}

-- a part of the tests that refuses
goes_by : (b : Bool) (x y a : Answer) → ((x.number ≡ 0 → ⊥) → x ≡ y) → ((cond b x a).number ≡ 0 → ⊥) → cond b x a ≡ cond b y a
goes_by true x y a e some = e some
goes_by false x y a e some = refl

part_refused : (xs ys : List Answer) → ((first_refusal xs).number ≡ 0 → ⊥) → first_refusal xs ≡ first_refusal (xs ++ ys)
unfolding first_refusal
part_refused [] ys some = absurd (some refl)
part_refused (a ∷ xs) ys some = goes_by (eqb a.number 0) (first_refusal xs) (first_refusal (xs ++ ys)) a (part_refused xs ys) some

-- and one that does not: the tests after it are made
skipped : (a : Answer) (later : List Answer) → a.number ≡ 0 → first_refusal later ≡ first_refusal (a ∷ later)
unfolding first_refusal
skipped a later e = ap (λ (b : Bool). cond b (first_refusal later) a) (sym (eq-eqb a.number 0 e))

part_passed : (xs ys : List Answer) → (first_refusal xs).number ≡ 0 → first_refusal ys ≡ first_refusal (xs ++ ys)
part_passed [] ys e = refl
part_passed (a ∷ xs) ys e =
    let h = first_passed a xs e in
    part_passed xs ys h.1 ∙ skipped a (xs ++ ys) h.0

-- for images that were found good
pub ruleset formed_images = (good_well_formed, header_within)

-- a refusal has a number other than 0
pub some_number : (r : CheckRefusal) → (check_answer r).number ≡ 0 → ⊥
some_number (Grammar fault) e = absurd (omega arith)
some_number (Tokens fault) e = absurd (omega arith)
some_number (Tree fault) e = absurd (omega arith)
some_number (Room needed) e = absurd (omega arith)
some_number (Derivation (WrongNode n)) e = absurd (omega arith)
some_number (Derivation (NodesEnd n)) e = absurd (omega arith)
some_number (Derivation (WrongToken n)) e = absurd (omega arith)
some_number (Derivation (TokensEnd n)) e = absurd (omega arith)
some_number (Derivation (TooDeep n)) e = absurd (omega arith)
some_number (Derivation (NodesRemain n)) e = absurd (omega arith)
some_number (Derivation (TokensRemain n)) e = absurd (omega arith)
some_number (Empty node) e = absurd (omega arith)

-- one of the walk as well
walk_refusal : (r : Refusal) (later : Answer) → cond (eqb (refusal_answer r).number 0) later (refusal_answer r) ≡ refusal_answer r
walk_refusal (WrongNode n) later = refl
walk_refusal (NodesEnd n) later = refl
walk_refusal (WrongToken n) later = refl
walk_refusal (TokensEnd n) later = refl
walk_refusal (TooDeep n) later = refl
walk_refusal (NodesRemain n) later = refl
walk_refusal (TokensRemain n) later = refl

only_walked : (r : Result (Unit {0}) Refusal) → derivation_answer r ≡ first_refusal (derivation_answer r ∷ [])
unfolding first_refusal
only_walked (Ok derived) = refl
only_walked (Err r) = sym (walk_refusal r (answer 0 0))

module _ (s : Images) where
  -- 5 to 11
  pub walked : (r : Result (Unit {0}) Refusal) {t : Images} → t ≡ s → derivation_answer r ≡ walk_in t → derivation_answer r ≡ first_refusal (walk_tests s)
  walked r same e = only_walked r ∙ ap (λ (a : Answer). first_refusal (a ∷ [])) (e ∙ ap walk_in same)

-- 4
module _ (nodes sets indentations : ℕ) where
  pub room_passed : 2 * nodes ≤ sets → nodes ≤ indentations → answer 0 0 ≡ first_refusal (room_tests nodes (entries sets indentations))
  unfolding first_refusal room
  room_passed g h = rw (le-ltb sets _ g, le-ltb indentations _ h)

-- lists with room for every node have room
room_enough : (s : Images) → answer 0 0 ≡ first_refusal (room_tests (node_count s.tree) (enough s))
room_enough s = room_passed (node_count s.tree) _ _ (omega arith) (omega arith)

-- the room for a tree is that for the nodes of the images that are tested
pub room_as : {s t : Images} {nodes : ℕ} (lent : Entries) {a : Answer} → nodes ≡ node_count t.tree → t ≡ s →
    a ≡ first_refusal (room_tests nodes lent) → a ≡ first_refusal (room_tests (node_count s.tree) lent)
room_as lent counted same e = rw (← counted ∙ ap (λ (s : Images). node_count s.tree) same) e

parts : (s : Images) (lent : Entries) → tests s lent ≡ image_tests s ++ (room_tests (node_count s.tree) lent ++ walk_tests s)
unfolding tests
parts s lent = refl

-- all tests, part by part; a is what a part of them gives
module _ (s : Images) (lent : Entries) {a : Answer} where
  pub images_first : a ≡ first_refusal (image_tests s) → (a.number ≡ 0 → ⊥) → a ≡ first_refusal (tests s lent)
  images_first e some = rw (parts s lent) (e ∙ part_refused (image_tests s) _ (λ z. some (ap (λ (a : Answer). a.number) e ∙ z)))

  module _ (one : answer 0 0 ≡ first_refusal (image_tests s)) where
    pub room_first : a ≡ first_refusal (room_tests (node_count s.tree) lent) → (a.number ≡ 0 → ⊥) → a ≡ first_refusal (tests s lent)
    room_first e some =
        rw (parts s lent)
        (e ∙ part_refused (room_tests (node_count s.tree) lent) (walk_tests s) (λ z. some (ap (λ (a : Answer). a.number) e ∙ z)) ∙ part_passed (image_tests s) _ (answered_zero _ one refl))

    pub walk_first : answer 0 0 ≡ first_refusal (room_tests (node_count s.tree) lent) → a ≡ first_refusal (walk_tests s) → a ≡ first_refusal (tests s lent)
    walk_first two e = rw (parts s lent) (e ∙ part_passed (room_tests (node_count s.tree) lent) (walk_tests s) (answered_zero _ two refl) ∙ part_passed (image_tests s) _ (answered_zero _ one refl))

pub walk_alone : (s : Images) {a : Answer} → answer 0 0 ≡ first_refusal (image_tests s) → a ≡ first_refusal (walk_tests s) → a ≡ derivation s
walk_alone s one e = walk_first s (enough s) one (room_enough s) e
