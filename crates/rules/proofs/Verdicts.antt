-- The computed sets and numbers are a verdict, there is no other, and what each verdict says of the trees.
-- Among the stored sets a walk down from the last node finds the highest-numbered empty one, since the root's is empty.
use Rattle.std.proofs.Common.{◌≡◌, refl, ◌⊎◌, inl, inr, Bool, true, false, cond, List, [], ℕ, zero, suc, ◌+◌, ◌-◌, ◌*◌, ◌<◌, ◌≤◌, eq-or-lt_of_le, arith, ltb, length, get_or, ltb-true, ltb-false}
use Rattle.rules.specs.Grammar.{Production, Token, ColumnsUpTo}
use Rattle.rules.specs.Tree.{Tree, node}
use Rattle.rules.specs.Derivation.{tokens, depth, Derives}
use Rattle.rules.specs.Relation.{rise}
use Rattle.rules.specs.Choice.{Choice, root, flat, Laid, InSet, Least}
use Rattle.rules.specs.Interval.{highest_empty, set_of, sets_of, least_choice}
use Rattle.rules.specs.Stored.{unbounded, Empty, subtrees, StoredSets, SetOf, HighestEmpty}
use Rattle.rules.specs.Walk.{Answer, answer}
use Rattle.rules.specs.Verdict.{Verdict, refused, empty, accepted}
use Rattle.rules.proofs.Least.{least_list, least_within}
use Rattle.rules.proofs.OneLayout.{empty_stored, some_stored, one_sets, stored_at, one_highest, one_least}
use Rattle.rules.proofs.Shapes.{stored_set, stored_sets}
use Rattle.rules.proofs.Subtrees.{length_subtrees}
use Rattle.rules.proofs.Unique.{one_tree}

module _ (G : ℕ → Production) (T : Tree) (sets : List ℕ) (stored : StoredSets G (subtrees T) sets) where
  -- each node from node n on has a set that is not empty
  abbrev SomeFrom : ℕ → Type 0
  SomeFrom n = (m : ℕ) → n ≤ m → m < length (subtrees T) → (i : ℕ) × SetOf G T m i

  some_here : (n : ℕ) → get_or sets (2 * n) 0 ≤ get_or sets (2 * n + 1) 0 → SomeFrom (suc n) → SomeFrom n
  some_here n some above m h l = at (eq-or-lt_of_le h)
    where
      at : (n ≡ m) ⊎ (n < m) → (i : ℕ) × SetOf G T m i
      at (inl e) = rw (← e) (some_stored (SetOf G T n) _ _ (stored_at G (subtrees T) sets stored n T (omega arith)) some)
      at (inr below) = above m below l

  highest_test : (n : ℕ) (b : Bool) → ltb (get_or sets (2 * n + 1) 0) (get_or sets (2 * n) 0) ≡ b → n < length (subtrees T) → SomeFrom (suc n) →
      (SomeFrom n → HighestEmpty G T (highest_empty sets n)) → HighestEmpty G T (cond b n (highest_empty sets n))
  highest_test n true e h above rest = record {
    node = h;
    here = empty_stored (SetOf G T n) _ _ (stored_at G (subtrees T) sets stored n T h) (ltb-true _ _ e);
    above = above;
  }
  highest_test n false e h above rest = rest (some_here n (ltb-false _ _ e) above)

  highest_from : (n : ℕ) → n ≤ length (subtrees T) → (SomeFrom 0 → ⊥) → SomeFrom n → HighestEmpty G T (highest_empty sets n)
  unfolding highest_empty
  highest_from zero h root above = absurd (root above)
  highest_from (suc n) h root above = highest_test n _ refl h above (highest_from n (omega arith) root)

-- where the root's set is stored as empty, the walk down from the last node finds the highest-numbered empty set
pub highest_empty_lem : (G : ℕ → Production) (T : Tree) (sets : List ℕ) → StoredSets G (subtrees T) sets → get_or sets 1 0 < get_or sets 0 0 →
    HighestEmpty G T (highest_empty sets (length (subtrees T)))
unfolding subtrees
highest_empty_lem G (node p row) sets stored h =
    highest_from G (node p row) sets stored _ (omega arith)
    (λ some.
    let first = some 0 (omega arith) (omega arith) in
    empty_stored (InSet G (node p row)) _ _ (stored_at G (subtrees (node p row)) sets stored 0 (node p row) (omega arith)) h first.0 first.1)
    (λ m k l. absurd (omega arith))

-- the first two numbers are the root's
root_stored : (G : ℕ → Production) (top : ℕ) (T : Tree) → (set_of G top T).high < (set_of G top T).low → get_or (sets_of G top T) 1 0 < get_or (sets_of G top T) 0 0
unfolding sets_of
root_stored G top (node p row) h = h

module _ (G : ℕ → Production) (start : ℕ) (ns : List ℕ) (ts : List Token) (refusal : Answer) where
  module _ (M : ℕ) (room : M < unbounded) (none : refusal.number ≡ 0) (d : Derives G start ns ts) (c : ColumnsUpTo M ts) where
    columns : ColumnsUpTo M (tokens d.tree)
    columns = rw d.read c

    -- where the root's computed set is empty, 12 with the computed place and sets is a verdict
    pub verdict_empty : (set_of G unbounded d.tree).high < (set_of G unbounded d.tree).low →
        Verdict G start ns ts refusal (answer 12 (highest_empty (sets_of G unbounded d.tree) (length ns))) (sets_of G unbounded d.tree) []
    verdict_empty h =
        let sets = stored_sets G M room d.tree start d.right columns in
        let place = highest_empty_lem G d.tree (sets_of G unbounded d.tree) sets (root_stored G unbounded d.tree h) in
        empty none d
        (empty_stored (InSet G d.tree) _ _ (stored_set G M room d.tree start d.right columns) h)
        (rw (length_subtrees d.tree, d.listed) at place) sets

    -- where it is not, 0 with the computed sets and least numbers is
    pub verdict_accepted : (set_of G unbounded d.tree).low ≤ (set_of G unbounded d.tree).high →
        Verdict G start ns ts refusal (answer 0 0) (sets_of G unbounded d.tree) (flat (least_choice G unbounded d.tree (set_of G unbounded d.tree).low))
    verdict_accepted h =
        accepted none d
        (stored_sets G M room d.tree start d.right columns)
        (least_list G unbounded M room d.tree start (set_of G unbounded d.tree).low d.right columns (omega arith))

  chosen_some : (d e : Derives G start ns ts) (C : Choice) → Laid G d.tree C → Empty (InSet G e.tree) → ⊥
  chosen_some d e C l none = none (root C) (rw (one_tree G start ns ts e d) (record { choice = C; here = refl; laid = l }))

  -- there is one verdict
  pub one_verdict : {a b : Answer} {xs ys is js : List ℕ} → Verdict G start ns ts refusal a xs is → Verdict G start ns ts refusal b ys js → (a ≡ b) × (xs ≡ ys) × (is ≡ js)
  one_verdict (refused f) (refused g) = (refl, refl, refl)
  one_verdict (refused f) (empty z d none high sets) = absurd (f z)
  one_verdict (refused f) (accepted z d sets l) = absurd (f z)
  one_verdict (empty z d none high sets) (refused f) = absurd (f z)
  one_verdict (empty {n} z d none high sets) (empty {n = m} z' e none' high' sets') =
      let same = one_tree G start ns ts d e in
      let place = one_highest G d.tree n m high (rw same high') in
      (cc, one_sets G (subtrees d.tree) _ _ sets (rw same sets'), refl)
  one_verdict (empty z d none high sets) (accepted z' e sets' l) = absurd (chosen_some e d l.choice l.laid none)
  one_verdict (accepted z d sets l) (refused f) = absurd (f z)
  one_verdict (accepted z d sets l) (empty z' e none high sets') = absurd (chosen_some d e l.choice l.laid none)
  one_verdict (accepted z d sets l) (accepted z' e sets' l') =
      let same = one_tree G start ns ts d e in
      (refl, one_sets G (subtrees d.tree) _ _ sets (rw same sets'), one_least G d.tree _ _ l (rw same l'))

  -- an answer 0 has a derivation, and least indentations of its tree
  pub accepted_lays : {a : Answer} {xs is : List ℕ} → Verdict G start ns ts refusal a xs is → a.number ≡ 0 → (d : Derives G start ns ts) × Least G d.tree is
  accepted_lays (refused f) z = absurd (f z)
  accepted_lays (empty y d none high sets) z = absurd (omega arith)
  accepted_lays (accepted y d sets l) z = (d, l)

  -- a refusal among 1 to 11 is given as it is, with nothing written
  pub unchanged : {a : Answer} {xs is : List ℕ} → Verdict G start ns ts refusal a xs is → (refusal.number ≡ 0 → ⊥) → (a ≡ refusal) × (xs ≡ []) × (is ≡ [])
  unchanged (refused f) some = (refl, refl, refl)
  unchanged (empty z d none high sets) some = absurd (some z)
  unchanged (accepted z d sets l) some = absurd (some z)

  -- with no such refusal, the answer is 0 where the relations of a derivation's tree can all hold
  pub chosen_accepted : {a : Answer} {xs is : List ℕ} → Verdict G start ns ts refusal a xs is → refusal.number ≡ 0 → (d : Derives G start ns ts) (C : Choice) → Laid G d.tree C → a ≡ answer 0 0
  chosen_accepted (refused f) z d C l = absurd (f z)
  chosen_accepted (empty y e none high sets) z d C l = absurd (chosen_some d e C l none)
  chosen_accepted (accepted y e sets least) z d C l = refl

  -- so by any other answer they cannot
  pub none_chosen : {a : Answer} {xs is : List ℕ} → Verdict G start ns ts refusal a xs is → refusal.number ≡ 0 → (a.number ≡ 0 → ⊥) →
      (d : Derives G start ns ts) (C : Choice) → Laid G d.tree C → ⊥
  none_chosen v z other d C l = let same = chosen_accepted v z d C l in other (cc)

  -- and that answer is 12 at the highest-numbered node with an empty set, with no indentations written
  pub twelve : {a : Answer} {xs is : List ℕ} → Verdict G start ns ts refusal a xs is → refusal.number ≡ 0 → (a.number ≡ 0 → ⊥) →
      (a.number ≡ 12) × (is ≡ []) × ((d : Derives G start ns ts) → HighestEmpty G d.tree a.place)
  twelve (refused f) z other = absurd (f z)
  twelve (empty y e none high sets) z other = (refl, refl, λ d. rw (one_tree G start ns ts d e) high)
  twelve (accepted y e sets l) z other = absurd (other refl)

  -- by either answer the sets of the tree are written
  pub sets_stored : {a : Answer} {xs is : List ℕ} → Verdict G start ns ts refusal a xs is → refusal.number ≡ 0 → (d : Derives G start ns ts) → StoredSets G (subtrees d.tree) xs
  sets_stored (refused f) z d = absurd (f z)
  sets_stored (empty y e none high sets) z d = rw (one_tree G start ns ts d e) sets
  sets_stored (accepted y e sets l) z d = rw (one_tree G start ns ts d e) sets

  -- no indentation is above the greatest column by more than the depth allows
  pub small : {a : Answer} {xs is : List ℕ} → Verdict G start ns ts refusal a xs is → (M limit : ℕ) → ColumnsUpTo M ts → ((d : Derives G start ns ts) → depth d.tree ≤ limit) →
      (n : ℕ) → get_or is n 0 ≤ M + rise * (limit - 1)
  small (refused f) M limit c deep n = omega arith
  small (empty z d none high sets) M limit c deep n = omega arith
  small (accepted z d sets l) M limit c deep n =
      omega (arith, deep d, least_within G (suc M) M (omega arith) d.tree start _ d.right (rw d.read c) l n)
