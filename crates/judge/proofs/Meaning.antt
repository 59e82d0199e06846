-- What the check's contract says of the answer and of each list, by the verdict that stands in it.
use Rattle.std.proofs.Common.{◌≡◌, refl, sym, ap, ◌∙◌, ◌⊎◌, ⊎_elim, Bool, true, false, List, ℕ, ◌+◌, ◌-◌, ◌*◌, ◌<◌, ◌≤◌, arith, eqb, length, get_or, take, drop, take_at, drop_at, eqb-true}
use Rattle.std.proofs.Math.ListN.{get_or-append}
use Rattle.std.proofs.lemmas.Bool.{eqb-false}
use Rattle.fields.specs.Images.{Images}
use Rattle.rules.specs.Limits.{max_column, max_depth, max_indentation}
use Rattle.rules.specs.Grammar.{Production, Token, ColumnsUpTo}
use Rattle.rules.specs.Relation.{rise}
use Rattle.rules.specs.NoColumn.{NoColumnAtEqual}
use Rattle.rules.specs.Derivation.{depth, Derives}
use Rattle.rules.specs.Walk.{Answer, answer}
use Rattle.rules.specs.Choice.{Choice, Laid, Least}
use Rattle.rules.specs.Stored.{Stored, subtrees, StoredSets, SetOf, HighestEmpty}
use Rattle.rules.specs.Verdict.{Verdict, refused, empty, accepted}
use Rattle.rules.proofs.Unique.{one_tree}
use Rattle.rules.proofs.Subtrees.{length_subtrees}
use Rattle.rules.proofs.Least.{least_length}
use Rattle.rules.proofs.NoColumn.{no_column_unlaid}
use Rattle.rules.proofs.OneLayout.{stored_length, stored_at}
use Rattle.rules.proofs.Verdicts as verdicts
use Rattle.grammar_image.specs.GrammarImage.{terminal_count, start_nonterminal, production_at}
use Rattle.token_image.specs.TokenImage.{tokens_of}
use Rattle.tree_image.specs.TreeImage.{node_count, nodes_of}
use Rattle.token_image.proofs.Columns.{columns_kept}
use Rattle.tree_image.proofs.Lists.{length_nodes}
use Rattle.packers.specs.Answers.{Packed}
use Rattle.packers.specs.Answers.{packed_number}
use Rattle.packers.specs.Packing.{tree_image, token_image, TreePacked, TokensPacked}
use Rattle.packers.proofs.Refused.{refusal_writes_nothing}
use Rattle.judge.specs.Judged.{Lists, entries_of, tests, first_refusal, Fitting, DerivesIn, written, Judged}
use Rattle.judge.proofs.Passed.{all_passed, refusal_below, none_refuses}

-- two outcomes that the contract allows are equal
pub one_judged : {s : Images} {old new new' : Lists} {a b : Answer} → Judged s old a new → Judged s old b new' → (a ≡ b) × (new ≡ new')
one_judged j k =
    let same = verdicts.one_verdict _ _ _ _ _ j.verdict k.verdict in
    let sets = j.sets_after ∙ ap (λ (l : List ℕ). written l _) same.1 ∙ sym k.sets_after in
    let indentations = j.indentations_after ∙ ap (λ (l : List ℕ). written l _) same.2 ∙ sym k.indentations_after in
    (same.0, λ i. record { sets = sets i; indentations = indentations i })

-- a packer that refuses leaves the output as it was
pub tree_packer_leaves : (productions out : List ℕ) (r : Packed) (after : List ℕ) → TreePacked productions out r after → (packed_number r ≡ 0 → ⊥) → after ≡ out
tree_packer_leaves productions out r after packed some = packed.output ∙ refusal_writes_nothing r some (tree_image productions) out

pub tokens_packer_leaves : (terminals columns out : List ℕ) (r : Packed) (after : List ℕ) → TokensPacked terminals columns out r after → (packed_number r ≡ 0 → ⊥) → after ≡ out
tokens_packer_leaves terminals columns out r after packed some = packed.output ∙ refusal_writes_nothing r some (token_image terminals columns) out

-- an answer 0 or 12 passes over no refusal
passed_zero : {G : ℕ → Production} {start : ℕ} {ns : List ℕ} {ts : List Token} {refusal a : Answer} {xs is : List ℕ} →
    Verdict G start ns ts refusal a xs is → a.number ≡ 0 → refusal.number ≡ 0
passed_zero (refused f) z = absurd (f z)
passed_zero (empty y d none high sets) z = y
passed_zero (accepted y d sets l) z = y

passed_twelve : {G : ℕ → Production} {start : ℕ} {ns : List ℕ} {ts : List Token} {refusal a : Answer} {xs is : List ℕ} →
    Verdict G start ns ts refusal a xs is → refusal.number < 12 → a.number ≡ 12 → refusal.number ≡ 0
passed_twelve (refused f) below z = absurd (omega arith)
passed_twelve (empty y d none high sets) below z = y
passed_twelve (accepted y d sets l) below z = y

-- what is at the head of a list that was written to, and what is behind it
head_is : (new old : List ℕ) (n : ℕ) → length new ≡ n → take n (written new old) ≡ new
head_is new old n e = take_at new (drop (length new) old) n e

rest_is : (new old : List ℕ) (n : ℕ) → length new ≡ n → drop n (written new old) ≡ drop n old
rest_is new old n e = drop_at new (drop (length new) old) n e ∙ ap (λ (m : ℕ). drop m old) e

module _ {s : Images} {old new : Lists} {a : Answer} (j : Judged s old a new) where
  abbrev grammar : List ℕ
  grammar = s.grammar

  abbrev tokens : List ℕ
  tokens = s.tokens

  abbrev tree : List ℕ
  tree = s.tree

  abbrev old_sets : List ℕ
  old_sets = old.sets

  abbrev old_indentations : List ℕ
  old_indentations = old.indentations

  abbrev new_sets : List ℕ
  new_sets = new.sets

  abbrev new_indentations : List ℕ
  new_indentations = new.indentations

  abbrev first : Answer
  first = first_refusal (tests s (entries_of old))

  abbrev D : ℕ
  D = node_count tree

  abbrev G : ℕ → Production
  G = production_at grammar

  below : first.number < 12
  below = refusal_below s (entries_of old)

  -- 1 to 11
  pub refused_unchanged : 1 ≤ a.number → a.number ≤ 11 → new ≡ old
  refused_unchanged some few = by (eqb first.number 0) refl
    where
      by : (b : Bool) → eqb first.number 0 ≡ b → new ≡ old
      by true t =
          let twelve = verdicts.twelve _ _ _ _ _ j.verdict (eqb-true _ _ t) (λ z. omega arith) in
          absurd (omega arith)
      by false t =
          let same = verdicts.unchanged _ _ _ _ _ j.verdict (eqb-false _ _ t) in
          let sets : new_sets ≡ old_sets = rw (j.sets_after, same.1) in
          let indentations : new_indentations ≡ old_indentations = rw (j.indentations_after, same.2) in
          λ i. record { sets = sets i; indentations = indentations i }

  -- 0: images and room are right, and the nodes derive the tokens within the limit
  pub zero_passed : a.number ≡ 0 → Fitting s (entries_of old) × DerivesIn s
  zero_passed z = all_passed s (entries_of old) (passed_zero j.verdict z)

  -- both write the sets: low and high of the set of each node, and nothing behind them
  module _ (passed : first.number ≡ 0) (d : DerivesIn s) where
    stored : StoredSets G (subtrees d.derives.tree) j.sets
    stored = verdicts.sets_stored _ _ _ _ _ j.verdict passed d.derives

    count : length (subtrees d.derives.tree) ≡ D
    count = length_subtrees d.derives.tree ∙ ap length d.derives.listed ∙ length_nodes tree

    long : length j.sets ≡ 2 * D
    long = omega (arith, count, stored_length G (subtrees d.derives.tree) j.sets stored)

    sets_say : (n : ℕ) → n < D → Stored (SetOf G d.derives.tree n) (get_or new_sets (2 * n) 0) (get_or new_sets (2 * n + 1) 0)
    sets_say n h =
        let low : get_or new_sets (2 * n) 0 ≡ get_or j.sets (2 * n) 0 = rw j.sets_after (get_or-append j.sets _ 0 (2 * n) (omega (arith, long))) in
        let high : get_or new_sets (2 * n + 1) 0 ≡ get_or j.sets (2 * n + 1) 0 = rw j.sets_after (get_or-append j.sets _ 0 (2 * n + 1) (omega (arith, long))) in
        rw (low, high) (stored_at G (subtrees d.derives.tree) j.sets stored n d.derives.tree (omega (arith, count)))

    sets_rest : drop (2 * D) new_sets ≡ drop (2 * D) old_sets
    sets_rest = rw j.sets_after (rest_is j.sets old_sets (2 * D) long)

  pub sets_written : (a.number ≡ 0) ⊎ (a.number ≡ 12) → (d : DerivesIn s)
      × ((n : ℕ) → n < D → Stored (SetOf G d.derives.tree n) (get_or new_sets (2 * n) 0) (get_or new_sets (2 * n + 1) 0)) × (drop (2 * D) new_sets ≡ drop (2 * D) old_sets)
  sets_written e =
      let passed : first.number ≡ 0 = ⊎_elim (passed_zero j.verdict) (passed_twelve j.verdict below) e in
      let d = (all_passed s (entries_of old) passed).1 in
      (d, sets_say passed d, sets_rest passed d)

  -- 12: the place is the highest-numbered node with an empty set, and the indentations are left
  pub twelve_says : a.number ≡ 12 → (new_indentations ≡ old_indentations) × (d : DerivesIn s) × HighestEmpty G d.derives.tree a.place
  twelve_says z =
      let passed = passed_twelve j.verdict below z in
      let said = verdicts.twelve _ _ _ _ _ j.verdict passed (λ y. omega arith) in
      let d = (all_passed s (entries_of old) passed).1 in
      (rw (j.indentations_after, said.1), d, said.2 d.derives)

  module _ (z : a.number ≡ 0) (d : DerivesIn s) where
    least : Least G d.derives.tree j.indentations
    least =
        let lays = verdicts.accepted_lays _ _ _ _ _ j.verdict z in
        rw (one_tree G (start_nonterminal grammar) (nodes_of tree) (tokens_of tokens) d.derives lays.0) lays.1

    many : length j.indentations ≡ D
    many = least_length G d.derives.tree j.indentations least ∙ ap length d.derives.listed ∙ length_nodes tree

    -- 0: the indentations are the least choice, and nothing behind them changes
    pub zero_least : Least G d.derives.tree (take D new_indentations) × (drop D new_indentations ≡ drop D old_indentations)
    zero_least = (
      rw (j.indentations_after, head_is j.indentations old_indentations D many) least,
      rw j.indentations_after (rest_is j.indentations old_indentations D many),
    )

  -- images, room and derivation are right, and all relations can hold: accepted
  pub chosen_zero : Fitting s (entries_of old) → (d : DerivesIn s) (C : Choice) → Laid G d.derives.tree C → a ≡ answer 0 0
  chosen_zero f d = verdicts.chosen_accepted _ _ _ _ _ j.verdict (none_refuses s _ f d) d.derives

  -- accepted: so it is
  pub zero_chosen : a.number ≡ 0 → Fitting s (entries_of old) × (d : DerivesIn s) × (C : Choice) × Laid G d.derives.tree C
  zero_chosen z =
      let both = zero_passed z in
      let l = least z both.1 in
      (both.0, both.1, l.choice, l.laid)

  -- refused although it derives: no choice exists
  pub refused_unlaid : Fitting s (entries_of old) → (d : DerivesIn s) → (a.number ≡ 0 → ⊥) → (C : Choice) → Laid G d.derives.tree C → ⊥
  refused_unlaid f d other = verdicts.none_chosen _ _ _ _ _ j.verdict (none_refuses s _ f d) other d.derives

  -- a token without a column at =: no choice exists, so it is not accepted
  pub no_column_refused : (d : Derives G (start_nonterminal grammar) (nodes_of tree) (tokens_of tokens)) → NoColumnAtEqual G d.tree → a.number ≡ 0 → ⊥
  no_column_refused d h z =
      let lays = verdicts.accepted_lays _ _ _ _ _ j.verdict z in
      let same = one_tree G (start_nonterminal grammar) (nodes_of tree) (tokens_of tokens) lays.0 d in
      no_column_unlaid G lays.0.tree (rw same h) lays.1.choice lays.1.laid

  -- no indentation is above the greatest column of the tokens that have one by more than the depth allows
  pub zero_near : a.number ≡ 0 → (M : ℕ) → ColumnsUpTo M (tokens_of tokens) → (n : ℕ) → n < D → get_or new_indentations n 0 ≤ M + rise * (max_depth - 1)
  zero_near z M columns n h =
      let d = (zero_passed z).1 in
      let deep : (e : Derives G (start_nonterminal grammar) (nodes_of tree) (tokens_of tokens)) → depth e.tree ≤ max_depth = λ e. rw (one_tree G (start_nonterminal grammar) (nodes_of tree) (tokens_of tokens) e d.derives) d.deep in
      rw (j.indentations_after, get_or-append j.indentations _ 0 n (omega (arith, many z d))) (verdicts.small _ _ _ _ _ j.verdict M max_depth columns deep n)

  -- so none is above the limit
  pub zero_small : a.number ≡ 0 → (n : ℕ) → n < D → get_or new_indentations n 0 ≤ max_indentation
  zero_small z = zero_near z max_column (columns_kept (terminal_count grammar) tokens (zero_passed z).0.tokens_formed)
