-- The three ways out of the check: a refusal before anything is written, an empty set at the root, and acceptance. Each is the verdict on the tree that the nodes derive.
use Rattle.std.proofs.Common.{◌≡◌, refl, sym, ap, ◌∙◌, List, [], append-nil, ℕ, ◌*◌, ◌<◌, ◌≤◌, zero-add, arith, length}
use Rattle.fields.specs.Images.{Images}
use Rattle.rules.specs.Limits.{max_column}
use Rattle.rules.specs.Grammar.{Token, ColumnsUpTo}
use Rattle.rules.specs.Tree.{Tree}
use Rattle.rules.specs.Derivation.{nodes, tokens}
use Rattle.rules.specs.Walk.{Answer, answer}
use Rattle.rules.specs.Choice.{flat}
use Rattle.rules.specs.Stored.{unbounded}
use Rattle.rules.specs.Interval.{In, set_of, sets_of, least_choice, highest_empty}
use Rattle.rules.specs.Verdict.{refused}
use Rattle.rules.specs.declared.relation.Set.{Set}
use Rattle.rules.proofs.Least.{least_small}
use Rattle.rules.proofs.Shapes.{low_near, length_sets}
use Rattle.rules.proofs.Verdicts.{verdict_empty, verdict_accepted}
use Rattle.grammar_image.specs.GrammarImage.{terminal_count, start_nonterminal, production_at}
use Rattle.token_image.specs.TokenImage.{tokens_of}
use Rattle.tree_image.specs.TreeImage.{node_count, nodes_of}
use Rattle.token_image.proofs.Columns.{columns_kept}
use Rattle.tree_image.proofs.Lists.{length_nodes}
use Rattle.layout.specs.Standing.{TreeIn, TreeListed, SomeTree, SomeTreeListed}
use Rattle.layout.specs.Written.{written_at}
use Rattle.layout.proofs.HighestEmpty.{highest_append}
use Rattle.set_pass.specs.Passes.{RootPassed}
use Rattle.indentation_pass.specs.Passes.{AllUpTo, NodeGiven}
use Rattle.indentation_pass.proofs.LeastNumbers.{up_to}
use Rattle.judge.specs.Judged.{Lists, entries_of, tests, first_refusal, Fitting, DerivesIn, lists, written, Judged}
use Rattle.judge.proofs.Passed.{answered_zero, all_passed}

-- entries written from the first index on are written at the head
written_head : (new old : List ℕ) → written_at 0 new old ≡ written new old
unfolding written_at
written_head new old = rw (zero-add (length new))

-- 1 to 11
pub refused_judged : (s : Images) (old : Lists) {a : Answer} → a ≡ first_refusal (tests s (entries_of old)) → (a.number ≡ 0 → ⊥) → Judged s old a old
refused_judged s old e some = rw e (record {
  sets = [];
  indentations = [];
  verdict = refused (λ z. some (ap (λ (a : Answer). a.number) e ∙ z));
  sets_after = refl;
  indentations_after = refl;
})

-- no test refuses the images `tested`, and those that the passes go over are the same
module _ {s tested : Images} (old : Lists) (answered : answer 0 0 ≡ first_refusal (tests tested (entries_of old))) (same : s ≡ tested) where
  abbrev grammar : List ℕ
  grammar = s.grammar

  abbrev token_image : List ℕ
  token_image = s.tokens

  abbrev tree : List ℕ
  tree = s.tree

  abbrev old_sets : List ℕ
  old_sets = old.sets

  abbrev old_indentations : List ℕ
  old_indentations = old.indentations

  passed : (first_refusal (tests s (entries_of old))).number ≡ 0
  passed = rw same (answered_zero _ answered refl)

  -- there is room for both lists
  pub fitting : Fitting s (entries_of old)
  fitting = (all_passed s (entries_of old) passed).0

  within : DerivesIn s
  within = (all_passed s (entries_of old) passed).1

  -- the tree that the nodes derive stands at the first node and token
  abbrev T : Tree
  T = within.derives.tree

  stands : TreeIn s 0 0 T
  stands = record {
    left = start_nonterminal grammar;
    right = within.derives.right;
    nodes_after = [];
    listed = sym (append-nil (nodes T) ∙ within.derives.listed);
    tokens_after = [];
    read = sym (append-nil (tokens T) ∙ within.derives.read);
  }

  pub some_tree : SomeTree s 0 0
  some_tree = record { there = T; stands = stands }

  pub some_tree_listed : SomeTreeListed grammar tree 0
  some_tree_listed = record { ts = tokens_of token_image; k = 0; there = T; stands = stands }

  columns : ColumnsUpTo max_column (tokens_of token_image)
  columns = columns_kept (terminal_count grammar) token_image fitting.tokens_formed

  -- the set pass has gone over it
  module _ {new_sets : List ℕ} {root : Set} (sets-laid : (T : Tree) → TreeIn s 0 0 T → RootPassed grammar T old_sets new_sets root) where
    sets_written : new_sets ≡ written (sets_of (production_at grammar) unbounded T) old_sets
    sets_written = (sets-laid T stands).sets ∙ written_head _ old_sets

    -- 12
    pub empty_judged : {n count : ℕ} → root.high < root.low → count ≡ node_count tree → n ≡ highest_empty new_sets count →
        Judged tested old (answer 12 n) (lists new_sets old_indentations)
    empty_judged crossed counted found =
        let sets = sets_of (production_at grammar) unbounded T in
        let many : 2 * length (nodes_of tree) ≤ length sets = omega (arith, length_sets (production_at grammar) unbounded T, ap length within.derives.listed) in
        let place : highest_empty new_sets (node_count tree) ≡ highest_empty sets (length (nodes_of tree)) = rw (← length_nodes tree, sets_written) (highest_append sets _ (length (nodes_of tree)) many) in
        rw (← same, found, counted, place) (record {
          sets = sets;
          indentations = [];
          verdict = verdict_empty _ _ _ _ _ max_column (omega arith) passed within.derives columns (rw (← (sets-laid T stands).set) crossed);
          sets_after = sets_written;
          indentations_after = refl;
        })

    module _ (some : root.low ≤ root.high) where
      abbrev low : ℕ
      low = (set_of (production_at grammar) unbounded T).low

      nonempty : low ≤ (set_of (production_at grammar) unbounded T).high
      nonempty = rw (sets-laid T stands).set at some

      low_in : In unbounded (set_of (production_at grammar) unbounded T) low
      low_in = (omega arith, λ h. nonempty)

      -- the numbers of the least choice fit 32 bits
      numbers_fit : AllUpTo unbounded (flat (least_choice (production_at grammar) unbounded T low))
      numbers_fit =
          let read : ColumnsUpTo max_column (tokens T) = rw within.derives.read columns in
          let near = low_near (production_at grammar) unbounded max_column (omega arith) T (start_nonterminal grammar) low within.derives.right read low_in in
          up_to unbounded _ (λ n.
          omega (arith, within.deep, least_small (production_at grammar) unbounded max_column (omega arith) T (start_nonterminal grammar) low 0 within.derives.right read low_in (omega (arith, near)) n))

      -- 0
      pub accepted_judged : {new_indentations : List ℕ} {next : ℕ} → ((ts : List Token) (k : ℕ) (T : Tree) → TreeListed grammar tree ts 0 k T → NodeGiven grammar T 0 root.low new_sets old_indentations new_indentations next) →
          Judged tested old (answer 0 0) (lists new_sets new_indentations)
      accepted_judged {new_indentations} given =
          let lowest : root.low ≡ (set_of (production_at grammar) unbounded T).low = rw (sets-laid T stands).set in
          let numbers = (rw lowest at given (tokens_of token_image) 0 T stands).given _ sets_written numbers_fit in
          rw (← same) (record {
            sets = sets_of (production_at grammar) unbounded T;
            indentations = flat (least_choice (production_at grammar) unbounded T low);
            verdict = verdict_accepted _ _ _ _ _ max_column (omega arith) passed within.derives columns nonempty;
            sets_after = sets_written;
            indentations_after = numbers ∙ written_head _ old_indentations;
          })
