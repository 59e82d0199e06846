-- Every trial sheet has the verdict of its row: a refused one by running the walk, any other by giving its tree and running the two passes over it.
use Rattle.std.proofs.Common.{◌≡◌, refl, false, [], ℕ, ◌<◌, ◌≤◌, arith, eqb, length}
use Rattle.std.proofs.lemmas.Bool.{eqb-false}
use Rattle.rules.specs.Limits.{max_depth}
use Rattle.rules.specs.Grammar.{no_column}
use Rattle.rules.specs.Tree.{Tree, node, end, token, child}
use Rattle.rules.specs.Derivation.{Right, nodes, tokens, depth, Derives}
use Rattle.rules.specs.Choice.{flat}
use Rattle.rules.specs.Interval.{below, leaves, child_leaves, token_leaves, meet, least, highest_empty, set_of, sets_of, least_choice}
use Rattle.rules.specs.Stored.{unbounded}
use Rattle.rules.specs.Walk.{answer, and_then, token_due, node_met, symbol_due, row_due, node_due, walk_done, walk}
use Rattle.rules.specs.Verdict.{refused}
use Rattle.judge.specs.Sheets.{trial_grammar, day, hour, item, Sheet, trial, starred, joined, SheetJudged, Each, done, ◌also◌}
use Rattle.rules.proofs.Refusals.{derives_answered}
use Rattle.rules.proofs.Shapes.{greatest, columns_greatest}
use Rattle.rules.proofs.Verdicts.{verdict_empty, verdict_accepted}

-- a row that the walk refuses
walk_judged : {sheet : Sheet} → walk trial_grammar sheet.nodes sheet.tokens 0 ≡ sheet.answer → eqb sheet.answer.number 0 ≡ false → sheet.indentations ≡ [] → SheetJudged sheet
walk_judged e other none = record { sets = []; verdict = rw (none, ← e) (refused (rw e (eqb-false _ _ other))) }

-- a row with a right tree
module _ (T : Tree) (right : Right trial_grammar T 0) where
  abbrev derives : Derives trial_grammar 0 (nodes T) (tokens T)
  derives = record { tree = T; right = right; listed = refl; read = refl }

  answered : depth T ≤ max_depth → (walk trial_grammar (nodes T) (tokens T) 0).number ≡ 0
  answered deep = rw (derives_answered trial_grammar 0 (nodes T) (tokens T) (record { derives = derives; deep = deep }))

  empty_judged : (depth T ≤ max_depth) × (greatest (tokens T) ≤ no_column) × ((set_of trial_grammar unbounded T).high < (set_of trial_grammar unbounded T).low) →
      SheetJudged (trial (tokens T) (nodes T) (answer 12 (highest_empty (sets_of trial_grammar unbounded T) (length (nodes T)))) [])
  empty_judged h = record { sets = sets_of trial_grammar unbounded T; verdict = verdict_empty trial_grammar 0 (nodes T) (tokens T) _ no_column (omega arith) (answered h.0) derives (columns_greatest no_column (tokens T) h.1) h.2 }

  accepted_judged : (depth T ≤ max_depth) × (greatest (tokens T) ≤ no_column) × ((set_of trial_grammar unbounded T).low ≤ (set_of trial_grammar unbounded T).high) →
      SheetJudged (trial (tokens T) (nodes T) (answer 0 0) (flat (least_choice trial_grammar unbounded T (set_of trial_grammar unbounded T).low)))
  accepted_judged h = record { sets = sets_of trial_grammar unbounded T; verdict = verdict_accepted trial_grammar 0 (nodes T) (tokens T) _ no_column (omega arith) (answered h.0) derives (columns_greatest no_column (tokens T) h.1) h.2 }

-- a node of each production, with the column of its token
abbrev on_day : ℕ → Tree → Tree
on_day column hours = node 0 (token (day column) (child hours end))

abbrev then : Tree → Tree → Tree
then first hours = node 1 (child first (child hours end))

abbrev no_hours : Tree
no_hours = node 2 end

abbrev at_hour : ℕ → Tree → Tree
at_hour column items = node 3 (token (hour column) (child items end))

abbrev with_item : ℕ → Tree → Tree
with_item column items = node 4 (token (item column) (child items end))

abbrev no_items : Tree
no_items = node 5 end

-- the trees of the table, with the columns of their tokens
abbrev tree_a : ℕ → ℕ → ℕ → ℕ → Tree
tree_a d h i h' = on_day d (then (at_hour h (with_item i no_items)) (then (at_hour h' no_items) no_hours))

abbrev one_hour : ℕ → ℕ → Tree
one_hour d h = on_day d (then (at_hour h no_items) no_hours)

-- each row of the table has its verdict
pub starred_judged : Each SheetJudged starred
unfolding starred trial_grammar walk walk_done node_due node_met row_due symbol_due token_due and_then Right nodes tokens depth greatest set_of sets_of token_leaves child_leaves leaves below meet highest_empty least_choice least flat
starred_judged =
    accepted_judged (tree_a 1 3 5 3) (omega arith) (omega arith)
    also accepted_judged (tree_a 1 3 4 3) (omega arith) (omega arith)
    also empty_judged (tree_a 1 3 3 3) (omega arith) (omega arith)
    also empty_judged (tree_a 1 3 5 4) (omega arith) (omega arith)
    also empty_judged (one_hour 1 1) (omega arith) (omega arith)
    also accepted_judged (one_hour 1 2) (omega arith) (omega arith)
    also accepted_judged (on_day 0 no_hours) (omega arith) (omega arith)
    also empty_judged (one_hour 0 0) (omega arith) (omega arith)
    also walk_judged refl refl refl
    also walk_judged refl refl refl
    also walk_judged refl refl refl
    also walk_judged refl refl refl
    also walk_judged refl refl refl
    also walk_judged refl refl refl
    also done

-- and so has each of the sheets with a token without a column
pub joined_judged : Each SheetJudged joined
unfolding joined trial_grammar walk walk_done node_due node_met row_due symbol_due token_due and_then Right nodes tokens depth greatest set_of sets_of token_leaves child_leaves leaves below meet highest_empty least_choice least flat
joined_judged =
    accepted_judged (tree_a 1 3 no_column 3) (omega arith) (omega arith)
    also empty_judged (tree_a 1 no_column 5 3) (omega arith) (omega arith)
    also empty_judged (tree_a no_column 3 5 3) (omega arith) (omega arith)
    also done
