-- A row's children stand behind the row's own node, so twice the nodes that remain falls, with one more for a node.
use Rattle.std.proofs.Common.{ℕ, ◌≤◌, ◌+◌, ◌*◌, ◌-◌, List}
use Rattle.rules.specs.Stored.{unbounded}
use Rattle.rules.specs.Interval.{all_set}
use Rattle.rules.specs.declared.relation.Set.{Set}
use Rattle.grammar_image.specs.GrammarImage.{entry_count}
use Rattle.tree_image.specs.TreeImage.{node_count}
use Rattle.images.specs.Held.{images_of}
use Rattle.layout.specs.Standing.{SomeRow}
use Rattle.layout.proofs.Rows.{row_at}
use Rattle.set_pass.specs.declared.next.Next.{Next}
use Rattle.set_pass.specs.Next.{next_node, next_token}
use Rattle.set_pass.proofs.SetPass.{RowDone}
use Rattle.set_pass.proofs.+node_row.Given as goal

abbrev pub decreases-node : goal.decreases-node
decreases-node l = 2 * (node_count l.formed.now.nodes.tree.now - next_node l.next) + 1

abbrev pub decreases-row : goal.decreases-row
decreases-row l = 2 * (node_count l.formed.now.nodes.tree.now - next_node l.parent)

-- each turn of a row takes one symbol off, and whatever the symbols that are left give is what the whole row gives
abbrev pub invariant-row-loop-y : goal.invariant-row-loop-y
invariant-row-loop-y l =
    let s = images_of l.formed in
    record {
      behind : next_node l.fn.parent + 1 ≤ next_node l.next;
      within : l.y-iterator.end ≤ entry_count s.grammar;
      stands : SomeRow s (row_at s.grammar l.y-iterator) (next_node l.next) (next_token l.next);
      gives : (final : List ℕ) (last : Set) (r : Next) →
          RowDone s (row_at s.grammar l.y-iterator) l.left (next_node l.next) (next_token l.next) l.sets final last r →
          RowDone s (row_at s.grammar l.fn.entries) (all_set unbounded) (next_node l.fn.parent + 1) (next_token l.fn.parent) l.fn.sets final last r;
    }
