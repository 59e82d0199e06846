-- A node with so many levels left calls a row with one level less, and a row calls nodes with its own levels: twice the levels falls,
-- with one more for a row.
use Rattle.std.proofs.Common.{◌≡◌, ◌+◌, ◌*◌}
use Rattle.images.specs.Held.{images_of}
use Rattle.derive.specs.Images.{entries_due_in}
use Rattle.derive.proofs.walk.+node_row.Given as goal

abbrev pub decreases-node : goal.decreases-node
decreases-node l = 2 * l.levels

abbrev pub decreases-row : goal.decreases-row
decreases-row l = 2 * l.levels + 1

-- each turn of a row takes one entry off, and what the entries that are left give is what the whole row gives
abbrev pub invariant-row-loop-y : goal.invariant-row-loop-y
invariant-row-loop-y l =
    (l.y-iterator.end ≡ l.fn.entries.end)
    × (entries_due_in (images_of l.formed) l.levels l.y-iterator l.used.nodes l.used.tokens
    ≡ entries_due_in (images_of l.formed) l.levels l.fn.entries l.fn.used.nodes l.fn.used.tokens)
