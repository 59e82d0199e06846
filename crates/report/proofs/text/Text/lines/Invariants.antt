-- Before a turn the lines of the nodes below its index stand in the output, at most 84 bytes each, and the entries from its index on are left.
use Rattle.std.proofs.Common.{◌≡◌, ◌+◌, ◌*◌, ◌≤◌, drop}
use Rattle.std.specs.Iterator.Adapters.{enumerate_source, enumerate_count, take_source, take_count, zip_first, zip_second}
use Rattle.std.specs.Slice.Iter.{chunks_exact_rest, chunks_exact_size, iter_rest}
use Rattle.report.specs.Putting.{room, Puts}
use Rattle.report.specs.Text.{lines}
use Rattle.report.proofs.text.Text.lines.Given as goal

abbrev pub invariant-loop-n : goal.invariant-loop-n
invariant-loop-n l = record {
  can_next : (goal.iterator-loop-n).can_next l.n-iterator;
  is_finite : (goal.iterator-loop-n).is_finite l.n-iterator;
  due : enumerate_count l.n-iterator + take_count (enumerate_source l.n-iterator) ≡ l.count;
  pairs : chunks_exact_size (zip_first (take_source (enumerate_source l.n-iterator))) ≡ 2;
  sets : chunks_exact_rest (zip_first (take_source (enumerate_source l.n-iterator))) ≡ drop (2 * enumerate_count l.n-iterator) l.sets;
  indentations : iter_rest (zip_second (take_source (enumerate_source l.n-iterator))) ≡ drop (enumerate_count l.n-iterator) l.indentations;
  left : room l.fn.self ≤ 84 * enumerate_count l.n-iterator + room l.self;
  put : Puts (lines l.sets l.indentations (enumerate_count l.n-iterator)) l.fn.self l.self;
}
