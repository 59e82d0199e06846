-- The header is written first, and each turn writes the next two fields: before turn k the first 3 + 2 * k fields of the image stand in the output,
-- and the terminals and columns from k on are left.
use Rattle.std.proofs.Common.{◌≡◌, ◌+◌, ◌*◌, ◌≤◌, length, drop}
use Rattle.std.specs.Iterator.Adapters.{enumerate_source, enumerate_count, zip_first, zip_second}
use Rattle.std.specs.Slice.Iter.{iter_rest}
use Rattle.packers.proofs.Packing.{token_list, Grown}
use Rattle.token_packer.proofs.write_tokens.Given as goal

abbrev pub invariant-loop-k : goal.invariant-loop-k
invariant-loop-k l = record {
  can_next : (goal.iterator-loop-k).can_next l.k-iterator;
  is_finite : (goal.iterator-loop-k).is_finite l.k-iterator;
  below : enumerate_count l.k-iterator ≤ length l.terminals;
  terminals : iter_rest (zip_first (enumerate_source l.k-iterator)) ≡ drop (enumerate_count l.k-iterator) l.terminals;
  columns : iter_rest (zip_second (enumerate_source l.k-iterator)) ≡ drop (enumerate_count l.k-iterator) l.columns;
  grown : Grown (token_list l.terminals l.columns) (3 + 2 * enumerate_count l.k-iterator) l.initial.out l.out;
}
