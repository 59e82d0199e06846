-- A turn writes the next two fields, and after the last turn every field is written.
use Rattle.std.proofs.Common.{rules, ◌+◌, ◌*◌, ◌≤◌, ◌∙◌, length, length-drop, ap, sym, ⊎_elim, arith}
use Rattle.std.specs.Iterator.Adapters.{enumerate_count}
use Rattle.packers.specs.Packing.{token_image}
use Rattle.packers.proofs.Packing.{token_list, started, next_entry, put_grows, length_in_turn, terminal_field, column_field, all_written}
use Rattle.token_packer.proofs.write_tokens.Goals as goal

pub loop-k-preserved : goal.loop-k-preserved
loop-k-preserved c =
    let terminals = c.args.terminals.now in
    let columns = c.args.columns.now in
    let k = enumerate_count c.loop-k.k-iterator in
    let before = c.loop-k.invariant in
    let steps = c.in-Some.ensures.steps in
    let terminal = next_entry k terminals (sym before.terminals ∙ steps.0.0) in
    let column = next_entry k columns (sym before.columns ∙ steps.0.1) in
    let same = c.requires.counted.0 in
    let fields = length_in_turn terminals columns same in
    record {
      can_next = search rules;
      is_finite = search rules;
      below = omega (arith, steps.2, terminal.0);
      terminals = rw steps.2 (sym terminal.1);
      columns = rw steps.2 (sym column.1);
      grown =
          put_grows (token_list terminals columns) (4 + 2 * c.in-Some.k) (omega (arith, steps.1, terminal.0)) (omega (arith, steps.1, terminal.0))
          (rw (sym steps.1) at column.2 ∙ sym (column_field terminals columns c.in-Some.k same)) (omega (arith, steps.1, steps.2))
          (put_grows (token_list terminals columns) (3 + 2 * c.in-Some.k) (omega (arith, steps.1, terminal.0)) (omega (arith, steps.1, terminal.0))
          (rw (sym steps.1) at terminal.2 ∙ sym (terminal_field terminals columns c.in-Some.k same)) (omega arith)
          (rw (sym steps.1) at before.grown) c.put.ensures) c.put-in-loop-k.ensures;
    }

pub returns : goal.returns
unfolding token_image started
returns c =
    let terminals = c.args.terminals.now in
    let columns = c.args.columns.now in
    let entry = c.args.out.now in
    let fields = length_in_turn terminals columns c.requires.counted.0 in
    let k = enumerate_count c.loop-k.k-iterator in
    let before = c.loop-k.invariant in
    let ended : length terminals ≤ k =
    ⊎_elim (λ e. omega (arith, e.1, ap length before.terminals, length-drop k terminals))
    (λ e. omega (arith, e.1, ap length before.columns, length-drop k columns)) c.in-None.ensures.steps.0 in
    all_written (token_list terminals columns) (3 + 2 * k) (6 + 4 * length terminals) entry (omega (arith, before.below)) (omega (arith, before.below))
    (before.grown entry (omega arith) c.put_header.ensures)
