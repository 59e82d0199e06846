-- Each turn takes a node's field off what is left to be searched.
use Rattle.std.proofs.Common.{◌≡◌, ℕ, ◌-◌, List, length, get_or, true, false, refl, sym, ap, ◌∙◌, arith}
use Rattle.fields.specs.Fields.{fault_at, each_from, first_fault, nowhere}
use Rattle.tree_image.specs.TreeImage.{node_count, record_fields, records_fields}
use Rattle.fields.proofs.Searching.{tests, turn, turned, passed, failed, finished}
use Rattle.tree_image.proofs.check_records.Goals as goal

-- a node has one field
one : (P : ℕ) (image : List ℕ) (n : ℕ) → length (record_fields P image n) ≡ 1
unfolding record_fields
one P image n = refl

pub loop-n-init : goal.loop-n-init
unfolding records_fields
loop-n-init c =
    let count : node_count c.args.image.now ≡ c.from-count.result - 0 = omega arith in
    ap (λ (n : ℕ). first_fault (each_from 0 n (record_fields c.args.productions c.args.image.now))) count

pub loop-n-preserved : goal.loop-n-preserved
unfolding record_fields
loop-n-preserved c =
    let P = c.args.productions in
    let image = c.args.image.now in
    let n = c.loop-n.n in
    let count = c.from-count.result in
    let keeps : (get_or (record_fields P image n) 0 nowhere).keeps ≡ true = omega tests in
    let next = turn (record_fields P image) count 1 (one P image) n c.loop-n-test.true c.loop-n.invariant in
    turned (record_fields P image) count 1 (one P image) n 1 (omega arith)
    (passed (record_fields P image) count 1 (one P image) n 0 true (omega arith) (sym keeps) refl next)

pub returns-in-search : goal.returns-in-search
returns-in-search c =
    let P = c.args.productions in
    let image = c.args.image.now in
    sym (finished (record_fields P image) c.from-count.result 1 (one P image) c.loop-n.n c.loop-n-test.false c.loop-n.invariant)

pub returns : goal.returns
unfolding record_fields
returns c =
    let P = c.args.productions in
    let image = c.args.image.now in
    let n = c.loop-n.n in
    let count = c.from-count.result in
    let breaks : (get_or (record_fields P image n) 0 nowhere).keeps ≡ false = omega tests in
    let next = turn (record_fields P image) count 1 (one P image) n c.loop-n-test.true c.loop-n.invariant in
    ap fault_at (omega arith) ∙ sym (failed (record_fields P image) count 1 (one P image) n 0 false (omega arith) (sym breaks) refl next)
