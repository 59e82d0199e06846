-- Each turn takes a field off what is left to be searched.
use Rattle.std.proofs.Common.{◌≡◌, ℕ, zero, suc, ◌+◌, ◌*◌, ◌-◌, ◌<◌, List, length, get_or, refl, sym, ap, ◌∙◌, arith, not}
use Rattle.fields.specs.Fields.{fault_at, each_from, first_fault, nowhere}
use Rattle.token_image.specs.TokenImage.{token_count, record_fields, records_fields}
use Rattle.fields.proofs.Searching.{turn, turned, passed, failed, finished}
use Rattle.token_image.proofs.check_records.Goals as goal

-- a token has two fields, at bytes 0 and 2 of its record
two : (T : ℕ) (image : List ℕ) (k : ℕ) → length (record_fields T image k) ≡ 2
unfolding record_fields
two T image k = refl

byte_of : (T : ℕ) (image : List ℕ) (k f : ℕ) → f < 2 → 6 + 4 * k + 2 * f ≡ (get_or (record_fields T image k) f nowhere).byte
unfolding record_fields
byte_of T image k zero h = omega arith
byte_of T image k (suc zero) h = omega arith
byte_of T image k (suc (suc f)) h = absurd (omega arith)

pub loop-k-init : goal.loop-k-init
unfolding records_fields
loop-k-init c =
    let count : token_count c.args.image.now ≡ c.from-count.result - 0 = omega arith in
    ap (λ (n : ℕ). first_fault (each_from 0 n (record_fields c.args.terminals c.args.image.now))) count

pub loop-f-init : goal.loop-f-init
loop-f-init c =
    let T = c.args.terminals in
    let image = c.args.image.now in
    turn (record_fields T image) c.from-count.result 2 (two T image) c.loop-k.k c.loop-k-test.true c.loop-k.invariant

pub loop-f-preserved : goal.loop-f-preserved
loop-f-preserved c =
    let T = c.args.terminals in
    let image = c.args.image.now in
    passed (record_fields T image) c.from-count.result 2 (two T image) c.loop-k.k c.loop-f.f _ c.loop-f-test.true c.token_keeps.ensures (ap not c.if-not-token_keeps.false) c.loop-f.invariant

pub loop-k-preserved : goal.loop-k-preserved
loop-k-preserved c =
    let T = c.args.terminals in
    let image = c.args.image.now in
    turned (record_fields T image) c.from-count.result 2 (two T image) c.loop-k.k c.loop-f.f c.loop-f-test.false c.loop-f.invariant

pub returns-in-search : goal.returns-in-search
returns-in-search c =
    let T = c.args.terminals in
    let image = c.args.image.now in
    sym (finished (record_fields T image) c.from-count.result 2 (two T image) c.loop-k.k c.loop-k-test.false c.loop-k.invariant)

pub returns : goal.returns
returns c =
    let T = c.args.terminals in
    let image = c.args.image.now in
    let there = byte_of T image c.loop-k.k c.loop-f.f c.loop-f-test.true in
    ap fault_at (omega arith)
    ∙ sym (failed (record_fields T image) c.from-count.result 2 (two T image) c.loop-k.k c.loop-f.f _ c.loop-f-test.true c.token_keeps.ensures (ap not c.if-not-token_keeps.true) c.loop-f.invariant)
