use Rattle.std.proofs.Common.{◌≡◌, ℕ, zero, suc, ◌+◌, ◌*◌, ◌-◌, ◌≤◌, ◌<◌, Bool, true, not, List, length, get_or, refl, sym, ap, ◌∙◌, add-one, arith, leb, leb-true}
use Rattle.rules.specs.Limits.{max_row}
use Rattle.fields.specs.Fields.{fault_at, each, each_from, first_fault, nowhere}
use Rattle.grammar_image.specs.GrammarImage.{entry_count, production_count, count_of, starts_at, production_fields, productions_fields}
use Rattle.fields.proofs.Formed.{both_true}
use Rattle.fields.proofs.Searching.{tests, pass, fail, done, then_good, then_fault, turn, turned, passed, failed, finished}
use Rattle.grammar_image.proofs.Records.check_productions.Goals as goal

-- a production has three fields, at bytes 0, 2 and 4 of its record
three : (image : List ℕ) (p : ℕ) → length (production_fields image p) ≡ 3
unfolding production_fields
three image p = refl

byte_of : (image : List ℕ) (p f : ℕ) → f < 3 → 16 + 6 * p + 2 * f ≡ (get_or (production_fields image p) f nowhere).byte
unfolding production_fields
byte_of image p zero h = omega arith
byte_of image p (suc zero) h = omega arith
byte_of image p (suc (suc zero)) h = omega arith
byte_of image p (suc (suc (suc f))) h = absurd (omega arith)

starts_next : (image : List ℕ) (p : ℕ) → starts_at image (p + 1) ≡ starts_at image p + count_of image p
unfolding starts_at
starts_next image p = ap (starts_at image) (add-one p)

-- a count that keeps its rule does not run past the last entry
ends_within : (image : List ℕ) (p f : ℕ) (b : Bool) → f ≡ 2 → b ≡ (get_or (production_fields image p) f nowhere).keeps → b ≡ true
    → starts_at image p + count_of image p ≤ entry_count image
unfolding production_fields
ends_within image p f b e t q =
    let keeps : (get_or (production_fields image p) 2 nowhere).keeps ≡ true = ap (λ (i : ℕ). (get_or (production_fields image p) i nowhere).keeps) (sym e) ∙ sym t ∙ q in
    leb-true _ _ (both_true (leb (count_of image p) max_row) (leb (starts_at image p + count_of image p) (entry_count image)) keeps).1

pub loop-p-init : goal.loop-p-init
unfolding starts_at
loop-p-init c =
    let image = c.args.self.now.header.image.now in
    let productions : production_count image ≡ c.args.self.now.header.counts.productions - 0 = omega arith in
    (ap (λ (n : ℕ). first_fault (each_from 0 n (production_fields image))) productions, c.search.invariant, omega arith)

pub loop-f-init : goal.loop-f-init
loop-f-init c =
    let image = c.args.self.now.header.image.now in
    (turn (production_fields image) c.args.self.now.header.counts.productions 3 (three image) c.loop-p.p c.loop-p-test.true c.loop-p.invariant.0, λ h. absurd (omega arith))

pub loop-f-preserved : goal.loop-f-preserved
loop-f-preserved c =
    let image = c.args.self.now.header.image.now in
    let kept = c.production_keeps.ensures in (
      passed (production_fields image) c.args.self.now.header.counts.productions 3 (three image) c.loop-p.p c.loop-f.f _ c.loop-f-test.true kept (ap not c.if-not-production_keeps.false) c.loop-f.invariant.0,
      λ h. ends_within image c.loop-p.p c.loop-f.f _ (omega arith) kept c.if-not-production_keeps.false,
    )

pub loop-p-preserved : goal.loop-p-preserved
loop-p-preserved c =
    let image = c.args.self.now.header.image.now in
    let within = c.loop-f.invariant.1 (omega arith) in
    let count = rw c.from-in-loop-p.ensures at c.field_at-starts.ensures in (
      turned (production_fields image) c.args.self.now.header.counts.productions 3 (three image) c.loop-p.p c.loop-f.f c.loop-f-test.false c.loop-f.invariant.0,
      omega (arith, starts_next image c.loop-p.p, count),
      omega (arith, count),
    )

pub returns-in-search : goal.returns-in-search
unfolding productions_fields
returns-in-search c =
    let image = c.args.self.now.header.image.now in
    let good = finished (production_fields image) c.args.self.now.header.counts.productions 3 (three image) c.loop-p.p c.loop-p-test.false c.loop-p.invariant.0 in
    let all : c.loop-p.p ≡ production_count image = omega arith in
    let last = ap (starts_at image) all in
    then_good (each (production_count image) (production_fields image)) _ (sym good) (pass _ _ (omega tests) done)

pub returns-then-not-production_keeps : goal.returns-then-not-production_keeps
unfolding productions_fields
returns-then-not-production_keeps c =
    let image = c.args.self.now.header.image.now in
    let fault = failed (production_fields image) c.args.self.now.header.counts.productions 3 (three image) c.loop-p.p c.loop-f.f _ c.loop-f-test.true c.production_keeps.ensures (ap not c.if-not-production_keeps.true) c.loop-f.invariant.0 in
    then_fault (each (production_count image) (production_fields image)) _
    (ap fault_at (omega (arith, c.from.ensures, byte_of image c.loop-p.p c.loop-f.f c.loop-f-test.true)) ∙ sym fault)

pub returns-then-starts-counts : goal.returns-then-starts-counts
unfolding productions_fields
returns-then-starts-counts c =
    let image = c.args.self.now.header.image.now in
    let good = finished (production_fields image) c.args.self.now.header.counts.productions 3 (three image) c.loop-p.p c.loop-p-test.false c.loop-p.invariant.0 in
    let all : c.loop-p.p ≡ production_count image = omega arith in
    let last = ap (starts_at image) all in
    then_good (each (production_count image) (production_fields image)) _ (sym good) (fail _ _ (omega tests) refl)
