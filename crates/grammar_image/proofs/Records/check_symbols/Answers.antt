use Rattle.std.proofs.Common.{◌≡◌, ℕ, zero, suc, ◌+◌, ◌-◌, ◌<◌, not, List, length, get_or, refl, sym, ap, ◌∙◌, arith}
use Rattle.fields.specs.Fields.{fault_at, each_from, first_fault, nowhere}
use Rattle.grammar_image.specs.GrammarImage.{entry_count, entry_byte, symbol_fields, symbols_fields}
use Rattle.fields.proofs.Promised.{search_behind}
use Rattle.fields.proofs.Searching.{turn, turned, passed, failed, finished}
use Rattle.grammar_image.proofs.Records.check_symbols.Goals as goal

-- a symbol entry has three fields, at bytes 0, 1 and 2 of its record
three : (image : List ℕ) (y : ℕ) → length (symbol_fields image y) ≡ 3
unfolding symbol_fields
three image y = refl

byte_of : (image : List ℕ) (y f : ℕ) → f < 3 → entry_byte image y + f ≡ (get_or (symbol_fields image y) f nowhere).byte
unfolding symbol_fields
byte_of image y zero h = omega arith
byte_of image y (suc zero) h = omega arith
byte_of image y (suc (suc zero)) h = omega arith
byte_of image y (suc (suc (suc f))) h = absurd (omega arith)

pub loop-y-init : goal.loop-y-init
unfolding symbols_fields
loop-y-init c =
    let image = c.args.self.now.header.image.now in
    let good = c.good_entries-good.result in
    let entries : entry_count image ≡ c.args.self.now.header.counts.entries = omega arith in
    search_behind (symbol_fields image) good (entry_count image) c.good_entries-good.ensures.within c.good_entries-good.ensures.good
    ∙ ap (λ (n : ℕ). first_fault (each_from good (n - good) (symbol_fields image))) entries

pub loop-f-init : goal.loop-f-init
loop-f-init c =
    let image = c.args.self.now.header.image.now in
    turn (symbol_fields image) c.args.self.now.header.counts.entries 3 (three image) c.loop-y.y c.loop-y-test.true c.loop-y.invariant

pub loop-f-preserved : goal.loop-f-preserved
loop-f-preserved c =
    let image = c.args.self.now.header.image.now in
    passed (symbol_fields image) c.args.self.now.header.counts.entries 3 (three image) c.loop-y.y c.loop-f.f _ c.loop-f-test.true c.symbol_keeps.ensures (ap not c.if-not-symbol_keeps.false) c.loop-f.invariant

pub loop-y-preserved : goal.loop-y-preserved
loop-y-preserved c =
    let image = c.args.self.now.header.image.now in
    turned (symbol_fields image) c.args.self.now.header.counts.entries 3 (three image) c.loop-y.y c.loop-f.f c.loop-f-test.false c.loop-f.invariant

pub returns-in-search : goal.returns-in-search
returns-in-search c =
    let image = c.args.self.now.header.image.now in
    sym (finished (symbol_fields image) c.args.self.now.header.counts.entries 3 (three image) c.loop-y.y c.loop-y-test.false c.loop-y.invariant)

pub returns : goal.returns
returns c =
    let image = c.args.self.now.header.image.now in
    ap fault_at (omega (arith, c.entry_byte.ensures, byte_of image c.loop-y.y c.loop-f.f c.loop-f-test.true))
    ∙ sym (failed (symbol_fields image) c.args.self.now.header.counts.entries 3 (three image) c.loop-y.y c.loop-f.f _ c.loop-f-test.true c.symbol_keeps.ensures (ap not c.if-not-symbol_keeps.true) c.loop-f.invariant)
