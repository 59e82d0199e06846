-- Each return passes the fields that were tested before it.
use Rattle.std.proofs.Common.{refl}
use Rattle.grammar_image.specs.GrammarImage.{count_fields}
use Rattle.fields.proofs.Searching.{tests, pass, fail, done}
use Rattle.grammar_image.proofs.Ranges.{pass_range, fail_range}
use Rattle.grammar_image.proofs.Header.check_counts.Goals as goal

pub returns-then-not-contains : goal.returns-then-not-contains
unfolding count_fields
returns-then-not-contains c =
    let counted = c.args.self.now.counted in
    pass _ _ (omega tests)
    (fail_range 0 1 1024 _ _ counted.terminals c.new.ensures c.contains.ensures.value c.if-not-contains.true)

pub returns-then-not-contains-2 : goal.returns-then-not-contains-2
unfolding count_fields
returns-then-not-contains-2 c =
    let counted = c.args.self.now.counted in
    pass _ _ (omega tests)
    (pass_range 0 1 1024 _ _ counted.terminals c.new.ensures c.contains.ensures.value c.if-not-contains.false
    (fail_range 2 1 1024 _ _ counted.nonterminals c.new-2.ensures c.contains-2.ensures.value c.if-not-contains-2.true))

pub returns-then-self : goal.returns-then-self
unfolding count_fields
returns-then-self c =
    let counted = c.args.self.now.counted in
    pass _ _ (omega tests)
    (pass_range 0 1 1024 _ _ counted.terminals c.new.ensures c.contains.ensures.value c.if-not-contains.false
    (pass_range 2 1 1024 _ _ counted.nonterminals c.new-2.ensures c.contains-2.ensures.value c.if-not-contains-2.false
    (fail _ _ (omega tests) refl)))

pub returns-then-not-contains-3 : goal.returns-then-not-contains-3
unfolding count_fields
returns-then-not-contains-3 c =
    let counted = c.args.self.now.counted in
    pass _ _ (omega tests)
    (pass_range 0 1 1024 _ _ counted.terminals c.new.ensures c.contains.ensures.value c.if-not-contains.false
    (pass_range 2 1 1024 _ _ counted.nonterminals c.new-2.ensures c.contains-2.ensures.value c.if-not-contains-2.false
    (pass _ _ (omega tests)
    (fail_range 6 1 1024 _ _ counted.productions c.new-3.ensures c.contains-3.ensures.value c.if-not-contains-3.true))))

pub returns-then-self-gt-ENTRIES : goal.returns-then-self-gt-ENTRIES
unfolding count_fields
returns-then-self-gt-ENTRIES c =
    let counted = c.args.self.now.counted in
    pass _ _ (omega tests)
    (pass_range 0 1 1024 _ _ counted.terminals c.new.ensures c.contains.ensures.value c.if-not-contains.false
    (pass_range 2 1 1024 _ _ counted.nonterminals c.new-2.ensures c.contains-2.ensures.value c.if-not-contains-2.false
    (pass _ _ (omega tests)
    (pass_range 6 1 1024 _ _ counted.productions c.new-3.ensures c.contains-3.ensures.value c.if-not-contains-3.false
    (fail _ _ (omega tests) refl)))))

pub returns : goal.returns
unfolding count_fields
returns c =
    let counted = c.args.self.now.counted in
    pass _ _ (omega tests)
    (pass_range 0 1 1024 _ _ counted.terminals c.new.ensures c.contains.ensures.value c.if-not-contains.false
    (pass_range 2 1 1024 _ _ counted.nonterminals c.new-2.ensures c.contains-2.ensures.value c.if-not-contains-2.false
    (pass _ _ (omega tests)
    (pass_range 6 1 1024 _ _ counted.productions c.new-3.ensures c.contains-3.ensures.value c.if-not-contains-3.false
    (pass _ _ (omega tests)
    done)))))
