-- Two outcomes that a contract allows are equal.
use Rattle.std.proofs.Common.{◌≡◌, refl, sym, ap, ap₂, ◌∙◌, List, ℕ, ◌+◌, ◌*◌, ◌%◌, ◌/◌, arith}
use Rattle.rules.specs.Walk.{Answer}
use Rattle.fields.specs.Images.{Images}
use Rattle.fields.specs.Fields.{Checked}
use Rattle.packers.specs.Answers.{Packed}
use Rattle.packers.specs.Answers.{packed_number, packed_place, packed_length}
use Rattle.packers.proofs.RoundTrip.{tree_outcome_unique, tokens_outcome_unique}
use Rattle.judge.specs.Judged.{Lists}
use Rattle.judge.proofs.Demands.{one_outcome}
use Rattle.exported.specs.Calls.{Says, SaysAnswer, SaysChecked, SaysPacked, CheckCalled, TreeCalled, TokensCalled}

-- a number is the sum of its parts
parts : (r : ℕ) → r ≡ r % 256 + 256 * (r / 256 % 16777216) + 4294967296 * (r / 4294967296)
parts r = omega arith

-- what a result says fixes it
pub one_result : {r r' n n' l l' p p' : ℕ} → Says r n l p → Says r' n' l' p' → n ≡ n' → l ≡ l' → p ≡ p' → r ≡ r'
one_result {r} {r'} s t n l p =
    parts r
    ∙ ap₂ (λ (a b : ℕ). a + 4294967296 * b)
    (ap₂ (λ (a b : ℕ). a + 256 * b) (s.number ∙ n ∙ sym t.number) (s.length ∙ l ∙ sym t.length))
    (s.place ∙ p ∙ sym t.place)
    ∙ sym (parts r')

-- of the check of the derivation
pub one_answer : (a : Answer) {r r' : ℕ} → SaysAnswer a r → SaysAnswer a r' → r ≡ r'
one_answer a s t = one_result s t refl refl refl

-- of the check of an image
pub one_checked : (refusal : ℕ) (c : Checked) {r r' : ℕ} → SaysChecked refusal c r → SaysChecked refusal c r' → r ≡ r'
one_checked refusal c s t = one_result s t refl refl refl

-- two outcomes: the result, and every entry of both lists
pub one_check : {s : Images} {old new new' : Lists} {r r' : ℕ} →
    CheckCalled s old r new → CheckCalled s old r' new' → (r ≡ r') × (new ≡ new')
one_check a b =
    let same = one_outcome a.judged b.judged in
    (one_result a.result b.result (ap (λ (x : Answer). x.number) same.0) refl (ap (λ (x : Answer). x.place) same.0), same.1)

-- of a packer: the result, and every byte of the output
one_packed : {a b : Packed} {r r' : ℕ} → a ≡ b → SaysPacked a r → SaysPacked b r' → r ≡ r'
one_packed same s t = one_result s t (ap packed_number same) (ap packed_length same) (ap packed_place same)

pub one_tree : {productions out after after' : List ℕ} {r r' : ℕ} →
    TreeCalled productions out r after → TreeCalled productions out r' after' → (r ≡ r') × (after ≡ after')
one_tree a b =
    let same = tree_outcome_unique _ _ _ _ _ _ a.packed b.packed in
    (one_packed same.0 a.result b.result, same.1)

pub one_tokens : {terminals columns out after after' : List ℕ} {r r' : ℕ} →
    TokensCalled terminals columns out r after → TokensCalled terminals columns out r' after' →
    (r ≡ r') × (after ≡ after')
one_tokens a b =
    let same = tokens_outcome_unique _ _ _ _ _ _ _ a.packed b.packed in
    (one_packed same.0 a.result b.result, same.1)
