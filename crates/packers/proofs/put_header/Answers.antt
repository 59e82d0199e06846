-- Each call of `put` writes the next of the header's three fields.
use Rattle.std.proofs.Common.{◌≡◌, ℕ, ◌≤◌, List, [], ◌∷◌, ◌++◌, length, drop, refl, arith}
use Rattle.packers.specs.Packing.{bytes_of}
use Rattle.packers.proofs.Packing.{with_field, started, put_step}
use Rattle.packers.proofs.put_header.Goals as goal

three : (entry : List ℕ) (a b c : ℕ) {one two after : List ℕ} →
    6 ≤ length entry → one ≡ with_field entry 0 a → two ≡ with_field one 1 b → after ≡ with_field two 2 c →
    after ≡ bytes_of (a ∷ b ∷ c ∷ []) ++ drop 6 entry
unfolding started bytes_of
three entry a b c room e f g =
    let fs = a ∷ b ∷ c ∷ [] in
    put_step fs 2 entry (omega arith) (omega arith) refl refl
    (put_step fs 1 entry (omega arith) (omega arith) refl refl
    (put_step fs 0 entry (omega arith) (omega arith) refl refl refl e) f) g

pub returns : goal.returns
returns c =
    three c.args.out.now c.args.count 6 c.args.total c.requires c.put.ensures c.put-2.ensures c.put-3.ensures
