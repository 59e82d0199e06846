-- A set is read where it stands.
use Rattle.std.proofs.Common.{◌≡◌, ap, ◌∙◌, List, ◌∷◌, ◌++◌, ℕ, ◌+◌, ◌≤◌, add-one, length, get_or, take, drop, length-take-le, drop_at}
use Rattle.rules.specs.declared.relation.Set.{Set}
use Rattle.rules.proofs.Lists.{head_met}
use Rattle.layout.specs.Written.{written_at}

-- a set is told by its low and its high
same_set : {S U : Set} → S.low ≡ U.low → S.high ≡ U.high → S ≡ U
same_set low high = rw (low, high)

-- low and high of the set U stand from index `at` on
pub set_there : (sets rest : List ℕ) (at : ℕ) {S U : Set} → drop at sets ≡ U.low ∷ U.high ∷ rest → S.low ≡ get_or sets at 0 → S.high ≡ get_or sets (at + 1) 0 → S ≡ U
set_there sets rest at {S} {U} stand low high =
    let first = head_met sets at 0 U.low (U.high ∷ rest) stand in
    let second = head_met sets (at + 1) 0 U.high rest (rw add-one first.2) in
    same_set (cc) (cc)

-- where they were written
pub set_written : (at : ℕ) (rest old : List ℕ) {new : List ℕ} {S U : Set} → at ≤ length old → new ≡ written_at at (U.low ∷ U.high ∷ rest) old →
    S.low ≡ get_or new at 0 → S.high ≡ get_or new (at + 1) 0 → S ≡ U
unfolding written_at
set_written at rest old {new} {S} {U} room written low high =
    let values = U.low ∷ U.high ∷ rest in
    let behind = drop (at + length values) old in
    set_there new (rest ++ behind) at (ap (drop at) written ∙ drop_at (take at old) (values ++ behind) at (length-take-le at old room)) low high
