-- Number and place say which outcome was given: two outcomes with the same are equal as values, and so are two that the
-- contract of `check`, or of `check_derivation`, allows.
use Rattle.std.proofs.Common.{◌≡◌, refl, sym, ap, ◌∙◌, cond, ℕ, eqb, Result, Ok, Err}
use Rattle.fields.specs.Images.{Images}
use Rattle.rules.specs.Walk.{Answer}
use Rattle.derive.specs.declared.Refusal.TheVariants.{WrongNode, NodesEnd, WrongToken, TokensEnd, TooDeep}
use Rattle.derive.specs.declared.Refusal.TheVariants.{NodesRemain, TokensRemain}
use Rattle.judge.specs.declared.Refusal.{Refusal}
use Rattle.judge.specs.declared.Refusal.TheVariants.{Grammar, Tokens, Tree, Room, Derivation, Empty}
use Rattle.judge.specs.Judged.{Lists, given, derivation, Judged}
use Rattle.judge.proofs.Demands.{one_outcome}
use Rattle.judge.proofs.Derivations.{one_derivation}

-- the outcome that has a number and a place
outcome : ℕ → ℕ → Result (Unit {0}) Refusal
outcome number place =
    cond (eqb number 0) (Ok tt)
    (cond (eqb number 1) (Err (Grammar (record { byte = place })))
    (cond (eqb number 2) (Err (Tokens (record { byte = place })))
    (cond (eqb number 3) (Err (Tree (record { byte = place })))
    (cond (eqb number 4) (Err (Room place))
    (cond (eqb number 5) (Err (Derivation (WrongNode place)))
    (cond (eqb number 6) (Err (Derivation (NodesEnd place)))
    (cond (eqb number 7) (Err (Derivation (WrongToken place)))
    (cond (eqb number 8) (Err (Derivation (TokensEnd place)))
    (cond (eqb number 9) (Err (Derivation (TooDeep place)))
    (cond (eqb number 10) (Err (Derivation (NodesRemain place)))
    (cond (eqb number 11) (Err (Derivation (TokensRemain place))) (Err (Empty place)))))))))))))

told : (r : Result (Unit {0}) Refusal) → outcome (given r).number (given r).place ≡ r
unfolding outcome
told (Ok accepted) = refl
told (Err (Grammar fault)) = refl
told (Err (Tokens fault)) = refl
told (Err (Tree fault)) = refl
told (Err (Room needed)) = refl
told (Err (Derivation (WrongNode node))) = refl
told (Err (Derivation (NodesEnd count))) = refl
told (Err (Derivation (WrongToken token))) = refl
told (Err (Derivation (TokensEnd count))) = refl
told (Err (Derivation (TooDeep node))) = refl
told (Err (Derivation (NodesRemain node))) = refl
told (Err (Derivation (TokensRemain token))) = refl
told (Err (Empty node)) = refl

-- two outcomes with the same number and place are equal
pub one_given : (r r' : Result (Unit {0}) Refusal) → given r ≡ given r' → r ≡ r'
one_given r r' e = sym (told r) ∙ ap (λ (a : Answer). outcome a.number a.place) e ∙ told r'

-- two outcomes that the contract of `check` allows are equal as values
pub one_checked : {s : Images} {old new new' : Lists} (r r' : Result (Unit {0}) Refusal) →
    Judged s old (given r) new → Judged s old (given r') new' → (r ≡ r') × (new ≡ new')
one_checked r r' j k =
    let same = one_outcome j k in
    (one_given r r' same.0, same.1)

-- and so are two that the contract of `check_derivation` allows
pub one_derived : (s : Images) (r r' : Result (Unit {0}) Refusal) →
    given r ≡ derivation s → given r' ≡ derivation s → r ≡ r'
one_derived s r r' e f = one_given r r' (one_derivation s e f)
