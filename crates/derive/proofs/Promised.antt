-- What the contract of `derive` allows: one outcome, which is `Ok tt` exactly if the nodes of the tree image derive
-- the tokens of the token image within the limit.
use Rattle.std.proofs.Common.{◌≡◌, refl, sym, ap, ◌∙◌, cond, ℕ, eqb, Ok, Err}
use Rattle.fields.specs.Images.{Images}
use Rattle.rules.specs.Limits.{max_depth}
use Rattle.rules.specs.Derivation.{DerivesWithin}
use Rattle.rules.specs.Walk.{Answer}
use Rattle.rules.proofs.Refusals.{derived, derives_answered}
use Rattle.grammar_image.specs.GrammarImage.{production_at, start_nonterminal}
use Rattle.token_image.specs.TokenImage.{tokens_of}
use Rattle.tree_image.specs.TreeImage.{nodes_of}
use Rattle.derive.specs.declared.Refusal.TheVariants.{WrongNode, NodesEnd, WrongToken, TokensEnd, TooDeep}
use Rattle.derive.specs.declared.Refusal.TheVariants.{NodesRemain, TokensRemain}
use Rattle.derive.specs.Answers.{Derivation, derivation_answer}
use Rattle.derive.specs.Images.{walk_in}

-- the outcome that has a number and a place
outcome : ℕ → ℕ → Derivation
outcome number place =
    cond (eqb number 0) (Ok tt)
    (cond (eqb number 5) (Err (WrongNode place))
    (cond (eqb number 6) (Err (NodesEnd place))
    (cond (eqb number 7) (Err (WrongToken place))
    (cond (eqb number 8) (Err (TokensEnd place))
    (cond (eqb number 9) (Err (TooDeep place))
    (cond (eqb number 10) (Err (NodesRemain place)) (Err (TokensRemain place))))))))

told : (r : Derivation) → outcome (derivation_answer r).number (derivation_answer r).place ≡ r
unfolding outcome
told (Ok derived) = refl
told (Err (WrongNode place)) = refl
told (Err (NodesEnd place)) = refl
told (Err (WrongToken place)) = refl
told (Err (TokensEnd place)) = refl
told (Err (TooDeep place)) = refl
told (Err (NodesRemain place)) = refl
told (Err (TokensRemain place)) = refl

-- two outcomes with the same number and place are equal
same_answer : (r s : Derivation) → derivation_answer r ≡ derivation_answer s → r ≡ s
same_answer r s e = sym (told r) ∙ ap (λ (a : Answer). outcome a.number a.place) e ∙ told s

module _ (s : Images) where
  -- two outcomes that the contract of `derive` allows are equal
  pub one_outcome : (r r' : Derivation) → derivation_answer r ≡ walk_in s → derivation_answer r' ≡ walk_in s → r ≡ r'
  one_outcome r r' e f = same_answer r r' (e ∙ sym f)

  -- a tree derives the whole token list within the limit
  abbrev Derives : Type 0
  Derives =
      DerivesWithin max_depth (production_at s.grammar) (start_nonterminal s.grammar) (nodes_of s.tree)
      (tokens_of s.tokens)

  -- derived: some tree derives
  pub derived_derives : derivation_answer (Ok tt) ≡ walk_in s → Derives
  derived_derives e = derived _ _ _ _ (sym (ap (λ (a : Answer). a.number) e))

  -- and wherever some tree does, derived is the outcome
  pub derives_derived : (r : Derivation) → derivation_answer r ≡ walk_in s → Derives → r ≡ Ok tt
  derives_derived r e d = same_answer r (Ok tt) (e ∙ derives_answered _ _ _ _ d)
