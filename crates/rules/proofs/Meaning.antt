-- What each answer of the walk means, for any limit: a tree that the walk ends with is the only one, and a right tree at the head of the lists ends the walk without refusal or with 9.
use Rattle.std.proofs.Common.{◌≡◌, refl, sym, ap, ◌∙◌, ◌⊎◌, inl, inr, Bool, true, false, cond, List, [], ◌++◌, ℕ, ◌+◌, ◌<◌, ◌≤◌, arith, ltb, eqb, length, drop, ltb-true, ltb-false, le-ltb}
use Rattle.rules.specs.Grammar.{Production, Token}
use Rattle.rules.specs.Derivation.{nodes, tokens, depth, Derives, DerivesWithin}
use Rattle.rules.specs.Walk.{Answer, answer, Walked, used, refused, node_due, walk_done}
use Rattle.rules.specs.Refusals.{WrongNode, NodesEnd, WrongToken, TokensEnd, TooDeep, NodesRemain, TokensRemain}
use Rattle.rules.proofs.Lists.{front_taken, front_whole, whole_front, rest_none}
use Rattle.rules.proofs.Unique.{same_tree}
use Rattle.rules.proofs.Sound.{Placed, wrong_node, nodes_end, wrong_token, tokens_end, too_deep, Stands, node_stands, node_placed}
use Rattle.rules.proofs.Complete.{right_used, right_too_deep}
use Rattle.rules.proofs.Stays.{Refused, wrong_node_stays, nodes_end_stays, wrong_token_stays, tokens_end_stays, too_deep_stays}

module _ (G : ℕ → Production) (start : ℕ) (ns : List ℕ) (ts : List Token) where
  -- what is true of a number and its place
  abbrev pub Means : ℕ → ℕ → ℕ → Type 0
  Means limit number place =
      cond (eqb number 0) ((place ≡ 0) × DerivesWithin limit G start ns ts)
      (cond (eqb number 5) (WrongNode G start ns ts place)
      (cond (eqb number 6) (NodesEnd G start ns ts place)
      (cond (eqb number 7) (WrongToken G start ns ts place)
      (cond (eqb number 8) (TokensEnd G start ns ts place)
      (cond (eqb number 9) (TooDeep G start ns ts limit place)
      (cond (eqb number 10) (NodesRemain G start ns ts place)
      (cond (eqb number 11) (TokensRemain G start ns ts place) ⊥)))))))

  pub record Meant (limit : ℕ) (a : Answer) : Type 0 where
    pub known : (a.number ≡ 0) ⊎ ((5 ≤ a.number) × (a.number ≤ 11))
    pub means : Means limit a.number a.place

  all_listed : (d : Derives G start ns ts) → ns ≡ nodes d.tree ++ []
  all_listed d = whole_front _ d.listed

  all_read : (d : Derives G start ns ts) → ts ≡ tokens d.tree ++ []
  all_read d = whole_front _ d.read

  module _ (limit : ℕ) where
    placed_meant : {a : Answer} → Placed ns ts a → Refused G start limit ns ts a → Meant limit a
    placed_meant (wrong_node h) said = record { known = inr (omega arith); means = wrong_node_stays G start limit ns ts h said }
    placed_meant nodes_end said = record { known = inr (omega arith); means = nodes_end_stays G start limit ns ts said }
    placed_meant (wrong_token h) said = record { known = inr (omega arith); means = wrong_token_stays G start limit ns ts h said }
    placed_meant tokens_end said = record { known = inr (omega arith); means = tokens_end_stays G start limit ns ts said }
    placed_meant (too_deep h) said = record { known = inr (omega arith); means = too_deep_stays G start limit ns ts h said }

    -- the tree that the walk ends with is the only one, so no other uses what remains
    module _ (n k : ℕ) (s : Stands G ns ts limit start 0 0 n k) where
      none_left : Derives G start ns ts → (length ns ≤ n) × (length ts ≤ k)
      none_left d =
          let same = same_tree G s.tree d.tree start start _ [] _ [] s.right d.right (sym s.listed ∙ all_listed d) (sym s.read ∙ all_read d) in
          (rest_none ns n same.1, rest_none ts k same.2)

      done_meant : (b c : Bool) → ltb n (length ns) ≡ b → ltb k (length ts) ≡ c → Meant limit (cond b (answer 10 n) (cond c (answer 11 k) (answer 0 0)))
      done_meant true c p q = let more : n < length ns = ltb-true _ _ p in record {
        known = inr (omega arith);
        means = record {
          place = more;
          tree = s.tree;
          right = s.right;
          listed = front_taken ns n _ s.listed (omega arith);
          rest = drop k ts;
          read = s.read;
          not_derived = λ d. omega (arith, none_left d);
        };
      }
      done_meant false true p q = let more : k < length ts = ltb-true _ _ q in record {
        known = inr (omega arith);
        means = record {
          place = more;
          tree = s.tree;
          right = s.right;
          listed = front_whole ns n _ s.listed (ltb-false _ _ p);
          read = front_taken ts k _ s.read (omega arith);
          not_derived = λ d. omega (arith, none_left d);
        };
      }
      done_meant false false p q = record {
        known = inl refl;
        means = (
          refl,
          record {
            derives = record {
              tree = s.tree;
              right = s.right;
              listed = front_whole ns n _ s.listed (ltb-false _ _ p);
              read = front_whole ts k _ s.read (ltb-false _ _ q);
            };
            deep = s.deep;
          },
        );
      }

    pub ended_meant : (w : Walked) → node_due G ns ts limit start 0 0 ≡ w → Meant limit (walk_done ns ts w)
    unfolding walk_done
    ended_meant (used n k) said = done_meant n k (node_stands G ns ts limit start 0 0 n k said) _ _ refl refl
    ended_meant (refused a) said = placed_meant (node_placed G ns ts limit start 0 0 a said) said

    pub within_answered : DerivesWithin limit G start ns ts → walk_done ns ts (node_due G ns ts limit start 0 0) ≡ answer 0 0
    unfolding walk_done
    within_answered d =
        let t = d.derives in
        let no-nodes = le-ltb (0 + length (nodes t.tree)) (length ns) (omega (arith, ap length t.listed)) in
        let no-tokens = le-ltb (0 + length (tokens t.tree)) (length ts) (omega (arith, ap length t.read)) in
        rw (right_used G ns ts t.tree start limit 0 0 [] [] t.right (all_listed t) (all_read t) d.deep, no-nodes, no-tokens)

    pub deep_answered : (d : Derives G start ns ts) → limit < depth d.tree → (walk_done ns ts (node_due G ns ts limit start 0 0)).number ≡ 9
    unfolding walk_done
    deep_answered d deep = rw (right_too_deep G ns ts d.tree start limit 0 0 [] [] d.right (all_listed d) (all_read d) deep).1

    pub neither : ((walk_done ns ts (node_due G ns ts limit start 0 0)).number ≡ 0 → ⊥) → ((walk_done ns ts (node_due G ns ts limit start 0 0)).number ≡ 9 → ⊥) →
        Derives G start ns ts → ⊥
    neither not-zero not-nine d =
        let deep : depth d.tree ≤ limit → ⊥ = λ h. not-zero (ap (λ (a : Answer). a.number) (within_answered record { derives = d; deep = h })) in
        not-nine (deep_answered d (omega arith))
