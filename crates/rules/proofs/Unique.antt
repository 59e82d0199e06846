-- Nodes and tokens tell their tree: a node's production says which symbols its row has, and a symbol says whether a token or a child stands at it.
-- So two right trees that are read off the same lists are the same, child by child.
use Rattle.std.proofs.Common.{◌≡◌, refl, List, [], ◌∷◌, ◌++◌, append_assoc, ℕ}
use Rattle.rules.specs.Grammar.{Symbol, Production, Token}
use Rattle.rules.specs.Tree.{Tree, node, Row, end, token, child}
use Rattle.rules.specs.Derivation.{Right, RightRow, nodes, row_nodes, tokens, row_tokens, Derives}

module _ (G : ℕ → Production) where
  mutual
    unfolding Right RightRow nodes row_nodes tokens row_tokens

    -- two right trees that stand at the head of the same nodes and the same tokens are the same, and leave the same behind them
    pub same_tree : (T U : Tree) (A B : ℕ) (x x' : List ℕ) (y y' : List Token) → Right G T A → Right G U B →
        nodes T ++ x ≡ nodes U ++ x' → tokens T ++ y ≡ tokens U ++ y' → (T ≡ U) × (x ≡ x') × (y ≡ y')
    same_tree (node p R) (node q S) A B x x' y y' f g e h =
        let same : p ≡ q = cc in
        let row = same_row R S (G p).right x x' y y' f.1 (rw same g.1) (cc) h in
        (cc, row.1, row.2)

    -- and two rows that are right for the same symbols
    pub same_row : (R S : Row) (ss : List Symbol) (x x' : List ℕ) (y y' : List Token) → RightRow G R ss → RightRow G S ss →
        row_nodes R ++ x ≡ row_nodes S ++ x' → row_tokens R ++ y ≡ row_tokens S ++ y' → (R ≡ S) × (x ≡ x') × (y ≡ y')
    same_row end end [] x x' y y' f g e h = (refl, e, h)
    same_row end (token u S) [] x x' y y' f g e h = absurd g
    same_row end (child U S) [] x x' y y' f g e h = absurd g
    same_row end S (s ∷ ss) x x' y y' f g e h = absurd f
    same_row (token t R) S [] x x' y y' f g e h = absurd f
    same_row (token t R) end (s ∷ ss) x x' y y' f g e h = absurd g
    same_row (token t R) (child U S) (s ∷ ss) x x' y y' f g e h = absurd (g.0 f.0)
    same_row (token t R) (token u S) (s ∷ ss) x x' y y' f g e h =
        let row = same_row R S ss x x' y y' f.2 g.2 e (cc) in
        (cc, row.1, row.2)
    same_row (child T R) S [] x x' y y' f g e h = absurd f
    same_row (child T R) end (s ∷ ss) x x' y y' f g e h = absurd g
    same_row (child T R) (token u S) (s ∷ ss) x x' y y' f g e h = absurd (f.0 g.0)
    same_row (child T R) (child U S) (s ∷ ss) x x' y y' f g e h =
        let first = same_tree T U s.number s.number _ _ _ _ f.1 g.1 (simp append_assoc at e) (simp append_assoc at h) in
        let row = same_row R S ss x x' y y' f.2 g.2 first.1 first.2 in
        (cc, row.1, row.2)

  -- at most one tree has given nodes and tokens and is right at a nonterminal
  pub one_tree : (start : ℕ) (ns : List ℕ) (ts : List Token) (d e : Derives G start ns ts) → d.tree ≡ e.tree
  one_tree start ns ts d e = (same_tree d.tree e.tree start start [] [] [] [] d.right e.right (cc) (cc)).0
