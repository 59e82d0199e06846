-- Images that were tested: what stands behind the check asks for it.
use Rattle.std.specs.Prelude.{List, [], ◌∷◌, ℕ, true}
use Rattle.std.specs.Coded.{×_prop, Unit-prop, Coded-set, coded_bool}
use Rattle.fields.specs.Fields.{Field, WellFormed}
use Rattle.fields.specs.Images.{Images}
use Rattle.grammar_image.specs.GrammarImage.{terminal_count, production_count, grammar_fields}
use Rattle.token_image.specs.TokenImage.{token_fields}
use Rattle.tree_image.specs.TreeImage.{tree_fields}

-- a well-formed grammar image, and a tree image that is well formed for its productions
pub record FormedTree (grammar tree : List ℕ) : Type 0 where
  pub grammar_formed : WellFormed (grammar_fields grammar)
  pub tree_formed : WellFormed (tree_fields (production_count grammar) tree)

-- and a token image that is well formed for its terminals
pub record Formed (s : Images) : Type 0 where
  pub nodes_formed : FormedTree s.grammar s.tree
  pub tokens_formed : WellFormed (token_fields (terminal_count s.grammar) s.tokens)

-- images are well formed in one way
pub well_formed_prop : (fs : List Field) → IsProp (WellFormed fs)
unfolding WellFormed
well_formed_prop [] = Unit-prop
well_formed_prop (f ∷ fs) = ×_prop (Coded-set coded_bool f.keeps true) (well_formed_prop fs)

pub formed_tree_prop : (grammar tree : List ℕ) → IsProp (FormedTree grammar tree)
formed_tree_prop grammar tree a b i =
    record {
      grammar_formed = well_formed_prop (grammar_fields grammar) a.grammar_formed b.grammar_formed i;
      tree_formed = well_formed_prop (tree_fields (production_count grammar) tree) a.tree_formed b.tree_formed i;
    }

pub formed_prop : (s : Images) → IsProp (Formed s)
formed_prop s a b i =
    record {
      nodes_formed = formed_tree_prop s.grammar s.tree a.nodes_formed b.nodes_formed i;
      tokens_formed =
          well_formed_prop (token_fields (terminal_count s.grammar) s.tokens) a.tokens_formed b.tokens_formed i;
    }
