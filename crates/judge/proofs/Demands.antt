-- The desk's three conditions, sentence by sentence, as theorems about what the contracts allow.
-- A reader of this file and of crates/rules/specs knows what was promised.
use Rattle.std.proofs.Common.{◌≡◌, ◌⊎◌, List, map, ℕ, ◌+◌, ◌-◌, ◌*◌, ◌<◌, ◌≤◌, length, get_or, take, drop, Ok}
use Rattle.rules.specs.Limits.{max_depth, max_indentation}
use Rattle.rules.specs.Derivation.{Right, Derives}
use Rattle.rules.specs.Tree.{Tree}
use Rattle.rules.specs.Walk.{Answer, answer}
use Rattle.rules.specs.Grammar.{Production, ColumnsUpTo}
use Rattle.rules.specs.Relation.{rise}
use Rattle.rules.specs.NoColumn.{NoColumnAtEqual}
use Rattle.rules.specs.Choice.{Choice, Laid, InSet, Least}
use Rattle.rules.specs.Stored.{Stored, SetOf, HighestEmpty, Shape, Empty, subtrees}
use Rattle.rules.proofs.Shapes.{lemma_4}
use Rattle.rules.proofs.Subtrees.{empty_above}
use Rattle.fields.specs.Fields.{Bytes, WellFormed}
use Rattle.fields.specs.Images.{Images}
use Rattle.grammar_image.specs.GrammarImage.{start_nonterminal, production_at}
use Rattle.token_image.specs.TokenImage.{tokens_of, token_fields}
use Rattle.tree_image.specs.TreeImage.{node_count, nodes_of, tree_fields}
use Rattle.packers.specs.Answers.{Packed}
use Rattle.packers.specs.Answers.{packed_number}
use Rattle.packers.specs.Packing.{tree_image, token_image, TreePacked, TokensPacked}
use Rattle.packers.proofs.RoundTrip.{terminal_of, column_of, tree_reads_back, tokens_read_back}
use Rattle.packers.proofs.RoundTrip.{tree_is_packed, tokens_are_packed}
use Rattle.judge.specs.Judged.{Lists, entries_of, Fitting, DerivesIn, Judged}
use Rattle.judge.proofs.Meaning as meaning

-- 1. "Every call on every content of the inputs ends with the one answer and place": `check` has no `requires`,
-- and two outcomes that its contract allows are equal
pub one_outcome : {s : Images} {old new new' : Lists} {a b : Answer} →
    Judged s old a new → Judged s old b new' → (a ≡ b) × (new ≡ new')
one_outcome = meaning.one_judged

-- "a packer that refuses writes nothing"
pub tree_packer_leaves : {productions out after : List ℕ} {r : Packed} →
    TreePacked productions out r after → (packed_number r ≡ 0 → ⊥) → after ≡ out
tree_packer_leaves = meaning.tree_packer_leaves _ _ _ _

pub tokens_packer_leaves : {terminals columns out after : List ℕ} {r : Packed} →
    TokensPacked terminals columns out r after → (packed_number r ≡ 0 → ⊥) → after ≡ out
tokens_packer_leaves = meaning.tokens_packer_leaves _ _ _ _ _

-- 2. "By lemma 4 of document 000 a set that is not empty is all whole numbers, a single number, or all numbers up to
-- some n"
pub set_shape : (G : ℕ → Production) (T : Tree) (A : ℕ) → Right G T A → Shape (InSet G T)
set_shape = lemma_4

-- "A set empty below makes every set above it empty, also through a free relation"
pub empty_below : (G : ℕ → Production) (T : Tree) (n : ℕ) → n < length (subtrees T) →
    Empty (SetOf G T n) → Empty (InSet G T)
empty_below = empty_above

-- "A packed list reads back as that list"
pub tree_back : {productions out after : List ℕ} {r : Packed} {n : ℕ} →
    TreePacked productions out r after → r ≡ Ok n → nodes_of (take n after) ≡ productions
tree_back = tree_reads_back _ _ _ _ _

pub tokens_back : {terminals columns out after : List ℕ} {r : Packed} {n : ℕ} →
    TokensPacked terminals columns out r after → r ≡ Ok n →
    (map terminal_of (tokens_of (take n after)) ≡ terminals) × (map column_of (tokens_of (take n after)) ≡ columns)
tokens_back = tokens_read_back _ _ _ _ _ _

-- "a well-formed token or tree image is exactly what packing its contents gives"
pub tree_packed : (P : ℕ) (image : List ℕ) → Bytes image → WellFormed (tree_fields P image) →
    tree_image (nodes_of image) ≡ image
tree_packed = tree_is_packed

pub tokens_packed : (T : ℕ) (image : List ℕ) → Bytes image → WellFormed (token_fields T image) →
    token_image (map terminal_of (tokens_of image)) (map column_of (tokens_of image)) ≡ image
tokens_packed = tokens_are_packed

-- with what one call of `check` leaves: s are its images, a its answer, old and new the two lists before and after it
module _ {s : Images} {old new : Lists} {a : Answer} (j : Judged s old a new) where
  -- the productions by their numbers
  abbrev G : ℕ → Production
  G = production_at s.grammar

  -- the number of nodes
  abbrev D : ℕ
  D = node_count s.tree

  -- "Refusals 1 to 11 change no buffer"
  pub refusals_leave : 1 ≤ a.number → a.number ≤ 11 → new ≡ old
  refusals_leave = meaning.refused_unchanged j

  -- "12 writes the sets and leaves the indentations", at the "highest-numbered node with an empty set"
  pub twelve_leaves : a.number ≡ 12 →
      (new.indentations ≡ old.indentations) × (d : DerivesIn s) × HighestEmpty G d.derives.tree a.place
  twelve_leaves = meaning.twelve_says j

  -- 2. every entry of the sets says the set of its node, and "Entries beyond those named never change"
  pub sets_say : (a.number ≡ 0) ⊎ (a.number ≡ 12) → (d : DerivesIn s)
      × ((n : ℕ) → n < D →
      Stored (SetOf G d.derives.tree n) (get_or new.sets (2 * n) 0) (get_or new.sets (2 * n + 1) 0))
      × (drop (2 * D) new.sets ≡ drop (2 * D) old.sets)
  sets_say = meaning.sets_written j

  -- 3. "With well-formed images, room, and a tree at most 1,024 deep: accepted exactly if the tree derives the whole
  -- token list and whole numbers can be given to all its nodes so that every relation holds": if
  pub accepted_if : Fitting s (entries_of old) → (d : DerivesIn s) (C : Choice) → Laid G d.derives.tree C →
      a ≡ answer 0 0
  accepted_if = meaning.chosen_zero j

  -- and only if
  pub accepted_only_if : a.number ≡ 0 →
      Fitting s (entries_of old) × (d : DerivesIn s) × (C : Choice) × Laid G d.derives.tree C
  accepted_only_if = meaning.zero_chosen j

  -- "The numbers returned are such a choice, and no choice gives any node a smaller one"
  pub least_returned : a.number ≡ 0 → (d : DerivesIn s) →
      Least G d.derives.tree (take D new.indentations)
      × (drop D new.indentations ≡ drop D old.indentations)
  least_returned = meaning.zero_least j

  -- "If it derives and is refused, no choice exists"
  pub refused_none : Fitting s (entries_of old) → (d : DerivesIn s) → (a.number ≡ 0 → ⊥) →
      (C : Choice) → Laid G d.derives.tree C → ⊥
  refused_none = meaning.refused_unlaid j

  -- for the makers: a tree in which a token without a column stands at = anywhere is not accepted, whatever the other
  -- columns are
  pub no_column_refused : (d : Derives G (start_nonterminal s.grammar) (nodes_of s.tree) (tokens_of s.tokens)) →
      NoColumnAtEqual G d.tree → a.number ≡ 0 → ⊥
  no_column_refused = meaning.no_column_refused j

  -- no entry exceeds the greatest column of the tokens that have one by more than the depth allows
  pub indentations_near : a.number ≡ 0 → (M : ℕ) → ColumnsUpTo M (tokens_of s.tokens) →
      (n : ℕ) → n < D → get_or new.indentations n 0 ≤ M + rise * (max_depth - 1)
  indentations_near = meaning.zero_near j

  -- so "The greatest indentation that may be returned becomes 5,118"
  pub indentations_small : a.number ≡ 0 → (n : ℕ) → n < D → get_or new.indentations n 0 ≤ max_indentation
  indentations_small = meaning.zero_small j
