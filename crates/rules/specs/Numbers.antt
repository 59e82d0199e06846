-- The number of each relation: "Each symbol .. carries one relation", one of four, told apart by its number. What is
-- computed is told apart by it too, and no promise to the desk names it.
use Rattle.std.specs.Prelude.{◌≡◌, ℕ}
use Rattle.rules.specs.declared.relation.Relation.{Relation}
use Rattle.rules.specs.declared.relation.Relation.TheVariants.{Equal, Greater, AtLeast, Free}

-- 0 is =, 1 is >, 2 is ≥, and any other number is free
abbrev pub StandsFor : ℕ → Relation → Type 0
StandsFor r Equal = r ≡ 0
StandsFor r Greater = r ≡ 1
StandsFor r AtLeast = r ≡ 2
StandsFor r Free = (r ≡ 0 → ⊥) × (r ≡ 1 → ⊥) × (r ≡ 2 → ⊥)
