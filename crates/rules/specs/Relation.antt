-- "Each symbol .. carries one relation. With i the indentation of the node and j that of the child": when it holds.
use Rattle.std.specs.Prelude.{◌≡◌, ℕ, ◌<◌, ◌≤◌}
use Rattle.rules.specs.Grammar.{Token, NoColumn, HasColumn}

-- 0 is =, 1 is >, 2 is ≥, and any other number is free: "always"
unfoldable pub Holds : ℕ → ℕ → ℕ → Type 0
Holds r i j = (r ≡ 0 → j ≡ i) × (r ≡ 1 → i < j) × (r ≡ 2 → i ≤ j)

-- the most that a relation asks a child to stand above its parent
abbrev pub rise : ℕ
rise = 1

-- "A terminal's indentation is the column of its token"; a token without a column "satisfies >, ≥ and free against
-- every whole number, and = against none"
unfoldable pub HoldsToken : ℕ → ℕ → Token → Type 0
HoldsToken r i t = (HasColumn t → Holds r i t.column) × (NoColumn t → r ≡ 0 → ⊥)
