-- What reading the input gives.
use Rattle.std.specs.Prelude.{ℕ, ◌≤◌, Result, IfOk}

-- so many bytes were read, at most n
abbrev pub Within : {E : Type 0} → Result ℕ E → ℕ → Type 0
Within r n = IfOk r (λ k. k ≤ n)
