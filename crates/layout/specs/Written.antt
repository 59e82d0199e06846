-- What a pass leaves in a lent list.
use Rattle.std.specs.Prelude.{List, ◌++◌, ℕ, ◌+◌, length, take, drop}

-- a list with the entries `new` written from index `at` on; all others are as they were
unfoldable pub written_at : ℕ → List ℕ → List ℕ → List ℕ
written_at at new old = take at old ++ (new ++ drop (at + length new) old)
