-- How the parts of a text are put one after another: what the functions within the crate promise each other.
use Rattle.std.specs.Prelude.{◌≡◌, List, ◌++◌, ℕ, ◌+◌, ◌-◌, length, take, drop}
use Rattle.report.specs.declared.text.Text.{Text}

-- the bytes of the output from the index on
abbrev pub room : Text → ℕ
room text = length text.out.now - text.at

-- a list with the entries `new` written from index `at` on; all others are as they were
unfoldable pub written_at : ℕ → List ℕ → List ℕ → List ℕ
written_at at new old = take at old ++ (new ++ drop (at + length new) old)

-- the bytes `new` are put behind the text so far, into the same output
pub record Puts (new : List ℕ) (old after : Text) : Type 0 where
  pub next : after.at ≡ old.at + length new
  pub output : after.out.now ≡ written_at old.at new old.out.now
  pub same : after.out.ghost_name ≡ old.out.ghost_name
