-- Laws of entries written into a list: two runs of entries one behind the other are one run.
use Rattle.std.proofs.Common.{◌≡◌, ◌∙◌, List, [], ◌∷◌, ◌++◌, append_assoc, ℕ, ◌+◌, ◌<◌, ◌≤◌, add-zero, add_assoc, add-one, arith, length, take, drop, length-append, take-append-drop, set, length-take-le, take_at, drop_at, take-take, drop-drop}
use Rattle.std.proofs.Math.Seq.{take-append-le, set_split, sets-eq}
use Rattle.layout.specs.Written.{written_at}

-- nothing written
pub written_none : (at : ℕ) (old : List ℕ) → written_at at [] old ≡ old
unfolding written_at
written_none at old = rw (add-zero at) (take-append-drop at old)

module _ (at : ℕ) (v w old : List ℕ) where
  -- what is behind a run, in a list that ends as the old one does
  drop_behind : (p : List ℕ) (n : ℕ) → length p ≡ n → drop (n + length w) (p ++ drop n old) ≡ drop (n + length w) old
  drop_behind p n e = rw (← drop-drop (length w) n (p ++ drop n old), drop_at p (drop n old) n e, drop-drop (length w) n old)

  -- a run, then the one behind it
  pub written_then : at ≤ length old → written_at (at + length v) w (written_at at v old) ≡ written_at at (v ++ w) old
  unfolding written_at
  written_then room =
      let front : length (take at old ++ v) ≡ at + length v = rw (length-append, length-take-le at old room) in
      let whole = append_assoc (take at old) v (drop (at + length v) old) in
      rw (← whole, take_at (take at old ++ v) (drop (at + length v) old) (at + length v) front, drop_behind (take at old ++ v) (at + length v) front, length-append, append_assoc, append_assoc, add_assoc)

  -- the one behind it, then the run
  pub written_before : at + length v ≤ length old → written_at at v (written_at (at + length v) w old) ≡ written_at at (v ++ w) old
  unfolding written_at
  written_before room =
      let front : length (take (at + length v) old) ≡ at + length v = length-take-le (at + length v) old room in
      rw (take-append-le at (take (at + length v) old) (w ++ drop (at + length v + length w) old) (omega arith), take-take at (at + length v) old (omega arith), drop_at (take (at + length v) old) (w ++ drop (at + length v + length w) old) (at + length v) front, length-append, append_assoc, add_assoc)

-- two stores one behind the other
pub written_two : (at a b : ℕ) (old : List ℕ) → at + 2 ≤ length old → set (set old at a) (at + 1) b ≡ written_at at (a ∷ b ∷ []) old
unfolding written_at
written_two at a b old room = rw add-one (sets-eq (a ∷ b ∷ []) old at room ∙ append_assoc (take at old) (a ∷ b ∷ []) (drop (at + 2) old))

-- one store
pub written_one : (old : List ℕ) (at a : ℕ) → at < length old → set old at a ≡ written_at at (a ∷ []) old
unfolding written_at
written_one old at a h = rw (set_split old at a h, add-one)
