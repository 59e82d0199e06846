-- Laws of a text put into an output: two runs of bytes one behind the other are one run.
use Rattle.std.proofs.Common.{◌≡◌, refl, sym, ap, ◌∙◌, ℕ, zero, suc, ◌+◌, ◌<◌, ◌≤◌, List, [], ◌∷◌, ◌++◌, length, drop, set, append_assoc, append-nil, add-zero, zero-add, suc-add, add_assoc, add-one, arith}
use Rattle.std.proofs.Common.{length-append, take-append-drop, drop_of_length-le, take_all, drop-drop}
use Rattle.std.proofs.Math.Seq.{take-append_seam, drop-append-add, set_split}
use Rattle.report.specs.declared.text.Text.{Text}
use Rattle.report.specs.Putting.{room, written_at, Puts}

-- nothing put
pub puts_none : (text : Text) → Puts [] text text
unfolding written_at
puts_none text =
    record {
      next = sym (add-zero text.at);
      output = sym (rw (add-zero text.at) (take-append-drop text.at text.out.now));
      same = refl;
    }

-- one byte written at an index
pub written_one : (at byte : ℕ) (old : List ℕ) → at < length old → set old at byte ≡ written_at at (byte ∷ []) old
unfolding written_at
written_one at byte old h = rw (set_split old at byte h, add-one)

-- one byte put
pub puts_one : {byte : ℕ} {old after : Text} → 1 ≤ room old → after.at ≡ old.at + 1 → after.out.now ≡ set old.out.now old.at byte →
    after.out.ghost_name ≡ old.out.ghost_name → Puts (byte ∷ []) old after
puts_one {byte} {old} h next output same =
    record { next = next; output = output ∙ written_one old.at byte old.out.now (omega arith); same = same }

module _ (v w : List ℕ) where
  -- a run of bytes behind another
  pub written_then : (at : ℕ) (old : List ℕ) → written_at (at + length v) w (written_at at v old) ≡ written_at at (v ++ w) old
  unfolding written_at
  written_then zero old =
      simp (zero-add, length-append) (rw (take-append_seam v (drop (length v) old), drop-append-add v (drop (length v) old) (length w), drop-drop (length w) (length v) old, append_assoc))
  written_then (suc at) [] =
      simp (suc-add, append-nil, length-append) (rw (take_all (suc (at + length v)) v (omega arith), drop_of_length-le v {i = suc (at + length v + length w)} (omega arith), append-nil w))
  written_then (suc at) (a ∷ old) = simp suc-add (ap (λ (l : List ℕ). a ∷ l) (written_then at old))

-- what is put behind what was put
pub puts_then : {v w : List ℕ} {old mid after : Text} → Puts v old mid → Puts w mid after → Puts (v ++ w) old after
puts_then {v} {w} {old} p q =
    record {
      next = rw (q.next, p.next, length-append v w, add_assoc old.at (length v) (length w));
      output = rw (q.output, p.next, p.output) (written_then v w old.at old.out.now);
      same = q.same ∙ p.same;
    }
