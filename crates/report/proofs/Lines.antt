-- Laws of the entries that a turn takes: the two of a set and the one of an indentation are those of its node, and the entries of later nodes are left.
use Rattle.std.proofs.Common.{◌≡◌, sym, ◌∙◌, ℕ, ◌+◌, ◌*◌, ◌<◌, List, ◌∷◌, ◌++◌, length, get_or, drop, drop-drop, get_or-drop, add-zero, arith}
use Rattle.std.proofs.Math.Seq.{drop-append_seam}
use Rattle.std.proofs.Math.ListN.{get_or-append}

entry_at : (l : List ℕ) (k i : ℕ) (set rest : List ℕ) → drop k l ≡ set ++ rest → i < length set → get_or l (k + i) 0 ≡ get_or set i 0
entry_at l k i set rest taken h = sym (get_or-drop k l i 0) ∙ rw taken (get_or-append set rest 0 i h)

-- a set
pub set_taken : (k : ℕ) (sets set : List ℕ) {rest : List ℕ} → drop (2 * k) sets ≡ set ++ rest → length set ≡ 2 →
    (drop (2 * (k + 1)) sets ≡ rest) × (get_or sets (2 * k) 0 ≡ get_or set 0 0) × (get_or sets (2 * k + 1) 0 ≡ get_or set 1 0)
set_taken k sets set {rest} taken pair =
    let more : 2 * (k + 1) ≡ 2 * k + 2 = omega arith in (
      rw more (sym (drop-drop 2 (2 * k) sets) ∙ rw (taken, ← pair) (drop-append_seam set rest)),
      rw add-zero at (entry_at sets (2 * k) 0 set rest taken (omega (arith, pair))),
      entry_at sets (2 * k) 1 set rest taken (omega (arith, pair)),
    )

-- an indentation
pub indentation_taken : (k : ℕ) (indentations : List ℕ) {indentation : ℕ} {rest : List ℕ} → drop k indentations ≡ indentation ∷ rest →
    (drop (k + 1) indentations ≡ rest) × (get_or indentations k 0 ≡ indentation)
indentation_taken k indentations {indentation} {rest} taken = (
  sym (drop-drop 1 k indentations) ∙ rw taken,
  rw add-zero at (sym (get_or-drop k indentations 0 0)) ∙ rw taken,
)
