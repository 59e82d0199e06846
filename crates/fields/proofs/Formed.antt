-- Laws of well-formed fields: of parts and of records.
use Rattle.std.proofs.Common.{◌≡◌, refl, Bool, true, false, ◌&&◌, List, [], ◌∷◌, ◌++◌, append_assoc, append-nil, ℕ, zero, suc, ◌+◌, ◌<◌, add-zero, zero-add, add-suc, suc-add, arith}
use Rattle.fields.specs.Fields.{Field, each_from, each, WellFormed}

-- both of two tests hold
pub both_true : (a b : Bool) → (a && b) ≡ true → (a ≡ true) × (b ≡ true)
both_true true b h = (refl, h)
both_true false b h = absurd (let z : ◌≡◌ {A = ℕ} 0 1 = cc in omega arith)

pub formed_append : (xs ys : List Field) → WellFormed xs → WellFormed ys → WellFormed (xs ++ ys)
unfolding WellFormed
formed_append [] ys g h = h
formed_append (x ∷ xs) ys g h = (g.0, formed_append xs ys g.1 h)

pub formed_parts : (xs ys : List Field) → WellFormed (xs ++ ys) → WellFormed xs × WellFormed ys
unfolding WellFormed
formed_parts [] ys h = (tt, h)
formed_parts (x ∷ xs) ys h = let parts = formed_parts xs ys h.1 in ((h.0, parts.0), parts.1)

formed_from : (fields : ℕ → List Field) (k n : ℕ) → ((i : ℕ) → i < k + n → WellFormed (fields i)) → WellFormed (each_from k n fields)
unfolding WellFormed each_from
formed_from fields k zero h = tt
formed_from fields k (suc n) h = formed_append (fields k) _ (h k (omega arith)) (formed_from fields (suc k) n (λ i l. h i (omega arith)))

pub formed_each : (fields : ℕ → List Field) (n : ℕ) → ((i : ℕ) → i < n → WellFormed (fields i)) → WellFormed (each n fields)
formed_each fields n h = formed_from fields 0 n (λ i l. h i (omega arith))

from_formed : (fields : ℕ → List Field) (k n i : ℕ) → WellFormed (each_from k n fields) → i < n → WellFormed (fields (k + i))
unfolding WellFormed each_from
from_formed fields k zero i h l = absurd (omega arith)
from_formed fields k (suc n) zero h l = rw add-zero (formed_parts (fields k) (each_from (suc k) n fields) h).0
from_formed fields k (suc n) (suc i) h l = rw (add-suc, ← suc-add) (from_formed fields (suc k) n i (formed_parts (fields k) (each_from (suc k) n fields) h).1 (omega arith))

pub each_formed : (fields : ℕ → List Field) (n i : ℕ) → WellFormed (each n fields) → i < n → WellFormed (fields i)
each_formed fields n i h l = rw zero-add at (from_formed fields 0 n i h l)

-- m records, then n more
pub each_more : (fields : ℕ → List Field) (k m n : ℕ) → each_from k (m + n) fields ≡ each_from k m fields ++ each_from (k + m) n fields
unfolding each_from
each_more fields k zero n = rw (zero-add n, add-zero k)
each_more fields k (suc m) n = rw (suc-add m n, each_more fields (suc k) m n, suc-add k m, add-suc k m, append_assoc)

pub formed_more : (fields : ℕ → List Field) (k m n : ℕ) → WellFormed (each_from k m fields) → WellFormed (each_from (k + m) n fields) → WellFormed (each_from k (m + n) fields)
formed_more fields k m n g h = rw (each_more fields k m n) (formed_append (each_from k m fields) (each_from (k + m) n fields) g h)

pub formed_next : (fields : ℕ → List Field) (k m : ℕ) → WellFormed (each_from k m fields) → WellFormed (fields (k + m)) → WellFormed (each_from k (m + 1) fields)
unfolding each_from
formed_next fields k m g h = formed_more fields k m 1 g (rw (append-nil (fields (k + m))) h)
