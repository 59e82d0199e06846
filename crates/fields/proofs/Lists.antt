-- Laws of what n records hold: how many they are, and which one is the i-th.
use Rattle.std.proofs.Common.{◌≡◌, refl, ap, ℕ, zero, suc, ◌+◌, ◌<◌, add-zero, add-suc, suc-add, arith, length, get_or}
use Rattle.fields.specs.Fields.{list_from}

pub length_list {ℓ} : {A : Type ℓ} (k n : ℕ) (f : ℕ → A) → length (list_from k n f) ≡ n
unfolding list_from
length_list k zero f = refl
length_list k (suc n) f = ap suc (length_list (suc k) n f)

pub get_d_list {ℓ} : {A : Type ℓ} (k n i : ℕ) (f : ℕ → A) (d : A) → i < n → get_or (list_from k n f) i d ≡ f (k + i)
unfolding list_from
get_d_list k zero i f d h = absurd (omega arith)
get_d_list k (suc n) zero f d h = rw add-zero
get_d_list k (suc n) (suc i) f d h = rw (add-suc, ← suc-add) (get_d_list (suc k) n i f d (omega arith))
