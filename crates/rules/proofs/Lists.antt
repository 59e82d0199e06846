-- Laws of what is left of a list from an index on, which is how the walk reads its nodes and tokens.
use Rattle.std.proofs.Common.{◌≡◌, sym, ap, ◌∙◌, List, [], ◌∷◌, ◌++◌, append-nil, ℕ, suc, ◌+◌, ◌<◌, ◌≤◌, arith, length, get_or, take, drop, length-drop, length-append, drop_of_length-le, drop-cons, drop-drop, take_at}
use Rattle.std.proofs.Math.Seq.{drop-append_seam}

module _ {ℓ} {A : Type ℓ} (l : List A) (n : ℕ) where
  -- what is at the head of the rest is at its index in the list, and the rest goes on behind it
  pub head_met : (d a : A) (x : List A) → drop n l ≡ a ∷ x → (n < length l) × (get_or l n d ≡ a) × (drop (suc n) l ≡ x)
  head_met d a x e =
      let more : n < length l = omega (arith, length-drop n l, ap length e) in
      let first = drop-cons l n d more in
      (more, cc, cc)

  -- behind a front of the rest comes what follows that front
  pub front_met : (front x : List A) → drop n l ≡ front ++ x → drop (n + length front) l ≡ x
  front_met front x e = rw (← drop-drop, e, drop-append_seam)

  -- a front that has the list's rest behind it is what comes before that rest
  pub front_taken : (front : List A) → l ≡ front ++ drop n l → n ≡ length front → front ≡ take n l
  front_taken front e long = sym (ap (take n) e ∙ take_at front (drop n l) n (sym long))

  -- and is the whole list where no rest is left
  pub front_whole : (front : List A) → l ≡ front ++ drop n l → length l ≤ n → front ≡ l
  front_whole front e none = sym (e ∙ ap (λ (r : List A). front ++ r) (drop_of_length-le l none) ∙ append-nil front)

  -- where no rest is left, the index is past the last element
  pub rest_none : drop n l ≡ [] → length l ≤ n
  rest_none e = omega (arith, length-drop n l, ap length e)

-- two parts, one behind the other
pub length_two {ℓ} : {A : Type ℓ} (n : ℕ) (a b : List A) → n + length (a ++ b) ≡ n + length a + length b
length_two n a b = omega (arith, length-append a b)

-- a list has all of itself at its head
pub whole_front {ℓ} : {A : Type ℓ} {l : List A} (front : List A) → front ≡ l → l ≡ front ++ []
whole_front front e = sym (append-nil front ∙ e)
