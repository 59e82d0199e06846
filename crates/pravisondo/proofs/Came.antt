-- What came from the input.
use Rattle.std.proofs.Common.{◌≡◌, ℕ, ◌+◌, ◌≤◌, List, ◌++◌, Option, length, take, sym, ap, ◌∙◌, subst, length-take-le, arith}
use Rattle.std.proofs.lemmas.List.{take-append-le}
use Rattle.std.proofs.Math.Seq.{take-append-add}
use Rattle.std.specs.Io.KnownBytes.{Consumes}
use Rattle.std.proofs.KnownBytes.{Consumes-trans}

module _ (a b c : Option (List ℕ)) (xs ys rest : List ℕ) (done n : ℕ) where
  -- a list that begins with what had come, and goes on with what one more read gave
  pub one_more : done ≤ length xs → n ≤ length ys → Consumes a b (take done xs) → Consumes b c (take n ys) → Consumes a c (take (done + n) (take done xs ++ (ys ++ rest)))
  one_more within fits before read =
      let front = take done xs in
      let joined = ap (λ k. take (k + n) (front ++ (ys ++ rest))) (sym (length-take-le done xs within)) ∙ take-append-add front (ys ++ rest) n ∙ ap (λ l. front ++ l) (take-append-le n ys rest fits) in
      subst (Consumes a c) (sym joined) (Consumes-trans a b c front (take n ys) before read)

  -- one more read gave nothing
  pub no_more : n ≡ 0 → done ≤ length xs → n ≤ length ys → Consumes a b (take done xs) → Consumes b c (take n ys) → Consumes a c (take done (take done xs ++ (ys ++ rest)))
  no_more none within fits before read =
      let same : done + n ≡ done = omega arith in
      subst (λ k. Consumes a c (take k (take done xs ++ (ys ++ rest)))) same (one_more within fits before read)
