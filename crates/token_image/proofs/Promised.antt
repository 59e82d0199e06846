-- Two outcomes that the contract of the reader allows are equal, field by field.
use Rattle.std.proofs.Common.{◌≡◌, List, ℕ}
use Rattle.token_image.specs.TokenImage.{TokenIs}
use Rattle.token_image.specs.declared.Token.{Token}
use Rattle.fields.proofs.Promised.{one_result}

pub one_token : (image : List ℕ) (k : ℕ) (r s : Token) → TokenIs image k r → TokenIs image k s → r ≡ s
one_token image k r s p q = λ i. record { terminal = one_result p.terminal q.terminal i; column = one_result p.column q.column i }
