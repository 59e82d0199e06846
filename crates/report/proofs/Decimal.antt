-- The digits of a number of 64 bits: they are those that Rust's `{}` writes, one by one.
use Rattle.std.proofs.Common.{rules, ◌≡◌, ◌∙◌, ℕ, ◌+◌, ◌/◌, ◌%◌, ◌^◌, ◌<◌, ◌≤◌, [], ◌∷◌, ◌++◌, length, length-append, lt-ltb, mod-eq_of_lt, arith}
use Rattle.std.specs.Fmt.{decimal as std_decimal}
use Rattle.std.proofs.lemmas.Fmt.{decimal_from_appends, AppendsLastDigit, decimal_step, length-decimal-le}
use Rattle.report.specs.Text.{digits, decimal}

appends : AppendsLastDigit digits
unfolding digits
appends = search rules

-- what Rust's `{}` writes of a number
pub decimal_std : (n : ℕ) → n < 2 ^ 64 → decimal n ≡ std_decimal n
unfolding decimal
decimal_std n h = decimal_from_appends digits appends 20 n h (search (rules, length-decimal-le 20))

-- 20 digits are enough
pub decimal_short : (n : ℕ) → n < 2 ^ 64 → length (decimal n) ≤ 20
decimal_short n h = rw (decimal_std n h) (search (rules, length-decimal-le 20))

-- one digit, and the last of more than one
pub decimal_one : (n : ℕ) → n < 10 → decimal n ≡ (48 + n % 10) ∷ []
unfolding digits decimal
decimal_one n h = rw (lt-ltb n 10 h, mod-eq_of_lt h)

pub decimal_more : (n : ℕ) → 10 ≤ n → n < 2 ^ 64 → decimal n ≡ decimal (n / 10) ++ ((48 + n % 10) ∷ [])
decimal_more n more h = decimal_std n h ∙ (decimal_step n more h ∙ rw (decimal_std (n / 10) (omega arith)))

pub length_one : (n : ℕ) → n < 10 → length (decimal n) ≡ 1
length_one n h = rw (decimal_one n h)

pub length_more : (n : ℕ) → 10 ≤ n → n < 2 ^ 64 → length (decimal n) ≡ length (decimal (n / 10)) + 1
length_more n more h = rw (decimal_more n more h, length-append (decimal (n / 10)) ((48 + n % 10) ∷ []))
