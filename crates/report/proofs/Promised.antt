-- What the contract of `report` allows is one outcome; the text of sheet A is the sample of document 01, byte for byte;
-- and a number can be read back from its digits.
use Rattle.std.proofs.Common.{◌≡◌, refl, sym, ◌∙◌, ℕ, zero, suc, ◌+◌, ◌-◌, ◌*◌, ◌^◌, ◌/◌, ◌%◌, ◌≤◌, ◌<◌, Bool, true, false, cond, eqb, ltb, List, [], ◌∷◌, ◌++◌, length, drop}
use Rattle.std.proofs.Common.{length-append, pow-suc, le-leb, arith}
use Rattle.rules.specs.Limits.{max_nodes}
use Rattle.rules.specs.Stored.{unbounded}
use Rattle.report.specs.Text.{digits, decimal, upper, line, lines, shown, text, fits, printed, Reported}

-- of two outcomes: the length, and every entry of the output
pub one_report : {number place nodes : ℕ} {sets indentations out : List ℕ} {r r' : ℕ} {after after' : List ℕ} →
    Reported number place nodes sets indentations out r after →
    Reported number place nodes sets indentations out r' after' → (r ≡ r') × (after ≡ after')
one_report a b = (a.result ∙ sym b.result, a.output ∙ sym b.output)

-- the length that is given never exceeds the output
pub within : {number place nodes : ℕ} {sets indentations out : List ℕ} {r : ℕ} {after : List ℕ} →
    Reported number place nodes sets indentations out r after → r ≤ length after
within {number} {place} {nodes} {sets} {indentations} {out} a =
    let text = printed number place nodes sets indentations out in
    rw (a.result, a.output, length-append text (drop (length text) out)) (omega arith)

shown_most : (number nodes : ℕ) → shown number nodes ≤ nodes
unfolding shown
shown_most number nodes = either (eqb number 0) where
  either : (b : Bool) → cond b nodes 0 ≤ nodes
  either true = omega arith
  either false = omega arith

-- the program's lists of 8,192 and 4,096 entries and its output of 344,106 bytes are enough for every answer
pub program_room : (number nodes : ℕ) → nodes ≤ max_nodes → fits (shown number nodes) 8192 4096 344106 ≡ true
unfolding fits
program_room number nodes h =
    let count = shown number nodes in
    let most = shown_most number nodes in
    rw (le-leb count max_nodes (omega (arith, most)), le-leb (2 * count) 8192 (omega (arith, most)), le-leb (42 + 84 * count) 344106 (omega (arith, most)))

-- sheet A: what the check writes for it
abbrev sheet_sets : List ℕ
sheet_sets = 1 ∷ 1 ∷ 3 ∷ 3 ∷ 3 ∷ 3 ∷ 0 ∷ 5 ∷ 0 ∷ unbounded ∷ 3 ∷ 3 ∷ 3 ∷ 3 ∷ 0 ∷ unbounded ∷ 0 ∷ unbounded ∷ []

abbrev sheet_indentations : List ℕ
sheet_indentations = 1 ∷ 3 ∷ 3 ∷ 4 ∷ 4 ∷ 3 ∷ 3 ∷ 4 ∷ 3 ∷ []

-- the bytes of the sample: a digit is its number and 48, a space 32, the minus sign 45, the end of a line 10
abbrev sample : List ℕ
sample =
    48 ∷ 32 ∷ 48 ∷ 10 ∷
    48 ∷ 32 ∷ 49 ∷ 32 ∷ 49 ∷ 32 ∷ 49 ∷ 10 ∷
    49 ∷ 32 ∷ 51 ∷ 32 ∷ 51 ∷ 32 ∷ 51 ∷ 10 ∷
    50 ∷ 32 ∷ 51 ∷ 32 ∷ 51 ∷ 32 ∷ 51 ∷ 10 ∷
    51 ∷ 32 ∷ 48 ∷ 32 ∷ 53 ∷ 32 ∷ 52 ∷ 10 ∷
    52 ∷ 32 ∷ 48 ∷ 32 ∷ 45 ∷ 32 ∷ 52 ∷ 10 ∷
    53 ∷ 32 ∷ 51 ∷ 32 ∷ 51 ∷ 32 ∷ 51 ∷ 10 ∷
    54 ∷ 32 ∷ 51 ∷ 32 ∷ 51 ∷ 32 ∷ 51 ∷ 10 ∷
    55 ∷ 32 ∷ 48 ∷ 32 ∷ 45 ∷ 32 ∷ 52 ∷ 10 ∷
    56 ∷ 32 ∷ 48 ∷ 32 ∷ 45 ∷ 32 ∷ 51 ∷ 10 ∷ []

-- "For A:"
pub sheet_sample : text 0 0 9 sheet_sets sheet_indentations ≡ sample
unfolding digits decimal upper line lines shown text
sheet_sample = refl

-- the number that digits stand for, behind those that stand for `before`
unfoldable pub value : ℕ → List ℕ → ℕ
value before [] = before
value before (digit ∷ rest) = value (10 * before + (digit - 48)) rest

value_more : (before : ℕ) (front : List ℕ) (d : ℕ) → value before (front ++ ((48 + d) ∷ [])) ≡ 10 * value before front + d
unfolding value
value_more before [] d = omega arith
value_more before (digit ∷ rest) d = value_more (10 * before + (digit - 48)) rest d

digits_value : (k n : ℕ) → n < 10 ^ k → value 0 (digits k n) ≡ n
unfolding value digits
digits_value zero n h = omega arith
digits_value (suc k) n h =
    let below : n < 10 ^ k * 10 = rw pow-suc at h in
    either (ltb n 10) (digits_value k (n / 10) (omega arith)) where
      either : (b : Bool) → value 0 (digits k (n / 10)) ≡ n / 10 → value 0 (cond b ((48 + n) ∷ []) (digits k (n / 10) ++ ((48 + n % 10) ∷ []))) ≡ n
      either true front = omega arith
      either false front = rw (value_more 0 (digits k (n / 10)) (n % 10), front) (omega arith)

-- no digit of a number of 64 bits is lost
pub decimal_value : (n : ℕ) → n < 2 ^ 64 → value 0 (decimal n) ≡ n
unfolding decimal
decimal_value n h = digits_value 20 n (omega arith)
