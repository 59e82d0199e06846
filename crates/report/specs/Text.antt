-- The text of an answer ("It prints number and place"), and what the function that puts it into an output gives back.
-- Bytes are numbers; 32 is a space, 10 the end of a line, 45 the sign -.
use Rattle.std.specs.Prelude.{◌≡◌, Bool, ◌&&◌, cond, List, [], ◌∷◌, ◌++◌, ℕ, zero}
use Rattle.std.specs.Prelude.{suc, ◌+◌, ◌*◌, ◌%◌, ◌/◌, leb, ltb, eqb, length, get_or, drop}
use Rattle.rules.specs.Limits.{max_nodes}
use Rattle.rules.specs.Stored.{unbounded}

-- a number below 10 ^ k in decimal digits, with no zeros in front
unfoldable pub digits : ℕ → ℕ → List ℕ
digits zero n = []
digits (suc k) n = cond (ltb n 10) ((48 + n) ∷ []) (digits k (n / 10) ++ ((48 + n % 10) ∷ []))

-- 20 digits hold every number of 64 bits
unfoldable pub decimal : ℕ → List ℕ
decimal n = digits 20 n

-- "high (- for no upper bound)"
unfoldable pub upper : ℕ → List ℕ
upper high = cond (eqb high unbounded) (45 ∷ []) (decimal high)

-- a word with a space behind it, and one that ends its line
abbrev pub spaced : List ℕ → List ℕ
spaced word = word ++ (32 ∷ [])

abbrev pub ended : List ℕ → List ℕ
ended word = word ++ (10 ∷ [])

-- "node, low, high, indentation"
unfoldable pub line : ℕ → ℕ → ℕ → ℕ → List ℕ
line n low high indentation =
    spaced (decimal n) ++ spaced (decimal low) ++ spaced (upper high) ++ ended (decimal indentation)

-- "one line a node", of the nodes below a count
unfoldable pub lines : List ℕ → List ℕ → ℕ → List ℕ
lines sets indentations zero = []
lines sets indentations (suc n) =
    lines sets indentations n ++ line n (get_or sets (2 * n) 0) (get_or sets (2 * n + 1) 0) (get_or indentations n 0)

-- the nodes that have a line: all "on acceptance", else none
unfoldable pub shown : ℕ → ℕ → ℕ
shown number nodes = cond (eqb number 0) nodes 0

-- "It prints number and place; on acceptance also one line a node"
unfoldable pub text : ℕ → ℕ → ℕ → List ℕ → List ℕ → List ℕ
text number place nodes sets indentations =
    spaced (decimal number) ++ ended (decimal place) ++ lines sets indentations (shown number nodes)

-- the lists have the entries of so many nodes, and an output of `room` bytes holds their text whatever the entries are:
-- two numbers and four a node, each with the byte behind it
unfoldable pub fits : ℕ → ℕ → ℕ → ℕ → Bool
fits count sets indentations room =
    leb count max_nodes && (leb (2 * count) sets && (leb count indentations && leb (42 + 84 * count) room))

-- the text, or nothing where it does not fit
unfoldable pub printed : ℕ → ℕ → ℕ → List ℕ → List ℕ → List ℕ → List ℕ
printed number place nodes sets indentations out =
    cond (fits (shown number nodes) (length sets) (length indentations) (length out))
    (text number place nodes sets indentations)
    []

-- what comes back: the length of what is printed, which stands in front of an output that is else as it was
pub record Reported (number place nodes : ℕ) (sets indentations out : List ℕ) (r : ℕ) (after : List ℕ) : Type 0 where
  pub result : r ≡ length (printed number place nodes sets indentations out)
  pub output : after
      ≡ printed number place nodes sets indentations out
      ++ drop (length (printed number place nodes sets indentations out)) out
