-- What the packers write and answer ("What comes back", last paragraph).
use Rattle.std.specs.Prelude.{◌≡◌, ◌&&◌, cond, List, [], ◌∷◌, ◌++◌, ℕ}
use Rattle.std.specs.Prelude.{◌+◌, ◌*◌, ◌%◌, ◌/◌, leb, eqb, length, get_or, drop}
use Rattle.rules.specs.Limits.{max_nodes, max_tokens, column_allowed}
use Rattle.std.specs.Prelude.{Result, Ok, Err}
use Rattle.fields.specs.Fields.{Field, field, each, Checked, first_fault}
use Rattle.packers.specs.declared.Refusal.{Refusal}
use Rattle.packers.specs.declared.Refusal.TheVariants.{Entries, Column, Room}
use Rattle.packers.specs.Answers.{Packed}

-- "16 bits, low byte first": the bytes of fields, one after another
unfoldable pub bytes_of : List ℕ → List ℕ
bytes_of [] = []
bytes_of (n ∷ ns) = n % 256 ∷ n / 256 ∷ bytes_of ns

-- two lists of equal length, an entry of each in turn
unfoldable pub in_turn : List ℕ → List ℕ → List ℕ
in_turn (x ∷ xs) (y ∷ ys) = x ∷ y ∷ in_turn xs ys
in_turn (x ∷ xs) [] = []
in_turn [] (y ∷ ys) = []
in_turn [] [] = []

-- the tree image of a list of production numbers: count, offset, total length, nodes
unfoldable pub tree_image : List ℕ → List ℕ
tree_image productions = bytes_of (length productions ∷ 6 ∷ (6 + 2 * length productions) ∷ productions)

-- the token image of a list of terminals and one of columns: count, offset, total length, tokens
unfoldable pub token_image : List ℕ → List ℕ → List ℕ
token_image terminals columns = bytes_of (length terminals ∷ 6 ∷ (6 + 4 * length terminals) ∷ in_turn terminals columns)

-- "4 (output too short, place the bytes needed)"
abbrev pub into_room : ℕ → ℕ → Packed
into_room needed room = cond (leb needed room) (Ok needed) (Err (Room needed))

-- "13, then 14, then 4": 13 is over 4,096 entries or an empty tree list
unfoldable pub tree_answer : List ℕ → ℕ → Packed
tree_answer productions room =
    cond (leb 1 (length productions) && leb (length productions) max_nodes)
    (into_room (6 + 2 * length productions) room)
    (Err Entries)

-- 14 is "a column above 4,095" but for no column, its place the "index of the first such"
unfoldable pub column_fields : List ℕ → List Field
column_fields columns = each (length columns) (λ k. field k (column_allowed (get_or columns k 0)) ∷ [])

abbrev pub past_columns : Checked → Packed → Packed
past_columns (Ok good) answer = answer
past_columns (Err fault) answer = Err (Column fault.byte)

-- what is found of the columns alone
abbrev pub columns_refusal : Checked → Result (Unit {0}) Refusal
columns_refusal (Ok good) = Ok tt
columns_refusal (Err fault) = Err (Column fault.byte)

-- 13 is over 4,096 entries or two lists of unequal length
unfoldable pub token_answer : List ℕ → List ℕ → ℕ → Packed
token_answer terminals columns room =
    cond (eqb (length terminals) (length columns) && leb (length terminals) max_tokens)
    (past_columns (first_fault (column_fields columns)) (into_room (6 + 4 * length terminals) room))
    (Err Entries)

-- "A refused packer writes nothing"; "on success bytes past the length are unchanged"
abbrev pub written : Packed → List ℕ → List ℕ → List ℕ
written (Ok n) image out = image ++ drop n out
written (Err refusal) image out = out

-- what a packer gives back, and what it leaves in the output
pub record TreePacked (productions out : List ℕ) (r : Packed) (after : List ℕ) : Type 0 where
  pub answer : r ≡ tree_answer productions (length out)
  pub output : after ≡ written r (tree_image productions) out

pub record TokensPacked (terminals columns out : List ℕ) (r : Packed) (after : List ℕ) : Type 0 where
  pub answer : r ≡ token_answer terminals columns (length out)
  pub output : after ≡ written r (token_image terminals columns) out
