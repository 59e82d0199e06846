-- Laws of the bytes of a list of fields, and of an output whose first fields are written.
use Rattle.std.proofs.Common.{◌≡◌, refl, sym, ap, ◌∙◌, Bool, true, false, true≢false, ◌&&◌, cond, List, [], ◌∷◌, ◌++◌, map, ℕ, zero, suc, ◌+◌, ◌*◌, ◌%◌, ◌/◌, ◌<◌, ◌≤◌, add-zero, zero-add, add-suc, suc-add, add-one, arith, leb, eqb, length, get_or, take, drop, set, get_or-append-add, length-drop, drop-drop, get_or-drop, le-leb, eq-eqb, leb-true, eqb-true, Ok, Err, is_ok}
use Rattle.std.proofs.Math.Nat.{mod-add-div}
use Rattle.std.proofs.Math.Seq.{take-length}
use Rattle.std.proofs.lemmas.Bool.{lt-leb, and_parts}
use Rattle.rules.specs.Limits.{max_nodes, max_tokens}
use Rattle.fields.specs.Fields.{field_at, Bytes, Field, field, WellFormed, first_fault, list_from, list}
use Rattle.packers.specs.Packing.{bytes_of, in_turn, into_room, tree_answer, column_fields, past_columns, token_answer}
use Rattle.fields.specs.Fields.{Checked}
use Rattle.packers.specs.declared.Refusal.TheVariants.{Entries, Room}
use Rattle.packers.specs.Answers.{Packed}

-- the fields of a tree image, and of a token image
abbrev pub tree_list : List ℕ → List ℕ
tree_list productions = length productions ∷ 6 ∷ (6 + 2 * length productions) ∷ productions

abbrev pub token_list : List ℕ → List ℕ → List ℕ
token_list terminals columns = length terminals ∷ 6 ∷ (6 + 4 * length terminals) ∷ in_turn terminals columns

-- an output whose first i fields are those of fs
unfoldable pub started : List ℕ → ℕ → List ℕ → List ℕ
started fs i out = bytes_of (take i fs) ++ drop (2 * i) out

abbrev pub with_field : List ℕ → ℕ → ℕ → List ℕ
with_field out i value = set (set out (2 * i) (value % 256)) (2 * i + 1) (value / 256)

twice_suc : (i : ℕ) → 2 * suc i ≡ suc (suc (2 * i))
twice_suc i = omega arith

-- one field more is written
field_written : (fs : List ℕ) (i : ℕ) (out : List ℕ) → i < length fs → 2 * i + 1 < length out → with_field (started fs i out) i (get_or fs i 0) ≡ started fs (suc i) out
unfolding started bytes_of
field_written [] i out h room = absurd (omega arith)
field_written (n ∷ ns) i [] h room = absurd (omega arith)
field_written (n ∷ ns) i (a ∷ []) h room = absurd (omega arith)
field_written (n ∷ ns) zero (a ∷ b ∷ out) h room = refl
field_written (n ∷ ns) (suc i) (a ∷ b ∷ out) h room =
    simp (twice_suc, add-one)
    (ap (λ (l : List ℕ). n % 256 ∷ n / 256 ∷ l) (simp (twice_suc, add-one) at (field_written ns i out (omega arith) (omega arith))))

-- a call of `put` that writes field i
pub put_step : (fs : List ℕ) (i : ℕ) (entry : List ℕ) {out after : List ℕ} {value j : ℕ} →
    i < length fs → 2 * i + 1 < length entry → value ≡ get_or fs i 0 → j ≡ i + 1 →
    out ≡ started fs i entry → after ≡ with_field out i value → after ≡ started fs j entry
put_step fs i entry more room v next e w = rw (w, e, v, next, add-one i) (field_written fs i entry more room)

-- out₀ is an output whose header is written, and out has the first i fields besides, whatever the output was before
abbrev pub Grown : List ℕ → ℕ → List ℕ → List ℕ → Type 0
Grown fs i out₀ out = (entry : List ℕ) → length entry ≡ length out₀ → out₀ ≡ started fs 3 entry → out ≡ started fs i entry

pub put_grows : (fs : List ℕ) (i : ℕ) {out₀ out after : List ℕ} {value j : ℕ} →
    i < length fs → 2 * i + 1 < length out₀ → value ≡ get_or fs i 0 → j ≡ i + 1 →
    Grown fs i out₀ out → after ≡ with_field out i value → Grown fs j out₀ after
put_grows fs i more room v next g w entry l e = put_step fs i entry more (omega arith) v next (g entry l e) w

-- every field is written
pub all_written : (fs : List ℕ) (i n : ℕ) (entry : List ℕ) {out : List ℕ} → i ≡ length fs → n ≡ 2 * i → out ≡ started fs i entry → out ≡ bytes_of fs ++ drop n entry
unfolding started
all_written fs i n entry h m e = rw (e, m, h, take-length)

-- the fields behind a header
pub past_header : (a b c : ℕ) (fs : List ℕ) (i : ℕ) → get_or (a ∷ b ∷ c ∷ fs) (3 + i) 0 ≡ get_or fs i 0
past_header a b c fs i = get_or-append-add (a ∷ b ∷ c ∷ []) fs i 0

-- the fields of two lists of equal length, in turn
pub length_in_turn : (xs ys : List ℕ) → length xs ≡ length ys → length (in_turn xs ys) ≡ 2 * length xs
unfolding in_turn
length_in_turn [] [] h = refl
length_in_turn [] (y ∷ ys) h = absurd (omega arith)
length_in_turn (x ∷ xs) [] h = absurd (omega arith)
length_in_turn (x ∷ xs) (y ∷ ys) h = omega (arith, length_in_turn xs ys (omega arith))

in_turn_lem : (xs ys : List ℕ) (k : ℕ) → length xs ≡ length ys → (get_or (in_turn xs ys) (2 * k) 0 ≡ get_or xs k 0) × (get_or (in_turn xs ys) (suc (2 * k)) 0 ≡ get_or ys k 0)
unfolding in_turn
in_turn_lem [] [] k h = (refl, refl)
in_turn_lem [] (y ∷ ys) k h = absurd (omega arith)
in_turn_lem (x ∷ xs) [] k h = absurd (omega arith)
in_turn_lem (x ∷ xs) (y ∷ ys) zero h = (refl, refl)
in_turn_lem (x ∷ xs) (y ∷ ys) (suc k) h = rw twice_suc (in_turn_lem xs ys k (omega arith))

module _ (terminals columns : List ℕ) (k : ℕ) (same : length terminals ≡ length columns) where
  pub terminal_field : get_or (token_list terminals columns) (3 + 2 * k) 0 ≡ get_or terminals k 0
  terminal_field = past_header _ _ _ (in_turn terminals columns) (2 * k) ∙ (in_turn_lem terminals columns k same).0

  pub column_field : get_or (token_list terminals columns) (4 + 2 * k) 0 ≡ get_or columns k 0
  column_field = ap (λ (i : ℕ). get_or (token_list terminals columns) i 0) (e k) ∙ past_header _ _ _ (in_turn terminals columns) (suc (2 * k)) ∙ (in_turn_lem terminals columns k same).1
    where
      e : (k : ℕ) → 4 + 2 * k ≡ 3 + suc (2 * k)
      e k = omega arith

-- the entry of a list that comes after k of them is that of index k
pub next_entry : (k : ℕ) (xs : List ℕ) {x : ℕ} {rest : List ℕ} → drop k xs ≡ x ∷ rest →
    (k < length xs) × (drop (k + 1) xs ≡ rest) × (x ≡ get_or xs k 0)
next_entry k xs {x} {rest} taken = (
  omega (arith, length-drop k xs, ap (λ (l : List ℕ). length l) taken),
  sym (drop-drop 1 k xs) ∙ rw taken,
  sym (rw add-zero at (sym (get_or-drop k xs 0 0)) ∙ rw taken),
)

-- lists of what records hold
pub map_list {ℓ ℓ'} : {A : Type ℓ} {B : Type ℓ'} (g : A → B) (k n : ℕ) (f : ℕ → A) → map g (list_from k n f) ≡ list_from k n (λ i. g (f i))
unfolding list_from
map_list g k zero f = refl
map_list {B = B} g k (suc n) f = ap (λ (l : List B). g (f k) ∷ l) (map_list g (suc k) n f)

-- f from j on is g from k on
pub same_list : (f g : ℕ → ℕ) (j k n : ℕ) → ((i : ℕ) → f (i + j) ≡ g (i + k)) → list_from j n f ≡ list_from k n g
unfolding list_from
same_list f g j k zero h = refl
same_list f g j k (suc n) h =
    let head : f j ≡ g k = simp zero-add at (h 0) in
    let tail = same_list f g (suc j) (suc k) n (λ i. simp add-suc (simp suc-add at (h (suc i)))) in
    cc

pub list_get_d : (xs : List ℕ) → list (length xs) (λ (i : ℕ). get_or xs i 0) ≡ xs
unfolding list_from
list_get_d [] = refl
list_get_d (x ∷ xs) =
    ap (λ (l : List ℕ). x ∷ l) (same_list (λ i. get_or (x ∷ xs) i 0) (λ i. get_or xs i 0) 1 0 (length xs) (λ i. rw (add-one, add-zero)) ∙ list_get_d xs)

pub list_same : (f g : ℕ → ℕ) (n : ℕ) → ((i : ℕ) → f i ≡ g i) → list n f ≡ list n g
list_same f g n h = same_list f g 0 0 n (λ i. h (i + 0))

pub list_in_turn : (f g h : ℕ → ℕ) (k n : ℕ) → ((i : ℕ) → f i ≡ h (2 * i)) → ((i : ℕ) → g i ≡ h (suc (2 * i))) → in_turn (list_from k n f) (list_from k n g) ≡ list_from (2 * k) (2 * n) h
unfolding list_from in_turn
list_in_turn f g h k zero p q = refl
list_in_turn f g h k (suc n) p q =
    let first = p k in
    let second = q k in
    let later = rw twice_suc at (list_in_turn f g h (suc k) n p q) in
    rw (twice_suc n) cc

pub length_bytes : (fs : List ℕ) → length (bytes_of fs) ≡ 2 * length fs
unfolding bytes_of
length_bytes [] = refl
length_bytes (n ∷ ns) = omega (arith, length_bytes ns)

-- the fields that the bytes of a list hold are that list
pub fields_back : (fs : List ℕ) (i : ℕ) → field_at (bytes_of fs) (2 * i) ≡ get_or fs i 0
unfolding field_at bytes_of
fields_back [] i = refl
fields_back (n ∷ ns) zero = mod-add-div n 256
fields_back (n ∷ ns) (suc i) = simp (twice_suc, add-one) (simp add-one at (fields_back ns i))

-- an image is the bytes of the fields that it holds
pub bytes_back : (image : List ℕ) (m : ℕ) → length image ≡ 2 * m → Bytes image → bytes_of (list m (λ (i : ℕ). field_at image (2 * i))) ≡ image
unfolding field_at bytes_of list_from
bytes_back [] zero h bytes = refl
bytes_back [] (suc m) h bytes = absurd (omega arith)
bytes_back (a ∷ []) m h bytes = absurd (omega arith)
bytes_back (a ∷ b ∷ image) zero h bytes = absurd (omega arith)
bytes_back (a ∷ b ∷ image) (suc m) h bytes =
    let low : field_at (a ∷ b ∷ image) 0 % 256 ≡ a = omega (arith, bytes 0) in
    let high : field_at (a ∷ b ∷ image) 0 / 256 ≡ b = omega (arith, bytes 0) in
    let later = same_list (λ i. field_at (a ∷ b ∷ image) (2 * i)) (λ i. field_at image (2 * i)) 1 0 m (λ i. simp (add-one, add-zero, twice_suc)) in
    let back = bytes_back image m (omega arith) (λ i. bytes (suc (suc i))) in
    cc

-- what the last fields of a header say of an image of that length
pub record Headed (image : List ℕ) (total : ℕ) : Type 0 where
  pub offset : field_at image 2 ≡ 6
  pub said : field_at image 4 ≡ total
  pub real : length image ≡ total

abbrev pub last_fields : List ℕ → ℕ → List Field
last_fields image total = field 2 (eqb (field_at image 2) 6) ∷ field 4 (eqb (field_at image 4) total) ∷ field 4 (eqb (field_at image 4) (length image)) ∷ []

pub headed_formed : (image : List ℕ) (total : ℕ) → Headed image total → WellFormed (last_fields image total)
unfolding WellFormed
headed_formed image total h = (eq-eqb (field_at image 2) 6 h.offset, (eq-eqb (field_at image 4) total h.said, (eq-eqb (field_at image 4) (length image) (omega arith), tt)))

pub formed_headed : (image : List ℕ) (total : ℕ) → WellFormed (last_fields image total) → Headed image total
unfolding WellFormed
formed_headed image total w =
    let said = eqb-true (field_at image 4) total w.1.0 in
    let real = eqb-true (field_at image 4) (length image) w.1.1.0 in
    record { offset = eqb-true (field_at image 2) 6 w.0; said = said; real = omega arith }

pub image_back : (image : List ℕ) (n total : ℕ) → total ≡ 6 + 2 * n → Bytes image → Headed image total →
    bytes_of (field_at image 0 ∷ 6 ∷ total ∷ list n (λ (i : ℕ). field_at image (6 + 2 * i))) ≡ image
unfolding list_from
image_back image n total size bytes h =
    rw (same_list (λ i. field_at image (6 + 2 * i)) (λ i. field_at image (2 * i)) 0 3 n (λ i. ap (field_at image) (at i)))
    (rw (h.offset, h.said) at (bytes_back image (suc (suc (suc n))) (omega arith) bytes))
  where
    at : (i : ℕ) → 6 + 2 * (i + 0) ≡ 2 * (i + 3)
    at i = omega arith

-- what refuses gives no result
refuses : {A E : Type 0} {e : E} {x : A} → Err e ≡ Ok x → ⊥
refuses h = true≢false (sym (ap is_ok h))

-- what the packers answer where there is room
pub tree_written : (productions : List ℕ) (room : ℕ) → 1 ≤ length productions → length productions ≤ max_nodes →
    6 + 2 * length productions ≤ room → Ok (6 + 2 * length productions) ≡ tree_answer productions room
unfolding tree_answer
tree_written productions room some few h =
    rw (le-leb 1 (length productions) some, le-leb (length productions) max_nodes few, le-leb (6 + 2 * length productions) room h)

pub tokens_written : (terminals columns : List ℕ) (room : ℕ) → length terminals ≡ length columns → length terminals ≤ max_tokens →
    Ok tt ≡ first_fault (column_fields columns) → 6 + 4 * length terminals ≤ room → Ok (6 + 4 * length terminals) ≡ token_answer terminals columns room
unfolding token_answer
tokens_written terminals columns room same few low h =
    rw (eq-eqb (length terminals) (length columns) same, le-leb (length terminals) max_tokens few, ← low, le-leb (6 + 4 * length terminals) room h)

-- what they answer where there is too little
pub tree_room : (productions : List ℕ) (room : ℕ) → 1 ≤ length productions → length productions ≤ max_nodes →
    room < 6 + 2 * length productions → Err (Room (6 + 2 * length productions)) ≡ tree_answer productions room
unfolding tree_answer
tree_room productions room some few h =
    rw (le-leb 1 (length productions) some, le-leb (length productions) max_nodes few, lt-leb (6 + 2 * length productions) room h)

pub tokens_room : (terminals columns : List ℕ) (room : ℕ) → length terminals ≡ length columns → length terminals ≤ max_tokens →
    Ok tt ≡ first_fault (column_fields columns) → room < 6 + 4 * length terminals → Err (Room (6 + 4 * length terminals)) ≡ token_answer terminals columns room
unfolding token_answer
tokens_room terminals columns room same few low h =
    rw (eq-eqb (length terminals) (length columns) same, le-leb (length terminals) max_tokens few, ← low, lt-leb (6 + 4 * length terminals) room h)

-- the packers' answers, read backwards
chosen : (b : Bool) (answer refusal : Packed) (n : ℕ) → (refusal ≡ Ok n → ⊥) → cond b answer refusal ≡ Ok n → (b ≡ true) × (answer ≡ Ok n)
chosen true answer refusal n h e = (refl, e)
chosen false answer refusal n h e = absurd (h e)

into_room_lem : (needed room n : ℕ) → into_room needed room ≡ Ok n → (n ≡ needed) × (n ≤ room)
into_room_lem needed room n e =
    let h = chosen (leb needed room) (Ok needed) (Err (Room needed)) n refuses e in
    let same : n ≡ needed = cc in
    (same, omega (arith, leb-true needed room h.0))

past_columns_lem : (r : Checked) (answer : Packed) (n : ℕ) → past_columns r answer ≡ Ok n → (Ok tt ≡ r) × (answer ≡ Ok n)
past_columns_lem (Ok good) answer n e = (refl, e)
past_columns_lem (Err fault) answer n e = absurd (refuses e)

-- what is known of lists that were packed as n bytes
pub record TreeFits (productions : List ℕ) (room n : ℕ) : Type 0 where
  pub some : 1 ≤ length productions
  pub few : length productions ≤ max_nodes
  pub bytes : n ≡ 6 + 2 * length productions
  pub fits : n ≤ room

pub tree_fits : (productions : List ℕ) (room n : ℕ) → tree_answer productions room ≡ Ok n → TreeFits productions room n
unfolding tree_answer
tree_fits productions room n e =
    let count = length productions in
    let h = chosen (leb 1 count && leb count max_nodes) (into_room (6 + 2 * count) room) (Err Entries) n refuses e in
    let counts = and_parts (leb 1 count) (leb count max_nodes) h.0 in
    let sizes = into_room_lem (6 + 2 * count) room n h.1 in
    record { some = leb-true 1 count counts.0; few = leb-true count max_nodes counts.1; bytes = sizes.0; fits = sizes.1 }

pub record TokensFit (terminals columns : List ℕ) (room n : ℕ) : Type 0 where
  pub same : length terminals ≡ length columns
  pub few : length terminals ≤ max_tokens
  pub low : Ok tt ≡ first_fault (column_fields columns)
  pub bytes : n ≡ 6 + 4 * length terminals
  pub fits : n ≤ room

pub tokens_fit : (terminals columns : List ℕ) (room n : ℕ) → token_answer terminals columns room ≡ Ok n → TokensFit terminals columns room n
unfolding token_answer
tokens_fit terminals columns room n e =
    let count = length terminals in
    let h = chosen (eqb count (length columns) && leb count max_tokens) (past_columns (first_fault (column_fields columns)) (into_room (6 + 4 * count) room)) (Err Entries) n refuses e in
    let counts = and_parts (eqb count (length columns)) (leb count max_tokens) h.0 in
    let past = past_columns_lem (first_fault (column_fields columns)) (into_room (6 + 4 * count) room) n h.1 in
    let sizes = into_room_lem (6 + 4 * count) room n past.1 in
    record { same = eqb-true count (length columns) counts.0; few = leb-true count max_tokens counts.1; low = past.0; bytes = sizes.0; fits = sizes.1 }
