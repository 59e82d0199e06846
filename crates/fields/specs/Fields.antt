-- Fields of an image and the search for the first that breaks its rule. An image is the list of its bytes.
use Rattle.std.specs.Prelude.{◌≡◌, Bool, true, false, cond, List, [], ◌∷◌, ◌++◌, length, get_or, Result, Ok, Err}
use Rattle.std.specs.Prelude.{ℕ, zero, suc, ◌+◌, ◌*◌, ◌<◌, leb, eqb}
use Rattle.fields.specs.declared.Fault.{Fault}
use Rattle.fields.specs.declared.Header.{Header}

-- "All fields are unsigned, 16 bits, low byte first": the field at byte i; a byte past the end counts as 0
unfoldable pub field_at : List ℕ → ℕ → ℕ
field_at image i = get_or image i 0 + 256 * get_or image (i + 1) 0

-- the entries of an image are bytes
abbrev pub Bytes : List ℕ → Type 0
Bytes image = (i : ℕ) → get_or image i 0 < 256

-- a field and a rule of it, by the byte that is the field's place and by whether the field keeps the rule; a field with
-- two rules is listed twice
pub record Field : Type 0 where
  pub byte : ℕ
  pub keeps : Bool

abbrev pub field : ℕ → Bool → Field
field byte keeps = record { byte = byte; keeps = keeps }

-- stands where a list of fields has no field
abbrev pub nowhere : Field
nowhere = field 0 true

-- the fields of records k, k + 1, .. , n of them
unfoldable pub each_from : ℕ → ℕ → (ℕ → List Field) → List Field
each_from k zero fields = []
each_from k (suc n) fields = fields k ++ each_from (suc k) n fields

-- the fields of n records
abbrev pub each : ℕ → (ℕ → List Field) → List Field
each n fields = each_from 0 n fields

-- "count", "offset" and "total length, also the real length": the fields of a header with one count
unfoldable pub counted_fields : Header → List ℕ → List Field
counted_fields h image =
    field (length image) (leb h.bytes (length image))
    ∷ field 0 (leb h.least (field_at image 0))
    ∷ field 0 (leb (field_at image 0) h.most)
    ∷ field 2 (eqb (field_at image 2) h.bytes)
    ∷ field 4 (eqb (field_at image 4) (h.bytes + h.record_bytes * field_at image 0))
    ∷ field 4 (eqb (field_at image 4) (length image))
    ∷ []

-- "Fields are tested in order of position": an image is well formed when every field keeps its rule
unfoldable pub WellFormed : List Field → Type 0
WellFormed [] = Unit {0}
WellFormed (f ∷ fs) = (f.keeps ≡ true) × WellFormed fs

-- what the check of an image answers: `Ok tt` where every field keeps its rule, else a fault
abbrev pub Checked : Type 0
Checked = Result (Unit {0}) Fault

-- the fault at a byte
abbrev pub fault_at : ℕ → Checked
fault_at n = Err (record { byte = n })

-- "the first field that breaks its rule ends the whole search"
unfoldable pub first_fault : List Field → Checked
first_fault [] = Ok tt
first_fault (f ∷ fs) = let later = first_fault fs in cond f.keeps later (fault_at f.byte)

-- that first field stands at byte n: all before it keep their rules
pub record FirstAt (fs : List Field) (n : ℕ) : Type 0 where
  pub before : List Field
  pub fault : Field
  pub after : List Field
  pub split : fs ≡ before ++ fault ∷ after
  pub kept : WellFormed before
  pub broken : fault.keeps ≡ false
  pub place : n ≡ fault.byte

-- f k, f (k + 1), .. , n of them
unfoldable pub list_from {ℓ} : {A : Type ℓ} → ℕ → ℕ → (ℕ → A) → List A
list_from k zero f = []
list_from k (suc n) f = f k ∷ list_from (suc k) n f

-- what n records hold
abbrev pub list {ℓ} : {A : Type ℓ} → ℕ → (ℕ → A) → List A
list n f = list_from 0 n f
