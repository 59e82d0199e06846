-- What the calls under a C name give: the answer of the function below each as one number of 64 bits.
use Rattle.std.specs.Prelude.{◌≡◌, List, ℕ, ◌%◌, ◌/◌}
use Rattle.rules.specs.Walk.{Answer}
use Rattle.fields.specs.Fields.{Checked}
use Rattle.fields.specs.Answers.{checked_number, checked_place}
use Rattle.fields.specs.Images.{Images}
use Rattle.packers.specs.Answers.{Packed}
use Rattle.packers.specs.Answers.{packed_number, packed_place, packed_length}
use Rattle.packers.specs.Packing.{TreePacked, TokensPacked}
use Rattle.judge.specs.Judged.{Lists, Judged}

-- what a result says, taken out of it as include/pravisondo.h does: bits 0 to 7 are the number, 8 to 31 the length and
-- 32 to 63 the place
pub record Says (r n l p : ℕ) : Type 0 where
  pub number : r % 256 ≡ n
  pub length : r / 256 % 16777216 ≡ l
  pub place : r / 4294967296 ≡ p

-- number and place, with no length
abbrev pub SaysAnswer : Answer → ℕ → Type 0
SaysAnswer a r = Says r a.number 0 a.place

-- the check of an image, whose refusal has a number; no length
abbrev pub SaysChecked : ℕ → Checked → ℕ → Type 0
SaysChecked refusal c r = Says r (checked_number refusal c) 0 (checked_place c)

-- what a packer answers
abbrev pub SaysPacked : Packed → ℕ → Type 0
SaysPacked p r = Says r (packed_number p) (packed_length p) (packed_place p)

-- the check: the answer that it gives, with no length, and the lists as it leaves them
pub record CheckCalled (s : Images) (old : Lists) (r : ℕ) (new : Lists) : Type 0 where
  pub answer : Answer
  pub judged : Judged s old answer new
  pub result : SaysAnswer answer r

-- the packers: what they answer, and the output as they leave it
pub record TreeCalled (productions out : List ℕ) (r : ℕ) (after : List ℕ) : Type 0 where
  pub answer : Packed
  pub packed : TreePacked productions out answer after
  pub result : SaysPacked answer r

pub record TokensCalled (terminals columns out : List ℕ) (r : ℕ) (after : List ℕ) : Type 0 where
  pub answer : Packed
  pub packed : TokensPacked terminals columns out answer after
  pub result : SaysPacked answer r
