-- Reading digits one after another gives their number.
use Rattle.std.proofs.Common.{◌≡◌, refl, ℕ, ◌+◌, ◌-◌, ◌*◌, true, false, min, List, [], ◌∷◌, ◌++◌, arith}
use Rattle.bitmap_input.specs.Cut.{Kind}
use Rattle.bitmap_input.specs.Cut.FileEnd.{Refused}
use Rattle.bitmap_input.specs.Cut.Cut.{Stops}
use Rattle.bitmap_input.specs.PageParts.{is_digit, value, number}
use Rattle.bitmap_input.specs.Inner.ByteRuns.{cap, IsCapped, digits}

-- one more digit
pub value_more : (n : ℕ) (ds : List ℕ) (d : ℕ) → value n (ds ++ d ∷ []) ≡ 10 * value n ds + (d - 48)
value_more n [] d = refl
value_more n (c ∷ ds) d = value_more (10 * n + (c - 48)) ds d

pub capped_more : (x y v k : ℕ) → IsCapped x v → y ≡ min (10 * x + k) cap → IsCapped y (10 * v + k)
capped_more x y v k a b = omega arith

-- a number that begins with a digit is its run of digits
pub number_at : (kind : Kind) (b : ℕ) (xs : List ℕ) → is_digit b ≡ true → number kind (b ∷ xs) ≡ digits (b ∷ xs)
number_at kind b xs test = rw test refl

-- no number begins with a byte that isn't a digit
pub no_number_at : (kind : Kind) (b : ℕ) (xs : List ℕ) → is_digit b ≡ false → number kind (b ∷ xs) ≡ Stops false (Refused kind)
no_number_at kind b xs test = rw test refl
