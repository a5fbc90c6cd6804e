-- Numbers that fit their types.
use Rattle.std.proofs.Common.{◌≡◌, ℕ, ◌≤◌, ◌^◌, ℤ, ◌-ℤ◌, ◌*ℤ◌, unsigned_abs, w32, w64, to_z, of_z, arith}
use Rattle.std.proofs.lemmas.Int.{ints}
use Rattle.corner_smooth.specs.Corner.{IsInReach}
use Rattle.pt_core.proofs.Sizes.{back}

-- a number is passed as it is
pub coordinate_back : (z : ℤ) → IsInReach z → to_z w32 (of_z w32 z) ≡ z
coordinate_back z is =
    let low = is.low in
    let high = is.high in
    omega (arith, ints)

pub reach_passed : (z : ℤ) → IsInReach z → IsInReach (to_z w32 (of_z w32 z))
reach_passed z is = rw (coordinate_back z is) is

pub difference_passed : (z : ℤ) → unsigned_abs z ≤ 2 ^ 25 → unsigned_abs (to_z w64 (of_z w64 z)) ≤ 2 ^ 25
difference_passed z h = rw (back z (omega arith)) h

-- the value of a difference of coordinates
pub difference_is : (from to d : ℤ) → IsInReach from → IsInReach to → d ≡ to_z w32 (of_z w32 to) -ℤ to_z w32 (of_z w32 from) → d ≡ to -ℤ from
difference_is from to d f t e =
    let from_low = f.low in
    let from_high = f.high in
    let to_low = t.low in
    let to_high = t.high in
    omega (arith, ints)

-- the value of a product of two such differences
pub product_is : (p a b a' b' : ℤ) → unsigned_abs a ≤ 2 ^ 25 → unsigned_abs b ≤ 2 ^ 25 → a ≡ a' → b ≡ b'
    → p ≡ to_z w64 (of_z w64 a) *ℤ to_z w64 (of_z w64 b) → p ≡ a' *ℤ b'
product_is p a b a' b' h k e f g =
    let ea = back a (omega arith) in
    let eb = back b (omega arith) in
    cc

-- the size of a difference of two such products
pub size_is : (p q p' q' : ℤ) (r : ℕ) → unsigned_abs p ≤ 2 ^ 50 → unsigned_abs q ≤ 2 ^ 50 → p ≡ p' → q ≡ q'
    → r ≡ unsigned_abs (to_z w64 (of_z w64 (to_z w64 (of_z w64 p) -ℤ to_z w64 (of_z w64 q)))) → r ≡ unsigned_abs (p' -ℤ q')
size_is p q p' q' r h k e f g =
    let ep = back p (omega arith) in
    let eq = back q (omega arith) in
    let less = back (p -ℤ q) (omega (arith, ints)) in
    cc

pub size_most : (p q : ℤ) → unsigned_abs p ≤ 2 ^ 50 → unsigned_abs q ≤ 2 ^ 50 → unsigned_abs (p -ℤ q) ≤ 2 ^ 51
size_most p q h k = omega (arith, ints)
