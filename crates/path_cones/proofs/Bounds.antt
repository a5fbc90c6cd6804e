-- Products of small numbers.
use Rattle.std.proofs.Common.{◌≡◌, ℕ, zero, suc, ◌*◌, ◌≤◌, ◌^◌, ℤ, pos, negsuc, ◌+ℤ◌, ◌-ℤ◌, ◌*ℤ◌, neg_ℤ, unsigned_abs, FitsSigned, w64, to_z, of_z, ◌∙◌, arith}
use Rattle.std.proofs.lemmas.Int.{ints, unsigned_abs-mul, fits_signed_from_abs}
use Rattle.pt_core.proofs.Sizes.{back}
use Rattle.path_cones.specs.Inner.Cones.{IsShort, lead_of, low_of, high_of}
use Rattle.pt_core.specs.OnPage.{IsOnPage}
use Rattle.pt_core.specs.declared.point.Point.{Point}
use Rattle.path_cones.specs.Cones.{cross_of}
use Rattle.path_cones.specs.Straight.{vector_of}
use Rattle.path_cones.specs.declared.vector.Vector.{Vector}

le_mul : (a b m n : ℕ) → a ≤ m → b ≤ n → a * b ≤ m * n
le_mul a b m n h k = grind arith

pub product_small : (a b : ℤ) → unsigned_abs a ≤ 65536 → unsigned_abs b ≤ 65536
    → unsigned_abs (a *ℤ b) ≤ 4294967296
product_small a b h k =
    let e = unsigned_abs-mul a b in
    let l = le_mul (unsigned_abs a) (unsigned_abs b) 65536 65536 h k in
    omega arith

-- a short number of 64 bits is passed as it is
pub short_back : (z : ℤ) → unsigned_abs z ≤ 65536 → to_z w64 (of_z w64 z) ≡ z
short_back z h = back z (omega arith)

pub shorter_back : (z : ℤ) → unsigned_abs z ≤ 65535 → to_z w64 (of_z w64 z) ≡ z
shorter_back z h = back z (omega arith)

pub short_passed : (z : ℤ) → unsigned_abs z ≤ 65536 → unsigned_abs (to_z w64 (of_z w64 z)) ≤ 65536
short_passed z h = rw (short_back z h) h

pub shorter_passed : (z : ℤ) → unsigned_abs z ≤ 65535 → unsigned_abs (to_z w64 (of_z w64 z)) ≤ 65535
shorter_passed z h = rw (shorter_back z h) h

-- the product, the difference and the sum of two of them fit
pub product_fits : (a b : ℤ) → unsigned_abs a ≤ 65536 → unsigned_abs b ≤ 65536 → FitsSigned w64 (to_z w64 (of_z w64 a) *ℤ to_z w64 (of_z w64 b))
product_fits a b h k =
    rw (short_back a h, short_back b k) (fits_signed_from_abs w64 (a *ℤ b) (let most = product_small a b h k in omega arith))

pub product_back : (a b : ℤ) → unsigned_abs a ≤ 65536 → unsigned_abs b ≤ 65536
    → to_z w64 (of_z w64 (to_z w64 (of_z w64 a) *ℤ to_z w64 (of_z w64 b))) ≡ a *ℤ b
product_back a b h k = rw (short_back a h, short_back b k) (back (a *ℤ b) (let most = product_small a b h k in omega arith))

pub difference_fits : (a b : ℤ) → unsigned_abs a ≤ 2 ^ 40 → unsigned_abs b ≤ 2 ^ 40 → FitsSigned w64 (to_z w64 (of_z w64 a) -ℤ to_z w64 (of_z w64 b))
difference_fits a b h k = rw (back a (omega arith), back b (omega arith)) (fits_signed_from_abs w64 (a -ℤ b) (omega (arith, ints)))

pub difference_back : (a b : ℤ) → unsigned_abs a ≤ 2 ^ 40 → unsigned_abs b ≤ 2 ^ 40
    → to_z w64 (of_z w64 (to_z w64 (of_z w64 a) -ℤ to_z w64 (of_z w64 b))) ≡ a -ℤ b
difference_back a b h k = rw (back a (omega arith), back b (omega arith)) (back (a -ℤ b) (omega (arith, ints)))

pub sum_fits : (a b : ℤ) → unsigned_abs a ≤ 2 ^ 40 → unsigned_abs b ≤ 2 ^ 40 → FitsSigned w64 (to_z w64 (of_z w64 a) +ℤ to_z w64 (of_z w64 b))
sum_fits a b h k = rw (back a (omega arith), back b (omega arith)) (fits_signed_from_abs w64 (a +ℤ b) (omega (arith, ints)))

pub same_vector : (x y x' y' : ℤ) → x ≡ x' → y ≡ y'
    → ◌≡◌ {A = Vector} (record { x = x; y = y }) (record { x = x'; y = y' })
same_vector x y x' y' e f = cc

pub lead_small : (u v : ℤ) → unsigned_abs (lead_of u v) ≤ 1
lead_small (pos (suc u)) v = omega arith
lead_small (pos zero) (pos (suc v)) = omega arith
lead_small (pos zero) (pos zero) = omega arith
lead_small (pos zero) (negsuc v) = omega arith
lead_small (negsuc u) v = omega arith

-- a coordinate of a corner
pub added : (x r l : ℤ) → r ≡ l → unsigned_abs x ≤ 65535 → unsigned_abs l ≤ 1
    → to_z w64 (of_z w64 (to_z w64 (of_z w64 x) +ℤ to_z w64 (of_z w64 r))) ≡ x +ℤ l
added x r l e h k = omega (arith, ints)

pub minus : (z : ℤ) → pos 0 -ℤ z ≡ neg_ℤ z
minus z = omega (arith, ints)

-- a number with the other sign
less_than_none : (z : ℤ) → unsigned_abs (pos 0 -ℤ z) ≡ unsigned_abs z
less_than_none z = omega (arith, ints)

pub minus_fits : (z : ℤ) → unsigned_abs z ≤ 65535 → FitsSigned w64 (pos 0 -ℤ to_z w64 (of_z w64 z))
minus_fits z h = rw (shorter_back z h) (fits_signed_from_abs w64 (pos 0 -ℤ z) (let size = less_than_none z in omega arith))

pub minus_back : (z : ℤ) → unsigned_abs z ≤ 65535 → to_z w64 (of_z w64 (pos 0 -ℤ to_z w64 (of_z w64 z))) ≡ neg_ℤ z
minus_back z h = rw (shorter_back z h) (back (pos 0 -ℤ z) (let size = less_than_none z in omega arith) ∙ minus z)

pub minus_passed : (z : ℤ) → unsigned_abs z ≤ 65535 → unsigned_abs (to_z w64 (of_z w64 (pos 0 -ℤ to_z w64 (of_z w64 z)))) ≤ 65535
minus_passed z h = rw (minus_back z h) (omega (arith, ints))

-- a coordinate of a corner fits
pub corner_fits : (x r u v : ℤ) → unsigned_abs x ≤ 65535 → r ≡ lead_of u v → FitsSigned w64 (to_z w64 (of_z w64 x) +ℤ to_z w64 (of_z w64 r))
corner_fits x r u v h e = let small : unsigned_abs r ≤ 1 = rw e (lead_small u v) in sum_fits x r (omega arith) (omega arith)

grown : (z l : ℤ) → unsigned_abs z ≤ 65535 → unsigned_abs l ≤ 1 → unsigned_abs (z +ℤ l) ≤ 65536
grown z l h k = omega (arith, ints)

pub low_short : (way : Vector) → IsShort 65535 way → IsShort 65536 (low_of way)
low_short way h = record {
  x = grown way.x _ h.x (lead_small way.y (neg_ℤ way.x));
  y = grown way.y _ h.y (lead_small (neg_ℤ way.x) (neg_ℤ way.y));
}

pub high_short : (way : Vector) → IsShort 65535 way → IsShort 65536 (high_of way)
high_short way h = record {
  x = grown way.x _ h.x (lead_small (neg_ℤ way.y) (neg_ℤ way.x));
  y = grown way.y _ h.y (lead_small way.x (neg_ℤ way.y));
}

-- the way between two points on a page
pub way_short : (from to : Point) → IsOnPage from → IsOnPage to → IsShort 65535 (vector_of from to)
way_short from to f t = record {
  x = omega (arith, ints, f.left, f.right, t.left, t.right);
  y = omega (arith, ints, f.bottom, f.top, t.bottom, t.top);
}

-- a cross product of short ways
pub crossed : (a b : Vector) (z : ℤ) → IsShort 65535 a → IsShort 65535 b → z ≡ cross_of a b → unsigned_abs z ≤ 8589934592
crossed a b z short_a short_b is =
    let ax = short_a.x in
    let ay = short_a.y in
    let bx = short_b.x in
    let by = short_b.y in
    let p = product_small a.x b.y (omega arith) (omega arith) in
    let q = product_small a.y b.x (omega arith) (omega arith) in
    omega (arith, ints)
