-- Products of natural numbers.
use Rattle.std.proofs.Common.{◌≡◌, ℕ, ◌+◌, ◌-◌, ◌*◌, ◌≤◌, inl, inr, ap, arith}
use Rattle.std.proofs.lemmas.Bool.{cases_lt}
use Rattle.std.proofs.lemmas.Nat.{mul-le}
use Rattle.std.proofs.Math.Nat.{mul-le-mul_left}

-- four times a product is at most the square of the sum
four_products : (y z : ℕ) → 4 * (y * z) ≤ (y + z) * (y + z)
four_products y z =
    elim (cases_lt y z) [
      | inl less ↦ (let d : ℕ = z - y in let e : z ≡ y + d = omega arith in rw e (omega arith))
      | inr at_least ↦ (let d : ℕ = y - z in let e : y ≡ z + d = omega arith in rw e (omega arith))
    ]

-- the geometric mean is at most the arithmetic one
pub means : (x y z : ℕ) → x * x ≤ y * z → 2 * x ≤ y + z
means x y z h =
    elim (cases_lt (y + z) (2 * x)) [
      | inl below ↦ (let next : y + z + 1 ≤ 2 * x = omega arith in
          absurd (omega (arith, four_products y z, mul-le (y + z + 1) (y + z + 1) (2 * x) (2 * x) next next)))
      | inr at_least ↦ at_least
    ]

-- twice the product of two roots
crossed : (a b n p q s t : ℕ) → a * a * n ≤ p * s → b * b * n ≤ q * t → 2 * (a * b * n) ≤ p * t + q * s
crossed a b n p q s t h k =
    let both = mul-le (a * a * n) (b * b * n) (p * s) (q * t) h k in
    means (a * b * n) (p * t) (q * s) (omega (arith, both))

-- the inequality of Cauchy and Schwarz for two terms
pub cauchy : (a b n p q s t : ℕ) → a * a * n ≤ p * s → b * b * n ≤ q * t → (a + b) * (a + b) * n ≤ (p + q) * (s + t)
cauchy a b n p q s t h k = omega (arith, h, k, crossed a b n p q s t h k)

-- where a square is m and one less is left of it, one more may be taken with the rest
pub with_one_more : (c n m : ℕ) → c * ((n + 1) * (n + 1)) ≤ n * m → c * (n + 2) ≤ m
with_one_more c n m h =
    elim (cases_lt m (c * (n + 2))) [
      | inl below ↦ (let next : m + 1 ≤ c * (n + 2) = omega arith in
          let square : c * ((n + 1) * (n + 1)) ≡ n * (c * (n + 2)) + c = omega arith in
          let more : n * (m + 1) ≤ n * (c * (n + 2)) = mul-le-mul_left n next in
          let none : c ≡ 0 = omega (arith, h) in
          absurd (omega (arith, ap (λ k. k * (n + 2)) none)))
      | inr at_least ↦ at_least
    ]
