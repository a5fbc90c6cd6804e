-- Sums and products of 64 bits, of which whatever doesn't fit is cut off.
use Rattle.std.proofs.Common.{◌≡◌, ℕ, ◌+◌, ◌-◌, ◌*◌, ◌%◌, ◌<◌, ◌^◌, ℤ, ◌+ℤ◌, ◌-ℤ◌, ◌*ℤ◌, neg_ℤ, w64, to_z, of_z, sym, ap, ◌∙◌, arith}
use Rattle.std.proofs.Math.Nat.{mod-lt}
use Rattle.std.proofs.lemmas.Int.{ints, to_z-of_z, int_wrap_fits, int_wrap-add_left, int_wrap-add_right, int_wrap-sub_right, int_wrap-mul_left, int_wrap-mul_right, wrapping_add-bits, wrapping_sub-bits, wrapping_mul-bits}
use Rattle.std.specs.Int.{int_wrap}
use Rattle.std.specs.Int.RustNames.{FitsSigned}

-- these are the bits of as much of a number as fits
pub record AreBitsOf (bits : ℕ) (z : ℤ) : Type 0 where
  pub few : bits < 2 ^ 64
  pub wrapped : to_z w64 bits ≡ int_wrap w64 z

pub whole : (z : ℤ) → FitsSigned w64 z → AreBitsOf (of_z w64 z) z
whole z fits = record { few = omega (arith, ints); wrapped = to_z-of_z w64 z fits ∙ sym (int_wrap_fits w64 z fits) }

pub sum : (m n : ℕ) (a b : ℤ) → AreBitsOf m a → AreBitsOf n b → AreBitsOf ((m + n) % 2 ^ 64) (a +ℤ b)
sum m n a b p q = record {
  few = mod-lt (m + n) (omega arith);
  wrapped = wrapping_add-bits w64 m n p.few q.few
      ∙ rw (p.wrapped, q.wrapped) (int_wrap-add_left w64 a (int_wrap w64 b) ∙ int_wrap-add_right w64 a b);
}

less_left : (a b : ℤ) → int_wrap w64 (int_wrap w64 a -ℤ b) ≡ int_wrap w64 (a -ℤ b)
less_left a b =
    let from : (z : ℤ) → z -ℤ b ≡ z +ℤ neg_ℤ b = λ z. omega (arith, ints) in
    ap (int_wrap w64) (from (int_wrap w64 a)) ∙ int_wrap-add_left w64 a (neg_ℤ b) ∙ sym (ap (int_wrap w64) (from a))

pub difference : (m n : ℕ) (a b : ℤ) → AreBitsOf m a → AreBitsOf n b → AreBitsOf ((m + (2 ^ 64 - n)) % 2 ^ 64) (a -ℤ b)
difference m n a b p q = record {
  few = mod-lt (m + (2 ^ 64 - n)) (omega arith);
  wrapped = wrapping_sub-bits w64 m n p.few q.few
      ∙ rw (p.wrapped, q.wrapped) (int_wrap-sub_right w64 (int_wrap w64 a) b ∙ less_left a b);
}

pub product : (m n : ℕ) (a b : ℤ) → AreBitsOf m a → AreBitsOf n b → AreBitsOf (m * n % 2 ^ 64) (a *ℤ b)
product m n a b p q = record {
  few = mod-lt (m * n) (omega arith);
  wrapped = wrapping_mul-bits w64 m n p.few q.few
      ∙ rw (p.wrapped, q.wrapped) (int_wrap-mul_left w64 a (int_wrap w64 b) ∙ int_wrap-mul_right w64 a b);
}
