-- Numbers times the signs of a quarter of the plane.
use Rattle.std.proofs.Common.{◌≡◌, ℕ, refl, inl, inr, ◌≤◌, ℤ, ◌+ℤ◌, ◌*ℤ◌, unsigned_abs, w64, to_z, of_z, sym, subst, ◌∙◌, arith}
use Rattle.std.proofs.lemmas.Int.{ints}
use Rattle.path_cones.specs.Inner.Wedges.{IsSign}
use Rattle.path_cones.proofs.Bounds.{short_back}

pub sign_small : (s : ℤ) → IsSign s → unsigned_abs s ≤ 1
sign_small s (inl e) = let P : ℤ → Type 0 = λ z. unsigned_abs z ≤ 1 in subst P (sym e) (omega arith)
sign_small s (inr e) = let P : ℤ → Type 0 = λ z. unsigned_abs z ≤ 1 in subst P (sym e) (omega arith)

-- a sign is passed as it is
pub sign_back : (s : ℤ) → IsSign s → to_z w64 (of_z w64 s) ≡ s
sign_back s h = let k = sign_small s h in short_back s (omega arith)

pub sign_passed : (s : ℤ) → IsSign s → IsSign (to_z w64 (of_z w64 s))
sign_passed s h = rw (sign_back s h) h

-- a number times a sign
pub sign_most : (s z : ℤ) (n : ℕ) → IsSign s → unsigned_abs z ≤ n → unsigned_abs (s *ℤ z) ≤ n
sign_most s z n (inl e) h = let P : ℤ → Type 0 = λ u. unsigned_abs (u *ℤ z) ≤ n in subst P (sym e) (omega (arith, ints))
sign_most s z n (inr e) h = let P : ℤ → Type 0 = λ u. unsigned_abs (u *ℤ z) ≤ n in subst P (sym e) (omega (arith, ints))

pub signed_back : (r s z : ℤ) → IsSign s → unsigned_abs z ≤ 65536 → r ≡ to_z w64 (of_z w64 s) *ℤ to_z w64 (of_z w64 z) → r ≡ s *ℤ z
signed_back r s z sign h e = e ∙ rw (sign_back s sign, short_back z h) refl

pub sum_most : (a b : ℤ) → unsigned_abs a ≤ 65536 → unsigned_abs b ≤ 65536
    → unsigned_abs (to_z w64 (of_z w64 (to_z w64 (of_z w64 a) +ℤ to_z w64 (of_z w64 b)))) ≤ 131072
sum_most a b h k = omega (arith, ints)

pub sum_is : (a b a' b' : ℤ) → a ≡ a' → b ≡ b' → unsigned_abs a ≤ 65536 → unsigned_abs b ≤ 65536
    → to_z w64 (of_z w64 (to_z w64 (of_z w64 a) +ℤ to_z w64 (of_z w64 b))) ≡ a' +ℤ b'
sum_is a b a' b' e f h k = omega (arith, ints)
