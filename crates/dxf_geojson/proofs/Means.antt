-- A weighted mean of 32-bit numbers fits in 32 bits, since it lies between the least and the greatest of them.
use Rattle.std.proofs.Common.{◌≡◌, ℕ, suc, ◌+◌, ◌*◌, ◌^◌, ◌<◌, ◌≤◌, ℤ, pos, negsuc, neg_ℤ, ◌+ℤ◌, ◌*ℤ◌, ◌≤ℤ◌, unsigned_abs, w32, w64, to_z, of_z, refl, ap, sym, subst, ◌∙◌, arith}
use Rattle.std.proofs.lemmas.Int.{ints, to_z-of_z, fits_signed_from_abs}
use Rattle.std.proofs.lemmas.Nat.{mul-le}
use Rattle.std.proofs.Math.IntN.{*ℤ-negsuc}
use Rattle.std.specs.Int.{int_div_euclid}
use Rattle.std.specs.Int.RustNames.{FitsSigned}
use Rattle.pt_core.specs.Floor.{floor_of}
use Rattle.pt_core.proofs.Sizes.{back, divided, product_most}

-- a number of 32 bits
pub record IsOf32Bits (c : ℤ) : Type 0 where
  pub least : negsuc 2147483647 ≤ℤ c
  pub most : c ≤ℤ pos 2147483647

pub weighted_most : (w : ℕ) (c : ℤ) → IsOf32Bits c → (pos w *ℤ c) ≤ℤ pos (w * 2147483647)
weighted_most w (pos n) s =
    let few : n ≤ 2147483647 = omega (arith, ints, s.most) in
    let most : w * n ≤ w * 2147483647 = mul-le w n w 2147483647 (omega arith) few in
    omega (arith, ints)
weighted_most w (negsuc n) s = rw (*ℤ-negsuc (pos w) n) (omega (arith, ints))

pub weighted_least : (w : ℕ) (c : ℤ) → IsOf32Bits c → neg_ℤ (pos (w * 2147483648)) ≤ℤ (pos w *ℤ c)
weighted_least w (pos n) s = omega (arith, ints)
weighted_least w (negsuc n) s =
    let few : suc n ≤ 2147483648 = omega (arith, ints, s.least) in
    let most : w * suc n ≤ w * 2147483648 = mul-le w (suc n) w 2147483648 (omega arith) few in
    rw (*ℤ-negsuc (pos w) n) (omega (arith, ints))

pub weighted_fits : (w : ℕ) (c f g : ℤ) → w ≤ 512 → IsOf32Bits c → f ≡ pos w → g ≡ c → FitsSigned w64 (to_z w64 (of_z w64 f) *ℤ to_z w64 (of_z w64 g))
weighted_fits w c f g few s ef eg =
    let short : unsigned_abs c ≤ 2 ^ 31 = omega (arith, ints, s.least, s.most) in
    let most : unsigned_abs (pos w *ℤ c) ≤ 512 * 2 ^ 31 = product_most (pos w) c 512 (2 ^ 31) few short in
    rw (ef, eg, back (pos w) (omega arith), back c (omega arith)) (fits_signed_from_abs w64 (pos w *ℤ c) (omega arith))

pub weighted_back : (w : ℕ) (c f g : ℤ) → w ≤ 512 → IsOf32Bits c → f ≡ pos w → g ≡ c
    → to_z w64 (of_z w64 (to_z w64 (of_z w64 f) *ℤ to_z w64 (of_z w64 g))) ≡ pos w *ℤ c
weighted_back w c f g few s ef eg =
    let short : unsigned_abs c ≤ 2 ^ 31 = omega (arith, ints, s.least, s.most) in
    let most : unsigned_abs (pos w *ℤ c) ≤ 512 * 2 ^ 31 = product_most (pos w) c 512 (2 ^ 31) few short in
    rw (ef, eg, back (pos w) (omega arith), back c (omega arith), back (pos w *ℤ c) (omega arith)) refl

-- a number of 32 bits, times its weight
pub record IsWeighted (w : ℕ) (c : ℤ) : Type 0 where
  pub least : neg_ℤ (pos (w * 2147483648)) ≤ℤ c
  pub most : c ≤ℤ pos (w * 2147483647)

pub sum_two : (i j : ℕ) (a b : ℤ) → IsWeighted i a → IsWeighted j b → IsWeighted (i + j) (a +ℤ b)
sum_two i j a b p q = record {
  least = omega (arith, ints, p.least, q.least);
  most = omega (arith, ints, p.most, q.most);
}

pub size_of : (w : ℕ) (c : ℤ) → w ≤ 512 → IsWeighted w c → unsigned_abs c < 2 ^ 63
size_of w c few p = omega (arith, ints, p.least, p.most)

pub fits_long : (w : ℕ) (c : ℤ) → w ≤ 512 → IsWeighted w c → FitsSigned w64 c
fits_long w c few p = fits_signed_from_abs w64 c (size_of w c few p)

pub long_back : (w : ℕ) (c : ℤ) → w ≤ 512 → IsWeighted w c → to_z w64 (of_z w64 c) ≡ c
long_back w c few p = back c (size_of w c few p)

-- the mean of numbers of 32 bits has 32 bits
pub mean_short : (c : ℤ) → IsWeighted 512 c → IsOf32Bits (floor_of c 512)
mean_short (pos n) p = record {
  least = omega (arith, ints, p.least, p.most);
  most = omega (arith, ints, p.least, p.most);
}
mean_short (negsuc n) p = record {
  least = omega (arith, ints, p.least, p.most);
  most = omega (arith, ints, p.least, p.most);
}

pub short_fits : (c : ℤ) → IsOf32Bits c → FitsSigned w32 c
short_fits (pos n) s = record { sfits = omega (arith, ints, s.most) }
short_fits (negsuc n) s = record { sfits = omega (arith, ints, s.least) }

pub short_of : (c : ℤ) → FitsSigned w32 c → IsOf32Bits c
short_of (pos n) f = record { least = omega (arith, ints, f.sfits); most = omega (arith, ints, f.sfits) }
short_of (negsuc n) f = record { least = omega (arith, ints, f.sfits); most = omega (arith, ints, f.sfits) }

pub sum_three : (i j k : ℕ) (a b c : ℤ) → IsWeighted i a → IsWeighted j b → IsWeighted k c → IsWeighted (i + j + k) ((a +ℤ b) +ℤ c)
sum_three i j k a b c p q r = sum_two (i + j) k (a +ℤ b) c (sum_two i j a b p q) r

pub three_back : (i j k : ℕ) (a b c : ℤ) → i + j + k ≤ 512 → IsWeighted i a → IsWeighted j b → IsWeighted k c
    → to_z w64 (of_z w64 (to_z w64 (of_z w64 a) +ℤ to_z w64 (of_z w64 b))) +ℤ to_z w64 (of_z w64 c) ≡ (a +ℤ b) +ℤ c
three_back i j k a b c few p q r =
    let two = sum_two i j a b p q in
    rw (
      long_back i a (omega arith) p,
      long_back j b (omega arith) q,
      long_back k c (omega arith) r,
      long_back (i + j) (a +ℤ b) (omega arith) two,
    )
    refl

pub three_fits : (i j k : ℕ) (a b c : ℤ) → i + j + k ≤ 512 → IsWeighted i a → IsWeighted j b → IsWeighted k c
    → FitsSigned w64 (to_z w64 (of_z w64 (to_z w64 (of_z w64 a) +ℤ to_z w64 (of_z w64 b))) +ℤ to_z w64 (of_z w64 c))
three_fits i j k a b c few p q r =
    rw (three_back i j k a b c few p q r) (fits_long (i + j + k) ((a +ℤ b) +ℤ c) few (sum_three i j k a b c p q r))

-- four weighted numbers; the weights add up to 512
pub record AreWeighted (i j k l : ℕ) (a b c d : ℤ) : Type 0 where
  pub all : i + j + k + l ≡ 512
  pub first : IsWeighted i a
  pub second : IsWeighted j b
  pub third : IsWeighted k c
  pub fourth : IsWeighted l d

sum_four : (i j k l : ℕ) (a b c d : ℤ) → AreWeighted i j k l a b c d → IsWeighted 512 (((a +ℤ b) +ℤ c) +ℤ d)
sum_four i j k l a b c d p =
    let P : ℕ → Type 0 = λ n. IsWeighted n (((a +ℤ b) +ℤ c) +ℤ d) in
    subst P p.all (sum_two (i + j + k) l ((a +ℤ b) +ℤ c) d (sum_three i j k a b c p.first p.second p.third) p.fourth)

four_back : (i j k l : ℕ) (a b c d : ℤ) → AreWeighted i j k l a b c d
    → to_z w64 (of_z w64 (to_z w64 (of_z w64 (to_z w64 (of_z w64 a) +ℤ to_z w64 (of_z w64 b))) +ℤ to_z w64 (of_z w64 c))) +ℤ to_z w64 (of_z w64 d)
    ≡ ((a +ℤ b) +ℤ c) +ℤ d
four_back i j k l a b c d p =
    let all : i + j + k + l ≡ 512 = p.all in
    rw (
      three_back i j k a b c (omega arith) p.first p.second p.third,
      long_back (i + j + k) ((a +ℤ b) +ℤ c) (omega arith) (sum_three i j k a b c p.first p.second p.third),
      long_back l d (omega arith) p.fourth,
    )
    refl

pub four_fits : (i j k l : ℕ) (a b c d : ℤ) → AreWeighted i j k l a b c d
    → FitsSigned w64 (to_z w64 (of_z w64 (to_z w64 (of_z w64 (to_z w64 (of_z w64 a) +ℤ to_z w64 (of_z w64 b))) +ℤ to_z w64 (of_z w64 c))) +ℤ to_z w64 (of_z w64 d))
four_fits i j k l a b c d p =
    rw (four_back i j k l a b c d p) (fits_long 512 (((a +ℤ b) +ℤ c) +ℤ d) (omega arith) (sum_four i j k l a b c d p))

-- the quotient that the code computes
pub quotient_is : (i j k l : ℕ) (a b c d q : ℤ) → AreWeighted i j k l a b c d
    → q ≡ int_div_euclid (to_z w64 (of_z w64 (to_z w64 (of_z w64 (to_z w64 (of_z w64 (to_z w64 (of_z w64 a) +ℤ to_z w64 (of_z w64 b))) +ℤ to_z w64 (of_z w64 c))) +ℤ to_z w64 (of_z w64 d)))) (pos 512)
    → q ≡ floor_of (((a +ℤ b) +ℤ c) +ℤ d) 512
quotient_is i j k l a b c d q p e =
    e
    ∙ ap (λ v. int_div_euclid (to_z w64 (of_z w64 v)) (pos 512)) (four_back i j k l a b c d p)
    ∙ ap (λ v. int_div_euclid v (pos 512)) (long_back 512 (((a +ℤ b) +ℤ c) +ℤ d) (omega arith) (sum_four i j k l a b c d p))
    ∙ divided (((a +ℤ b) +ℤ c) +ℤ d) 512

long_quotient : (m q : ℤ) → IsOf32Bits m → q ≡ m → to_z w64 (of_z w64 q) ≡ m
long_quotient m q s e = rw e (back m (omega (arith, ints, s.least, s.most)))

-- the quotient fits in 32 bits
pub quotient_fits : (i j k l : ℕ) (a b c d q : ℤ) → AreWeighted i j k l a b c d → q ≡ floor_of (((a +ℤ b) +ℤ c) +ℤ d) 512
    → FitsSigned w32 (to_z w64 (of_z w64 q))
quotient_fits i j k l a b c d q p e =
    let m : ℤ = floor_of (((a +ℤ b) +ℤ c) +ℤ d) 512 in
    let short : IsOf32Bits m = mean_short (((a +ℤ b) +ℤ c) +ℤ d) (sum_four i j k l a b c d p) in
    let P : ℤ → Type 0 = FitsSigned w32 in
    subst P (sym (long_quotient m q short e)) (short_fits m short)

pub quotient_back : (i j k l : ℕ) (a b c d q : ℤ) → AreWeighted i j k l a b c d → q ≡ floor_of (((a +ℤ b) +ℤ c) +ℤ d) 512
    → to_z w32 (of_z w32 (to_z w64 (of_z w64 q))) ≡ floor_of (((a +ℤ b) +ℤ c) +ℤ d) 512
quotient_back i j k l a b c d q p e =
    let m : ℤ = floor_of (((a +ℤ b) +ℤ c) +ℤ d) 512 in
    let short : IsOf32Bits m = mean_short (((a +ℤ b) +ℤ c) +ℤ d) (sum_four i j k l a b c d p) in
    ap (λ v. to_z w32 (of_z w32 v)) (long_quotient m q short e) ∙ to_z-of_z w32 m (short_fits m short)

-- sums of equal numbers are equal
pub same_sum : (a b c d e f g h : ℤ) → a ≡ e → b ≡ f → c ≡ g → d ≡ h → ((a +ℤ b) +ℤ c) +ℤ d ≡ ((e +ℤ f) +ℤ g) +ℤ h
same_sum a b c d e f g h p q r s = cc
