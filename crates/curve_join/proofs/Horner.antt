-- A coordinate of a curve is the value of its polynomial, and Horner's rule computes it in 64 bits.
use Rattle.std.proofs.Common.{◌≡◌, ℕ, ◌+◌, ◌-◌, ◌*◌, ◌<◌, ◌≤◌, ◌^◌, ℤ, pos, ◌+ℤ◌, ◌-ℤ◌, ◌*ℤ◌, w64, refl, ap, subst, to_z, of_z, w32, ◌∙◌, arith}
use Rattle.std.proofs.lemmas.Int.{ints, fits_signed_from_abs}
use Rattle.std.specs.Prelude.{unsigned_abs}
use Rattle.std.specs.Int.RustNames.{FitsSigned}
use Rattle.pt_core.proofs.Terms.{Term, same_value}
use Rattle.pt_core.proofs.Terms.Term.{num, plus, less, times}
use Rattle.pt_core.specs.Floor.{floor_of}
use Rattle.curve_join.specs.Cubic.{cubic}
use Rattle.curve_join.specs.Inner.Powers.{ArePowersOf, AreSmallPowers, power_sum}
use Rattle.curve_join.specs.declared.stand_in.Powers.{Powers}
use Rattle.curve_join.proofs.Widths.{again, back, product_most, size_back, sum_most}
use Rattle.curve_join.proofs.WeightedSums.{WeightedTerm, four_most, part_most, short_back, weights}

-- Horner's rule, multiplied out
module _ (u : ℕ) where
  one_step : (x s : ℤ) → (x *ℤ pos u +ℤ s) *ℤ pos u ≡ pos (u * u) *ℤ x +ℤ pos u *ℤ s
  one_step x s =
      same_value (times (plus (times (num x) (num (pos u))) (num s)) (num (pos u)))
      (plus (times (num (pos (u * u))) (num x)) (times (num (pos u)) (num s))) (omega arith)

  two_steps : (x s l : ℤ) → ((pos (u * u) *ℤ x +ℤ pos u *ℤ s) +ℤ l) *ℤ pos u ≡ (pos (u * u * u) *ℤ x +ℤ pos (u * u) *ℤ s) +ℤ pos u *ℤ l
  two_steps x s l =
      same_value (times (plus (plus (times (num (pos (u * u))) (num x)) (times (num (pos u)) (num s))) (num l)) (num (pos u)))
      (plus (plus (times (num (pos (u * u * u))) (num x)) (times (num (pos (u * u))) (num s))) (times (num (pos u)) (num l))) (omega arith)

  expanded : (x s l o : ℤ) → ((x *ℤ pos u +ℤ s) *ℤ pos u +ℤ l) *ℤ pos u +ℤ o
      ≡ ((pos (u * u * u) *ℤ x +ℤ pos (u * u) *ℤ s) +ℤ pos u *ℤ l) +ℤ o
  expanded x s l o = ap (λ z. (z +ℤ l) *ℤ pos u +ℤ o) (one_step x s) ∙ ap (λ z. z +ℤ o) (two_steps x s l)

regrouped : (n m : ℕ) (z : ℤ) → pos m *ℤ (pos n *ℤ z) ≡ pos (n * m) *ℤ z
regrouped n m z = same_value (times (num (pos m)) (times (num (pos n)) (num z))) (times (num (pos (n * m))) (num z)) (omega arith)

-- the polynomial is the weighted sum of the coordinates of the curve's four points, if u + r is 64
abbrev way_term : ℤ → ℤ → Term
way_term from to = less (num to) (num from)

abbrev part_term : ℕ → Term → Term
part_term n t = times (num (pos n)) t

abbrev sum_of_parts : Term → Term → Term → Term → Term
sum_of_parts s t v w = plus (plus (plus s t) v) w

polynomial_is : (u r : ℕ) (a b c d : ℤ) → ((pos (u * u * u) *ℤ ((d -ℤ c -ℤ (c -ℤ b)) -ℤ (c -ℤ b -ℤ (b -ℤ a))) +ℤ pos (3 * (u + r) * (u * u)) *ℤ (c -ℤ b -ℤ (b -ℤ a)))
    +ℤ pos (3 * ((u + r) * (u + r)) * u) *ℤ (b -ℤ a)) +ℤ pos ((u + r) * (u + r) * (u + r)) *ℤ a
    ≡ ((pos (r * r * r) *ℤ a +ℤ pos (3 * u * r * r) *ℤ b) +ℤ pos (3 * u * u * r) *ℤ c) +ℤ pos (u * u * u) *ℤ d
polynomial_is u r a b c d =
    same_value
    (sum_of_parts (part_term (u * u * u) (less (less (way_term c d) (way_term b c)) (less (way_term b c) (way_term a b))))
    (part_term (3 * (u + r) * (u * u)) (less (way_term b c) (way_term a b)))
    (part_term (3 * ((u + r) * (u + r)) * u) (way_term a b))
    (part_term ((u + r) * (u + r) * (u + r)) (num a)))
    (sum_of_parts (part_term (r * r * r) (num a)) (part_term (3 * u * r * r) (num b)) (part_term (3 * u * u * r) (num c)) (part_term (u * u * u) (num d)))
    (omega arith)

-- equal coefficients give equal sums
same_sum : (k s l o k' s' l' o' x : ℤ) → k ≡ k' → s ≡ s' → l ≡ l' → o ≡ o'
    → ((k *ℤ x +ℤ s) *ℤ x +ℤ l) *ℤ x +ℤ o ≡ ((k' *ℤ x +ℤ s') *ℤ x +ℤ l') *ℤ x +ℤ o'
same_sum k s l o k' s' l' o' x ek es el eo = cc

rest_is : (u : ℕ) → u ≤ 64 → u + (64 - u) ≡ 64
rest_is u few = omega arith

module _ (u : ℕ) (few : u ≤ 64) (a b c d : ℤ) where
  abbrev polynomial_by : ℕ → ℤ
  polynomial_by n =
      ((pos (u * u * u) *ℤ ((d -ℤ c -ℤ (c -ℤ b)) -ℤ (c -ℤ b -ℤ (b -ℤ a))) +ℤ pos (3 * n * (u * u)) *ℤ (c -ℤ b -ℤ (b -ℤ a)))
      +ℤ pos (3 * (n * n) * u) *ℤ (b -ℤ a)) +ℤ pos (n * n * n) *ℤ a

  regrouped_all : (k s l o : ℤ) → ((pos (u * u * u) *ℤ k +ℤ pos (u * u) *ℤ (pos 192 *ℤ s)) +ℤ pos u *ℤ (pos 12288 *ℤ l)) +ℤ o
      ≡ ((pos (u * u * u) *ℤ k +ℤ pos (192 * (u * u)) *ℤ s) +ℤ pos (12288 * u) *ℤ l) +ℤ o
  regrouped_all k s l o = rw (regrouped 192 (u * u) s, regrouped 12288 u l) refl

  pub sum_is : (p : Powers) → ArePowersOf a (b -ℤ a) (c -ℤ b) (d -ℤ c) p → power_sum p u ≡ cubic u a b c d
  sum_is p is =
      same_sum p.cube p.square p.linear p.constant _ _ _ _ (pos u) is.cube is.square is.linear is.constant
      ∙ expanded u _ _ _ _
      ∙ regrouped_all _ _ _ _
      ∙ subst (λ n. polynomial_by n ≡ cubic u a b c d) (rest_is u few) (polynomial_is u (64 - u) a b c d)

  -- the value is small if the coordinates of the curve's points are
  abbrev place_term : (n : ℕ) (z : ℤ) → unsigned_abs z ≤ 2 ^ 29 → WeightedTerm (2 ^ 29)
  place_term n z h = record { weight = n; number = z; product = pos n *ℤ z; is = refl; share = part_most n (2 ^ 29) z h }

  pub cubic_most : unsigned_abs a ≤ 2 ^ 29 → unsigned_abs b ≤ 2 ^ 29 → unsigned_abs c ≤ 2 ^ 29 → unsigned_abs d ≤ 2 ^ 29
      → unsigned_abs (cubic u a b c d) ≤ 262144 * 2 ^ 29
  cubic_most ha hb hc hd =
      four_most w64 (2 ^ 29) 262144 (omega arith)
      (place_term ((64 - u) * (64 - u) * (64 - u)) a ha) (place_term (3 * u * (64 - u) * (64 - u)) b hb)
      (place_term (3 * u * u * (64 - u)) c hc) (place_term (u * u * u) d hd) (weights u few)

-- the coefficients are small if the curve's start and the legs of its control polygon are
pub small_powers : (start first second third : ℤ) (p : Powers) → ArePowersOf start first second third p
    → unsigned_abs start ≤ 2 ^ 29 → unsigned_abs first ≤ 2 ^ 30 → unsigned_abs second ≤ 2 ^ 30 → unsigned_abs third ≤ 2 ^ 30
    → AreSmallPowers p
small_powers start first second third p is hs hf hg hh = record {
  constant = (let e = is.constant in omega (arith, ints));
  linear = (let e = is.linear in omega (arith, ints));
  square = (let e = is.square in omega (arith, ints));
  cube = (let e = is.cube in omega (arith, ints));
}

-- one step of Horner's rule fits in 64 bits
module _ (s n f : ℤ) (u : ℕ) (hs : unsigned_abs s ≤ 2 ^ 48) (hu : u ≤ 64) (hn : unsigned_abs n ≤ 2 ^ 48) (ef : f ≡ pos u) where
  product_small : unsigned_abs (s *ℤ pos u) ≤ unsigned_abs s * 64
  product_small = product_most s (pos u) (unsigned_abs s) 64 (omega arith) hu

  pub product_fits : FitsSigned w64 (again w64 s *ℤ again w64 f)
  product_fits =
      let small = product_small in
      rw (ef, back s (omega arith), back (pos u) (omega arith)) (fits_signed_from_abs w64 (s *ℤ pos u) (omega arith))

  product_is : again w64 (again w64 s *ℤ again w64 f) ≡ s *ℤ pos u
  product_is =
      let small = product_small in
      rw (ef, back s (omega arith), back (pos u) (omega arith), back (s *ℤ pos u) (omega arith)) refl

  next_small : unsigned_abs (s *ℤ pos u +ℤ n) ≤ unsigned_abs s * 64 + unsigned_abs n
  next_small = sum_most (s *ℤ pos u) n (unsigned_abs s * 64) (unsigned_abs n) product_small (omega arith)

  pub next_fits : FitsSigned w64 (again w64 (again w64 s *ℤ again w64 f) +ℤ again w64 n)
  next_fits =
      let small = next_small in
      rw (product_is, back n (omega arith)) (fits_signed_from_abs w64 (s *ℤ pos u +ℤ n) (omega arith))

  pub next_is : again w64 (again w64 (again w64 s *ℤ again w64 f) +ℤ again w64 n) ≡ s *ℤ pos u +ℤ n
  next_is =
      let small = next_small in
      rw (product_is, back n (omega arith), back (s *ℤ pos u +ℤ n) (omega arith)) refl

  pub next_most : unsigned_abs (again w64 (again w64 (again w64 s *ℤ again w64 f) +ℤ again w64 n)) ≤ unsigned_abs s * 64 + unsigned_abs n
  next_most = rw next_is next_small

-- the coefficients, as the code computes them in 64 bits
multiple_is : (n m : ℕ) (z : ℤ) → unsigned_abs z ≤ m → m < 2 ^ 63 → n * m < 2 ^ 63 → again w64 (pos n *ℤ again w64 z) ≡ pos n *ℤ z
multiple_is n m z h few fewer = rw (back z (omega arith)) (back (pos n *ℤ z) (omega (arith, part_most n m z h)))

difference_is : (z w : ℤ) → unsigned_abs z ≤ 2 ^ 32 → unsigned_abs w ≤ 2 ^ 32 → again w64 (again w64 z -ℤ again w64 w) ≡ z -ℤ w
difference_is z w h k = rw (back z (omega arith), back w (omega arith)) (back (z -ℤ w) (omega (arith, ints)))

module _ (s f g h x : ℤ) (hs : unsigned_abs s ≤ 2 ^ 29) (hf : unsigned_abs f ≤ 2 ^ 30) (hg : unsigned_abs g ≤ 2 ^ 30) (hh : unsigned_abs h ≤ 2 ^ 30)
    (ex : x ≡ to_z w32 (of_z w32 s)) where
  constant_is : again w64 (pos 262144 *ℤ again w64 x) ≡ pos 262144 *ℤ s
  constant_is = rw (ex ∙ short_back s hs) (multiple_is 262144 (2 ^ 29) s hs (omega arith) (omega arith))

  square_is : again w64 (pos 192 *ℤ again w64 (again w64 g -ℤ again w64 f)) ≡ pos 192 *ℤ (g -ℤ f)
  square_is = rw (difference_is g f (omega arith) (omega arith)) (back (pos 192 *ℤ (g -ℤ f)) (omega (arith, ints)))

  cube_is : again w64 (again w64 (again w64 h -ℤ again w64 g) -ℤ again w64 (again w64 g -ℤ again w64 f)) ≡ (h -ℤ g) -ℤ (g -ℤ f)
  cube_is = rw (difference_is h g (omega arith) (omega arith), difference_is g f (omega arith) (omega arith)) (back ((h -ℤ g) -ℤ (g -ℤ f)) (omega (arith, ints)))

  pub powers_are : ArePowersOf s f g h (record {
    constant = again w64 (pos 262144 *ℤ again w64 x);
    linear = again w64 (pos 12288 *ℤ again w64 f);
    square = again w64 (pos 192 *ℤ again w64 (again w64 g -ℤ again w64 f));
    cube = again w64 (again w64 (again w64 h -ℤ again w64 g) -ℤ again w64 (again w64 g -ℤ again w64 f));
  })
  powers_are = record {
    constant = constant_is;
    linear = multiple_is 12288 (2 ^ 30) f hf (omega arith) (omega arith);
    square = square_is;
    cube = cube_is;
  }

-- equal numbers have equal coefficients
powers_same : (s f g h s' f' g' h' : ℤ) (p : Powers) → s ≡ s' → f ≡ f' → g ≡ g' → h ≡ h' → ArePowersOf s f g h p → ArePowersOf s' f' g' h' p
powers_same s f g h s' f' g' h' p es ef eg eh is =
    let P : ℤ → Type 0 = λ z. ArePowersOf z f g h p in
    let Q : ℤ → Type 0 = λ z. ArePowersOf s' z g h p in
    let R : ℤ → Type 0 = λ z. ArePowersOf s' f' z h p in
    let S : ℤ → Type 0 = λ z. ArePowersOf s' f' g' z p in
    subst S eh (subst R eg (subst Q ef (subst P es is)))

pub powers_back : (s f g h : ℤ) (p : Powers) → unsigned_abs s ≤ 2 ^ 29 → unsigned_abs f ≤ 2 ^ 30 → unsigned_abs g ≤ 2 ^ 30 → unsigned_abs h ≤ 2 ^ 30
    → ArePowersOf (to_z w32 (of_z w32 s)) (again w64 f) (again w64 g) (again w64 h) p → ArePowersOf s f g h p
powers_back s f g h p hs hf hg hh is =
    powers_same _ _ _ _ _ _ _ _ p (short_back s hs) (back f (omega arith)) (back g (omega arith)) (back h (omega arith)) is

-- the code's result for a coordinate is the coordinate of the curve
module _ (u : ℕ) (few : u ≤ 64) (a b c d f g h : ℤ) (ef : f ≡ b -ℤ a) (eg : g ≡ c -ℤ b) (eh : h ≡ d -ℤ c) (p : Powers) (is : ArePowersOf a f g h p)
    (ha : unsigned_abs a ≤ 2 ^ 29) (hb : unsigned_abs b ≤ 2 ^ 29) (hc : unsigned_abs c ≤ 2 ^ 29) (hd : unsigned_abs d ≤ 2 ^ 29) where
  pub small_there : AreSmallPowers p
  small_there = small_powers a f g h p is ha (omega (arith, ints)) (omega (arith, ints)) (omega (arith, ints))

  module _ (r : ℤ) (er : r ≡ power_sum p u) where
    sum_there : r ≡ cubic u a b c d
    sum_there = er ∙ sum_is u few a b c d p (powers_same _ _ _ _ _ _ _ _ p refl ef eg eh is)

    sum_small : unsigned_abs r ≤ 262144 * 2 ^ 29
    sum_small = rw sum_there (cubic_most u few a b c d ha hb hc hd)

    pub sum_most_back : unsigned_abs (again w64 r) ≤ 262144 * 2 ^ 29
    sum_most_back = size_back r (262144 * 2 ^ 29) sum_small (omega arith)

    pub place_there : (n : ℤ) → unsigned_abs n ≤ 2 ^ 29 → n ≡ floor_of (again w64 r) 262144 → to_z w32 (of_z w32 n) ≡ floor_of (cubic u a b c d) 262144
    place_there n hn en = (let small = sum_small in short_back n hn ∙ en ∙ ap (λ z. floor_of z 262144) (back r (omega arith) ∙ sum_there))
