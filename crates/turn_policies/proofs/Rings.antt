-- Ring r has 8r - 4 pixels.
use Rattle.std.proofs.Common.{◌≡◌, ℕ, zero, suc, ◌+◌, ◌-◌, ◌*◌, ◌<◌, ◌≤◌, Bool, true, false, cond, not, ◌&&◌, refl, ◌∙◌, arith}
use Rattle.bit_image.specs.Image.{Image}
use Rattle.turn_policies.specs.Majority.{behind, count_below, sum_below, is_rim, black_in_ring, white_in_ring}

parts_step : (a b : Bool) (m k c : ℕ) → m + k ≡ c → cond (a && b) (suc m) m + cond (a && not b) (suc k) k ≡ cond a (suc c) c
parts_step true true m k c e = omega arith
parts_step true false m k c e = omega arith
parts_step false b m k c e = e

count_below-parts : (n : ℕ) (t f : ℕ → Bool) → count_below n (λ j. t j && f j) + count_below n (λ j. t j && not (f j)) ≡ count_below n t
count_below-parts zero t f = refl
count_below-parts (suc n) t f = parts_step (t n) (f n) _ _ _ (count_below-parts n t f)

sum_below-parts : (n m : ℕ) (t f : ℕ → ℕ → Bool)
    → sum_below n (λ i. count_below m (λ j. t i j && f i j)) + sum_below n (λ i. count_below m (λ j. t i j && not (f i j))) ≡ sum_below n (λ i. count_below m (t i))
sum_below-parts zero m t f = refl
sum_below-parts (suc n) m t f = omega (arith, sum_below-parts n m t f, count_below-parts m (t n) (f n))

-- the rims of the squares of side 4, 6 and 8 have 12, 20 and 28 cells
rim_size : (r : ℕ) → 2 ≤ r → r < 5 → sum_below (2 * r) (λ i. count_below (2 * r) (is_rim (2 * r) i)) ≡ 8 * r - 4
rim_size zero p q = absurd (omega arith)
rim_size (suc zero) p q = absurd (omega arith)
rim_size (suc (suc zero)) p q = refl
rim_size (suc (suc (suc zero))) p q = refl
rim_size (suc (suc (suc (suc zero)))) p q = refl
rim_size (suc (suc (suc (suc (suc r))))) p q = absurd (omega arith)

-- the black and white pixels of a ring are 8r - 4 together
pub ring_size : (b : Image) (x y r : ℕ) → 2 ≤ r → r < 5 → black_in_ring b x y r + white_in_ring b x y r ≡ 8 * r - 4
unfolding black_in_ring white_in_ring
ring_size b x y r p q =
    sum_below-parts (2 * r) (2 * r) (is_rim (2 * r)) (λ i j. behind b r (x + i) (y + j)) ∙ rim_size r p q
