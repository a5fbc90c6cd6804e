-- Sums of runs of numbers.
use Rattle.std.proofs.Common.{◌≡◌, ℕ, zero, suc, ◌+◌, ◌*◌, ◌≤◌, ℤ, pos, negsuc, ◌+ℤ◌, ◌-ℤ◌, ◌*ℤ◌, ◌≤ℤ◌, refl, sym, add-zero, add-suc, arith}
use Rattle.std.proofs.Math.IntN.{+ℤ_idr, +ℤ_assoc, *ℤ-zero, zero-*ℤ}
use Rattle.std.proofs.lemmas.Int.{ints}
use Rattle.std.specs.Prelude.{unsigned_abs}
use Rattle.prefix_moments.specs.Sums.{sum_of}
use Rattle.prefix_moments.proofs.Integers.{step_shift, step_products, step_spread}

-- a run in two parts
pub split : (f : ℕ → ℤ) (i count : ℕ) → sum_of f (i + count) ≡ sum_of f i +ℤ sum_of (λ d. f (i + d)) count
split f i zero = rw add-zero (sym (+ℤ_idr (sum_of f i)))
split f i (suc count) =
    rw (add-suc, split f i count) (+ℤ_assoc (sum_of f i) (sum_of (λ d. f (i + d)) count) (f (i + count)))

-- how large a sum is at most
pub sum_most : (f : ℕ → ℤ) (most count : ℕ) → ((k : ℕ) → unsigned_abs (f k) ≤ most) → unsigned_abs (sum_of f count) ≤ count * most
sum_most f most zero h = omega arith
sum_most f most (suc count) h = omega (arith, ints, sum_most f most count h, h count)

-- the sum of differences from a number
pub shifted : (f : ℕ → ℤ) (a : ℤ) (count : ℕ) → sum_of (λ d. f d -ℤ a) count ≡ sum_of f count -ℤ pos count *ℤ a
shifted f a zero = rw zero-*ℤ refl
shifted f a (suc count) =
    let n : pos (suc count) ≡ pos count +ℤ pos 1 = omega (arith, ints) in
    rw (shifted f a count, n) (step_shift (sum_of f count) (pos count) a (f count))

-- the sum of products of differences from two numbers
pub products_shifted : (f g : ℕ → ℤ) (a b : ℤ) (count : ℕ)
    → sum_of (λ d. (f d -ℤ a) *ℤ (g d -ℤ b)) count
    ≡ (sum_of (λ d. f d *ℤ g d) count -ℤ a *ℤ sum_of g count) -ℤ b *ℤ sum_of (λ d. f d -ℤ a) count
products_shifted f g a b zero = simp *ℤ-zero
products_shifted f g a b (suc count) =
    rw (products_shifted f g a b count)
    (step_products (sum_of (λ d. f d *ℤ g d) count) (sum_of g count) (sum_of (λ d. f d -ℤ a) count) (f count) (g count) a b)

-- the sum of squared cross products by the sums of squares and of products
pub spread_is : (f g : ℕ → ℤ) (p q : ℤ) (count : ℕ)
    → sum_of (λ d. (f d *ℤ q -ℤ g d *ℤ p) *ℤ (f d *ℤ q -ℤ g d *ℤ p)) count
    ≡ ((q *ℤ q) *ℤ sum_of (λ d. f d *ℤ f d) count -ℤ pos 2 *ℤ ((p *ℤ q) *ℤ sum_of (λ d. f d *ℤ g d) count)) +ℤ (p *ℤ p) *ℤ sum_of (λ d. g d *ℤ g d) count
spread_is f g p q zero = simp *ℤ-zero
spread_is f g p q (suc count) =
    rw (spread_is f g p q count)
    (step_spread (sum_of (λ d. f d *ℤ f d) count) (sum_of (λ d. f d *ℤ g d) count) (sum_of (λ d. g d *ℤ g d) count) (f count) (g count) p q)

square_at_least : (z : ℤ) → pos 0 ≤ℤ (z *ℤ z)
square_at_least (pos n) = omega (arith, ints)
square_at_least (negsuc n) = omega (arith, ints)

-- a sum of squares isn't below zero
pub squares_at_least : (f : ℕ → ℤ) (count : ℕ) → pos 0 ≤ℤ sum_of (λ d. f d *ℤ f d) count
squares_at_least f zero = omega (arith, ints)
squares_at_least f (suc count) = omega (arith, ints, squares_at_least f count, square_at_least (f count))
