-- The sums of the squares and of the products of some points' offsets from one point.
use Rattle.std.specs.Prelude.{ℕ, ◌+◌, ◌*◌, ◌<◌, ◌≤◌, ◌^◌, ℤ, pos, ◌+ℤ◌, ◌-ℤ◌, ◌*ℤ◌, ◌≤ℤ◌, unsigned_abs, List}
use Rattle.pt_core.specs.declared.point.Point.{Point}
use Rattle.pt_core.specs.declared.limits.TheConstants.{LONGEST_SIDE, MOST_STEPS}
use Rattle.prefix_moments.specs.Sums.{sum_over, rightward_of, above_of}
use Rattle.prefix_moments.specs.Inner.Table.{spread_by, offsets_of, without_count}
use Rattle.prefix_moments.specs.declared.sums.Sums.{Sums}
use Rattle.half_penalties.specs.declared.products.Products.{Products}
use Rattle.half_penalties.specs.Inner.HalfPenalties.{along_of}

-- those of the offsets of the points from number lo to number hi, from point number o
abbrev pub products_about : List Point → ℕ → ℕ → ℕ → Products
products_about points o lo hi = record {
  xx = sum_over lo hi (λ k. rightward_of points o k *ℤ rightward_of points o k);
  xy = sum_over lo hi (λ k. rightward_of points o k *ℤ above_of points o k);
  yy = sum_over lo hi (λ k. above_of points o k *ℤ above_of points o k);
}

-- they are as small as those of a segment's points are on a page, and give no sum of squares below zero
pub record AreHalfSums (p : Products) : Type 0 where
  pub xx : unsigned_abs p.xx ≤ (MOST_STEPS + 1) * (LONGEST_SIDE * LONGEST_SIDE)
  pub xy : unsigned_abs p.xy ≤ (MOST_STEPS + 1) * (LONGEST_SIDE * LONGEST_SIDE)
  pub yy : unsigned_abs p.yy ≤ (MOST_STEPS + 1) * (LONGEST_SIDE * LONGEST_SIDE)
  pub squares : (right above : ℤ) → pos 0 ≤ℤ spread_by p.xx p.xy p.yy right above

-- those of a segment's offsets from the point that lies at (right, above) from its first one
abbrev pub moved_of : Sums → ℤ → ℤ → Products
moved_of s right above =
    let moved = offsets_of (without_count s) s.count right above in
    record { xx = moved.xx; xy = moved.xy; yy = moved.yy }

-- the sum of the squares of how far the offsets go along the diagonal
abbrev pub along_squares_of : Products → ℤ → ℤ
along_squares_of p slant = (p.xx +ℤ pos 2 *ℤ (slant *ℤ p.xy)) +ℤ p.yy

-- the determinant of the matrix of the sums
abbrev pub determinant_of : Products → ℤ
determinant_of p = p.xx *ℤ p.yy -ℤ p.xy *ℤ p.xy

-- it is a bound for the points that have these sums
abbrev pub IsBoundBy : Products → ℤ → ℕ → ℕ → Type 0
IsBoundBy p slant weight bound =
    (right above : ℤ) → (pos (bound * bound) *ℤ (along_of slant right above *ℤ along_of slant right above))
    ≤ℤ (pos (65536 * weight) *ℤ spread_by p.xx p.xy p.yy right above)

-- whole numbers show that it is one, by the sum of squares along the diagonal and the determinant
pub record IsShownBound (determinant along : ℤ) (weight bound : ℕ) : Type 0 where
  pub some : pos 1 ≤ℤ along
  pub reached : (pos (bound * bound) *ℤ along) ≤ℤ (pos (65536 * weight) *ℤ determinant)
  pub small : bound < 2 ^ 24
