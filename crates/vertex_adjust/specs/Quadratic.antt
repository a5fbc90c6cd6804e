-- The shift in a column with the least sum of squared distances. Columns of whole steps, and the
-- order of shifts that tie, are our own.
use Rattle.std.specs.Prelude.{◌≡◌, ℕ, ◌*◌, ◌<◌, ◌≤◌, ◌^◌, ℤ, ◌<ℤ◌, unsigned_abs}
use Rattle.vertex_adjust.specs.declared.line.Line.{Line}

-- the line's numbers are at most those of a segment's line on a much larger page
pub record IsOverWidePage (line : Line) : Type 0 where
  pub nx : unsigned_abs line.nx ≤ 2 ^ 12
  pub ny : unsigned_abs line.ny ≤ 2 ^ 12
  pub cx : unsigned_abs line.cx ≤ 2 ^ 27
  pub cy : unsigned_abs line.cy ≤ 2 ^ 27

-- t comes before u in the column: its sum is less; or the sums tie, and t*t is less; or both tie, and t is less
pub data IsLower (sum : ℤ → ℕ) (t u : ℤ) : Type 0 where
  by_sum : sum t < sum u → IsLower sum t u
  by_size : sum t ≡ sum u → unsigned_abs t * unsigned_abs t < unsigned_abs u * unsigned_abs u → IsLower sum t u
  by_number : sum t ≡ sum u → unsigned_abs t * unsigned_abs t ≡ unsigned_abs u * unsigned_abs u → t <ℤ u → IsLower sum t u

-- t is a number of at most 32 steps, and no other such number comes before it
pub record IsLowest (sum : ℤ → ℕ) (t : ℤ) : Type 0 where
  pub steps : unsigned_abs t ≤ 32
  pub none_before : (u : ℤ) → unsigned_abs u ≤ 32 → ¬ IsLower sum u t
