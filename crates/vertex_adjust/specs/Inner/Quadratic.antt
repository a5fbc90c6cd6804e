-- The sum of the squared distances as a function of the shift, a paraboloid (compare Selinger, "Potrace", 2003,
-- section 2.3.1).
use Rattle.std.specs.Prelude.{◌≡◌, ◌≢◌, ℕ, ◌+◌, ◌*◌, ◌<◌, ◌≤◌, ◌^◌, ℤ, pos, ◌+ℤ◌, ◌-ℤ◌, ◌*ℤ◌, ◌<ℤ◌, ◌≤ℤ◌, ◌⊎◌, unsigned_abs}
use Rattle.vertex_adjust.specs.Vertex.{IsCandidate, IsBefore, IsLeast}
use Rattle.vertex_adjust.specs.declared.shift.Shift.{Shift}
use Rattle.vertex_adjust.specs.declared.quadratic.Quadratic.{Quadratic}
use Rattle.vertex_adjust.specs.declared.quadratic.Minimum.{Minimum}
use Rattle.vertex_adjust.specs.declared.search.Trial.{Trial}
use Rattle.vertex_adjust.specs.declared.memo.LeastShift.{LeastShift}

-- how much greater the sum of the squared distances is after a shift than without one, in units of 32
abbrev pub growth_of : Quadratic → ℤ → ℤ → ℤ
growth_of b right up =
    pos 8 *ℤ ((b.xx *ℤ (right *ℤ right) +ℤ pos 2 *ℤ (b.xy *ℤ (right *ℤ up))) +ℤ b.yy *ℤ (up *ℤ up)) +ℤ (b.x *ℤ right +ℤ b.y *ℤ up)

-- the coefficients are those of two lines with the normals (u, w) and (u', w'), at the distances d and d'
pub record IsQuadratic (b : Quadratic) : Type 0 where
  pub u : ℤ
  pub w : ℤ
  pub d : ℤ
  pub u' : ℤ
  pub w' : ℤ
  pub d' : ℤ
  pub u_most : unsigned_abs u ≤ 2 ^ 12
  pub w_most : unsigned_abs w ≤ 2 ^ 12
  pub d_most : unsigned_abs d ≤ 2 ^ 41
  pub u'_most : unsigned_abs u' ≤ 2 ^ 12
  pub w'_most : unsigned_abs w' ≤ 2 ^ 12
  pub d'_most : unsigned_abs d' ≤ 2 ^ 41
  pub xx : b.xx ≡ u *ℤ u +ℤ u' *ℤ u'
  pub xy : b.xy ≡ u *ℤ w +ℤ u' *ℤ w'
  pub yy : b.yy ≡ w *ℤ w +ℤ w' *ℤ w'
  pub x : b.x ≡ u *ℤ d +ℤ u' *ℤ d'
  pub y : b.y ≡ w *ℤ d +ℤ w' *ℤ d'

-- each shift's error is 32 times its excess plus a number that is the same for all shifts
pub record IsErrorOver (error : Shift → ℕ) (b : Quadratic) : Type 0 where
  pub rest : ℤ
  pub is : (right up : ℤ) → pos (error (record { right = right; up = up })) ≡ rest +ℤ pos 32 *ℤ growth_of b right up

-- the shift is the best of all candidates, for each error that belongs to the quadratic
pub record IsLeastShift (found : LeastShift) : Type 0 where
  pub candidate : IsCandidate found.shift
  pub least : (error : Shift → ℕ) → IsErrorOver error found.quadratic → IsLeast error found.shift

-- the second number lies between the first and the third
abbrev pub LiesBetween : ℤ → ℤ → ℤ → Type 0
LiesBetween a b c = ((a <ℤ b) × (b <ℤ c)) ⊎ ((c <ℤ b) × (b <ℤ a))

-- the lowest shift of a column; of two it is the shorter one
pub record IsMinimum (b : Quadratic) (right : ℤ) (minimum : Minimum) : Type 0 where
  pub steps : unsigned_abs minimum.up ≤ 32
  pub excess : minimum.excess ≡ growth_of b right minimum.up
  pub excess_most : unsigned_abs minimum.excess ≤ 2 ^ 60 + 2 ^ 42
  pub lowest : (up : ℤ) → unsigned_abs up ≤ 32 → up ≢ minimum.up
      → (minimum.excess <ℤ growth_of b right up)
      ⊎ ((minimum.excess ≡ growth_of b right up) × (unsigned_abs minimum.up * unsigned_abs minimum.up < unsigned_abs up * unsigned_abs up))
  pub bound_most : minimum.bound ≤ℤ (pos 4 *ℤ minimum.excess)
  -- if a shift on one side of the column is lower than a quarter of `bound`, each shift on the
  -- other side is higher than that shift
  pub beyond : (near far : Shift) → IsCandidate near → IsCandidate far → LiesBetween near.right right far.right
      → (pos 4 *ℤ growth_of b near.right near.up) <ℤ minimum.bound
      → growth_of b near.right near.up <ℤ growth_of b far.right far.up

-- a shift in the columns from `first` to `last` with its excess, and no candidate in these columns comes before it
pub record IsBestBetween (b : Quadratic) (first last : ℤ) (best : Trial) : Type 0 where
  pub candidate : IsCandidate best.shift
  pub excess : best.excess ≡ growth_of b best.shift.right best.shift.up
  pub excess_most : unsigned_abs best.excess ≤ 2 ^ 60 + 2 ^ 42
  pub from : first ≤ℤ best.shift.right
  pub to : best.shift.right ≤ℤ last
  pub none_before : (error : Shift → ℕ) → IsErrorOver error b
      → (other : Shift) → IsCandidate other → first ≤ℤ other.right → other.right ≤ℤ last → ¬ IsBefore error other best.shift

-- n is the number of steps, at most 32, that is nearest to the size, if a step is 16 * yy; a half
-- is rounded down
pub record IsRounded (yy size n : ℕ) : Type 0 where
  pub few : n ≤ 32
  pub reaches : 16 * (yy * n) < size + 8 * yy
  pub falls_short : size ≤ 16 * (yy * n) + 8 * yy

-- the position of a column's minimum, if a step is 16 * yy
abbrev pub pull_of : Quadratic → ℤ → ℤ
pull_of b right = pos 0 -ℤ (pos 16 *ℤ (b.xy *ℤ right) +ℤ b.y)

-- the position of a column's minimum, moved into the column
pub data IsAim (b : Quadratic) (right aim : ℤ) : Type 0 where
  inside : aim ≡ pull_of b right → unsigned_abs aim ≤ 512 * unsigned_abs b.yy → IsAim b right aim
  above : aim ≡ pos 512 *ℤ b.yy → aim <ℤ pull_of b right → IsAim b right aim
  below : aim ≡ pos 0 -ℤ pos 512 *ℤ b.yy → pull_of b right <ℤ aim → IsAim b right aim

-- the number of steps, at most 32, that is nearest to `aim`, if a step is 16 * yy; of two it is the
-- one nearer to 0
pub record IsNearest (yy aim up : ℤ) : Type 0 where
  pub steps : unsigned_abs up ≤ 32
  pub near : unsigned_abs (pos 16 *ℤ (yy *ℤ up) -ℤ aim) ≤ 8 * unsigned_abs yy
  pub higher : pos 16 *ℤ (yy *ℤ up) -ℤ aim ≡ pos 0 -ℤ pos 8 *ℤ yy → pos 0 ≤ℤ up
  pub lower : pos 16 *ℤ (yy *ℤ up) -ℤ aim ≡ pos 8 *ℤ yy → up ≤ℤ pos 0
