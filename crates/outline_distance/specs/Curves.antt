-- The places of a curve, a cubic Bezier curve, and how much it differs from its chords.
use Rattle.std.specs.Prelude.{ℕ, ◌*◌, ◌≤◌, ℤ, pos, ◌+ℤ◌, ◌-ℤ◌, ◌*ℤ◌, unsigned_abs}
use Rattle.pt_core.specs.declared.point.Point.{Point}

-- a coordinate of a curve where its parameter is divided as `after` to `before`, times the cube of both together
abbrev pub curve_coordinate : ℕ → ℕ → ℤ → ℤ → ℤ → ℤ → ℤ
curve_coordinate before after a b c d =
    ((pos (before * before * before) *ℤ a +ℤ pos (3 * after * before * before) *ℤ b)
    +ℤ pos (3 * after * after * before) *ℤ c) +ℤ pos (after * after * after) *ℤ d

-- the place of a curve there, so many times
abbrev pub curve_place : ℕ → ℕ → Point → Point → Point → Point → Point
curve_place before after start first second end = record {
  x = curve_coordinate before after start.x first.x second.x end.x;
  y = curve_coordinate before after start.y first.y second.y end.y;
}

-- the second difference of three coordinates
abbrev pub second_difference : ℤ → ℤ → ℤ → ℤ
second_difference a b c = (a -ℤ pos 2 *ℤ b) +ℤ c

-- both second differences of four coordinates are at most so great
abbrev pub HasSecondDifferences : ℕ → ℤ → ℤ → ℤ → ℤ → Type 0
HasSecondDifferences most a b c d =
    (unsigned_abs (second_difference a b c) ≤ most) × (unsigned_abs (second_difference b c d) ≤ most)

-- those of a curve's four points are, across and up
pub record BendsBy (most : ℕ) (start first second end : Point) : Type 0 where
  pub in_x : HasSecondDifferences most start.x first.x second.x end.x
  pub in_y : HasSecondDifferences most start.y first.y second.y end.y
