-- How far places are from one another: the greater of how far across and how far up. Places are in units
-- of 1/1024 pixel.
use Rattle.std.specs.Prelude.{ℕ, ◌+◌, ◌*◌, ◌≤◌, ℤ, pos, ◌+ℤ◌, ◌-ℤ◌, ◌*ℤ◌, unsigned_abs}
use Rattle.pt_core.specs.declared.point.Point.{Point}

-- a point of a path, as a place
abbrev pub point_place : Point → Point
point_place p = record { x = pos 1024 *ℤ p.x; y = pos 1024 *ℤ p.y }

-- no coordinate of one place is farther from the other's
pub record IsCloseTo (most : ℕ) (a b : Point) : Type 0 where
  pub x : unsigned_abs (b.x -ℤ a.x) ≤ most
  pub y : unsigned_abs (b.y -ℤ a.y) ≤ most

-- the straight way from a to b passes c that closely: at the place that divides it as `after` to `before`
pub record PassesBy (most : ℕ) (a b c : Point) : Type 0 where
  pub before : ℕ
  pub after : ℕ
  pub some : 1 ≤ before + after
  pub in_x : unsigned_abs (pos before *ℤ (c.x -ℤ a.x) +ℤ pos after *ℤ (c.x -ℤ b.x)) ≤ (before + after) * most
  pub in_y : unsigned_abs (pos before *ℤ (c.y -ℤ a.y) +ℤ pos after *ℤ (c.y -ℤ b.y)) ≤ (before + after) * most

-- the place that divides the way from a to b as `after` to `before` is that close to c
pub record DividesBy (most before after : ℕ) (a b c : Point) : Type 0 where
  pub in_x : unsigned_abs (pos before *ℤ (c.x -ℤ a.x) +ℤ pos after *ℤ (c.x -ℤ b.x)) ≤ (before + after) * most
  pub in_y : unsigned_abs (pos before *ℤ (c.y -ℤ a.y) +ℤ pos after *ℤ (c.y -ℤ b.y)) ≤ (before + after) * most

-- the whole line through c that runs as the way from a to b does passes d that closely: at the place that
-- `along` such ways in `steps` lead to
pub record LinePassesBy (most : ℕ) (a b c d : Point) : Type 0 where
  pub along : ℤ
  pub steps : ℕ
  pub some : 1 ≤ steps
  pub in_x : unsigned_abs (pos steps *ℤ (d.x -ℤ c.x) -ℤ along *ℤ (b.x -ℤ a.x)) ≤ steps * most
  pub in_y : unsigned_abs (pos steps *ℤ (d.y -ℤ c.y) -ℤ along *ℤ (b.y -ℤ a.y)) ≤ steps * most

-- so many times a place
abbrev pub multiple : ℕ → Point → Point
multiple n p = record { x = pos n *ℤ p.x; y = pos n *ℤ p.y }

-- the place that divides the way from a to b as `after` to `before`, times both together
abbrev pub divided : ℕ → ℕ → Point → Point → Point
divided before after a b = record { x = pos before *ℤ a.x +ℤ pos after *ℤ b.x; y = pos before *ℤ a.y +ℤ pos after *ℤ b.y }

-- eight times the middle of a curve: its place at half its parameter
abbrev pub eightfold_middle : Point → Point → Point → Point → Point
eightfold_middle start first second end = record {
  x = ((start.x +ℤ pos 3 *ℤ first.x) +ℤ pos 3 *ℤ second.x) +ℤ end.x;
  y = ((start.y +ℤ pos 3 *ℤ first.y) +ℤ pos 3 *ℤ second.y) +ℤ end.y;
}
