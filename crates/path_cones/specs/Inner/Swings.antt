-- How far a path that takes two kinds of steps alone sways across a way.
use Rattle.std.specs.Prelude.{◌≡◌, ◌⊎◌, ℕ, ◌+◌, ◌-◌, ◌<◌, ◌≤◌, ℤ, unsigned_abs, List}
use Rattle.pt_core.specs.declared.point.Point.{Point}
use Rattle.path_cones.specs.Cones.{cross_of}
use Rattle.path_cones.specs.Corners.{step_from, IsNextCorner}
use Rattle.path_cones.specs.Straight.{path_from}
use Rattle.path_cones.specs.Inner.Cones.{IsShort}
use Rattle.path_cones.specs.Inner.Corners.{GoesStraight}
use Rattle.path_cones.specs.Inner.Strips.{IsSway, across_at}
use Rattle.path_cones.specs.Inner.Tails.{way_along}
use Rattle.path_cones.specs.declared.swing.Swing.{Swing}
use Rattle.path_cones.specs.declared.trial.Sway.{Sway}
use Rattle.path_cones.specs.declared.vector.Vector.{Vector}

-- the new sway takes in a straight run that ends so far across the way, after this number of steps
abbrev pub SwaysOn : Sway → ℤ → ℕ → Sway → Type 0
SwaysOn old across next new = (way : Vector) (path : ℕ → Point) (steps : ℕ) → steps ≤ next → GoesStraight path steps (next - steps)
    → unsigned_abs across ≤ 8589934592 → across ≡ across_at way path next → IsSway way path steps old → IsSway way path next new

-- numbers that a path of some ten thousand pixels may have
pub record IsSmallSwing (swing : Swing) : Type 0 where
  pub across : unsigned_abs swing.across ≤ 8589934592
  pub turn : unsigned_abs swing.turn ≤ 131072

-- the path's steps are of two kinds, the step ahead and the step after the next corner, each known by how far across the way it goes
pub record IsSwing (points : List Point) (first most : ℕ) (swing : Swing) : Type 0 where
  pub within : swing.steps < most
  pub few : most ≤ 2147483648
  pub later : swing.steps < swing.next
  pub corner : IsNextCorner points (first + swing.steps) (swing.next - swing.steps)
  pub short : IsShort 65535 swing.way
  pub near : (k : ℕ) → k ≤ most → IsShort 65535 (way_along (path_from points first) k)
  pub sway : IsSway swing.way (path_from points first) swing.steps swing.sway
  pub across : swing.across ≡ across_at swing.way (path_from points first) swing.steps
  pub ahead : Vector
  pub after : Vector
  pub ahead_unit : IsShort 1 ahead
  pub after_unit : IsShort 1 after
  pub now : step_from (path_from points first) swing.steps ≡ ahead
  pub steps : (k : ℕ) → k < most → (step_from (path_from points first) k ≡ ahead) ⊎ (step_from (path_from points first) k ≡ after)
  pub turn : swing.turn ≡ cross_of swing.way ahead
  pub other : swing.other ≡ cross_of swing.way after
