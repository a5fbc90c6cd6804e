-- Cones of the ways that go back in neither coordinate, and paths that never go back.
use Rattle.std.specs.Prelude.{◌≡◌, ◌↔◌, ℕ, ◌+◌, ◌<◌, ◌≤◌, pos, ◌+ℤ◌, ◌≤ℤ◌, ◌<ℤ◌}
use Rattle.pt_core.specs.declared.point.Point.{Point}
use Rattle.path_cones.specs.Cones.{cross_of}
use Rattle.path_cones.specs.Corners.{step_from}
use Rattle.path_cones.specs.Straight.{IsNear, east}
use Rattle.path_cones.specs.Inner.Cones.{IsClear}
use Rattle.path_cones.specs.Inner.Strips.{IsFromTo}
use Rattle.path_cones.specs.Inner.Tails.{way_along}
use Rattle.path_cones.specs.declared.funnel.Funnel.{Funnel}
use Rattle.path_cones.specs.declared.vector.Vector.{Vector}

-- the way goes to the right and up, neither of them farther than this
pub record IsForward (most : ℕ) (way : Vector) : Type 0 where
  pub x : IsFromTo (pos 0) (pos most) way.x
  pub y : IsFromTo (pos 0) (pos most) way.y

-- and it goes somewhere
pub record IsSide (way : Vector) : Type 0 where
  pub forward : IsForward 65536 way
  pub goes : pos 0 <ℤ (way.x +ℤ way.y)

-- a funnel's numbers
pub record IsFunnel (funnel : Funnel) : Type 0 where
  pub way : IsForward 65535 funnel.way
  pub flat : IsSide funnel.flat
  pub steep : IsSide funnel.steep
  pub left : pos 0 <ℤ cross_of funnel.flat funnel.steep
  pub above_is : funnel.above ≡ cross_of funnel.flat funnel.way
  pub above : pos 0 ≤ℤ funnel.above
  pub below_is : funnel.below ≡ cross_of funnel.way funnel.steep
  pub below : pos 0 ≤ℤ funnel.below

-- the way goes back in neither coordinate, and somewhere
pub record IsOnWay (way : Vector) : Type 0 where
  pub x : pos 0 ≤ℤ way.x
  pub y : pos 0 ≤ℤ way.y
  pub goes : pos 0 <ℤ (way.x +ℤ way.y)

-- the way isn't below the flat border nor above the steep one
pub record IsInFunnel (flat steep way : Vector) : Type 0 where
  pub above : pos 0 ≤ℤ cross_of flat way
  pub below : pos 0 ≤ℤ cross_of way steep

-- of the ways that never go back, the funnel holds exactly those that come near the path's first points
pub record IsFunnelOf (path : ℕ → Point) (steps : ℕ) (funnel : Funnel) : Type 0 where
  pub numbers : IsFunnel funnel
  pub way : funnel.way ≡ way_along path steps
  pub holds : (way : Vector) → IsOnWay way → IsInFunnel funnel.flat funnel.steep way
      ↔ ((j : ℕ) → 1 ≤ j → j ≤ steps → IsNear (way_along path j) way)
  pub clear : IsClear path steps

-- the path goes to the right for r steps from its point number s
abbrev pub GoesRight : (ℕ → Point) → ℕ → ℕ → Type 0
GoesRight path s r = (t : ℕ) → t < r → step_from path (s + t) ≡ east

-- the new funnel is that of the old one's points and a run to the right
pub record IsRunOn (old : Funnel) (run : ℕ) (new : Funnel) : Type 0 where
  pub numbers : IsFunnel new
  pub of : (path : ℕ → Point) (steps : ℕ) → GoesRight path steps run → IsFunnelOf path steps old → IsFunnelOf path (steps + run) new
