-- Paths that never go back in a quarter of the plane, turned so that they go to the right and up.
use Rattle.std.specs.Prelude.{◌≡◌, ◌↔◌, ◌⊎◌, ℕ, ◌+◌, ◌-◌, ◌<◌, ◌≤◌, pos, ◌*ℤ◌, ◌<ℤ◌, Bool, true, false, List}
use Rattle.pt_core.specs.declared.point.Point.{Point}
use Rattle.path_cones.specs.Corners.{step_from, IsNextCorner}
use Rattle.path_cones.specs.Straight.{east, north, path_from}
use Rattle.path_cones.specs.Inner.Funnels.{IsForward, IsFunnelOf}
use Rattle.path_cones.specs.Inner.Mirrors.{in_mirror}
use Rattle.path_cones.specs.Inner.Strips.{right_at, up_at}
use Rattle.path_cones.specs.Inner.Tails.{way_along}
use Rattle.path_cones.specs.Inner.Wedges.{IsQuarter}
use Rattle.path_cones.specs.declared.quarter.Quarter.{Quarter}
use Rattle.path_cones.specs.declared.landing.Landing.{Landing}

-- the path from its start, once the quarter is turned to be the one up and to the right
abbrev pub stairs_of : Quarter → (ℕ → Point) → ℕ → Point
stairs_of quarter path k = record { x = right_at quarter path k; y = up_at quarter path k }

-- the path, in the mirror or as it is
abbrev pub seen_in : Bool → (ℕ → Point) → ℕ → Point
seen_in false path = path
seen_in true path = in_mirror path

-- the stairs' first `most` steps go to the right and up alone, and turn where those of the path do
pub record AreStairs (path : ℕ → Point) (most : ℕ) (stairs : ℕ → Point) : Type 0 where
  pub steps : (k : ℕ) → k < most → (step_from stairs k ≡ east) ⊎ (step_from stairs k ≡ north)
  pub turns : (i j : ℕ) → i < most → j < most → (step_from path i ≡ step_from path j) ↔ (step_from stairs i ≡ step_from stairs j)
  pub short : (k : ℕ) → k ≤ most → IsForward 65535 (way_along stairs k)

-- the stairs that a landing is on
abbrev pub stairs_at : List Point → ℕ → Landing → ℕ → Point
stairs_at points first landing = seen_in landing.mirrored (stairs_of landing.quarter (path_from points first))

-- the next corner of a path's stairs, and the funnel of the points up to the last one; from there a run goes to the right
pub record IsLanding (points : List Point) (first most : ℕ) (landing : Landing) : Type 0 where
  pub quarter : IsQuarter landing.quarter
  pub within : landing.steps < most
  pub later : landing.steps < landing.next
  pub corner : IsNextCorner points (first + landing.steps) (landing.next - landing.steps)
  pub stairs : AreStairs (path_from points first) most (stairs_at points first landing)
  pub right : step_from (stairs_at points first landing) landing.steps ≡ east
  pub funnel : IsFunnelOf (stairs_at points first landing) landing.steps landing.funnel

-- the run is cut off, or the funnel doesn't hold its end
abbrev pub IsLastLanding : ℕ → Landing → Type 0
IsLastLanding most landing = (most ≤ landing.next)
    ⊎ (landing.funnel.above <ℤ (pos (landing.next - landing.steps) *ℤ landing.funnel.flat.y))
