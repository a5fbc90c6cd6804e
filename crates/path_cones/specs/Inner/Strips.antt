-- Strips of the plane that are as broad as a line drawn in pixels: from one border to the other the cross product
-- with the strip's way grows by what the way goes along rows and columns together (Reveillès' standard digital lines,
-- 1991, with both borders).
use Rattle.std.specs.Prelude.{◌≡◌, List, ℕ, suc, ◌+◌, ◌≤◌, ◌^◌, ℤ, pos, negsuc, neg_ℤ, ◌+ℤ◌, ◌-ℤ◌, ◌*ℤ◌, ◌≤ℤ◌, ◌<ℤ◌}
use Rattle.pt_core.specs.ClosedWalk.{IsClosedWalk}
use Rattle.pt_core.specs.declared.point.Point.{Point}
use Rattle.path_cones.specs.Cones.{cross_of}
use Rattle.path_cones.specs.Corners.{step_from}
use Rattle.path_cones.specs.Straight.{path_from}
use Rattle.path_cones.specs.Inner.Cones.{IsShort}
use Rattle.path_cones.specs.Inner.Tails.{way_along}
use Rattle.path_cones.specs.Inner.Wedges.{IsQuarter, far_of}
use Rattle.path_cones.specs.declared.vector.Vector.{Vector}
use Rattle.path_cones.specs.declared.quarter.Quarter.{Quarter}
use Rattle.path_cones.specs.declared.strip.Extent.{Extent}
use Rattle.path_cones.specs.declared.strip.Lane.{Lane}
use Rattle.path_cones.specs.declared.strip.Span.{Span}
use Rattle.path_cones.specs.declared.strip.Strides.{Strides}
use Rattle.path_cones.specs.declared.strip.Strip.{Strip}
use Rattle.path_cones.specs.declared.trial.Ends.{Ends}
use Rattle.path_cones.specs.declared.trial.Sway.{Sway}

-- the number is from the one up to the other
pub record IsFromTo (low high z : ℤ) : Type 0 where
  pub least : low ≤ℤ z
  pub most : z ≤ℤ high

-- the strip's way is short and goes into its quarter, the point from which it is seen lies in it, and it isn't broader
-- than the way allows
pub record IsStrip (strip : Strip) : Type 0 where
  pub quarter : IsQuarter strip.quarter
  pub short : IsShort 65535 strip.way
  pub right : pos 0 ≤ℤ (strip.quarter.right *ℤ strip.way.x)
  pub up : pos 0 ≤ℤ (strip.quarter.up *ℤ strip.way.y)
  pub breadth : strip.breadth ≡ far_of strip.quarter strip.way
  pub some : pos 0 <ℤ strip.breadth
  pub least : strip.across.least ≤ℤ pos 0
  pub greatest : pos 0 ≤ℤ strip.across.greatest
  pub narrow : (strip.across.greatest -ℤ strip.across.least) ≤ℤ strip.breadth
  pub back_x : IsFromTo (pos 0) (pos 1) strip.back.x
  pub back_y : IsFromTo (pos 0) (pos 1) strip.back.y

-- in the path's first `count` steps, no number comes that is more than 1 below an earlier one
abbrev pub IsOnward : (ℕ → ℤ) → ℕ → Type 0
IsOnward f count = (j k : ℕ) → j ≤ k → k ≤ count → f j ≤ℤ (f k +ℤ pos 1)

-- how far the path's point number k is from its start across the way
abbrev pub across_at : Vector → (ℕ → Point) → ℕ → ℤ
across_at way path k = cross_of way (way_along path k)

-- how far it is to the right in a quarter
abbrev pub right_at : Quarter → (ℕ → Point) → ℕ → ℤ
right_at quarter path k = quarter.right *ℤ (way_along path k).x

-- how far it is up in a quarter
abbrev pub up_at : Quarter → (ℕ → Point) → ℕ → ℤ
up_at quarter path k = quarter.up *ℤ (way_along path k).y

-- the path's first `count` steps stay in the strip, never go back in its quarter by more than 1, and never farther
-- behind the start than the strip says
pub record StaysIn (strip : Strip) (path : ℕ → Point) (count : ℕ) : Type 0 where
  pub inside : (k : ℕ) → k ≤ count → IsFromTo strip.across.least strip.across.greatest (across_at strip.way path k)
  pub right : IsOnward (right_at strip.quarter path) count
  pub up : IsOnward (up_at strip.quarter path) count
  pub back_x : (k : ℕ) → k ≤ count → neg_ℤ strip.back.x ≤ℤ right_at strip.quarter path k
  pub back_y : (k : ℕ) → k ≤ count → neg_ℤ strip.back.y ≤ℤ up_at strip.quarter path k

-- a strip in which the path's first `count` steps stay
pub record HoldsPath (strip : Strip) (path : ℕ → Point) (count : ℕ) : Type 0 where
  pub is_strip : IsStrip strip
  pub stays : StaysIn strip path count

-- a path that begins by this step and then stays in the one strip stays in the other one from its start on
abbrev pub TakesStep : Strip → Vector → Strip → Type 0
TakesStep later step strip = (path : ℕ → Point) (count : ℕ) → step ≡ step_from path 0
    → StaysIn later (λ k. path (suc k)) count → StaysIn strip path (count + 1)

-- the strip as it is seen from one step earlier, with the same quarter
pub record IsEarlierStrip (later : Strip) (step : Vector) (strip : Strip) : Type 0 where
  pub is_strip : IsStrip strip
  pub takes : TakesStep later step strip
  pub same_quarter : strip.quarter ≡ later.quarter

-- the span, 0 among its numbers, takes in those of the strip as they are seen from one step earlier, and isn't too broad
pub record IsAcrossBefore (later : Strip) (step : Vector) (across : Span) : Type 0 where
  pub low : across.least ≤ℤ pos 0
  pub high : pos 0 ≤ℤ across.greatest
  pub least : across.least ≤ℤ (later.across.least +ℤ cross_of later.way step)
  pub greatest : (later.across.greatest +ℤ cross_of later.way step) ≤ℤ across.greatest
  pub narrow : (across.greatest -ℤ across.least) ≤ℤ later.breadth

-- how far a step along a row and one along a column go across the way, where they go onward in the quarter
pub record AreStrides (quarter : Quarter) (way : Vector) (strides : Strides) : Type 0 where
  pub row : strides.row ≡ cross_of way (record { x = quarter.right; y = pos 0 })
  pub column : strides.column ≡ cross_of way (record { x = pos 0; y = quarter.up })

-- the span takes in what the other one does, and a further number
pub record TakesIn (old : Span) (number : ℤ) (new : Span) : Type 0 where
  pub least : new.least ≤ℤ old.least
  pub greatest : old.greatest ≤ℤ new.greatest
  pub further : IsFromTo new.least new.greatest number

-- how far a strip's borders are from the point from which it is seen
abbrev pub seen_of : Lane → Span
seen_of lane = record { least = lane.across.least -ℤ lane.here; greatest = lane.across.greatest -ℤ lane.here }

-- the lane is seen from the point of this number, takes in that point and the other lane, and isn't broader than that
pub record IsWiderLane (lane : Lane) (here breadth : ℤ) (wider : Lane) : Type 0 where
  pub seen_from : wider.here ≡ here
  pub takes_in : TakesIn lane.across here wider.across
  pub narrow : (wider.across.greatest -ℤ wider.across.least) ≤ℤ breadth

-- the same strip with other borders
abbrev pub with_across : Strip → Span → Strip
with_across strip across = record {
  quarter = strip.quarter;
  way = strip.way;
  breadth = strip.breadth;
  across = across;
  back = strip.back;
}

-- 0 alone
abbrev pub no_span : Span
no_span = record { least = pos 0; greatest = pos 0 }

-- the least number is 0 or lower and the greatest 0 or higher, and neither is beyond these
pub record IsSpan (low high : ℤ) (span : Span) : Type 0 where
  pub least : IsFromTo low (pos 0) span.least
  pub greatest : IsFromTo (pos 0) high span.greatest

-- numbers that a path of some ten thousand pixels may have
pub record IsSmallExtent (extent : Extent) : Type 0 where
  pub across : IsSpan (neg_ℤ (pos (2 ^ 34))) (pos (2 ^ 34)) extent.across
  pub right : IsSpan (negsuc 0) (pos 65536) extent.right
  pub up : IsSpan (negsuc 0) (pos 65536) extent.up

-- the extent takes in what the other one does, and a further place, so far across the way and onward in the quarter, that
-- isn't more than 1 behind the others
pub record TakesInPlace (old : Extent) (across : ℤ) (onward : Vector) (new : Extent) : Type 0 where
  pub small : IsSmallExtent new
  pub across_in : TakesIn old.across across new.across
  pub right : TakesIn old.right onward.x new.right
  pub up : TakesIn old.up onward.y new.up
  pub on_right : old.right.greatest ≤ℤ (onward.x +ℤ pos 1)
  pub on_up : old.up.greatest ≤ℤ (onward.y +ℤ pos 1)

-- the first numbers lie in the span
abbrev pub AreInSpan : Span → (ℕ → ℤ) → ℕ → Type 0
AreInSpan span f count = (k : ℕ) → k ≤ count → IsFromTo span.least span.greatest (f k)

-- how far the path's first `count` steps go to each side; they never go back in the quarter by more than 1
pub record IsExtent (quarter : Quarter) (way : Vector) (path : ℕ → Point) (count : ℕ) (extent : Extent) : Type 0 where
  pub small : IsSmallExtent extent
  pub across : AreInSpan extent.across (across_at way path) count
  pub right : AreInSpan extent.right (right_at quarter path) count
  pub up : AreInSpan extent.up (up_at quarter path) count
  pub on_right : IsOnward (right_at quarter path) count
  pub on_up : IsOnward (up_at quarter path) count

-- neither is after more steps than these
pub record AreUpTo (most : ℕ) (ends : Ends) : Type 0 where
  pub right : ends.right ≤ most
  pub left : ends.left ≤ most

-- how far the path's first `count` steps go to each side of the way, and after which of them it is farthest
pub record IsSway (way : Vector) (path : ℕ → Point) (count : ℕ) (sway : Sway) : Type 0 where
  pub small : IsSpan (neg_ℤ (pos (2 ^ 34))) (pos (2 ^ 34)) sway.span
  pub span : AreInSpan sway.span (across_at way path) count
  pub ends : AreUpTo count sway.ends

-- the subpath of so many steps from a point, at least one, goes so far to the right and up in the quarter: none of its steps
-- goes back there
pub record GoesAllOnward (points : List Point) (first most : ℕ) (quarter : Quarter) (onward : Vector) : Type 0 where
  pub walk : IsClosedWalk points
  pub some : 1 ≤ most
  pub is_quarter : IsQuarter quarter
  pub short : IsShort 65535 (way_along (path_from points first) most)
  pub right : onward.x ≡ right_at quarter (path_from points first) most
  pub up : onward.y ≡ up_at quarter (path_from points first) most
  pub all : (onward.x +ℤ onward.y) ≡ pos most
