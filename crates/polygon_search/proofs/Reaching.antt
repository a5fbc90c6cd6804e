-- How far the segments of a path's polygons reach.
use Rattle.std.proofs.Common.{◌≡◌, ℕ, ◌+◌, ◌-◌, ◌<◌, ◌≤◌, List, length, subst, sym, arith}
use Rattle.std.proofs.lemmas.List.{get_or_past}
use Rattle.std.specs.Prelude.{slice_index}
use Rattle.std.proofs.Math.Decide.{dec_lt}
use Rattle.pt_core.specs.declared.point.Point.{Point}
use Rattle.straight_paths.specs.Straight.{IsPossible, IsFarthest}
use Rattle.straight_paths.proofs.Far.{shorter_possible}
use Rattle.least_walk.specs.LeastWalk.{IsWalk, IsLeast, walk_from}
use Rattle.polygon_search.specs.Polygon.{IsSegment, IsBestPolygon, penalty_of}
use Rattle.polygon_search.specs.Inner.Lasts.{IsLast, HasLasts, LeadsOn, IsUpToLast}

-- the longest segment has as many steps as are possible, up to the end of the path
pub last_from_farthest : (points : List Point) (i far last : ℕ) → IsFarthest points i far → i < length points → 1 ≤ far
    → last ≤ length points → last ≤ i + far → i < last → ((j : ℕ) → j ≤ length points → j ≤ i + far → j ≤ last) → IsLast points i last
last_from_farthest points i far last farthest below some within reached rises greatest =
    record {
      reached = record { possible = shorter_possible points i last (i + far) farthest.reached rises reached; ends = within };
      farthest = λ j segment.
          (let goes = segment.possible.rises in
          let is : i + (j - i) ≡ j = omega arith in
          let P : ℕ → Type 0 = λ n. IsPossible points i n in
          let most = farthest.greatest (j - i) (subst P (sym is) segment.possible) in
          greatest j segment.ends (omega arith));
    }

-- so it leads onwards
pub leads_on : (points : List Point) (lasts : List ℕ) → HasLasts points lasts → (i : ℕ) → i < length points → LeadsOn (length points) i (slice_index lasts i)
leads_on points lasts has i below =
    let longest = (has.each i below).reached in
    record { beyond = longest.possible.rises; within = longest.ends; short = longest.possible.short }

-- what goes no farther than the longest segment is a segment
pub segment_up_to : (points : List Point) (lasts : List ℕ) → HasLasts points lasts → (i j : ℕ) → IsUpToLast lasts i j → IsSegment points i j
segment_up_to points lasts has i j up =
    elim (dec_lt i (length points)) [
      | yes below ↦ (let longest = has.each i below in
          let ends = longest.reached.ends in
          record {
            possible = shorter_possible points i j (slice_index lasts i) longest.reached.possible up.0 up.1;
            ends = omega (arith, up.1);
          })
      | no beyond ↦ (let none = get_or_past lasts i 0 (omega (arith, has.places)) in
          absurd (omega (arith, up.0, up.1, none)))
    ]

-- and no segment goes farther
pub up_to_segment : (points : List Point) (lasts : List ℕ) → HasLasts points lasts → (i j : ℕ) → IsSegment points i j → IsUpToLast lasts i j
up_to_segment points lasts has i j segment =
    let rises = segment.possible.rises in
    let ends = segment.ends in
    (rises, (has.each i (omega arith)).farthest j segment)

module _ (size : ℕ) (is_allowed may : ℕ → ℕ → Type 0) (so : (i j : ℕ) → is_allowed i j → may i j) where
  -- a walk stays one where more steps are allowed
  pub walk_where_more : (walk : List ℕ) → IsWalk size is_allowed walk → IsWalk size may walk
  walk_where_more walk is = record {
    first = is.first;
    last = is.last;
    rises = is.rises;
    allowed = λ k d short. so _ _ (is.allowed k d short);
  }

-- the walk is the least of a path by steps no farther than these
abbrev IsLeastUpTo : List ℕ → List ℕ → List Point → Type 0
IsLeastUpTo lasts at points = IsLeast (length points) (IsUpToLast lasts) (penalty_of points) (walk_from at (length points))

-- the least walk by steps no farther than the longest segments is the best polygon
pub best_from_least : (points measured : List Point) (lasts at : List ℕ) → measured ≡ points → HasLasts points lasts
    → IsLeast (length measured) (IsUpToLast lasts) (penalty_of measured) (walk_from at (length measured)) → IsBestPolygon points at
best_from_least points measured lasts at same has least_measured =
    let least = subst (IsLeastUpTo lasts at) same least_measured in
    record {
      is_walk = walk_where_more (length points) (IsUpToLast lasts) (IsSegment points) (segment_up_to points lasts has) (walk_from at (length points)) least.is_walk;
      none_before = λ other walk. least.none_before other
          (walk_where_more (length points) (IsSegment points) (IsUpToLast lasts) (up_to_segment points lasts has) other walk);
    }
