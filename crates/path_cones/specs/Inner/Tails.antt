-- What is straight from an index on, within two laps of a closed path.
use Rattle.std.specs.Prelude.{◌≡◌, ◌≢◌, ◌⊎◌, ℕ, ◌+◌, ◌-◌, ◌<◌, ◌≤◌, ℤ, pos, negsuc, min, max, List, length, slice_index}
use Rattle.pt_core.specs.declared.point.Point.{Point}
use Rattle.path_cones.specs.Straight.{vector_of, Takes, IsStraight, path_from, east, north, west, south}
use Rattle.path_cones.specs.Inner.Cones.{IsClear}
use Rattle.path_cones.specs.declared.vector.Vector.{Vector}
use Rattle.path_cones.specs.declared.quarter.Quarter.{Quarter}
use Rattle.path_cones.specs.declared.tail.Ahead.{Ahead}
use Rattle.path_cones.specs.declared.tail.NextOnward.{NextOnward}
use Rattle.path_cones.specs.declared.tail.Tail.{Tail}
use Rattle.pt_core.specs.declared.limits.TheConstants.{MOST_STEPS}

-- the most steps that matter: those of a possible segment, one before it and one after it
abbrev pub limit_of : List Point → ℕ
limit_of points = min (length points - 1) (MOST_STEPS + 2)

-- the last index of the two laps that matters: the subpaths from the first lap's points, up to the limit,
-- end before it
abbrev pub last_of : List Point → ℕ
last_of points = length points + limit_of points

-- so many places of the two laps are looked up: all of the first one, and of the second one what a few steps more reach
abbrev pub known_of : List Point → ℕ
known_of points = length points + min (length points) (MOST_STEPS + 4)

-- the subpath of so many steps from a point of the first lap is shorter than a lap, and has no more than matter
pub record IsSubpath (points : List Point) (first steps : ℕ) : Type 0 where
  pub in_lap : first < length points
  pub short_of_lap : steps < length points
  pub few : steps ≤ limit_of points

-- an index of the two laps, and its place in one lap
abbrev pub IsAtPlace : List Point → ℕ → ℕ → Type 0
IsAtPlace points place index = (index ≡ place) ⊎ (index ≡ place + length points)

-- the way from the path's start to its point number k
abbrev pub way_along : (ℕ → Point) → ℕ → Vector
way_along path k = vector_of (path 0) (path k)

-- of the path's first `most` steps, the cones from its start hold for exactly the first `count`
pub record IsClearUpTo (path : ℕ → Point) (most count : ℕ) : Type 0 where
  pub within : count ≤ most
  pub clear : IsClear path count
  pub no_more : (c : ℕ) → c ≤ most → IsClear path c → c ≤ count

-- of the steps from an index on, up to the limit and to this end, the cones from there hold for
-- exactly the first `count`
pub record IsClearBefore (points : List Point) (at end count : ℕ) : Type 0 where
  pub most : count ≤ limit_of points
  pub within : at + count ≤ end
  pub clear : IsClear (path_from points at) count
  pub no_more : (c : ℕ) → c ≤ limit_of points → at + c ≤ end → IsClear (path_from points at) c
      → c ≤ count

-- of the steps from point i on, up to the limit, exactly the first `count` are straight
pub record IsStraightFor (points : List Point) (i count : ℕ) : Type 0 where
  pub most : count ≤ limit_of points
  pub straight : IsStraight (path_from points i) count
  pub no_more : (c : ℕ) → c ≤ limit_of points → IsStraight (path_from points i) c → c ≤ count

-- for each point, how many steps from there on are straight
pub record AreStraight (points : List Point) (steps : List ℕ) : Type 0 where
  pub places : length steps ≡ length points
  pub straight : (i : ℕ) → i < length points → IsStraightFor points i (slice_index steps i)

-- `index` is where this step is taken next, at `at` or after it, as far as a last index can tell
pub record IsNext (points : List Point) (last at : ℕ) (step : Vector) (index : ℕ) : Type 0 where
  pub after : at ≤ index
  pub taken : (c : ℕ) → at + c ≤ last → index < at + c → Takes (path_from points at) c step
  pub first : (c : ℕ) → at + c ≤ last → Takes (path_from points at) c step → index < at + c

-- each of the four directions is taken next where it is said, as far as a last index can tell
pub record IsAhead (points : List Point) (at : ℕ) (ahead : Ahead) : Type 0 where
  pub order : at ≤ ahead.last
  pub within : ahead.last ≤ last_of points
  pub east : IsNext points ahead.last at east ahead.east
  pub north : IsNext points ahead.last at north ahead.north
  pub west : IsNext points ahead.last at west ahead.west
  pub south : IsNext points ahead.last at south ahead.south

-- it is this index where the step goes as far as is wanted, and else the later one
abbrev pub IsIndexOf : ℤ → ℤ → ℕ → ℕ → ℕ → Type 0
IsIndexOf goes wanted here later index = ((goes ≡ wanted) × (index ≡ here)) ⊎ ((goes ≢ wanted) × (index ≡ later))

-- where each direction is taken next, if this step is taken at an earlier index
pub record IsSooner (ahead : Ahead) (step : Vector) (here : ℕ) (sooner : Ahead) : Type 0 where
  pub east : IsIndexOf step.x (pos 1) here ahead.east sooner.east
  pub north : IsIndexOf step.y (pos 1) here ahead.north sooner.north
  pub west : IsIndexOf step.x (negsuc 0) here ahead.west sooner.west
  pub south : IsIndexOf step.y (negsuc 0) here ahead.south sooner.south
  pub same_last : sooner.last ≡ ahead.last

-- of the subpaths from `at`, up to the limit and the last index that was looked at, exactly those are straight
-- that end by the tail's end
pub record IsTail (points : List Point) (at : ℕ) (tail : Tail) : Type 0 where
  pub at_least : at ≤ tail.end
  pub at_most : tail.end ≤ at + limit_of points
  pub straight : (c : ℕ) → at + c ≤ tail.ahead.last → at + c ≤ tail.end
      → IsStraight (path_from points at) c
  pub no_more : (c : ℕ) → c ≤ limit_of points → at + c ≤ tail.ahead.last
      → IsStraight (path_from points at) c → at + c ≤ tail.end
  pub ahead : IsAhead points at tail.ahead

-- where the direction that goes back in a row is taken first, in a quarter whose sign in rows is this one
abbrev pub back_in_row : ℤ → Ahead → ℕ
back_in_row (pos n) ahead = ahead.west
back_in_row (negsuc n) ahead = ahead.east

-- the same in a column
abbrev pub back_in_column : ℤ → Ahead → ℕ
back_in_column (pos n) ahead = ahead.south
back_in_column (negsuc n) ahead = ahead.north

-- of two indices the second one where the sign is 1, else the first one
abbrev pub by_direction : ℤ → ℕ → ℕ → ℕ
by_direction (pos n) below above = above
by_direction (negsuc n) below above = below

-- the same places, but for the two directions that go onward in a quarter
abbrev pub with_onward : Quarter → Ahead → NextOnward → Ahead
with_onward quarter ahead onward = record {
  east = by_direction quarter.right ahead.east onward.row;
  north = by_direction quarter.up ahead.north onward.column;
  west = by_direction quarter.right onward.row ahead.west;
  south = by_direction quarter.up onward.column ahead.south;
  last = ahead.last;
}

-- where the steps that go onward are taken next, if this one of them is taken at an earlier index
pub record IsSoonerOnward (onward : NextOnward) (step : Vector) (here : ℕ) (sooner : NextOnward) : Type 0 where
  pub row : IsIndexOf step.x (pos 0) onward.row here sooner.row
  pub column : IsIndexOf step.x (pos 0) here onward.column sooner.column

-- where the later of the two directions that go back in a quarter is taken first
abbrev pub both_back_of : Quarter → Ahead → ℕ
both_back_of quarter ahead = max (back_in_row quarter.right ahead) (back_in_column quarter.up ahead)
