-- What is straight from an index on, as a sweep knows it.
use Rattle.std.specs.Prelude.{◌≡◌, ◌⊎◌, ℕ, ◌+◌, ◌-◌, ◌<◌, ◌≤◌, List, length, slice_index, IfSome}
use Rattle.pt_core.specs.declared.point.Point.{Point}
use Rattle.path_cones.specs.Inner.Codes.{IsCoded}
use Rattle.path_cones.specs.Straight.{IsStraight, path_from}
use Rattle.path_cones.specs.Inner.Strips.{HoldsPath}
use Rattle.straight_paths.specs.Inner.Tables.{IsWordOf, IsWordTable, count_at, digits_at}
use Rattle.path_cones.specs.Inner.Tails.{IsTail, limit_of, last_of}
use Rattle.straight_paths.specs.declared.sweep.Seen.{Seen}
use Rattle.straight_paths.specs.declared.sweep.Sweep.{Sweep}
use Rattle.straight_paths.specs.declared.sweep.Sweep.TheVariants.{Told, Held}
use Rattle.straight_paths.specs.declared.table.Table.{Table}

-- of the steps from an index on, up to a last index, exactly the first `count` are straight
pub record IsStraightBefore (points : List Point) (last at count : ℕ) : Type 0 where
  pub in_laps : last ≤ last_of points
  pub within : at + count ≤ last
  pub straight : IsStraight (path_from points at) count
  pub no_more : (c : ℕ) → at + c ≤ last → IsStraight (path_from points at) c → c ≤ count

-- the same up to the limit
pub record IsEnd (points : List Point) (last at count : ℕ) : Type 0 where
  pub most : count ≤ limit_of points
  pub within : at + count ≤ last
  pub straight : IsStraight (path_from points at) count
  pub no_more : (c : ℕ) → c ≤ limit_of points → at + c ≤ last → IsStraight (path_from points at) c → c ≤ count

-- word number `node` of the table is that of the steps from an index on that are straight
pub record IsTold (table : Table) (points : List Point) (last at node : ℕ) : Type 0 where
  pub word : IsWordOf table node
  pub window : IsStraightBefore points last at (count_at table node)
  pub coded : IsCoded (count_at table node) (path_from points at) (digits_at table node)

-- a tail, beyond which nothing is straight up to a last index, and a strip that holds what is straight
pub record IsSeen (points : List Point) (last at : ℕ) (seen : Seen) : Type 0 where
  pub tail : IsTail points at seen.tail
  pub within : seen.tail.end ≤ seen.tail.ahead.last
  pub looked : seen.tail.ahead.last ≤ last
  pub in_laps : last ≤ last_of points
  pub no_more : (c : ℕ) → c ≤ limit_of points → at + c ≤ last → IsStraight (path_from points at) c
      → at + c ≤ seen.tail.ahead.last
  pub strip : IfSome seen.strip (λ strip. HoldsPath strip (path_from points at) (seen.tail.end - at))

-- what a sweep has seen is told by a word of the table, or held as a tail and a strip
abbrev pub IsToldOrSeen : Table → List Point → ℕ → ℕ → Sweep → Type 0
IsToldOrSeen table points last at (Told node) = IsTold table points last at node
IsToldOrSeen table points last at (Held seen) = IsSeen points last at seen

-- a sweep that has come to an index, by a table of words
pub record IsSweep (table : Table) (points : List Point) (last at : ℕ) (sweep : Sweep) : Type 0 where
  pub whole : IsWordTable table
  pub seen : IsToldOrSeen table points last at sweep

-- what stands beyond the last index changes nothing from the first lap on: not all steps of the second lap up to it
-- are straight, or it is the last one that matters
pub record IsEnough (points : List Point) (last : ℕ) : Type 0 where
  pub lap : length points ≤ last
  pub most : last ≤ last_of points
  pub ends : (last ≡ last_of points) ⊎ ¬ IsStraight (path_from points (length points)) (last - length points)

-- the list has a place for each point, and for each index from here on of the lap that begins at `lap`, before a last index,
-- it tells how many steps from there are straight, as far as the last index lets one see
pub record AreEndsFrom (points : List Point) (last lap from : ℕ) (steps : List ℕ) : Type 0 where
  pub places : length steps ≡ length points
  pub begun : lap ≤ from
  pub in_lap : from ≤ lap + length points
  pub ends : (i : ℕ) → from ≤ i → i < last → i < lap + length points → IsEnd points last i (slice_index steps (i - lap))
