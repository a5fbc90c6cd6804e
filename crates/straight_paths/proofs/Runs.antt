-- What is straight from one index earlier, in a strip that holds that point too.
use Rattle.std.proofs.Common.{◌≡◌, ◌≢◌, inl, inr, ℕ, ◌+◌, ◌-◌, ◌≤◌, min, ℤ, pos, negsuc, ◌*ℤ◌, ◌≤ℤ◌, ◌<ℤ◌, Some, List, refl, ap, arith}
use Rattle.std.proofs.lemmas.Int.{ints}
use Rattle.pt_core.specs.ClosedWalk.{IsClosedWalk, point_at}
use Rattle.pt_core.specs.declared.point.Point.{Point}
use Rattle.path_cones.specs.Straight.{path_from, vector_of}
use Rattle.path_cones.specs.Inner.Strips.{IsEarlierStrip, StaysIn, TakesStep}
use Rattle.straight_paths.specs.Inner.Sweeps.{IsEnd, IsSeen}
use Rattle.path_cones.specs.Inner.Tails.{IsClearBefore, IsIndexOf, IsSooner, IsTail, back_in_column, back_in_row, both_back_of, limit_of}
use Rattle.path_cones.specs.Inner.Wedges.{GoesOnward, IsQuarter, IsSign}
use Rattle.path_cones.specs.declared.quarter.Quarter.{Quarter}
use Rattle.path_cones.specs.declared.strip.Strip.{Strip}
use Rattle.straight_paths.specs.declared.sweep.Seen.{Seen}
use Rattle.path_cones.specs.declared.tail.Ahead.{Ahead}
use Rattle.path_cones.specs.declared.vector.Vector.{Vector}
use Rattle.path_cones.proofs.Sooner.{ahead_earlier, four_taken}
use Rattle.path_cones.proofs.Ends.{clear_seen, tail_earlier, to_all}
use Rattle.path_cones.proofs.Staying.{stays_clear, stays_earlier, stays_shorter}
use Rattle.straight_paths.proofs.Windows.{end_of_seen, seen_earlier}

-- a tail that ends there, and a strip
abbrev pub seen_by : Strip → ℕ → Ahead → Seen
seen_by strip end ahead = record { tail = record { end = end; ahead = ahead }; strip = Some strip }

-- from one index earlier, where the strip holds that point too and the last of the four directions isn't taken before the end
module _ (points : List Point) (walk : IsClosedWalk points) (last at end : ℕ) (strip : Strip) (later : Ahead) (step : Vector)
    (is : step ≡ vector_of (point_at points at) (point_at points (at + 1))) (seen : IsSeen points last (at + 1) (seen_by strip end later)) where
  pub seen_by_step : (new : ℕ) (earlier : Strip) (sooner : Ahead) → IsEarlierStrip strip step earlier → IsSooner later step at sooner
      → end ≤ four_taken sooner → new ≡ min end (at + limit_of points) → IsSeen points last at (seen_by earlier new sooner)
  seen_by_step new earlier sooner before here late new_is =
      let order = seen.tail.at_least in
      let within = seen.within in
      let next = ahead_earlier points walk at later sooner step is here seen.tail.ahead in
      let stays : StaysIn earlier (path_from points at) (end - at) = stays_earlier points at end strip earlier step order is seen.strip.stays before.takes in
      let most : ℕ = min (limit_of points) (end - at) in
      let clear : IsClearBefore points at end most = clear_seen points at end most (omega arith) refl (stays_clear earlier (path_from points at) (end - at) before.is_strip stays) in
      let tail : IsTail points at (record { end = new; ahead = sooner }) =
      tail_earlier points at (record { end = end; ahead = later }) sooner most new seen.tail next clear here.same_last (omega arith) in
      seen_earlier points last at (seen_by strip end later) (seen_by earlier new sooner) seen tail here.same_last (omega arith) (record {
        is_strip = before.is_strip;
        stays = stays_shorter earlier (path_from points at) (new - at) (end - at) (omega arith) stays;
      })

row_of_four : (sign : ℤ) (ahead : Ahead) → IsSign sign → back_in_row sign ahead ≤ four_taken ahead
row_of_four sign ahead (inl e) = rw e (omega arith)
row_of_four sign ahead (inr e) = rw e (omega arith)

column_of_four : (sign : ℤ) (ahead : Ahead) → IsSign sign → back_in_column sign ahead ≤ four_taken ahead
column_of_four sign ahead (inl e) = rw e (omega arith)
column_of_four sign ahead (inr e) = rw e (omega arith)

pub behind_of_four : (quarter : Quarter) (ahead : Ahead) → IsQuarter quarter → both_back_of quarter ahead ≤ four_taken ahead
behind_of_four quarter ahead is =
    let row = row_of_four quarter.right ahead is.right in
    let column = column_of_four quarter.up ahead is.up in
    omega arith
