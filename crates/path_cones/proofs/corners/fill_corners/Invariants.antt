use Rattle.std.proofs.Common.{◌≡◌, ℕ, ◌<◌, ◌≤◌, length, get_or, unsigned_abs}
use Rattle.pt_core.specs.ClosedWalk.{point_at}
use Rattle.path_cones.specs.Corners.{IsNextCorner}
use Rattle.path_cones.specs.Inner.Corners.{mark_of, marked_by}
use Rattle.path_cones.proofs.corners.fill_corners.Given as goal

abbrev pub invariant-loop-index : goal.invariant-loop-index
invariant-loop-index l = record {
  next : IsNextCorner l.laps l.index l.next;
  there : l.there ≡ mark_of (point_at l.laps l.index);
  small : unsigned_abs l.there ≤ 8589934592;
  after : l.after ≡ marked_by l.laps l.index;
  done : (i : ℕ) → l.index ≤ i → i < length l.laps → IsNextCorner l.laps i (get_or l.corners i 0);
}
