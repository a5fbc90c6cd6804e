-- Copies of paths are paths that are moved.
use Rattle.std.proofs.Common.{◌≡◌, ℤ, ◌+ℤ◌, ◌-ℤ◌, List, sym, arith}
use Rattle.std.proofs.lemmas.Int.{ints}
use Rattle.pt_core.specs.ClosedWalk.{point_at}
use Rattle.pt_core.specs.declared.point.Point.{Point}
use Rattle.path_copies.specs.Copy.{IsCopy}
use Rattle.outline_copies.specs.Moved.{AreMoved}
use Rattle.outline_copies.proofs.Vertices.{same_above, same_rightward}

pub moved_copy : (right up : ℤ) (points other : List Point) → AreMoved right up points other → IsCopy points other
moved_copy right up points other moved = record {
  count = sym moved.count;
  right = λ k. sym (same_rightward right up points other moved 0 k);
  above = λ k. sym (same_above right up points other moved 0 k);
}

-- a point is moved by the same displacement as the first point
by_the_first : (a b c d : ℤ) → b -ℤ a ≡ d -ℤ c → d ≡ b +ℤ (c -ℤ a)
by_the_first a b c d same = omega (arith, ints)

pub first_moved : (points other : List Point) → IsCopy points other
    → AreMoved ((point_at other 0).x -ℤ (point_at points 0).x) ((point_at other 0).y -ℤ (point_at points 0).y) points other
first_moved points other copy =
    let p = point_at points 0 in
    let q = point_at other 0 in
    record {
      count = sym copy.count;
      each = λ k. (let x = by_the_first p.x (point_at points k).x q.x (point_at other k).x (copy.right k) in
          let y = by_the_first p.y (point_at points k).y q.y (point_at other k).y (copy.above k) in
          λ i. record { x = x i; y = y i });
    }

pub copy_moved : (points other : List Point) → IsCopy points other → (right : ℤ) × (up : ℤ) × AreMoved right up points other
copy_moved points other copy =
    ((point_at other 0).x -ℤ (point_at points 0).x, (point_at other 0).y -ℤ (point_at points 0).y, first_moved points other copy)
