-- The way between two places that are near the ends of a segment.
use Rattle.std.proofs.Common.{◌≡◌, ℕ, ◌+◌, ◌*◌, ◌≤◌, ℤ, pos, ◌+ℤ◌, ◌-ℤ◌, ◌*ℤ◌, List, sym, subst, arith}
use Rattle.std.proofs.lemmas.Int.{ints}
use Rattle.std.specs.Prelude.{unsigned_abs}
use Rattle.pt_core.specs.ClosedWalk.{IsClosedWalk, point_at}
use Rattle.pt_core.specs.declared.point.Point.{Point}
use Rattle.pt_core.proofs.Terms.{same_value}
use Rattle.pt_core.proofs.Terms.Term.{num, plus, less, times}
use Rattle.pt_core.proofs.Sizes.{product_most}
use Rattle.straight_paths.specs.Straight.{IsPossible}
use Rattle.outline_distance.specs.Distance.{IsCloseTo, PassesBy, point_place}
use Rattle.outline_distance.proofs.Ways.{IsNearWay, near_way}

pub shares : (r p a b c u v : ℤ) → r *ℤ (pos 1024 *ℤ c -ℤ u) +ℤ p *ℤ (pos 1024 *ℤ c -ℤ v)
    ≡ pos 1024 *ℤ (r *ℤ (c -ℤ a) +ℤ p *ℤ (c -ℤ b)) -ℤ (r *ℤ (u -ℤ pos 1024 *ℤ a) +ℤ p *ℤ (v -ℤ pos 1024 *ℤ b))
shares r p a b c u v = same_value
    (plus (times (num r) (less (times (num (pos 1024)) (num c)) (num u))) (times (num p) (less (times (num (pos 1024)) (num c)) (num v))))
    (less (times (num (pos 1024)) (plus (times (num r) (less (num c) (num a))) (times (num p) (less (num c) (num b)))))
    (plus (times (num r) (less (num u) (times (num (pos 1024)) (num a)))) (times (num p) (less (num v) (times (num (pos 1024)) (num b))))))
    (omega arith)

sizes : (z s t : ℤ) (n k l : ℕ) → unsigned_abs z ≤ n → unsigned_abs s ≤ k → unsigned_abs t ≤ l
    → unsigned_abs (pos 1024 *ℤ z -ℤ (s +ℤ t)) ≤ 1024 * n + (k + l)
sizes z s t n k l f g h = omega (arith, ints)

moved_ends : (r p most : ℕ) (a b c u v : ℤ) → unsigned_abs (u -ℤ pos 1024 *ℤ a) ≤ most → unsigned_abs (v -ℤ pos 1024 *ℤ b) ≤ most
    → unsigned_abs (pos r *ℤ (c -ℤ a) +ℤ pos p *ℤ (c -ℤ b)) ≤ r + p
    → unsigned_abs (pos r *ℤ (pos 1024 *ℤ c -ℤ u) +ℤ pos p *ℤ (pos 1024 *ℤ c -ℤ v)) ≤ (r + p) * (1024 + most)
moved_ends r p most a b c u v f g h =
    let s = sizes (pos r *ℤ (c -ℤ a) +ℤ pos p *ℤ (c -ℤ b)) (pos r *ℤ (u -ℤ pos 1024 *ℤ a)) (pos p *ℤ (v -ℤ pos 1024 *ℤ b))
    (r + p) (r * most) (p * most) h
    (product_most (pos r) (u -ℤ pos 1024 *ℤ a) r most (omega arith) f)
    (product_most (pos p) (v -ℤ pos 1024 *ℤ b) p most (omega arith) g) in
    let P : ℤ → Type 0 = λ z. unsigned_abs z ≤ 1024 * (r + p) + (r * most + p * most) in
    let t = subst P (sym (shares (pos r) (pos p) a b c u v)) s in
    omega arith

pub way_passes : (a b c u v : Point) (most : ℕ) → IsNearWay a b c → IsCloseTo most (point_place a) u → IsCloseTo most (point_place b) v
    → PassesBy (1024 + most) u v (point_place c)
way_passes a b c u v most near first last = record {
  before = near.r;
  after = near.p;
  some = near.some;
  in_x = moved_ends near.r near.p most a.x b.x c.x u.x v.x first.x last.x near.in_x;
  in_y = moved_ends near.r near.p most a.y b.y c.y u.y v.y first.y last.y near.in_y;
}

same_coordinate : (z : ℤ) → unsigned_abs (z -ℤ z) ≤ 0
same_coordinate z = omega (arith, ints)

at_home : (a : Point) → IsCloseTo 0 a a
at_home a = record { x = same_coordinate a.x; y = same_coordinate a.y }

pub passes_points : (points : List Point) (i j k : ℕ) → IsClosedWalk points → IsPossible points i j → i ≤ k → k ≤ j
    → PassesBy 1024 (point_place (point_at points i)) (point_place (point_at points j)) (point_place (point_at points k))
passes_points points i j k closed possible h l =
    way_passes (point_at points i) (point_at points j) (point_at points k) (point_place (point_at points i)) (point_place (point_at points j)) 0
    (near_way points i j k closed possible h l)
    (at_home (point_place (point_at points i))) (at_home (point_place (point_at points j)))
