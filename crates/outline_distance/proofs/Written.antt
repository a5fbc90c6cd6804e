-- What a text has of places and of outlines of corners is off by half a unit at most.
use Rattle.std.proofs.Common.{◌≡◌, ◌⊎◌, inl, inr, ℕ, ◌+◌, ◌-◌, ◌*◌, ◌%◌, ◌<◌, ◌≤◌, ℤ, pos, negsuc, ◌+ℤ◌, ◌-ℤ◌, ◌*ℤ◌, List, length, slice_index, sym, ap, ◌∙◌, subst, arith}
use Rattle.std.proofs.lemmas.Bool.{cases_lt}
use Rattle.std.proofs.lemmas.Int.{ints}
use Rattle.std.proofs.Math.Nat.{mod-lt}
use Rattle.std.specs.Prelude.{unsigned_abs}
use Rattle.pt_core.specs.ClosedWalk.{IsClosedWalk, point_at}
use Rattle.pt_core.specs.Floor.{floor_of, rounded}
use Rattle.pt_core.specs.declared.point.Point.{Point}
use Rattle.pt_core.proofs.Sizes.{product_most}
use Rattle.pt_core.proofs.Terms.{same_value}
use Rattle.pt_core.proofs.Terms.Term.{num, plus, less, times}
use Rattle.corner_smooth.specs.Corner.{middle_of}
use Rattle.vertex_adjust.specs.Vertex.{AreVertices, segment_end_of}
use Rattle.outline_distance.specs.Distance.{IsCloseTo, PassesBy, divided, multiple, point_place}
use Rattle.outline_distance.specs.Polygons.{IsAnyPolygon}
use Rattle.outline_distance.specs.Written.{as_written}
use Rattle.outline_distance.proofs.Between.{side_near_edge}
use Rattle.outline_distance.proofs.Curves.{halfway}
use Rattle.outline_distance.proofs.Sides.{first_end, joint_near, point_near}

-- ---- places

floor_near : (t : ℤ) → unsigned_abs ((t -ℤ pos 1024) -ℤ pos 2048 *ℤ floor_of t 2048) ≤ 1024
floor_near (pos a) = omega (arith, ints)
floor_near (negsuc a) = omega (arith, ints)

half_of : (z y r : ℤ) → z ≡ pos 2 *ℤ y → unsigned_abs (((z +ℤ pos 1024) -ℤ pos 1024) -ℤ pos 2048 *ℤ r) ≤ 1024
    → unsigned_abs (y -ℤ pos 1024 *ℤ r) ≤ 512
half_of z y r e h = omega (arith, ints)

twice_out : (c u : ℤ) → (pos 2 *ℤ c) *ℤ u ≡ pos 2 *ℤ (u *ℤ c)
twice_out c u = same_value (times (times (num (pos 2)) (num c)) (num u)) (times (num (pos 2)) (times (num u) (num c))) (omega arith)

coordinate_close : (unit : ℕ) (c : ℤ) → unsigned_abs (pos unit *ℤ c -ℤ pos 1024 *ℤ rounded c unit) ≤ 512
coordinate_close unit c =
    half_of ((pos 2 *ℤ c) *ℤ pos unit) (pos unit *ℤ c) (rounded c unit) (twice_out c (pos unit)) (floor_near ((pos 2 *ℤ c) *ℤ pos unit +ℤ pos 1024))

pub place_close : (unit : ℕ) (p : Point) → IsCloseTo 512 (as_written unit p) (multiple unit p)
place_close unit p = record { x = coordinate_close unit p.x; y = coordinate_close unit p.y }

-- ---- a place that is close to one that is written

other_way : (a b : ℤ) (n : ℕ) → unsigned_abs (a -ℤ b) ≤ n → unsigned_abs (b -ℤ a) ≤ n
other_way a b n h = omega (arith, ints)

pub close_back : (most : ℕ) (a b : Point) → IsCloseTo most a b → IsCloseTo most b a
close_back most a b close = record { x = other_way b.x a.x most close.x; y = other_way b.y a.y most close.y }

by_way_of : (x y w : ℤ) (m n : ℕ) → unsigned_abs (x -ℤ y) ≤ m → unsigned_abs (y -ℤ w) ≤ n → unsigned_abs (x -ℤ w) ≤ m + n
by_way_of x y w m n h k = omega (arith, ints)

times_less : (u b a : ℤ) → u *ℤ (b -ℤ a) ≡ u *ℤ b -ℤ u *ℤ a
times_less u b a = same_value (times (num u) (less (num b) (num a))) (less (times (num u) (num b)) (times (num u) (num a))) (omega arith)

scaled : (unit most : ℕ) (a b : ℤ) → unsigned_abs (b -ℤ a) ≤ most → unsigned_abs (pos unit *ℤ b -ℤ pos unit *ℤ a) ≤ unit * most
scaled unit most a b close =
    let P : ℤ → Type 0 = λ z. unsigned_abs z ≤ unit * most in
    subst P (times_less (pos unit) b a) (product_most (pos unit) (b -ℤ a) unit most (omega arith) close)

-- the first place is written
pub close_written : (unit most : ℕ) (a b : Point) → IsCloseTo most a b → IsCloseTo (unit * most + 512) (as_written unit a) (multiple unit b)
close_written unit most a b close = record {
  x = by_way_of (pos unit *ℤ b.x) (pos unit *ℤ a.x) (pos 1024 *ℤ rounded a.x unit) (unit * most) 512 (scaled unit most a.x b.x close.x) (coordinate_close unit a.x);
  y = by_way_of (pos unit *ℤ b.y) (pos unit *ℤ a.y) (pos 1024 *ℤ rounded a.y unit) (unit * most) 512 (scaled unit most a.y b.y close.y) (coordinate_close unit a.y);
}

-- ---- a way between places that are written

shared_out : (m r p a b c u v : ℤ) → r *ℤ (m *ℤ c -ℤ u) +ℤ p *ℤ (m *ℤ c -ℤ v)
    ≡ m *ℤ (r *ℤ (c -ℤ a) +ℤ p *ℤ (c -ℤ b)) +ℤ (r *ℤ (m *ℤ a -ℤ u) +ℤ p *ℤ (m *ℤ b -ℤ v))
shared_out m r p a b c u v = same_value
    (plus (times (num r) (less (times (num m) (num c)) (num u))) (times (num p) (less (times (num m) (num c)) (num v))))
    (plus (times (num m) (plus (times (num r) (less (num c) (num a))) (times (num p) (less (num c) (num b)))))
    (plus (times (num r) (less (times (num m) (num a)) (num u))) (times (num p) (less (times (num m) (num b)) (num v)))))
    (omega arith)

sizes : (z s t : ℤ) (n k l : ℕ) → unsigned_abs z ≤ n → unsigned_abs s ≤ k → unsigned_abs t ≤ l → unsigned_abs (z +ℤ (s +ℤ t)) ≤ n + (k + l)
sizes z s t n k l f g h = omega (arith, ints)

ends_written : (unit most r p : ℕ) (a b c u v : ℤ) → unsigned_abs (pos unit *ℤ a -ℤ u) ≤ 512 → unsigned_abs (pos unit *ℤ b -ℤ v) ≤ 512
    → unsigned_abs (pos r *ℤ (c -ℤ a) +ℤ pos p *ℤ (c -ℤ b)) ≤ (r + p) * most
    → unsigned_abs (pos r *ℤ (pos unit *ℤ c -ℤ u) +ℤ pos p *ℤ (pos unit *ℤ c -ℤ v)) ≤ (r + p) * (unit * most + 512)
ends_written unit most r p a b c u v f g h =
    let z : ℤ = pos r *ℤ (c -ℤ a) +ℤ pos p *ℤ (c -ℤ b) in
    let s = sizes (pos unit *ℤ z) (pos r *ℤ (pos unit *ℤ a -ℤ u)) (pos p *ℤ (pos unit *ℤ b -ℤ v))
    (unit * ((r + p) * most)) (r * 512) (p * 512)
    (product_most (pos unit) z unit ((r + p) * most) (omega arith) h)
    (product_most (pos r) (pos unit *ℤ a -ℤ u) r 512 (omega arith) f)
    (product_most (pos p) (pos unit *ℤ b -ℤ v) p 512 (omega arith) g) in
    let P : ℤ → Type 0 = λ w. unsigned_abs w ≤ unit * ((r + p) * most) + (r * 512 + p * 512) in
    let t = subst P (sym (shared_out (pos unit) (pos r) (pos p) a b c u v)) s in
    omega arith

pub passes_written : (unit most : ℕ) (a b c : Point) → PassesBy most a b c → PassesBy (unit * most + 512) (as_written unit a) (as_written unit b) (multiple unit c)
passes_written unit most a b c near = record {
  before = near.before;
  after = near.after;
  some = near.some;
  in_x = ends_written unit most near.before near.after a.x b.x c.x (pos 1024 *ℤ rounded a.x unit) (pos 1024 *ℤ rounded b.x unit)
      (coordinate_close unit a.x) (coordinate_close unit b.x) near.in_x;
  in_y = ends_written unit most near.before near.after a.y b.y c.y (pos 1024 *ℤ rounded a.y unit) (pos 1024 *ℤ rounded b.y unit)
      (coordinate_close unit a.y) (coordinate_close unit b.y) near.in_y;
}

-- ---- the two halves of a way

half_weights : (d p : ℕ) (a c m : ℤ) → pos d *ℤ (c -ℤ a) +ℤ pos (p + p) *ℤ (c -ℤ m) ≡ pos (d + p) *ℤ (c -ℤ a) +ℤ pos p *ℤ (c -ℤ ((m +ℤ m) -ℤ a))
half_weights d p a c m = same_value
    (plus (times (num (pos d)) (less (num c) (num a))) (times (num (pos (p + p))) (less (num c) (num m))))
    (plus (times (num (pos (d + p))) (less (num c) (num a))) (times (num (pos p)) (less (num c) (less (plus (num m) (num m)) (num a)))))
    (omega arith)

doubled_back : (a b m : ℤ) → m +ℤ m ≡ a +ℤ b → b ≡ (m +ℤ m) -ℤ a
doubled_back a b m e = omega (arith, ints)

half_coordinate : (d p most : ℕ) (a b c m : ℤ) → m +ℤ m ≡ a +ℤ b
    → unsigned_abs (pos (d + p) *ℤ (c -ℤ a) +ℤ pos p *ℤ (c -ℤ b)) ≤ ((d + p) + p) * most
    → unsigned_abs (pos d *ℤ (c -ℤ a) +ℤ pos (p + p) *ℤ (c -ℤ m)) ≤ (d + (p + p)) * most
half_coordinate d p most a b c m e h =
    let P : ℤ → Type 0 = λ z. unsigned_abs (pos (d + p) *ℤ (c -ℤ a) +ℤ pos p *ℤ (c -ℤ z)) ≤ ((d + p) + p) * most in
    let Q : ℤ → Type 0 = λ z. unsigned_abs z ≤ ((d + p) + p) * most in
    let t = subst Q (sym (half_weights d p a c m)) (subst P (doubled_back a b m e) h) in
    omega arith

-- m is halfway between a and b
pub record IsHalfway (a b m : Point) : Type 0 where
  pub x : m.x +ℤ m.x ≡ a.x +ℤ b.x
  pub y : m.y +ℤ m.y ≡ a.y +ℤ b.y

turned : (r p most : ℕ) (s t : ℤ) → unsigned_abs (s +ℤ t) ≤ (r + p) * most → unsigned_abs (t +ℤ s) ≤ (p + r) * most
turned r p most s t h = (let e : unsigned_abs (t +ℤ s) ≡ unsigned_abs (s +ℤ t) = omega (arith, ints) in omega arith)

passes_back : (most : ℕ) (a b c : Point) → PassesBy most a b c → PassesBy most b a c
passes_back most a b c near = record {
  before = near.after;
  after = near.before;
  some = (let some = near.some in omega arith);
  in_x = turned near.before near.after most (pos near.before *ℤ (c.x -ℤ a.x)) (pos near.after *ℤ (c.x -ℤ b.x)) near.in_x;
  in_y = turned near.before near.after most (pos near.before *ℤ (c.y -ℤ a.y)) (pos near.after *ℤ (c.y -ℤ b.y)) near.in_y;
}

first_half : (most r p : ℕ) (a b c m : Point) → IsHalfway a b m → 1 ≤ r + p → p ≤ r
    → unsigned_abs (pos r *ℤ (c.x -ℤ a.x) +ℤ pos p *ℤ (c.x -ℤ b.x)) ≤ (r + p) * most
    → unsigned_abs (pos r *ℤ (c.y -ℤ a.y) +ℤ pos p *ℤ (c.y -ℤ b.y)) ≤ (r + p) * most → PassesBy most a m c
first_half most r p a b c m half some le in_x in_y =
    let whole : r ≡ (r - p) + p = omega arith in
    let P : ℤ → ℤ → ℤ → ℕ → Type 0 = λ u v w n. unsigned_abs (pos n *ℤ (w -ℤ u) +ℤ pos p *ℤ (w -ℤ v)) ≤ (n + p) * most in
    record {
      before = r - p;
      after = p + p;
      some = omega arith;
      in_x = half_coordinate (r - p) p most a.x b.x c.x m.x half.x (subst (P a.x b.x c.x) whole in_x);
      in_y = half_coordinate (r - p) p most a.y b.y c.y m.y half.y (subst (P a.y b.y c.y) whole in_y);
    }

other_sum : (a b m : ℤ) → m +ℤ m ≡ a +ℤ b → m +ℤ m ≡ b +ℤ a
other_sum a b m e = omega (arith, ints)

passes_half : (most : ℕ) (a b c m : Point) → IsHalfway a b m → PassesBy most a b c → PassesBy most a m c ⊎ PassesBy most m b c
passes_half most a b c m half near = elim (cases_lt near.before near.after) [
  | inr first ↦ inl (first_half most near.before near.after a b c m half near.some first near.in_x near.in_y)
  | inl second ↦
      let back : IsHalfway b a m = record { x = other_sum a.x b.x m.x half.x; y = other_sum a.y b.y m.y half.y } in
      let some = near.some in
      inr (passes_back most b m c (first_half most near.after near.before b a c m back (omega arith) (omega arith)
      (turned near.before near.after most (pos near.before *ℤ (c.x -ℤ a.x)) (pos near.after *ℤ (c.x -ℤ b.x)) near.in_x)
      (turned near.before near.after most (pos near.before *ℤ (c.y -ℤ a.y)) (pos near.after *ℤ (c.y -ℤ b.y)) near.in_y)))
]

-- ---- outlines of corners

joint_halfway : (points : List Point) (at : List ℕ) (vertices : List Point) (j k : ℕ) → AreVertices points at vertices → 0 < length vertices
    → IsHalfway (point_at vertices j) (point_at vertices k) (middle_of (point_at vertices j) (point_at vertices k))
joint_halfway points at vertices j k are some =
    let count : length vertices ≡ length at = are.count in
    let first = mod-lt j some in
    let second = mod-lt k some in
    let half = halfway points at vertices (j % length vertices) (k % length vertices) are (omega arith) (omega arith) in
    record { x = half.0; y = half.1 }

pub vertex_written : (points : List Point) (at : List ℕ) (vertices : List Point) (unit k : ℕ) → AreVertices points at vertices → k < length at
    → IsCloseTo (unit * 512 + 512) (as_written unit (point_at vertices k)) (multiple unit (point_place (point_at points (slice_index at k))))
vertex_written points at vertices unit k are within =
    close_written unit 512 (point_at vertices k) (point_place (point_at points (slice_index at k)))
    (close_back 512 (point_place (point_at points (slice_index at k))) (point_at vertices k) (first_end points at vertices k are within))

pub joint_written : (points : List Point) (at : List ℕ) (vertices : List Point) (unit k : ℕ)
    → IsClosedWalk points → IsAnyPolygon points at → AreVertices points at vertices → k < length at
    → (i : ℕ) × (slice_index at k ≤ i) × (i ≤ segment_end_of points at k)
    × IsCloseTo (unit * 1536 + 512) (as_written unit (middle_of (point_at vertices k) (point_at vertices (k + 1)))) (multiple unit (point_place (point_at points i)))
joint_written points at vertices unit k closed polygon are within =
    let (i, from, to, close) = joint_near points at vertices k closed polygon are within in
    (i, from, to, close_written unit 1536 (middle_of (point_at vertices k) (point_at vertices (k + 1))) (point_place (point_at points i)) close)

pub point_written : (points : List Point) (at : List ℕ) (vertices : List Point) (unit i : ℕ)
    → IsClosedWalk points → IsAnyPolygon points at → AreVertices points at vertices → i < length points
    → (k : ℕ) × (k < length vertices) × (let joint = middle_of (point_at vertices k) (point_at vertices (k + 1)) in
    (PassesBy (unit * 1536 + 512) (as_written unit (point_at vertices k)) (as_written unit joint) (multiple unit (point_place (point_at points i)))
    ⊎ PassesBy (unit * 1536 + 512) (as_written unit joint) (as_written unit (point_at vertices (k + 1))) (multiple unit (point_place (point_at points i)))))
point_written points at vertices unit i closed polygon are inside =
    let (k, within, near) = point_near points at vertices i closed polygon are inside in
    let a : Point = point_at vertices k in
    let b : Point = point_at vertices (k + 1) in
    let c : Point = point_place (point_at points i) in
    let m : Point = middle_of a b in
    let half : IsHalfway a b m = joint_halfway points at vertices k (k + 1) are (omega (arith, within)) in (
      k,
      within,
      elim (passes_half 1536 a b c m half near) [
        | inl first ↦ inl (passes_written unit 1536 a m c first)
        | inr second ↦ inr (passes_written unit 1536 m b c second)
      ],
    )

-- ---- places of the lines between vertices and joints

doubled_place : (m r p a c u v : ℤ) → m *ℤ (pos 2 *ℤ (r *ℤ a +ℤ p *ℤ c)) -ℤ pos 2 *ℤ (r *ℤ u +ℤ p *ℤ v)
    ≡ pos 2 *ℤ (r *ℤ (m *ℤ a -ℤ u) +ℤ p *ℤ (m *ℤ c -ℤ v))
doubled_place m r p a c u v = same_value
    (less (times (num m) (times (num (pos 2)) (plus (times (num r) (num a)) (times (num p) (num c)))))
    (times (num (pos 2)) (plus (times (num r) (num u)) (times (num p) (num v)))))
    (times (num (pos 2)) (plus (times (num r) (less (times (num m) (num a)) (num u))) (times (num p) (less (times (num m) (num c)) (num v)))))
    (omega arith)

twice_most : (s t : ℤ) (k l : ℕ) → unsigned_abs s ≤ k → unsigned_abs t ≤ l → unsigned_abs (pos 2 *ℤ (s +ℤ t)) ≤ 2 * (k + l)
twice_most s t k l f g = omega (arith, ints)

place_coordinate : (unit n r p : ℕ) (a c e x u v : ℤ) → n ≡ 2 * (r + p) → x ≡ pos 2 *ℤ (pos r *ℤ a +ℤ pos p *ℤ c)
    → unsigned_abs (pos unit *ℤ a -ℤ u) ≤ 512 → unsigned_abs (pos unit *ℤ c -ℤ v) ≤ 512 → unsigned_abs (e -ℤ x) ≤ n * 1536
    → unsigned_abs (pos unit *ℤ e -ℤ pos 2 *ℤ (pos r *ℤ u +ℤ pos p *ℤ v)) ≤ 2 * (r + p) * (unit * 1536 + 512)
place_coordinate unit n r p a c e x u v whole is f g h =
    let s : ℤ = pos r *ℤ (pos unit *ℤ a -ℤ u) in
    let t : ℤ = pos p *ℤ (pos unit *ℤ c -ℤ v) in
    let most = twice_most s t (r * 512) (p * 512)
    (product_most (pos r) (pos unit *ℤ a -ℤ u) r 512 (omega arith) f)
    (product_most (pos p) (pos unit *ℤ c -ℤ v) p 512 (omega arith) g) in
    let P : ℤ → Type 0 = λ z. unsigned_abs z ≤ 2 * (r * 512 + p * 512) in
    let Q : ℤ → Type 0 = λ z. unsigned_abs (pos unit *ℤ z -ℤ pos 2 *ℤ (pos r *ℤ u +ℤ pos p *ℤ v)) ≤ 2 * (r * 512 + p * 512) in
    let near = subst Q (sym is) (subst P (sym (doubled_place (pos unit) (pos r) (pos p) a c u v)) most) in
    let far = by_way_of (pos unit *ℤ e) (pos unit *ℤ x) (pos 2 *ℤ (pos r *ℤ u +ℤ pos p *ℤ v)) (unit * (n * 1536)) (2 * (r * 512 + p * 512))
    (scaled unit (n * 1536) x e h) near in
    let same : unit * (n * 1536) ≡ unit * (2 * (r + p) * 1536) = ap (λ k. unit * (k * 1536)) whole in
    omega (arith, far, same)

first_weights : (r p : ℕ) (a m : ℤ) → pos ((r + r) + p) *ℤ a +ℤ pos p *ℤ ((m +ℤ m) -ℤ a) ≡ pos 2 *ℤ (pos r *ℤ a +ℤ pos p *ℤ m)
first_weights r p a m = same_value
    (plus (times (num (pos ((r + r) + p))) (num a)) (times (num (pos p)) (less (plus (num m) (num m)) (num a))))
    (times (num (pos 2)) (plus (times (num (pos r)) (num a)) (times (num (pos p)) (num m))))
    (omega arith)

second_weights : (r p : ℕ) (b m : ℤ) → pos r *ℤ ((m +ℤ m) -ℤ b) +ℤ pos (r + (p + p)) *ℤ b ≡ pos 2 *ℤ (pos r *ℤ m +ℤ pos p *ℤ b)
second_weights r p b m = same_value
    (plus (times (num (pos r)) (less (plus (num m) (num m)) (num b))) (times (num (pos (r + (p + p)))) (num b)))
    (times (num (pos 2)) (plus (times (num (pos r)) (num m)) (times (num (pos p)) (num b))))
    (omega arith)

to_joint : (r p : ℕ) (a b m : ℤ) → m +ℤ m ≡ a +ℤ b → pos ((r + r) + p) *ℤ a +ℤ pos p *ℤ b ≡ pos 2 *ℤ (pos r *ℤ a +ℤ pos p *ℤ m)
to_joint r p a b m e = ap (λ z. pos ((r + r) + p) *ℤ a +ℤ pos p *ℤ z) (doubled_back a b m e) ∙ first_weights r p a m

from_joint : (r p : ℕ) (a b m : ℤ) → m +ℤ m ≡ a +ℤ b → pos r *ℤ a +ℤ pos (r + (p + p)) *ℤ b ≡ pos 2 *ℤ (pos r *ℤ m +ℤ pos p *ℤ b)
from_joint r p a b m e = ap (λ z. pos r *ℤ z +ℤ pos (r + (p + p)) *ℤ b) (doubled_back b a m (other_sum a b m e)) ∙ second_weights r p b m

module _ (points : List Point) (at : List ℕ) (vertices : List Point) (unit k r p : ℕ)
    (closed : IsClosedWalk points) (polygon : IsAnyPolygon points at) (are : AreVertices points at vertices) (within : k < length at) (some : 1 ≤ r + p) where
  halfway_there : IsHalfway (point_at vertices k) (point_at vertices (k + 1)) (middle_of (point_at vertices k) (point_at vertices (k + 1)))
  halfway_there = (let count : length vertices ≡ length at = are.count in joint_halfway points at vertices k (k + 1) are (omega arith))

  pub first_places : (i : ℕ) × (slice_index at k ≤ i) × (i < segment_end_of points at k) × (here : ℕ) × (there : ℕ) × (here + there ≡ 2 * (r + p))
      × IsCloseTo (2 * (r + p) * (unit * 1536 + 512))
      (multiple 2 (divided r p (as_written unit (point_at vertices k)) (as_written unit (middle_of (point_at vertices k) (point_at vertices (k + 1))))))
      (multiple unit (divided here there (point_place (point_at points i)) (point_place (point_at points (i + 1)))))
  first_places =
      let a : Point = point_at vertices k in
      let b : Point = point_at vertices (k + 1) in
      let m : Point = middle_of a b in
      let half : IsHalfway a b m = halfway_there in
      let (i, from, to, here, there, whole, close) = side_near_edge points at vertices k ((r + r) + p) p closed polygon are within (omega arith) in
      let e : Point = divided here there (point_place (point_at points i)) (point_place (point_at points (i + 1))) in
      let twice : ((r + r) + p) + p ≡ 2 * (r + p) = omega arith in (
        i,
        from,
        to,
        here,
        there,
        omega (arith, whole),
        record {
          x = place_coordinate unit (((r + r) + p) + p) r p a.x m.x e.x (pos ((r + r) + p) *ℤ a.x +ℤ pos p *ℤ b.x) (pos 1024 *ℤ rounded a.x unit) (pos 1024 *ℤ rounded m.x unit) twice
              (to_joint r p a.x b.x m.x half.x) (coordinate_close unit a.x) (coordinate_close unit m.x) close.x;
          y = place_coordinate unit (((r + r) + p) + p) r p a.y m.y e.y (pos ((r + r) + p) *ℤ a.y +ℤ pos p *ℤ b.y) (pos 1024 *ℤ rounded a.y unit) (pos 1024 *ℤ rounded m.y unit) twice
              (to_joint r p a.y b.y m.y half.y) (coordinate_close unit a.y) (coordinate_close unit m.y) close.y;
        },
      )

  pub second_places : (i : ℕ) × (slice_index at k ≤ i) × (i < segment_end_of points at k) × (here : ℕ) × (there : ℕ) × (here + there ≡ 2 * (r + p))
      × IsCloseTo (2 * (r + p) * (unit * 1536 + 512))
      (multiple 2 (divided r p (as_written unit (middle_of (point_at vertices k) (point_at vertices (k + 1)))) (as_written unit (point_at vertices (k + 1)))))
      (multiple unit (divided here there (point_place (point_at points i)) (point_place (point_at points (i + 1)))))
  second_places =
      let a : Point = point_at vertices k in
      let b : Point = point_at vertices (k + 1) in
      let m : Point = middle_of a b in
      let half : IsHalfway a b m = halfway_there in
      let (i, from, to, here, there, whole, close) = side_near_edge points at vertices k r (r + (p + p)) closed polygon are within (omega arith) in
      let e : Point = divided here there (point_place (point_at points i)) (point_place (point_at points (i + 1))) in
      let twice : r + (r + (p + p)) ≡ 2 * (r + p) = omega arith in (
        i,
        from,
        to,
        here,
        there,
        omega (arith, whole),
        record {
          x = place_coordinate unit (r + (r + (p + p))) r p m.x b.x e.x (pos r *ℤ a.x +ℤ pos (r + (p + p)) *ℤ b.x) (pos 1024 *ℤ rounded m.x unit) (pos 1024 *ℤ rounded b.x unit) twice
              (from_joint r p a.x b.x m.x half.x) (coordinate_close unit m.x) (coordinate_close unit b.x) close.x;
          y = place_coordinate unit (r + (r + (p + p))) r p m.y b.y e.y (pos r *ℤ a.y +ℤ pos (r + (p + p)) *ℤ b.y) (pos 1024 *ℤ rounded m.y unit) (pos 1024 *ℤ rounded b.y unit) twice
              (from_joint r p a.y b.y m.y half.y) (coordinate_close unit m.y) (coordinate_close unit b.y) close.y;
        },
      )
