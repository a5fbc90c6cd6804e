-- The sides of an outline of corners, and the edges of the path that each of them stands for.
use Rattle.std.proofs.Common.{◌≡◌, ℕ, suc, ◌+◌, ◌*◌, ◌<◌, ◌≤◌, ℤ, pos, ◌+ℤ◌, ◌-ℤ◌, ◌*ℤ◌, List, length, refl, sym, ap, ◌∙◌, subst, arith}
use Rattle.std.proofs.lemmas.Int.{ints}
use Rattle.std.proofs.Math.Nat.{one-le-mul}
use Rattle.std.specs.Prelude.{slice_index, unsigned_abs}
use Rattle.pt_core.specs.ClosedWalk.{IsClosedWalk, point_at}
use Rattle.pt_core.specs.declared.point.Point.{Point}
use Rattle.pt_core.proofs.Sizes.{product_most}
use Rattle.pt_core.proofs.Terms.{same_value}
use Rattle.pt_core.proofs.Terms.Term.{num, plus, less, times}
use Rattle.vertex_adjust.specs.Vertex.{AreVertices, segment_end_of}
use Rattle.outline_distance.specs.Polygons.{IsAnyPolygon}
use Rattle.outline_distance.proofs.Sides.{possible_at}
use Rattle.outline_distance.specs.Distance.{IsCloseTo, PassesBy, divided, multiple, point_place}
use Rattle.outline_distance.proofs.Edges.{segment_edge}
use Rattle.outline_distance.proofs.Sides.{first_end, second_end, side_passes}

-- ---- from a side to an edge, in one coordinate

-- a and b are the segment's ends, u and v the vertices, and c and d the edge's ends
from_ends : (before after here there a b c d u v : ℤ) → before +ℤ after ≡ here +ℤ there
    → (here *ℤ (pos 1024 *ℤ c) +ℤ there *ℤ (pos 1024 *ℤ d)) -ℤ (before *ℤ u +ℤ after *ℤ v)
    ≡ pos 1024 *ℤ ((here *ℤ (c -ℤ a) +ℤ there *ℤ (d -ℤ a)) -ℤ after *ℤ (b -ℤ a)) -ℤ (before *ℤ (u -ℤ pos 1024 *ℤ a) +ℤ after *ℤ (v -ℤ pos 1024 *ℤ b))
from_ends before after here there a b c d u v e =
    let all = ap (λ n. n *ℤ a) e in
    let first : (before +ℤ after) *ℤ a ≡ before *ℤ a +ℤ after *ℤ a = same_value (times (plus (num before) (num after)) (num a)) (plus (times (num before) (num a)) (times (num after) (num a))) (omega arith) in
    let second : (here +ℤ there) *ℤ a ≡ here *ℤ a +ℤ there *ℤ a = same_value (times (plus (num here) (num there)) (num a)) (plus (times (num here) (num a)) (times (num there) (num a))) (omega arith) in
    let open_left : (here *ℤ (pos 1024 *ℤ c) +ℤ there *ℤ (pos 1024 *ℤ d)) -ℤ (before *ℤ u +ℤ after *ℤ v)
    ≡ (pos 1024 *ℤ (here *ℤ c) +ℤ pos 1024 *ℤ (there *ℤ d)) -ℤ (before *ℤ u +ℤ after *ℤ v)
    = same_value
    (less (plus (times (num here) (times (num (pos 1024)) (num c))) (times (num there) (times (num (pos 1024)) (num d)))) (plus (times (num before) (num u)) (times (num after) (num v))))
    (less (plus (times (num (pos 1024)) (times (num here) (num c))) (times (num (pos 1024)) (times (num there) (num d)))) (plus (times (num before) (num u)) (times (num after) (num v))))
    (omega arith) in
    let open_right : pos 1024 *ℤ ((here *ℤ (c -ℤ a) +ℤ there *ℤ (d -ℤ a)) -ℤ after *ℤ (b -ℤ a)) -ℤ (before *ℤ (u -ℤ pos 1024 *ℤ a) +ℤ after *ℤ (v -ℤ pos 1024 *ℤ b))
    ≡ ((pos 1024 *ℤ (here *ℤ c) +ℤ pos 1024 *ℤ (there *ℤ d)) -ℤ (before *ℤ u +ℤ after *ℤ v)) +ℤ pos 1024 *ℤ ((before *ℤ a +ℤ after *ℤ a) -ℤ (here *ℤ a +ℤ there *ℤ a))
    = same_value
    (less (times (num (pos 1024)) (less (plus (times (num here) (less (num c) (num a))) (times (num there) (less (num d) (num a)))) (times (num after) (less (num b) (num a)))))
    (plus (times (num before) (less (num u) (times (num (pos 1024)) (num a)))) (times (num after) (less (num v) (times (num (pos 1024)) (num b))))))
    (plus (less (plus (times (num (pos 1024)) (times (num here) (num c))) (times (num (pos 1024)) (times (num there) (num d)))) (plus (times (num before) (num u)) (times (num after) (num v))))
    (times (num (pos 1024)) (less (plus (times (num before) (num a)) (times (num after) (num a))) (plus (times (num here) (num a)) (times (num there) (num a))))))
    (omega arith) in
    omega (arith, ints, all, first, second, open_left, open_right)

size_of : (z s t : ℤ) (n k l : ℕ) → unsigned_abs z ≤ n → unsigned_abs s ≤ k * 512 → unsigned_abs t ≤ l * 512 → k + l ≡ n
    → unsigned_abs (pos 1024 *ℤ z -ℤ (s +ℤ t)) ≤ n * 1536
size_of z s t n k l f g h e = omega (arith, ints)

together : (r p h t : ℕ) → h + t ≡ r + p → pos r +ℤ pos p ≡ pos h +ℤ pos t
together r p h t e = omega (arith, ints)

side_close : (before after here there : ℕ) (a b c d u v : ℤ) → here + there ≡ before + after
    → unsigned_abs (u -ℤ pos 1024 *ℤ a) ≤ 512 → unsigned_abs (v -ℤ pos 1024 *ℤ b) ≤ 512
    → unsigned_abs ((pos here *ℤ (c -ℤ a) +ℤ pos there *ℤ (d -ℤ a)) -ℤ pos after *ℤ (b -ℤ a)) ≤ before + after
    → unsigned_abs ((pos here *ℤ (pos 1024 *ℤ c) +ℤ pos there *ℤ (pos 1024 *ℤ d)) -ℤ (pos before *ℤ u +ℤ pos after *ℤ v)) ≤ (before + after) * 1536
side_close before after here there a b c d u v e f g h =
    let P : ℤ → Type 0 = λ z. unsigned_abs z ≤ (before + after) * 1536 in
    subst P (sym (from_ends (pos before) (pos after) (pos here) (pos there) a b c d u v (together before after here there e)))
    (size_of ((pos here *ℤ (c -ℤ a) +ℤ pos there *ℤ (d -ℤ a)) -ℤ pos after *ℤ (b -ℤ a)) (pos before *ℤ (u -ℤ pos 1024 *ℤ a)) (pos after *ℤ (v -ℤ pos 1024 *ℤ b)) (before + after) before after h
    (product_most (pos before) (u -ℤ pos 1024 *ℤ a) before 512 (omega arith) f)
    (product_most (pos after) (v -ℤ pos 1024 *ℤ b) after 512 (omega arith) g) refl)

pub side_near_edge : (points : List Point) (at : List ℕ) (vertices : List Point) (k before after : ℕ)
    → IsClosedWalk points → IsAnyPolygon points at → AreVertices points at vertices → k < length at → 1 ≤ before + after
    → (i : ℕ) × (slice_index at k ≤ i) × (i < segment_end_of points at k) × (here : ℕ) × (there : ℕ) × (here + there ≡ before + after)
    × IsCloseTo ((before + after) * 1536) (divided before after (point_at vertices k) (point_at vertices (k + 1)))
    (divided here there (point_place (point_at points i)) (point_place (point_at points (i + 1))))
side_near_edge points at vertices k before after closed polygon are within some =
    let segment = possible_at points at k polygon within in
    let m = segment_edge points (slice_index at k) (segment_end_of points at k) (before + after) after closed segment some (omega arith) in
    let a = first_end points at vertices k are within in
    let b = second_end points at vertices k are within in
    let next : suc m.at ≡ m.at + 1 = omega arith in
    let P : ℕ → Type 0 = λ n. IsCloseTo ((before + after) * 1536) (divided before after (point_at vertices k) (point_at vertices (k + 1)))
    (divided m.here m.there (point_place (point_at points m.at)) (point_place (point_at points n))) in (
      m.at,
      m.after,
      m.before,
      m.here,
      m.there,
      m.whole,
      subst P next (record {
        x = side_close before after m.here m.there (point_at points (slice_index at k)).x (point_at points (segment_end_of points at k)).x
            (point_at points m.at).x (point_at points (suc m.at)).x (point_at vertices k).x (point_at vertices (k + 1)).x m.whole a.x b.x m.in_x;
        y = side_close before after m.here m.there (point_at points (slice_index at k)).y (point_at points (segment_end_of points at k)).y
            (point_at points m.at).y (point_at points (suc m.at)).y (point_at vertices k).y (point_at vertices (k + 1)).y m.whole a.y b.y m.in_y;
      }),
    )

-- ---- from an edge to its side: between two places that the way passes closely, it passes each place so

-- the weights of a and of b
spread : (e f e' f' c s a b : ℤ) → (e +ℤ e') *ℤ (c -ℤ s *ℤ a) +ℤ (f +ℤ f') *ℤ (c -ℤ s *ℤ b)
    ≡ ((e +ℤ f) +ℤ (e' +ℤ f')) *ℤ c -ℤ s *ℤ ((e *ℤ a +ℤ f *ℤ b) +ℤ (e' *ℤ a +ℤ f' *ℤ b))
spread e f e' f' c s a b = same_value
    (plus (times (plus (num e) (num e')) (less (num c) (times (num s) (num a)))) (times (plus (num f) (num f')) (less (num c) (times (num s) (num b)))))
    (less (times (plus (plus (num e) (num f)) (plus (num e') (num f'))) (num c))
    (times (num s) (plus (plus (times (num e) (num a)) (times (num f) (num b))) (plus (times (num e') (num a)) (times (num f') (num b))))))
    (omega arith)

gathered : (h r p m : ℤ) → h *ℤ (r *ℤ m) +ℤ h *ℤ (p *ℤ m) ≡ (h *ℤ m) *ℤ (r +ℤ p)
gathered h r p m = same_value
    (plus (times (num h) (times (num r) (num m))) (times (num h) (times (num p) (num m))))
    (times (times (num h) (num m)) (plus (num r) (num p)))
    (omega arith)

weight : (h r m a : ℤ) → (h *ℤ (r *ℤ m)) *ℤ a ≡ (h *ℤ m) *ℤ (r *ℤ a)
weight h r m a = same_value (times (times (num h) (times (num r) (num m))) (num a)) (times (times (num h) (num m)) (times (num r) (num a))) (omega arith)

spread_over : (g v w : ℤ) → g *ℤ v +ℤ g *ℤ w ≡ g *ℤ (v +ℤ w)
spread_over g v w = same_value (plus (times (num g) (num v)) (times (num g) (num w))) (times (num g) (plus (num v) (num w))) (omega arith)

all_weights : (h t m n : ℤ) → (h *ℤ n) *ℤ m +ℤ (t *ℤ m) *ℤ n ≡ (h +ℤ t) *ℤ (m *ℤ n)
all_weights h t m n = same_value
    (plus (times (times (num h) (num n)) (num m)) (times (times (num t) (num m)) (num n)))
    (times (plus (num h) (num t)) (times (num m) (num n)))
    (omega arith)

taken_out : (s m c w : ℤ) → (s *ℤ m) *ℤ c -ℤ s *ℤ w ≡ s *ℤ (m *ℤ c -ℤ w)
taken_out s m c w = same_value (less (times (times (num s) (num m)) (num c)) (times (num s) (num w))) (times (num s) (less (times (num m) (num c)) (num w))) (omega arith)

one_part : (h m n c w : ℤ) → h *ℤ (n *ℤ (m *ℤ c -ℤ w)) ≡ h *ℤ ((m *ℤ n) *ℤ c) -ℤ (h *ℤ n) *ℤ w
one_part h m n c w = same_value
    (times (num h) (times (num n) (less (times (num m) (num c)) (num w))))
    (less (times (num h) (times (times (num m) (num n)) (num c))) (times (times (num h) (num n)) (num w)))
    (omega arith)

other_part : (t m n d w : ℤ) → t *ℤ (m *ℤ (n *ℤ d -ℤ w)) ≡ t *ℤ ((m *ℤ n) *ℤ d) -ℤ (t *ℤ m) *ℤ w
other_part t m n d w = same_value
    (times (num t) (times (num m) (less (times (num n) (num d)) (num w))))
    (less (times (num t) (times (times (num m) (num n)) (num d))) (times (times (num t) (num m)) (num w)))
    (omega arith)

both_parts : (h t k c d : ℤ) → k *ℤ (h *ℤ c +ℤ t *ℤ d) ≡ h *ℤ (k *ℤ c) +ℤ t *ℤ (k *ℤ d)
both_parts h t k c d = same_value
    (times (num k) (plus (times (num h) (num c)) (times (num t) (num d))))
    (plus (times (num h) (times (num k) (num c))) (times (num t) (times (num k) (num d))))
    (omega arith)

by_whole : (r p a b c : ℤ) → r *ℤ (c -ℤ a) +ℤ p *ℤ (c -ℤ b) ≡ (r +ℤ p) *ℤ c -ℤ (r *ℤ a +ℤ p *ℤ b)
by_whole r p a b c = same_value
    (plus (times (num r) (less (num c) (num a))) (times (num p) (less (num c) (num b))))
    (less (times (plus (num r) (num p)) (num c)) (plus (times (num r) (num a)) (times (num p) (num b))))
    (omega arith)

linear : (mc x y u v hx ty : ℤ) → mc ≡ x +ℤ y → hx ≡ x -ℤ u → ty ≡ y -ℤ v → mc -ℤ (u +ℤ v) ≡ hx +ℤ ty
linear mc x y u v hx ty e f g = omega (arith, ints)

-- r0 to p0 and r1 to p1 divide the way from a to b near c and d, and h to t the way from c to d
module _ (h t a b c d r0 p0 r1 p1 : ℤ) where
  first_weights : (h *ℤ (r0 *ℤ (r1 +ℤ p1))) *ℤ a +ℤ (h *ℤ (p0 *ℤ (r1 +ℤ p1))) *ℤ b ≡ (h *ℤ (r1 +ℤ p1)) *ℤ (r0 *ℤ a +ℤ p0 *ℤ b)
  first_weights =
      ap (λ z. z +ℤ (h *ℤ (p0 *ℤ (r1 +ℤ p1))) *ℤ b) (weight h r0 (r1 +ℤ p1) a)
      ∙ ap (λ z. (h *ℤ (r1 +ℤ p1)) *ℤ (r0 *ℤ a) +ℤ z) (weight h p0 (r1 +ℤ p1) b)
      ∙ spread_over (h *ℤ (r1 +ℤ p1)) (r0 *ℤ a) (p0 *ℤ b)

  second_weights : (t *ℤ (r1 *ℤ (r0 +ℤ p0))) *ℤ a +ℤ (t *ℤ (p1 *ℤ (r0 +ℤ p0))) *ℤ b ≡ (t *ℤ (r0 +ℤ p0)) *ℤ (r1 *ℤ a +ℤ p1 *ℤ b)
  second_weights =
      ap (λ z. z +ℤ (t *ℤ (p1 *ℤ (r0 +ℤ p0))) *ℤ b) (weight t r1 (r0 +ℤ p0) a)
      ∙ ap (λ z. (t *ℤ (r0 +ℤ p0)) *ℤ (r1 *ℤ a) +ℤ z) (weight t p1 (r0 +ℤ p0) b)
      ∙ spread_over (t *ℤ (r0 +ℤ p0)) (r1 *ℤ a) (p1 *ℤ b)

  all_of_them : (h *ℤ (r0 *ℤ (r1 +ℤ p1)) +ℤ h *ℤ (p0 *ℤ (r1 +ℤ p1))) +ℤ (t *ℤ (r1 *ℤ (r0 +ℤ p0)) +ℤ t *ℤ (p1 *ℤ (r0 +ℤ p0)))
      ≡ (h +ℤ t) *ℤ ((r0 +ℤ p0) *ℤ (r1 +ℤ p1))
  all_of_them =
      ap (λ z. z +ℤ (t *ℤ (r1 *ℤ (r0 +ℤ p0)) +ℤ t *ℤ (p1 *ℤ (r0 +ℤ p0)))) (gathered h r0 p0 (r1 +ℤ p1))
      ∙ ap (λ z. (h *ℤ (r1 +ℤ p1)) *ℤ (r0 +ℤ p0) +ℤ z) (gathered t r1 p1 (r0 +ℤ p0))
      ∙ all_weights h t (r0 +ℤ p0) (r1 +ℤ p1)

  by_places : ((r0 +ℤ p0) *ℤ (r1 +ℤ p1)) *ℤ (h *ℤ c +ℤ t *ℤ d)
      -ℤ ((h *ℤ (r1 +ℤ p1)) *ℤ (r0 *ℤ a +ℤ p0 *ℤ b) +ℤ (t *ℤ (r0 +ℤ p0)) *ℤ (r1 *ℤ a +ℤ p1 *ℤ b))
      ≡ h *ℤ ((r1 +ℤ p1) *ℤ (r0 *ℤ (c -ℤ a) +ℤ p0 *ℤ (c -ℤ b))) +ℤ t *ℤ ((r0 +ℤ p0) *ℤ (r1 *ℤ (d -ℤ a) +ℤ p1 *ℤ (d -ℤ b)))
  by_places =
      linear (((r0 +ℤ p0) *ℤ (r1 +ℤ p1)) *ℤ (h *ℤ c +ℤ t *ℤ d))
      (h *ℤ (((r0 +ℤ p0) *ℤ (r1 +ℤ p1)) *ℤ c)) (t *ℤ (((r0 +ℤ p0) *ℤ (r1 +ℤ p1)) *ℤ d))
      ((h *ℤ (r1 +ℤ p1)) *ℤ (r0 *ℤ a +ℤ p0 *ℤ b)) ((t *ℤ (r0 +ℤ p0)) *ℤ (r1 *ℤ a +ℤ p1 *ℤ b))
      (h *ℤ ((r1 +ℤ p1) *ℤ (r0 *ℤ (c -ℤ a) +ℤ p0 *ℤ (c -ℤ b)))) (t *ℤ ((r0 +ℤ p0) *ℤ (r1 *ℤ (d -ℤ a) +ℤ p1 *ℤ (d -ℤ b))))
      (both_parts h t ((r0 +ℤ p0) *ℤ (r1 +ℤ p1)) c d)
      (ap (λ z. h *ℤ ((r1 +ℤ p1) *ℤ z)) (by_whole r0 p0 a b c) ∙ one_part h (r0 +ℤ p0) (r1 +ℤ p1) c (r0 *ℤ a +ℤ p0 *ℤ b))
      (ap (λ z. t *ℤ ((r0 +ℤ p0) *ℤ z)) (by_whole r1 p1 a b d) ∙ other_part t (r0 +ℤ p0) (r1 +ℤ p1) d (r1 *ℤ a +ℤ p1 *ℤ b))

  pub mixed : (h *ℤ (r0 *ℤ (r1 +ℤ p1)) +ℤ t *ℤ (r1 *ℤ (r0 +ℤ p0))) *ℤ ((h *ℤ c +ℤ t *ℤ d) -ℤ (h +ℤ t) *ℤ a)
      +ℤ (h *ℤ (p0 *ℤ (r1 +ℤ p1)) +ℤ t *ℤ (p1 *ℤ (r0 +ℤ p0))) *ℤ ((h *ℤ c +ℤ t *ℤ d) -ℤ (h +ℤ t) *ℤ b)
      ≡ (h +ℤ t) *ℤ (h *ℤ ((r1 +ℤ p1) *ℤ (r0 *ℤ (c -ℤ a) +ℤ p0 *ℤ (c -ℤ b))) +ℤ t *ℤ ((r0 +ℤ p0) *ℤ (r1 *ℤ (d -ℤ a) +ℤ p1 *ℤ (d -ℤ b))))
  mixed =
      spread (h *ℤ (r0 *ℤ (r1 +ℤ p1))) (h *ℤ (p0 *ℤ (r1 +ℤ p1))) (t *ℤ (r1 *ℤ (r0 +ℤ p0))) (t *ℤ (p1 *ℤ (r0 +ℤ p0))) (h *ℤ c +ℤ t *ℤ d) (h +ℤ t) a b
      ∙ ap (λ z. z *ℤ (h *ℤ c +ℤ t *ℤ d) -ℤ (h +ℤ t) *ℤ (((h *ℤ (r0 *ℤ (r1 +ℤ p1))) *ℤ a +ℤ (h *ℤ (p0 *ℤ (r1 +ℤ p1))) *ℤ b) +ℤ ((t *ℤ (r1 *ℤ (r0 +ℤ p0))) *ℤ a +ℤ (t *ℤ (p1 *ℤ (r0 +ℤ p0))) *ℤ b))) all_of_them
      ∙ ap (λ z. ((h +ℤ t) *ℤ ((r0 +ℤ p0) *ℤ (r1 +ℤ p1))) *ℤ (h *ℤ c +ℤ t *ℤ d) -ℤ (h +ℤ t) *ℤ (z +ℤ ((t *ℤ (r1 *ℤ (r0 +ℤ p0))) *ℤ a +ℤ (t *ℤ (p1 *ℤ (r0 +ℤ p0))) *ℤ b))) first_weights
      ∙ ap (λ z. ((h +ℤ t) *ℤ ((r0 +ℤ p0) *ℤ (r1 +ℤ p1))) *ℤ (h *ℤ c +ℤ t *ℤ d) -ℤ (h +ℤ t) *ℤ ((h *ℤ (r1 +ℤ p1)) *ℤ (r0 *ℤ a +ℤ p0 *ℤ b) +ℤ z)) second_weights
      ∙ taken_out (h +ℤ t) ((r0 +ℤ p0) *ℤ (r1 +ℤ p1)) (h *ℤ c +ℤ t *ℤ d) ((h *ℤ (r1 +ℤ p1)) *ℤ (r0 *ℤ a +ℤ p0 *ℤ b) +ℤ (t *ℤ (r0 +ℤ p0)) *ℤ (r1 *ℤ a +ℤ p1 *ℤ b))
      ∙ ap (λ z. (h +ℤ t) *ℤ z) by_places

sum_most : (y z : ℤ) (m n : ℕ) → unsigned_abs y ≤ m → unsigned_abs z ≤ n → unsigned_abs (y +ℤ z) ≤ m + n
sum_most y z m n f g = omega (arith, ints)

same_most : (n : ℕ) → unsigned_abs (pos n) ≤ n
same_most n = omega arith

-- as many as both together
all_shares : (h t r0 p0 r1 p1 : ℕ)
    → (h * (r0 * (r1 + p1)) + t * (r1 * (r0 + p0))) + (h * (p0 * (r1 + p1)) + t * (p1 * (r0 + p0))) ≡ (h + t) * ((r0 + p0) * (r1 + p1))
all_shares h t r0 p0 r1 p1 = omega arith

all_most : (h t m0 m1 : ℕ) → (h + t) * (h * (m1 * (m0 * 1536)) + t * (m0 * (m1 * 1536))) ≡ ((h + t) * (m0 * m1)) * ((h + t) * 1536)
all_most h t m0 m1 = omega arith

module _ (h t r0 p0 r1 p1 : ℕ) (a b c d : ℤ)
    (first : unsigned_abs (pos r0 *ℤ (c -ℤ a) +ℤ pos p0 *ℤ (c -ℤ b)) ≤ (r0 + p0) * 1536)
    (second : unsigned_abs (pos r1 *ℤ (d -ℤ a) +ℤ pos p1 *ℤ (d -ℤ b)) ≤ (r1 + p1) * 1536) where
  inside_most : unsigned_abs (pos h *ℤ (pos (r1 + p1) *ℤ (pos r0 *ℤ (c -ℤ a) +ℤ pos p0 *ℤ (c -ℤ b)))
      +ℤ pos t *ℤ (pos (r0 + p0) *ℤ (pos r1 *ℤ (d -ℤ a) +ℤ pos p1 *ℤ (d -ℤ b))))
      ≤ h * ((r1 + p1) * ((r0 + p0) * 1536)) + t * ((r0 + p0) * ((r1 + p1) * 1536))
  inside_most =
      let x : ℤ = pos r0 *ℤ (c -ℤ a) +ℤ pos p0 *ℤ (c -ℤ b) in
      let y : ℤ = pos r1 *ℤ (d -ℤ a) +ℤ pos p1 *ℤ (d -ℤ b) in
      let m0 : ℕ = r0 + p0 in
      let m1 : ℕ = r1 + p1 in
      sum_most (pos h *ℤ (pos m1 *ℤ x)) (pos t *ℤ (pos m0 *ℤ y)) (h * (m1 * (m0 * 1536))) (t * (m0 * (m1 * 1536)))
      (product_most (pos h) (pos m1 *ℤ x) h (m1 * (m0 * 1536)) (same_most h) (product_most (pos m1) x m1 (m0 * 1536) (same_most m1) first))
      (product_most (pos t) (pos m0 *ℤ y) t (m0 * (m1 * 1536)) (same_most t) (product_most (pos m0) y m0 (m1 * 1536) (same_most m0) second))

  pub mixed_close : unsigned_abs (pos (h * (r0 * (r1 + p1)) + t * (r1 * (r0 + p0))) *ℤ ((pos h *ℤ c +ℤ pos t *ℤ d) -ℤ pos (h + t) *ℤ a)
      +ℤ pos (h * (p0 * (r1 + p1)) + t * (p1 * (r0 + p0))) *ℤ ((pos h *ℤ c +ℤ pos t *ℤ d) -ℤ pos (h + t) *ℤ b))
      ≤ ((h * (r0 * (r1 + p1)) + t * (r1 * (r0 + p0))) + (h * (p0 * (r1 + p1)) + t * (p1 * (r0 + p0)))) * ((h + t) * 1536)
  mixed_close =
      let whole = product_most (pos (h + t)) (pos h *ℤ (pos (r1 + p1) *ℤ (pos r0 *ℤ (c -ℤ a) +ℤ pos p0 *ℤ (c -ℤ b)))
      +ℤ pos t *ℤ (pos (r0 + p0) *ℤ (pos r1 *ℤ (d -ℤ a) +ℤ pos p1 *ℤ (d -ℤ b)))) (h + t) (h * ((r1 + p1) * ((r0 + p0) * 1536)) + t * ((r0 + p0) * ((r1 + p1) * 1536)))
      (same_most (h + t)) inside_most in
      let P : ℕ → Type 0 = λ n. unsigned_abs (pos (h + t) *ℤ (pos h *ℤ (pos (r1 + p1) *ℤ (pos r0 *ℤ (c -ℤ a) +ℤ pos p0 *ℤ (c -ℤ b)))
      +ℤ pos t *ℤ (pos (r0 + p0) *ℤ (pos r1 *ℤ (d -ℤ a) +ℤ pos p1 *ℤ (d -ℤ b))))) ≤ n in
      let Q : ℤ → Type 0 = λ z. unsigned_abs z ≤ ((h * (r0 * (r1 + p1)) + t * (r1 * (r0 + p0))) + (h * (p0 * (r1 + p1)) + t * (p1 * (r0 + p0)))) * ((h + t) * 1536) in
      subst Q (sym (mixed (pos h) (pos t) a b c d (pos r0) (pos p0) (pos r1) (pos p1)))
      (subst P (all_most h t (r0 + p0) (r1 + p1) ∙ ap (λ n. n * ((h + t) * 1536)) (sym (all_shares h t r0 p0 r1 p1))) whole)

one_at_least : (m n : ℕ) → 1 ≤ m → 1 ≤ n → 1 ≤ m * n
one_at_least m n f g = one-le-mul f g

pub way_between : (here there : ℕ) (a b c d : Point) → 1 ≤ here + there → PassesBy 1536 a b c → PassesBy 1536 a b d
    → PassesBy ((here + there) * 1536) (multiple (here + there) a) (multiple (here + there) b) (divided here there c d)
way_between h t a b c d some first second = record {
  before = h * (first.before * (second.before + second.after)) + t * (second.before * (first.before + first.after));
  after = h * (first.after * (second.before + second.after)) + t * (second.after * (first.before + first.after));
  some = subst (λ (n : ℕ). 1 ≤ n) (sym (all_shares h t first.before first.after second.before second.after))
      (one_at_least (h + t) ((first.before + first.after) * (second.before + second.after)) some
      (one_at_least (first.before + first.after) (second.before + second.after) first.some second.some));
  in_x = mixed_close h t first.before first.after second.before second.after a.x b.x c.x d.x first.in_x second.in_x;
  in_y = mixed_close h t first.before first.after second.before second.after a.y b.y c.y d.y first.in_y second.in_y;
}

pub edge_passes : (points : List Point) (at : List ℕ) (vertices : List Point) (k i here there : ℕ)
    → IsClosedWalk points → IsAnyPolygon points at → AreVertices points at vertices
    → k < length at → slice_index at k ≤ i → i < segment_end_of points at k → 1 ≤ here + there
    → PassesBy ((here + there) * 1536) (multiple (here + there) (point_at vertices k)) (multiple (here + there) (point_at vertices (k + 1)))
    (divided here there (point_place (point_at points i)) (point_place (point_at points (i + 1))))
edge_passes points at vertices k i here there closed polygon are within from to some =
    way_between here there (point_at vertices k) (point_at vertices (k + 1)) (point_place (point_at points i)) (point_place (point_at points (i + 1))) some
    (side_passes points at vertices k i closed polygon are within from (omega arith))
    (side_passes points at vertices k (i + 1) closed polygon are within (omega arith) (omega arith))
