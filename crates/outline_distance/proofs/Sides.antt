-- The sides of an outline of corners, and the path's points that each of them stands for.
use Rattle.std.proofs.Common.{◌≡◌, ℕ, zero, suc, ◌+◌, ◌-◌, ◌*◌, ◌%◌, ◌<◌, ◌≤◌, ℤ, pos, negsuc, ◌+ℤ◌, ◌-ℤ◌, ◌*ℤ◌, ◌⊎◌, inl, inr, List, [], ◌∷◌, length, refl, sym, ap, ◌∙◌, subst, true, false, arith}
use Rattle.std.proofs.lemmas.Bool.{lt-ltb, le-ltb, cases_lt}
use Rattle.std.proofs.lemmas.Int.{ints}
use Rattle.std.proofs.Math.Nat.{mod-eq_of_lt, mod_self}
use Rattle.std.specs.Prelude.{nat_lt, slice_index, slice_index_or, unsigned_abs}
use Rattle.pt_core.specs.ClosedWalk.{IsClosedWalk, point_at, origin}
use Rattle.pt_core.specs.Floor.{floor_of}
use Rattle.pt_core.specs.declared.point.Point.{Point}
use Rattle.pt_core.proofs.Sizes.{product_most}
use Rattle.path_cones.proofs.Cyclic.{lap_on}
use Rattle.straight_paths.specs.Straight.{IsPossible}
use Rattle.polygon_search.specs.Polygon.{IsSegment}
use Rattle.polygon_search.proofs.Vertices.{vertices_below}
use Rattle.outline_distance.specs.Polygons.{IsAnyPolygon}
use Rattle.vertex_adjust.specs.Vertex.{AreVertices, segment_end_of}
use Rattle.corner_smooth.specs.Corner.{middle_of}
use Rattle.page_trace.proofs.Segments.{round_segment_at, segment_at, starts_somewhere}
use Rattle.outline_distance.specs.Distance.{IsCloseTo, PassesBy, DividesBy, point_place}
use Rattle.outline_distance.proofs.Vertices.{vertex_near}
use Rattle.outline_distance.proofs.Ways.{near_way, weighed, together}
use Rattle.outline_distance.proofs.Moving.{way_passes, shares}
use Rattle.outline_distance.proofs.Places.{segment_place}
use Rattle.outline_distance.proofs.Middles.{segment_middle}

-- ---- both ends of a side

module _ (points : List Point) (at : List ℕ) (vertices : List Point) (k : ℕ) (are : AreVertices points at vertices) (within : k < length at) where
  count : length vertices ≡ length at
  count = are.count

  here : (k % length vertices) ≡ k
  here = mod-eq_of_lt (omega (arith, are.count))

  pub first_end : IsCloseTo 512 (point_place (point_at points (slice_index at k))) (point_at vertices k)
  first_end =
      let P : ℕ → Type 0 = λ n. IsCloseTo 512 (point_place (point_at points (slice_index at k))) (slice_index_or vertices n origin) in
      subst P (sym here) (vertex_near points at vertices k are within)

  pub second_end : IsCloseTo 512 (point_place (point_at points (segment_end_of points at k))) (point_at vertices (k + 1))
  second_end = elim (cases_lt (k + 1) (length at)) [
    | inl more ↦
        let test : nat_lt (k + 1) (length at) ≡ true = lt-ltb (k + 1) (length at) more in
        let end : segment_end_of points at k ≡ slice_index at (k + 1) = rw test refl in
        let rest : ((k + 1) % length vertices) ≡ k + 1 = mod-eq_of_lt (omega (arith, are.count)) in
        let P : ℕ → ℕ → Type 0 = λ m n. IsCloseTo 512 (point_place (point_at points m)) (slice_index_or vertices n origin) in
        subst (λ (m : ℕ). P m ((k + 1) % length vertices)) (sym end) (subst (λ (n : ℕ). P (slice_index at (k + 1)) n) (sym rest) (vertex_near points at vertices (k + 1) are more))
    | inr last ↦
        let test : nat_lt (k + 1) (length at) ≡ false = le-ltb (k + 1) (length at) last in
        let end : segment_end_of points at k ≡ slice_index at 0 + length points = rw test (omega arith) in
        let whole : k + 1 ≡ length vertices = omega (arith, are.count) in
        let rest : ((k + 1) % length vertices) ≡ 0 = ap (λ n. n % length vertices) whole ∙ mod_self (length vertices) in
        let P : Point → ℕ → Type 0 = λ p n. IsCloseTo 512 (point_place p) (slice_index_or vertices n origin) in
        let point : point_at points (segment_end_of points at k) ≡ point_at points (slice_index at 0) = ap (point_at points) end ∙ lap_on points (slice_index at 0) in
        subst (λ (p : Point). P p ((k + 1) % length vertices)) (sym point) (subst (λ (n : ℕ). P (point_at points (slice_index at 0)) n) (sym rest) (vertex_near points at vertices 0 are (omega arith)))
  ]

-- ---- a polygon's segments are possible, and it has a vertex

pub possible_at : (points : List Point) (at : List ℕ) (k : ℕ) → IsAnyPolygon points at → k < length at
    → IsPossible points (slice_index at k) (segment_end_of points at k)
possible_at points at k (inl polygon) within = (segment_at points at k polygon within).possible
possible_at points at k (inr polygon) within = round_segment_at points at k polygon within

some_index : (points : List Point) (at : List ℕ) → 0 < length points → IsAnyPolygon points at → 1 ≤ length at
some_index points [] some (inl polygon) = absurd (starts_somewhere (length points) (IsSegment points) some polygon)
some_index points [] some (inr polygon) = polygon.some
some_index points (i ∷ rest) some polygon = omega arith

low_at : (points : List Point) (at : List ℕ) (k : ℕ) → 0 < length points → IsAnyPolygon points at → k < length at → slice_index at k ≤ length points
low_at points at k some (inl polygon) within = (let below = vertices_below points at polygon k 0 within in omega arith)
low_at points at k some (inr polygon) within = (let below = polygon.within k 0 within in omega arith)

-- ---- a side passes the points that it stands for

pub side_passes : (points : List Point) (at : List ℕ) (vertices : List Point) (k i : ℕ)
    → IsClosedWalk points → IsAnyPolygon points at → AreVertices points at vertices
    → k < length at → slice_index at k ≤ i → i ≤ segment_end_of points at k
    → PassesBy 1536 (point_at vertices k) (point_at vertices (k + 1)) (point_place (point_at points i))
side_passes points at vertices k i closed polygon are within from to =
    let segment = possible_at points at k polygon within in
    way_passes (point_at points (slice_index at k)) (point_at points (segment_end_of points at k)) (point_at points i)
    (point_at vertices k) (point_at vertices (k + 1)) 512
    (near_way points (slice_index at k) (segment_end_of points at k) i closed segment from to)
    (first_end points at vertices k are within) (second_end points at vertices k are within)

-- ---- near its middle there is one of them

halved : (z : ℤ) (c : ℤ) (n : ℕ) → unsigned_abs (pos 2 *ℤ c -ℤ z) ≤ n + n → unsigned_abs (c -ℤ floor_of z 2) ≤ n
halved (pos a) c n h = omega (arith, ints)
halved (negsuc a) c n h = omega (arith, ints)

sum_close : (a b u v c : ℤ) → unsigned_abs (u -ℤ pos 1024 *ℤ a) ≤ 512 → unsigned_abs (v -ℤ pos 1024 *ℤ b) ≤ 512
    → unsigned_abs (pos 2 *ℤ c -ℤ (a +ℤ b)) ≤ 2 → unsigned_abs (pos 2 *ℤ (pos 1024 *ℤ c) -ℤ (u +ℤ v)) ≤ 1536 + 1536
sum_close a b u v c f g h = omega (arith, ints)

pub joint_near : (points : List Point) (at : List ℕ) (vertices : List Point) (k : ℕ)
    → IsClosedWalk points → IsAnyPolygon points at → AreVertices points at vertices → k < length at
    → (i : ℕ) × (slice_index at k ≤ i) × (i ≤ segment_end_of points at k)
    × IsCloseTo 1536 (middle_of (point_at vertices k) (point_at vertices (k + 1))) (point_place (point_at points i))
joint_near points at vertices k closed polygon are within =
    let segment = possible_at points at k polygon within in
    let m = segment_middle points (slice_index at k) (segment_end_of points at k) closed segment in
    let a = first_end points at vertices k are within in
    let b = second_end points at vertices k are within in (
      m.at,
      m.after,
      m.before,
      record {
        x = halved ((point_at vertices k).x +ℤ (point_at vertices (k + 1)).x) (pos 1024 *ℤ (point_at points m.at).x) 1536 (sum_close (point_at points (slice_index at k)).x (point_at points (segment_end_of points at k)).x
            (point_at vertices k).x (point_at vertices (k + 1)).x (point_at points m.at).x a.x b.x m.in_x);
        y = halved ((point_at vertices k).y +ℤ (point_at vertices (k + 1)).y) (pos 1024 *ℤ (point_at points m.at).y) 1536 (sum_close (point_at points (slice_index at k)).y (point_at points (segment_end_of points at k)).y
            (point_at vertices k).y (point_at vertices (k + 1)).y (point_at points m.at).y a.y b.y m.in_y);
      },
    )

-- ---- each point of the path has a side

-- the same point, or the one a lap on
abbrev HasSide : List Point → List ℕ → ℕ → Type 0
HasSide points at i = (k : ℕ) × (k < length at) × (j : ℕ) × (point_at points j ≡ point_at points i)
    × (slice_index at k ≤ j) × (j ≤ segment_end_of points at k)

module _ (points : List Point) (at : List ℕ) (i : ℕ) (inside : i < length points) where
  last_end : (k : ℕ) → k < length at → suc k ≡ length at → segment_end_of points at k ≡ length points + slice_index at 0
  last_end k within last =
      let test : nat_lt (k + 1) (length at) ≡ false = le-ltb (k + 1) (length at) (omega arith) in
      rw test refl

  before_end : (k : ℕ) → k < length at → (suc k ≡ length at) ⊎ (i < slice_index at (suc k)) → i ≤ segment_end_of points at k
  before_end k within next = elim (cases_lt (k + 1) (length at)) [
    | inl more ↦
        let test : nat_lt (k + 1) (length at) ≡ true = lt-ltb (k + 1) (length at) more in
        let end : segment_end_of points at k ≡ slice_index at (k + 1) = rw test refl in
        let e : suc k ≡ k + 1 = omega arith in
        let same = ap (slice_index at) e in
        elim next [ inl last ↦ absurd (omega arith) | inr less ↦ omega arith ]
    | inr last ↦ omega (arith, last_end k within (omega arith))
  ]

  -- a point before the first vertex lies on the last segment
  early : (k : ℕ) → suc k ≡ length at → slice_index at k ≤ length points → i < slice_index at 0 → HasSide points at i
  early k last low before =
      (k, (omega arith), i + length points, lap_on points i, (omega arith), omega (arith, last_end k (omega arith) last))

  find : (n : ℕ) → n ≤ length at → slice_index at 0 ≤ i → 1 ≤ length at → (n ≡ length at) ⊎ (i < slice_index at n) → HasSide points at i
  find zero h begun some next = elim next [ inl whole ↦ absurd (omega arith) | inr less ↦ absurd (omega arith) ]
  find (suc n) h begun some next = elim (cases_lt i (slice_index at n)) [
    | inl less ↦ find n (omega arith) begun some (inr less)
    | inr from ↦ (n, (omega arith), i, refl, from, before_end n (omega arith) next)
  ]

side_of : (points : List Point) (at : List ℕ) (i : ℕ) → 0 < length points → IsAnyPolygon points at → i < length points → HasSide points at i
side_of points at i some polygon inside =
    elim (cases_lt i (slice_index at 0)) [
      | inl before ↦
          let one = some_index points at some polygon in
          early points at i inside (length at - 1) (omega arith) (low_at points at (length at - 1) some polygon (omega arith)) before
      | inr begun ↦ find points at i inside (length at) (omega arith) begun (some_index points at some polygon) (inl refl)
    ]

pub point_near : (points : List Point) (at : List ℕ) (vertices : List Point) (i : ℕ)
    → IsClosedWalk points → IsAnyPolygon points at → AreVertices points at vertices → i < length points
    → (k : ℕ) × (k < length vertices) × PassesBy 1536 (point_at vertices k) (point_at vertices (k + 1)) (point_place (point_at points i))
point_near points at vertices i closed polygon are inside =
    let some : 0 < length points = omega (arith, closed.least) in
    let (k, within, j, same, from, to) = side_of points at i some polygon inside in
    let P : Point → Type 0 = λ p. PassesBy 1536 (point_at vertices k) (point_at vertices (k + 1)) (point_place p) in
    (k, omega (arith, within, are.count), subst P same (side_passes points at vertices k j closed polygon are within from to))

-- ---- near each place of a side there is one of the points that it stands for

size_of : (z s t : ℤ) (n k l : ℕ) → unsigned_abs (pos 2 *ℤ z) ≤ 3 * n → unsigned_abs s ≤ k → unsigned_abs t ≤ l
    → unsigned_abs (pos 1024 *ℤ z -ℤ (s +ℤ t)) ≤ 1536 * n + (k + l)
size_of z s t n k l f g h = omega (arith, ints)

place_close : (r p : ℕ) (a b c u v : ℤ) → unsigned_abs (u -ℤ pos 1024 *ℤ a) ≤ 512 → unsigned_abs (v -ℤ pos 1024 *ℤ b) ≤ 512
    → unsigned_abs (pos 2 *ℤ (pos (r + p) *ℤ (c -ℤ a) -ℤ pos p *ℤ (b -ℤ a))) ≤ 3 * (r + p)
    → unsigned_abs (pos r *ℤ (pos 1024 *ℤ c -ℤ u) +ℤ pos p *ℤ (pos 1024 *ℤ c -ℤ v)) ≤ (r + p) * 2048
place_close r p a b c u v f g h =
    let Q : ℤ → Type 0 = λ z. unsigned_abs (pos 2 *ℤ (z *ℤ (c -ℤ a) -ℤ pos p *ℤ (b -ℤ a))) ≤ 3 * (r + p) in
    let R : ℤ → Type 0 = λ z. unsigned_abs (pos 2 *ℤ z) ≤ 3 * (r + p) in
    let near = subst R (sym (weighed (pos r) (pos p) a b c)) (subst Q (sym (together r p)) h) in
    let s = size_of (pos r *ℤ (c -ℤ a) +ℤ pos p *ℤ (c -ℤ b)) (pos r *ℤ (u -ℤ pos 1024 *ℤ a)) (pos p *ℤ (v -ℤ pos 1024 *ℤ b))
    (r + p) (r * 512) (p * 512) near
    (product_most (pos r) (u -ℤ pos 1024 *ℤ a) r 512 (omega arith) f)
    (product_most (pos p) (v -ℤ pos 1024 *ℤ b) p 512 (omega arith) g) in
    let P : ℤ → Type 0 = λ z. unsigned_abs z ≤ 1536 * (r + p) + (r * 512 + p * 512) in
    let t = subst P (sym (shares (pos r) (pos p) a b c u v)) s in
    omega arith

pub place_near : (points : List Point) (at : List ℕ) (vertices : List Point) (k before after : ℕ)
    → IsClosedWalk points → IsAnyPolygon points at → AreVertices points at vertices → k < length at → 1 ≤ before + after
    → (i : ℕ) × (slice_index at k ≤ i) × (i ≤ segment_end_of points at k)
    × DividesBy 2048 before after (point_at vertices k) (point_at vertices (k + 1)) (point_place (point_at points i))
place_near points at vertices k before after closed polygon are within some =
    let segment = possible_at points at k polygon within in
    let m = segment_place points (slice_index at k) (segment_end_of points at k) (before + after) after closed segment some (omega arith) in
    let a = first_end points at vertices k are within in
    let b = second_end points at vertices k are within in (
      m.at,
      m.after,
      m.before,
      record {
        in_x = place_close before after (point_at points (slice_index at k)).x (point_at points (segment_end_of points at k)).x (point_at points m.at).x
            (point_at vertices k).x (point_at vertices (k + 1)).x a.x b.x m.in_x;
        in_y = place_close before after (point_at points (slice_index at k)).y (point_at points (segment_end_of points at k)).y (point_at points m.at).y
            (point_at vertices k).y (point_at vertices (k + 1)).y a.y b.y m.in_y;
      },
    )
