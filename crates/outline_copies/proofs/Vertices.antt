-- The vertices of a moved path are the moved vertices.
use Rattle.std.proofs.Common.{◌≡◌, ℕ, ◌+◌, ◌<◌, ℤ, pos, ◌+ℤ◌, ◌-ℤ◌, ◌*ℤ◌, List, length, if◌then◌else◌, nat_lt, map, sym, ap, ◌∙◌, subst, arith}
use Rattle.std.proofs.lemmas.Int.{ints}
use Rattle.std.proofs.lemmas.List.{get_or-map, length-map}
use Rattle.std.proofs.Math.Path.{fun_ext}
use Rattle.std.specs.Prelude.{slice_index, slice_index_or}
use Rattle.pt_core.specs.ClosedWalk.{origin, point_at}
use Rattle.pt_core.specs.Floor.{floor_of}
use Rattle.pt_core.specs.declared.point.Point.{Point}
use Rattle.prefix_moments.specs.Sums.{above_of, rightward_of, sum_over, sums_of}
use Rattle.prefix_moments.specs.declared.sums.Sums.{Sums}
use Rattle.vertex_adjust.specs.Line.{IsLine, squares_of}
use Rattle.vertex_adjust.specs.Vertex.{AreVertices, IsLeast, IsLineOf, IsVertex, IsVertexOf, before_of, distance_of, error_of, moved, segment_end_of}
use Rattle.vertex_adjust.specs.declared.line.Line.{Line}
use Rattle.vertex_adjust.specs.declared.shift.Shift.{Shift}
use Rattle.outline_copies.specs.Moved.{AreMoved, in_units, moved_by}

-- ---- offsets between points of a path

-- a difference stays the same
pub same_way : (a b move : ℤ) → (a +ℤ move) -ℤ (b +ℤ move) ≡ a -ℤ b
same_way a b move = omega (arith, ints)

module _ (right up : ℤ) (points other : List Point) (copy : AreMoved right up points other) where
  pub same_rightward : (i k : ℕ) → rightward_of other i k ≡ rightward_of points i k
  same_rightward i k = (let here = copy.each i in let there = copy.each k in
      ap (λ (p : Point). p.x -ℤ (point_at other i).x) there ∙ ap (λ (p : Point). ((point_at points k).x +ℤ right) -ℤ p.x) here
      ∙ same_way (point_at points k).x (point_at points i).x right)

  pub same_above : (i k : ℕ) → above_of other i k ≡ above_of points i k
  same_above i k = (let here = copy.each i in let there = copy.each k in
      ap (λ (p : Point). p.y -ℤ (point_at other i).y) there ∙ ap (λ (p : Point). ((point_at points k).y +ℤ up) -ℤ p.y) here
      ∙ same_way (point_at points k).y (point_at points i).y up)

  -- sums of offsets stay the same
  same_sums : (i j : ℕ) → sums_of other i j ≡ sums_of points i j
  same_sums i j =
      let e : rightward_of other i ≡ rightward_of points i = fun_ext (same_rightward i) in
      let f : above_of other i ≡ above_of points i = fun_ext (same_above i) in
      let S : (ℕ → ℤ) → (ℕ → ℤ) → Sums = λ r a. record {
        count = (sums_of points i j).count;
        x = sum_over i j r;
        y = sum_over i j a;
        xx = sum_over i j (λ k. r k *ℤ r k);
        xy = sum_over i j (λ k. r k *ℤ a k);
        yy = sum_over i j (λ k. a k *ℤ a k);
      } in
      ap (λ r. S r (above_of other i)) e ∙ ap (S (rightward_of points i)) f

  same_end : (at : List ℕ) (k : ℕ) → segment_end_of other at k ≡ segment_end_of points at k
  same_end at k = ap (λ n. if nat_lt (k + 1) (length at) then slice_index at (k + 1) else n + slice_index at 0) copy.count

-- ---- lines and vertices

-- the line with its centre moved
abbrev pub line_moved : ℤ → ℤ → Line → Line
line_moved right up line = record line { cx = line.cx +ℤ in_units right; cy = line.cy +ℤ in_units up }

-- a centre moves with the points
centre_moved : (c move part : ℤ) → pos 1024 *ℤ (c +ℤ move) +ℤ part ≡ (pos 1024 *ℤ c +ℤ part) +ℤ pos 1024 *ℤ move
centre_moved c move part = omega (arith, ints)

pub moved_line : (right up : ℤ) (s : Sums) (p : Point) (line : Line) → IsLine s p line → IsLine s (moved_by right up p) (line_moved right up line)
moved_line right up s p line is =
    let cx = ap (λ (l : Line). l.cx) is.along in
    let cy = ap (λ (l : Line). l.cy) is.along in
    let x = ap (λ c. c +ℤ in_units right) cx ∙ sym (centre_moved p.x right (floor_of (pos 1024 *ℤ s.x) s.count)) in
    let y = ap (λ c. c +ℤ in_units up) cy ∙ sym (centre_moved p.y up (floor_of (pos 1024 *ℤ s.y) s.count)) in
    record {
      spread = is.spread;
      enlarged = is.enlarged;
      along = λ i. record { nx = (is.along i).nx; ny = (is.along i).ny; cx = x i; cy = y i };
    }

-- a moved point has the same distance from a moved line as before
from_centre : (v move c shift : ℤ) → (pos 1024 *ℤ (v +ℤ move) +ℤ shift) -ℤ (c +ℤ pos 1024 *ℤ move) ≡ (pos 1024 *ℤ v +ℤ shift) -ℤ c
from_centre v move c shift = omega (arith, ints)

same_distance : (right up : ℤ) (line : Line) (v : Point) (shift : Shift)
    → distance_of (line_moved right up line) (moved (moved_by right up v) shift) ≡ distance_of line (moved v shift)
same_distance right up line v shift =
    let x = from_centre v.x right line.cx (pos 16 *ℤ shift.right) in
    let y = from_centre v.y up line.cy (pos 16 *ℤ shift.up) in
    λ i. line.nx *ℤ x i +ℤ line.ny *ℤ y i

same_error : (right up : ℤ) (before after : Line) (v : Point)
    → error_of before after v ≡ error_of (line_moved right up before) (line_moved right up after) (moved_by right up v)
unfolding error_of
same_error right up before after v = fun_ext (λ shift.
    let d = sym (same_distance right up before v shift) in
    let e = sym (same_distance right up after v shift) in
    λ i. squares_of (d i) (e i))

moved_vertex : (right up : ℤ) (before after : Line) (v a : Point) → IsVertex before after v a
    → IsVertex (line_moved right up before) (line_moved right up after) (moved_by right up v) (moved_by (in_units right) (in_units up) a)
moved_vertex right up before after v a is =
    let at_x = ap (λ (p : Point). p.x) is.is in
    let at_y = ap (λ (p : Point). p.y) is.is in
    let x : a.x +ℤ in_units right ≡ (moved (moved_by right up v) is.shift).x = omega (arith, ints) in
    let y : a.y +ℤ in_units up ≡ (moved (moved_by right up v) is.shift).y = omega (arith, ints) in
    record {
      shift = is.shift;
      least = subst (λ (e : Shift → ℕ). IsLeast e is.shift) (same_error right up before after v) is.least;
      is = λ i. record { x = x i; y = y i };
    }

-- ---- the vertices of a polygon

module _ (right up : ℤ) (points other : List Point) (at : List ℕ) (copy : AreMoved right up points other) where
  line_of : (k : ℕ) (line : Line) → IsLineOf points at k line → IsLineOf other at k (line_moved right up line)
  line_of k line is =
      let P : Sums → Type 0 = λ s. IsLine s (moved_by right up (point_at points (slice_index at k))) (line_moved right up line) in
      let Q : ℕ → Type 0 = λ j. IsLine (sums_of other (slice_index at k) j) (moved_by right up (point_at points (slice_index at k))) (line_moved right up line) in
      let R : Point → Type 0 = λ p. IsLine (sums_of other (slice_index at k) (segment_end_of other at k)) p (line_moved right up line) in
      subst R (sym (copy.each (slice_index at k)))
      (subst Q (sym (same_end right up points other copy at k))
      (subst P (sym (same_sums right up points other copy (slice_index at k) (segment_end_of points at k)))
      (moved_line right up (sums_of points (slice_index at k) (segment_end_of points at k)) (point_at points (slice_index at k)) line is)))

  vertex_of : (k : ℕ) (a : Point) → IsVertexOf points at k a → IsVertexOf other at k (moved_by (in_units right) (in_units up) a)
  vertex_of k a is = record {
    before = line_moved right up is.before;
    after = line_moved right up is.after;
    is_before = line_of (before_of (length at) k) is.before is.is_before;
    is_after = line_of k is.after is.is_after;
    is_vertex = subst (λ (p : Point). IsVertex (line_moved right up is.before) (line_moved right up is.after) p (moved_by (in_units right) (in_units up) a))
        (sym (copy.each (slice_index at k)))
        (moved_vertex right up is.before is.after (point_at points (slice_index at k)) a is.is_vertex);
  }

pub vertices_moved : (right up : ℤ) (points other : List Point) (at : List ℕ) (vertices : List Point)
    → AreMoved right up points other → AreVertices points at vertices
    → AreVertices other at (map (moved_by (in_units right) (in_units up)) vertices)
vertices_moved right up points other at vertices copy are =
    let move : Point → Point = moved_by (in_units right) (in_units up) in
    record {
      count = length-map vertices move ∙ are.count;
      each = λ k h. (let within : k < length vertices = omega (arith, are.count) in
          subst (IsVertexOf other at k) (sym (get_or-map move vertices k origin origin within))
          (vertex_of right up points other at copy k (slice_index_or vertices k origin) (are.each k h)));
    }
