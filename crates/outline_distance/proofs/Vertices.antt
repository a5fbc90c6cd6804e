-- A vertex is near its point of the path.
use Rattle.std.proofs.Common.{ℕ, ◌<◌, ◌≤◌, ℤ, pos, ◌+ℤ◌, ◌-ℤ◌, ◌*ℤ◌, List, length, slice_index, slice_index_or, sym, subst, arith}
use Rattle.std.proofs.lemmas.Int.{ints}
use Rattle.std.specs.Prelude.{unsigned_abs}
use Rattle.pt_core.specs.ClosedWalk.{point_at, origin}
use Rattle.pt_core.specs.declared.point.Point.{Point}
use Rattle.vertex_adjust.specs.Vertex.{AreVertices, IsCandidate, moved}
use Rattle.vertex_adjust.specs.declared.shift.Shift.{Shift}
use Rattle.outline_distance.specs.Distance.{IsCloseTo, point_place}

moved_by : (v s : ℤ) → unsigned_abs s ≤ 32 → unsigned_abs ((pos 1024 *ℤ v +ℤ pos 16 *ℤ s) -ℤ pos 1024 *ℤ v) ≤ 512
moved_by v s h = omega (arith, ints)

moved_near : (p : Point) (shift : Shift) → IsCandidate shift → IsCloseTo 512 (point_place p) (moved p shift)
moved_near p shift candidate = record { x = moved_by p.x shift.right candidate.right; y = moved_by p.y shift.up candidate.up }

pub vertex_near : (points : List Point) (at : List ℕ) (vertices : List Point) (k : ℕ)
    → AreVertices points at vertices → k < length at
    → IsCloseTo 512 (point_place (point_at points (slice_index at k))) (slice_index_or vertices k origin)
vertex_near points at vertices k are h =
    let is = (are.each k h).is_vertex in
    subst (λ (a : Point). IsCloseTo 512 (point_place (point_at points (slice_index at k))) a) (sym is.is)
    (moved_near (point_at points (slice_index at k)) is.shift is.least.candidate)
