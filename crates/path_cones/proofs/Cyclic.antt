-- Indices of a closed path.
use Rattle.std.proofs.Common.{◌≡◌, ◌⊎◌, inl, inr, ℕ, suc, ◌+◌, ◌-◌, ◌%◌, ◌<◌, ◌≤◌, List, length, get_or, refl, sym, ◌∙◌, ap, arith}
use Rattle.std.proofs.Math.Nat.{mod-eq-sub-mod, mod-eq_of_lt}
use Rattle.std.proofs.Math.Path.{fun_ext}
use Rattle.std.specs.Prelude.{slice_index_or}
use Rattle.pt_core.specs.ClosedWalk.{origin, point_at}
use Rattle.pt_core.specs.declared.point.Point.{Point}
use Rattle.path_cones.specs.Corners.{step_from}
use Rattle.path_cones.specs.Straight.{path_from, vector_of}
use Rattle.path_cones.specs.declared.vector.Vector.{Vector}

pub lap_on : (points : List Point) (k : ℕ) → point_at points (k + length points) ≡ point_at points k
lap_on points k =
    let e : k + length points - length points ≡ k = omega arith in
    ap (λ i. get_or points i origin)
    (mod-eq-sub-mod {n = k + length points} {m = length points} (omega arith) ∙ ap (λ i. i % length points) e)

-- an index in the list of one lap
pub listed : (list points : List Point) (k : ℕ) → list ≡ points → k < length points → slice_index_or list k origin ≡ point_at points k
listed list points k same h =
    ap (λ l. slice_index_or l k origin) same ∙ ap (λ n. slice_index_or points n origin) (sym (mod-eq_of_lt h))

-- an index of the second lap
pub lap_before : (points : List Point) (k n : ℕ) → n ≡ length points → n ≤ k → point_at points (k - n) ≡ point_at points k
lap_before points k n size low =
    let e : k - n + length points ≡ k = omega arith in
    sym (lap_on points (k - n)) ∙ ap (point_at points) e

-- an index of either lap
pub lap_at : (points : List Point) (begin k : ℕ) → (begin ≡ 0) ⊎ (begin ≡ length points) → begin ≤ k → k < begin + length points
    → slice_index_or points (k - begin) origin ≡ point_at points k
lap_at points begin k (inl e) after before = listed points points (k - begin) refl (omega arith) ∙ ap (point_at points) (omega arith)
lap_at points begin k (inr e) after before = listed points points (k - begin) refl (omega arith) ∙ lap_before points k begin e after

-- the path from the next index is the rest of the path
pub rest_is : (points : List Point) (at : ℕ) → path_from points (at + 1) ≡ (λ k. path_from points at (suc k))
rest_is points at = fun_ext (λ k. let e : k + (at + 1) ≡ suc k + at = omega arith in ap (point_at points) e)

-- a lap on the path is the same
pub path_lap_on : (points : List Point) (at : ℕ) → path_from points (at + length points) ≡ path_from points at
path_lap_on points at = fun_ext (λ k.
    let e : k + (at + length points) ≡ k + at + length points = omega arith in
    ap (point_at points) e ∙ lap_on points (k + at))

-- the step from an index is the first one of the path from there
pub first_step : (points : List Point) (index : ℕ) (step : Vector) → step ≡ vector_of (point_at points index) (point_at points (index + 1))
    → step ≡ step_from (path_from points index) 0
first_step points index step is =
    let e : index + 1 ≡ 1 + index = omega arith in
    let z : index ≡ 0 + index = omega arith in
    is ∙ ap (λ n. vector_of (point_at points index) (point_at points n)) e ∙ ap (λ n. vector_of (point_at points n) (point_at points (1 + index))) z
