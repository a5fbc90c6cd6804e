-- Numbers for how a path takes its next few steps (Freeman's chain code, 1961).
use Rattle.std.specs.Prelude.{◌≡◌, ◌⊎◌, ℕ, zero, suc, ◌%◌, ◌/◌, pos, negsuc, ◌+ℤ◌}
use Rattle.pt_core.specs.declared.point.Point.{Point}
use Rattle.path_cones.specs.Corners.{step_from}
use Rattle.path_cones.specs.Straight.{east, north, west, south}
use Rattle.path_cones.specs.declared.vector.Vector.{Vector}

-- the step that a digit stands for: the four directions, counted to the left from east
abbrev pub coded_step : ℕ → Vector
coded_step zero = east
coded_step (suc zero) = north
coded_step (suc (suc zero)) = west
coded_step (suc (suc (suc n))) = south

-- the step goes by 1 along a row or along a column
abbrev pub GoesByOne : Vector → Type 0
GoesByOne step = ((step.x ≡ pos 0) × ((step.y ≡ pos 1) ⊎ (step.y ≡ negsuc 0)))
    ⊎ ((step.y ≡ pos 0) × ((step.x ≡ pos 1) ⊎ (step.x ≡ negsuc 0)))

-- the path's first `count` steps go into the directions that are the code's digits to base 4, the lowest one first
abbrev pub IsCoded : ℕ → (ℕ → Point) → ℕ → Type 0
IsCoded zero path code = Unit
IsCoded (suc count) path code = (step_from path 0 ≡ coded_step (code % 4)) × IsCoded count (λ k. path (suc k)) (code / 4)

-- the vector with a step more
abbrev pub beyond : Vector → ℕ → Vector
beyond way digit = record { x = way.x +ℤ (coded_step digit).x; y = way.y +ℤ (coded_step digit).y }
