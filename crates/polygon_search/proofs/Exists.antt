-- A closed walk has a best polygon.
use Rattle.std.proofs.Common.{ℕ, ◌⊎◌, inl, inr, List, length, arith}
use Rattle.std.proofs.lemmas.Bool.{cases_lt}
use Rattle.pt_core.specs.ClosedWalk.{IsClosedWalk}
use Rattle.pt_core.specs.declared.point.Point.{Point}
use Rattle.path_cones.proofs.Decided.{is_possible}
use Rattle.straight_paths.proofs.Far.{step_possible}
use Rattle.least_walk.proofs.Exists.{starts_found}
use Rattle.polygon_search.specs.Polygon.{IsSegment, IsBestPolygon, penalty_of}

is_segment : (points : List Point) (i j : ℕ) → IsSegment points i j ⊎ ¬ IsSegment points i j
is_segment points i j =
    elim (is_possible points i j) [
      | inl possible ↦ elim (cases_lt (length points) j) [
        | inl past ↦ inr (λ segment. let ends = segment.ends in omega arith)
        | inr within ↦ inl (record { possible = possible; ends = within })
      ]
      | inr refused ↦ inr (λ segment. refused segment.possible)
    ]

pub best_found : (points : List Point) → IsClosedWalk points → (at : List ℕ) × IsBestPolygon points at
best_found points closed =
    starts_found (length points) (IsSegment points) (penalty_of points) (λ i j rises within. is_segment points i j)
    (λ i below. record { possible = step_possible points i closed; ends = omega arith })
