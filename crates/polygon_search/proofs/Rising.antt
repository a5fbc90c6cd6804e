-- The longest segment from the next point reaches as far.
use Rattle.std.proofs.Common.{◌≡◌, ℕ, suc, ◌+◌, ◌-◌, ◌<◌, List, length, ap, subst, arith, inl, inr}
use Rattle.std.proofs.Math.Path.{fun_ext}
use Rattle.std.proofs.lemmas.Bool.{cases_lt}
use Rattle.std.specs.Prelude.{slice_index}
use Rattle.pt_core.specs.declared.point.Point.{Point}
use Rattle.pt_core.specs.ClosedWalk.{point_at}
use Rattle.straight_paths.specs.Straight.{IsPossible, IsStraight, path_from}
use Rattle.path_cones.proofs.Pieces.{rest_of, without_first}
use Rattle.polygon_search.specs.Inner.Lasts.{HasLasts, AreRising}

-- a possible segment stays so without its first step
pub later_possible : (points : List Point) (i j : ℕ) → IsPossible points i j → i + 1 < j → IsPossible points (i + 1) j
later_possible points i j possible rises =
    let n = length points in
    let start : ℕ = i + (n - 1) in
    let count : j - i + 2 ≡ suc (j - (i + 1) + 2) = omega arith in
    let same : rest_of (path_from points start) ≡ path_from points (i + 1 + (n - 1)) =
    fun_ext (λ k. let at : suc k + start ≡ k + (i + 1 + (n - 1)) = omega arith in ap (point_at points) at) in
    record {
      rises = rises;
      leaves_three = omega (arith, possible.leaves_three);
      short = omega (arith, possible.short);
      straight = subst (λ (path : ℕ → Point). IsStraight path (j - (i + 1) + 2)) same
          (without_first (path_from points start) (j - (i + 1) + 2)
          (subst (λ (c : ℕ). IsStraight (path_from points start) c) count possible.straight));
    }

pub lasts_rise : (points : List Point) (lasts : List ℕ) → HasLasts points lasts → AreRising (length points) lasts
lasts_rise points lasts has i below =
    let here = has.each i (omega arith) in
    let next = has.each (i + 1) below in
    elim (cases_lt (i + 1) (slice_index lasts i)) [
      | inl beyond ↦ next.farthest (slice_index lasts i)
          (record { possible = later_possible points i (slice_index lasts i) here.reached.possible beyond; ends = here.reached.ends })
      | inr near ↦ omega (arith, next.reached.possible.rises)
    ]
