-- A path and its copy have the same segments and penalties, and so the same best polygon.
use Rattle.std.proofs.Common.{◌≡◌, ℕ, suc, ◌+◌, ◌-◌, ◌*◌, ◌/◌, ℤ, ◌-ℤ◌, ◌*ℤ◌, List, length, ap, sym, subst, ◌∙◌, arith}
use Rattle.std.proofs.lemmas.Int.{ints}
use Rattle.std.proofs.Math.Path.{fun_ext}
use Rattle.std.specs.Prelude.{unsigned_abs}
use Rattle.least_walk.specs.LeastWalk.{IsLeast, total_cost, walk_from}
use Rattle.pt_core.specs.Root.{root_of}
use Rattle.pt_core.specs.ClosedWalk.{point_at}
use Rattle.pt_core.specs.declared.point.Point.{Point}
use Rattle.prefix_moments.specs.Sums.{rightward_of, above_of, spread_of, sum_over}
use Rattle.straight_paths.specs.Straight.{IsPossible, IsStraight, IsNear, Takes, TakesAllFour, path_from, vector_of}
use Rattle.polygon_search.proofs.Reaching.{walk_where_more}
use Rattle.polygon_search.specs.Polygon.{IsSegment, IsBestPolygon, penalty_of, total_penalty}
use Rattle.path_copies.specs.Copy.{IsCopy}

-- a path is a copy of its copies
pub copy_back : (points other : List Point) → IsCopy points other → IsCopy other points
copy_back points other copy = record {
  count = sym copy.count;
  right = λ k. sym (copy.right k);
  above = λ k. sym (copy.above k);
}

-- what is the same from a number on is the same between any two
between : (a b c d e f : ℤ) → (a -ℤ c ≡ d -ℤ f) → (b -ℤ c ≡ e -ℤ f) → b -ℤ a ≡ e -ℤ d
between a b c d e f first second = omega (arith, ints)

-- two paths with the same steps take the same ones
module _ (path way : ℕ → Point) (same : (i j : ℕ) → vector_of (path i) (path j) ≡ vector_of (way i) (way j)) where
  takes_too : (count : ℕ) (step : _) → Takes path count step → Takes way count step
  takes_too count step takes = record {
    k = takes.k;
    early = takes.early;
    taken = sym (same takes.k (suc takes.k)) ∙ takes.taken;
  }

  takes_all_too : (count : ℕ) → TakesAllFour path count → TakesAllFour way count
  takes_all_too count all = record {
    east = takes_too count _ all.east;
    north = takes_too count _ all.north;
    west = takes_too count _ all.west;
    south = takes_too count _ all.south;
  }

module _ (path way : ℕ → Point) (same : (i j : ℕ) → vector_of (path i) (path j) ≡ vector_of (way i) (way j)) where
  -- so the one is straight where the other is
  straight_too : (count : ℕ) → IsStraight path count → IsStraight way count
  straight_too count straight = record {
    not_all_four = λ all. straight.not_all_four (takes_all_too way path (λ i j. sym (same i j)) count all);
    near = λ i j k below further within.
        subst (λ v. IsNear v (vector_of (way i) (way k))) (same i j)
        (subst (λ v. IsNear (vector_of (path i) (path j)) v) (same i k) (straight.near i j k below further within));
  }

-- the sum of squared cross products by how far points are to the right and above
abbrev spread_from : (ℕ → ℕ → ℤ) → (ℕ → ℕ → ℤ) → ℕ → ℕ → ℤ
spread_from right above i j =
    sum_over i j (λ k. (right i k *ℤ above i j -ℤ above i k *ℤ right i j) *ℤ (right i k *ℤ above i j -ℤ above i k *ℤ right i j))

module _ (points other : List Point) (copy : IsCopy points other) where
  right_same : (i k : ℕ) → rightward_of points i k ≡ rightward_of other i k
  right_same i k =
      between (point_at points i).x (point_at points k).x (point_at points 0).x (point_at other i).x (point_at other k).x (point_at other 0).x
      (copy.right i) (copy.right k)

  above_same : (i k : ℕ) → above_of points i k ≡ above_of other i k
  above_same i k =
      between (point_at points i).y (point_at points k).y (point_at points 0).y (point_at other i).y (point_at other k).y (point_at other 0).y
      (copy.above i) (copy.above k)

  vector_same : (start i j : ℕ)
      → vector_of (path_from points start i) (path_from points start j) ≡ vector_of (path_from other start i) (path_from other start j)
  vector_same start i j =
      ap (λ x. record { x = x; y = above_of points (i + start) (j + start) }) (right_same (i + start) (j + start))
      ∙ ap (λ y. record { x = rightward_of other (i + start) (j + start); y = y }) (above_same (i + start) (j + start))

  -- the same segments are possible
  pub possible_too : (i j : ℕ) → IsPossible points i j → IsPossible other i j
  possible_too i j possible = record {
    rises = possible.rises;
    leaves_three = omega (arith, possible.leaves_three, copy.count);
    short = possible.short;
    straight =
        (let P : ℕ → Type 0 = λ count. IsStraight (path_from other (i + (count - 1))) (j - i + 2) in
        subst P copy.count
        (straight_too (path_from points (i + (length points - 1))) (path_from other (i + (length points - 1))) (vector_same (i + (length points - 1)))
        (j - i + 2) possible.straight));
  }

  segment_too : (i j : ℕ) → IsSegment points i j → IsSegment other i j
  segment_too i j segment = record {
    possible = possible_too i j segment.possible;
    ends = omega (arith, segment.ends, copy.count);
  }

  -- and each has the same penalty
  spread_same : (i j : ℕ) → spread_of points i j ≡ spread_of other i j
  spread_same i j =
      ap (λ right. spread_from right (above_of points) i j) (fun_ext (λ a. fun_ext (λ k. right_same a k)))
      ∙ ap (λ above. spread_from (rightward_of other) above i j) (fun_ext (λ a. fun_ext (λ k. above_same a k)))

  penalty_same : (i j : ℕ) → penalty_of points i j ≡ penalty_of other i j
  unfolding penalty_of
  penalty_same i j = ap (λ (z : ℤ). root_of (65536 * unsigned_abs z / (j - i + 1))) (spread_same i j)

  pub costs_same : penalty_of points ≡ penalty_of other
  costs_same = fun_ext (λ i. fun_ext (λ j. penalty_same i j))

  pub penalties_same : (at : List ℕ) → total_penalty points at ≡ total_penalty other at
  penalties_same at =
      ap (λ (cost : ℕ → ℕ → ℕ). total_cost cost (walk_from at (length points))) costs_same
      ∙ ap (λ (size : ℕ). total_cost (penalty_of other) (walk_from at size)) copy.count

-- the best polygon of the one is that of the other
pub best_too : (points other : List Point) (at : List ℕ) → IsCopy points other → IsBestPolygon points at → IsBestPolygon other at
best_too points other at copy best =
    let P : ℕ → Type 0 = λ size. IsLeast size (IsSegment points) (penalty_of points) (walk_from at size) in
    let Q : (ℕ → ℕ → ℕ) → Type 0 = λ cost. IsLeast (length other) (IsSegment points) cost (walk_from at (length other)) in
    let least = subst Q (costs_same points other copy) (subst P copy.count best) in
    let back = copy_back points other copy in
    record {
      is_walk = walk_where_more (length other) (IsSegment points) (IsSegment other) (segment_too points other copy) (walk_from at (length other)) least.is_walk;
      none_before = λ rival walk. least.none_before rival
          (walk_where_more (length other) (IsSegment other) (IsSegment points) (segment_too other points back) rival walk);
    }
