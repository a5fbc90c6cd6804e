-- A path that stays in a strip is clear.
use Rattle.std.proofs.Common.{◌≡◌, ℕ, ◌+◌, ◌-◌, ◌≤◌, ℤ, pos, ◌+ℤ◌, ◌-ℤ◌, ◌<ℤ◌, List, subst, arith}
use Rattle.std.proofs.lemmas.Int.{ints}
use Rattle.pt_core.specs.ClosedWalk.{point_at}
use Rattle.pt_core.specs.declared.point.Point.{Point}
use Rattle.path_cones.specs.Straight.{path_from, vector_of}
use Rattle.path_cones.specs.Inner.Cones.{IsClear}
use Rattle.path_cones.specs.Inner.Strips.{IsFromTo, IsStrip, StaysIn, TakesStep, across_at, right_at, up_at}
use Rattle.path_cones.specs.Inner.Tails.{way_along}
use Rattle.path_cones.specs.declared.strip.Strip.{Strip}
use Rattle.path_cones.specs.declared.vector.Vector.{Vector}
use Rattle.path_cones.proofs.Breadths.{IsAcross, near_in_strip}
use Rattle.path_cones.proofs.Cyclic.{first_step, rest_is}
use Rattle.path_cones.proofs.Stepping.{part_start}

pub stays_clear : (strip : Strip) (path : ℕ → Point) (count : ℕ) → IsStrip strip → StaysIn strip path count → IsClear path count
stays_clear strip path count is stays j k some more within =
    let q = strip.quarter in
    let e = is.breadth in
    let across = λ (z : ℤ) (h : IsFromTo (pos 0) strip.breadth z). let a : IsAcross strip.breadth z = (h.least, h.most) in subst (λ (w : ℤ). IsAcross w z) e a in
    let right_here : right_at q path 0 ≡ pos 0 = part_start q.right (path 0).x in
    let up_here : up_at q path 0 ≡ pos 0 = part_start q.up (path 0).y in
    let right_on = stays.right 0 j (omega arith) (omega arith) in
    let up_on = stays.up 0 j (omega arith) (omega arith) in
    let a : ℤ = pos 0 -ℤ strip.across.least in
    let least = is.least in
    let greatest = is.greatest in
    let narrow = is.narrow in
    let middle = stays.inside j (omega arith) in
    let middle_least = middle.least in
    let middle_most = middle.most in
    let end = stays.inside k within in
    let end_least = end.least in
    let end_most = end.most in
    near_in_strip q strip.way (way_along path j) (way_along path k) a is.quarter is.right is.up
    (subst (λ (w : ℤ). pos 0 <ℤ w) e is.some)
    (omega (arith, ints)) (omega (arith, ints))
    (stays.right j k (omega arith) within) (stays.up j k (omega arith) within)
    (across a (record { least = omega (arith, ints); most = omega (arith, ints) }))
    (across (a +ℤ across_at strip.way path j) (record { least = omega (arith, ints); most = omega (arith, ints) }))
    (across (a +ℤ across_at strip.way path k) (record { least = omega (arith, ints); most = omega (arith, ints) }))

-- fewer of its steps stay in it too
pub stays_shorter : (strip : Strip) (path : ℕ → Point) (count more : ℕ) → count ≤ more → StaysIn strip path more → StaysIn strip path count
stays_shorter strip path count more h stays = record {
  inside = λ k l. stays.inside k (omega arith);
  right = λ j k a b. stays.right j k a (omega arith);
  up = λ j k a b. stays.up j k a (omega arith);
  back_x = λ k l. stays.back_x k (omega arith);
  back_y = λ k l. stays.back_y k (omega arith);
}

-- a strip that holds what is straight from the next index on, seen from this one
pub stays_earlier : (points : List Point) (index end : ℕ) (strip new : Strip) (step : Vector) → index + 1 ≤ end
    → step ≡ vector_of (point_at points index) (point_at points (index + 1))
    → StaysIn strip (path_from points (index + 1)) (end - (index + 1))
    → TakesStep strip step new
    → StaysIn new (path_from points index) (end - index)
stays_earlier points index end strip new step order is stays on =
    let e : end - (index + 1) + 1 ≡ end - index = omega arith in
    let P : (ℕ → Point) → Type 0 = λ path. StaysIn strip path (end - (index + 1)) in
    subst (StaysIn new (path_from points index)) e
    (on (path_from points index) (end - (index + 1)) (first_step points index step is) (subst P (rest_is points index) stays))
