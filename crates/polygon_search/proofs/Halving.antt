-- What the halves of segments add together.
use Rattle.std.proofs.Common.{◌≡◌, ℕ, ◌+◌, ◌-◌, ◌/◌, ◌<◌, ◌≤◌, List, length, ap, subst, arith}
use Rattle.std.specs.Prelude.{Some, None, IfSome, slice_index}
use Rattle.std.specs.declared.option.Option.{Option}
use Rattle.pt_core.specs.declared.point.Point.{Point}
use Rattle.half_penalties.specs.Inner.HalfPenalties.{GoesOneWay, IsBoundBefore, IsBoundBehind}
use Rattle.half_penalties.specs.declared.halves.Halves.{Halves}
use Rattle.half_penalties.proofs.Together.{together}
use Rattle.polygon_search.specs.Polygon.{penalty_of}
use Rattle.polygon_search.specs.Inner.OnePenalty.{penalty_is}
use Rattle.polygon_search.specs.Inner.Joining.{IsAheadOf, IsBehindOf, ReachesBack, ReachesOn}
use Rattle.polygon_search.proofs.Windowed.{IsMiddle}

-- halves of segments from `first` on up to `last` over this middle were found
pub record AreHalvesOf (points : List Point) (first at last : ℕ) (halves : Halves) : Type 0 where
  pub moments : halves.moments.now ≡ points
  pub middle : halves.middle ≡ at
  pub one_way : (i j : ℕ) → first ≤ i → i ≤ j → j ≤ last → GoesOneWay points halves.slant i j

pub halves_of : (points : List Point) (first at last : ℕ) (halves : Option Halves) → IfSome halves (λ h. h.moments.now ≡ points)
    → IfSome halves (λ h. h.middle ≡ at) → IfSome halves (λ h. (i j : ℕ) → first ≤ i → i ≤ j → j ≤ last → GoesOneWay points h.slant i j)
    → IfSome halves (AreHalvesOf points first at last)
halves_of points first at last None moments middle one_way = moments
halves_of points first at last (Some h) moments middle one_way = record { moments = moments; middle = middle; one_way = one_way }

-- the middle of the points from `end` to before `begin`
pub middle_between : (end begin : ℕ) → end < begin → (end ≤ end + (begin - 1 - end) / 2) × (end + (begin - 1 - end) / 2 < begin)
middle_between end begin below = (omega arith, omega arith)

-- such halves have few steps
module _ (points : List Point) (begins farthest : List ℕ) (window at : ℕ) (between : IsMiddle (length points) begins farthest window at) where
  abbrev first : ℕ
  first = slice_index begins window

  abbrev last : ℕ
  last = slice_index farthest (window + 1)

  pub reach_back : (halves : Option Halves) → IfSome halves (AreHalvesOf points first at last)
      → IfSome halves (λ h. ReachesBack h first (slice_index farthest window))
  reach_back None are = are
  reach_back (Some h) are = record {
    order = omega (arith, are.middle, between.order);
    steps = omega (arith, are.middle, between.back);
    inside = omega (arith, are.middle, ap length are.moments, between.inside);
  }

  pub reach_on : (halves : Option Halves) → IfSome halves (AreHalvesOf points first at last)
      → IfSome halves (λ h. ReachesOn h (slice_index begins (window + 1)) last)
  reach_on None are = are
  reach_on (Some h) are = record {
    beyond = omega (arith, are.middle, between.beyond);
    steps = omega (arith, are.middle, between.on);
    lap = omega (arith, ap length are.moments, between.lap);
    inside = omega (arith, are.middle, ap length are.moments, between.inside);
  }

-- they add no more than a segment's penalty
pub halves_most : (points : List Point) (first at last : ℕ) (halves : Option Halves) → IfSome halves (AreHalvesOf points first at last)
    → (i j ahead behind : ℕ) → first ≤ i → i ≤ at → at < j → j ≤ last → IsAheadOf halves i ahead → IsBehindOf halves j behind
    → ahead + behind ≤ penalty_of points i j
halves_most points first at last None are i j ahead behind above order beyond below is_ahead is_behind =
    omega (arith, is_ahead.none, is_behind.none)
halves_most points first at last (Some h) are i j ahead behind above order beyond below is_ahead is_behind =
    let before = subst (λ ps. IsBoundBefore ps h.slant h.middle i ahead) are.moments is_ahead.some in
    let after = subst (λ ps. IsBoundBehind ps h.slant h.middle j behind) are.moments is_behind.some in
    together points h.slant i h.middle j ahead behind (penalty_of points i j) (omega (arith, are.middle)) (omega (arith, are.middle))
    (are.one_way i j above (omega arith) below) before after (penalty_is points i j)
