-- One point of a search within a limit: how it goes on by the slots is how the best way goes on, where that is within the limit.
use Rattle.std.proofs.Common.{◌≡◌, ℕ, zero, suc, ◌+◌, ◌-◌, ◌<◌, ◌≤◌, ◌^◌, ap, inl, inr, arith}
use Rattle.std.proofs.lemmas.Bool.{cases_eq, cases_lt}
use Rattle.polygon_search.specs.declared.bounds.Bound.{Bound}
use Rattle.polygon_search.specs.declared.search.OnwardSegment.{OnwardSegment}
use Rattle.polygon_search.specs.Inner.VertexBounds.{IsPairBounded}
use Rattle.polygon_search.specs.Inner.Search.{HasCheapest}
use Rattle.polygon_search.specs.Inner.Within.{IsOnwardBy}
use Rattle.polygon_search.specs.Inner.Within.IsOnwardBy.{left_out, too_dear, kept}

-- of some points one is the cheapest, and of several the first
some_within : (cost_by : ℕ → ℕ) (begin d : ℕ) → (onward : OnwardSegment) × HasCheapest cost_by begin (begin + suc d) onward
some_within cost_by begin zero = (
  record { cost = cost_by begin; next = begin },
  record {
    above = omega arith;
    below = omega arith;
    cost = omega arith;
    cheapest = λ k above below. (let same : k ≡ begin = omega arith in omega (arith, ap cost_by same));
    first = λ k above below. absurd (omega arith);
  },
)
some_within cost_by begin (suc d) =
    let (so_far, is) = some_within cost_by begin d in
    let end : ℕ = begin + suc d in
    elim (cases_lt (cost_by end) so_far.cost) [
      | inl lower ↦ (
        record { cost = cost_by end; next = end },
        record {
          above = omega arith;
          below = omega arith;
          cost = omega arith;
          cheapest = λ k above below. elim (cases_eq k end) [
            | inl same ↦ omega (arith, ap cost_by same)
            | inr other ↦ omega (arith, is.cheapest k above (omega arith))
          ];
          first = λ k above below. omega (arith, is.cheapest k above below);
        },
      )
      | inr dear ↦ (
        so_far,
        record {
          above = is.above;
          below = omega (arith, is.below);
          cost = is.cost;
          cheapest = λ k above below. elim (cases_eq k end) [
            | inl same ↦ omega (arith, ap cost_by same)
            | inr other ↦ is.cheapest k above (omega arith)
          ];
          first = is.first;
        },
      )
    ]

pub some_cheapest : (cost_by : ℕ → ℕ) (begin end : ℕ) → begin < end → (onward : OnwardSegment) × HasCheapest cost_by begin end onward
some_cheapest cost_by begin end room =
    let (onward, is) = some_within cost_by begin (end - begin - 1) in
    let e : begin + suc (end - begin - 1) ≡ end = omega arith in
    (onward, rw e at is)

-- what is known of the points that a point's segments lead to: what the best ways on from there cost, what their slots have,
-- and what is left there at least
pub record AreAhead (cost whole slots : ℕ → ℕ) (bounds : ℕ → Bound) (bound : Bound) (begin end limit rest : ℕ) : Type 0 where
  pub joined : (k : ℕ) → begin ≤ k → k < end → IsPairBounded (cost k) bound (bounds k)
  pub enough : (k : ℕ) → begin ≤ k → k < end → whole k ≤ slots k
  pub exact : (k : ℕ) → begin ≤ k → k < end → (bounds k).floor + whole k ≤ limit → slots k ≡ whole k
  pub left : (k : ℕ) → begin ≤ k → k < end → (bounds k).floor + whole k ≤ limit → rest ≤ (bounds k).behind + whole k

-- the onward segment of a search within a limit: it costs no less than the best way on, which costs `least` and begins
-- with the segment to `next`; and it is that one, where it is within the limit
pub record IsOnwardWithin (within : Type 0) (least next : ℕ) (onward : OnwardSegment) : Type 0 where
  pub enough : least ≤ onward.cost
  pub exact : within → onward.cost ≡ least
  pub leads : within → onward.next ≡ next
  pub small : onward.cost < 2 ^ 56

module _ (cost whole slots : ℕ → ℕ) (bounds : ℕ → Bound) (bound : Bound) (begin end limit rest : ℕ)
    (are : AreAhead cost whole slots bounds bound begin end limit rest)
    (best : OnwardSegment) (is : HasCheapest (λ k. cost k + whole k) begin end best) where
  -- the point that the best way leads to is within the limit, if that is
  next_within : bound.floor + best.cost ≤ limit → (bounds best.next).floor + whole best.next ≤ limit
  next_within within = omega (arith, is.cost, (are.joined best.next is.above is.below).floor)

  -- what is left shows that it isn't
  not_within : limit < bound.floor + bound.ahead + rest → limit < bound.floor + best.cost
  not_within above = elim (cases_lt limit (bound.floor + best.cost)) [
    | inl beyond ↦ beyond
    | inr within ↦ absurd (omega (
      arith,
      is.cost,
      (are.joined best.next is.above is.below).halves,
      are.left best.next is.above is.below (next_within within),
    ))
  ]

  -- nor is it, where all that the slots have is beyond
  none_cheap : ((k : ℕ) → begin ≤ k → k < end → limit < bound.floor + (cost k + slots k)) → limit < bound.floor + best.cost
  none_cheap above = elim (cases_lt limit (bound.floor + best.cost)) [
    | inl beyond ↦ beyond
    | inr within ↦ absurd (omega (
      arith,
      is.cost,
      above best.next is.above is.below,
      are.exact best.next is.above is.below (next_within within),
    ))
  ]

  module _ (onward : OnwardSegment) (by_slots : HasCheapest (λ k. cost k + slots k) begin end onward) where
    least_most : best.cost ≤ onward.cost
    least_most = omega (
      arith,
      is.cheapest onward.next by_slots.above by_slots.below,
      are.enough onward.next by_slots.above by_slots.below,
      by_slots.cost,
    )

    same_cost : bound.floor + best.cost ≤ limit → onward.cost ≡ best.cost
    same_cost within = omega (
      arith,
      is.cost,
      least_most,
      by_slots.cheapest best.next is.above is.below,
      are.exact best.next is.above is.below (next_within within),
    )

    same_next : bound.floor + best.cost ≤ limit → onward.next ≡ best.next
    same_next within = elim (cases_lt onward.next best.next) [
      | inl before ↦ absurd (omega (
        arith,
        is.first onward.next by_slots.above before,
        are.enough onward.next by_slots.above by_slots.below,
        by_slots.cost,
        same_cost within,
      ))
      | inr no_before ↦ elim (cases_lt best.next onward.next) [
        | inl after ↦ absurd (omega (
          arith,
          by_slots.first best.next is.above after,
          is.cost,
          are.exact best.next is.above is.below (next_within within),
          same_cost within,
        ))
        | inr no_after ↦ omega arith
      ]
    ]

  -- so a search within a limit goes on so
  pub onward_is : (onward : OnwardSegment) → best.cost < 2 ^ 56 → limit < 2 ^ 56
      → IsOnwardBy (λ k. cost k + slots k) begin end limit rest bound onward
      → IsOnwardWithin (bound.floor + best.cost ≤ limit) best.cost best.next onward
  onward_is onward small low (left_out above far) = record {
    enough = omega arith;
    exact = λ within. absurd (omega (arith, not_within above));
    leads = λ within. absurd (omega (arith, not_within above));
    small = omega arith;
  }
  onward_is onward small low (too_dear above far) = record {
    enough = omega arith;
    exact = λ within. absurd (omega (arith, none_cheap above, within));
    leads = λ within. absurd (omega (arith, none_cheap above, within));
    small = omega arith;
  }
  onward_is onward small low (kept by_slots within) = record {
    enough = least_most onward by_slots;
    exact = same_cost onward by_slots;
    leads = same_next onward by_slots;
    small = omega arith;
  }
