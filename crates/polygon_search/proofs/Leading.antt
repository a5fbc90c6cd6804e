-- The least walk, by a list that leads along it.
use Rattle.std.proofs.Common.{ℕ, ◌+◌, ◌-◌, ◌<◌, ◌≤◌, List, ◌∷◌, refl, inl, inr, arith}
use Rattle.std.proofs.lemmas.Bool.{cases_lt}
use Rattle.std.specs.Prelude.{slice_index}
use Rattle.least_walk.specs.LeastWalk.{total_cost}
use Rattle.least_walk.specs.Inner.MarkedPlaces.{IsPlace}
use Rattle.least_walk.specs.Inner.Suffix.{HasNexts, IsLeastCost, IsLeastNext}
use Rattle.least_walk.proofs.Going.{goes_below}
use Rattle.least_walk.proofs.Onward.{least_cost_is_one, least_cost_step, length-least}
use Rattle.least_walk.proofs.Written.{IsWritten, written_place}
use Rattle.polygon_search.specs.declared.bounds.Bound.{Bound}
use Rattle.polygon_search.specs.Inner.VertexBounds.{AreBounds, AreWindowBegins, bound_at}
use Rattle.polygon_search.specs.Inner.Lasts.{AreRising, IsUpToLast, LeadsOn}
use Rattle.polygon_search.specs.Inner.Search.{LeadsAlong, counts_of}
use Rattle.polygon_search.specs.Inner.Within.{HasNextsWithin}
use Rattle.polygon_search.proofs.Counting.{counted, some_left}
use Rattle.polygon_search.proofs.Placing.{in_window}

module _ (size : ℕ) (is_allowed : ℕ → ℕ → Type 0) (cost : ℕ → ℕ → ℕ) (nexts : List ℕ) where
  -- a list of all of them leads along it
  pub leads_by_all : (c : ℕ) → IsLeastCost size is_allowed cost 0 c → HasNexts size is_allowed cost 0 nexts → LeadsAlong size is_allowed cost 0 nexts
  leads_by_all c least has = record {
    floors = λ k. 0;
    limit = c;
    start = λ d other. omega (arith, least_cost_is_one size is_allowed cost 0 d c other least);
    rises = λ k j below place next. omega arith;
    each = λ k d below place costs within. has k (omega arith) below place;
  }

  module _ (i : ℕ) (below : i < size) (starts : List ℕ) (written : IsWritten size is_allowed cost starts i) (leads : LeadsAlong size is_allowed cost i nexts) where
    costs_here : IsLeastCost size is_allowed cost i (total_cost cost (i ∷ written.0))
    costs_here = record { rest = written.0; is_least = written.1; costs = refl }

    -- where it leads first
    pub leads_next : IsLeastNext size is_allowed cost i (slice_index nexts i)
    leads_next =
        leads.each i (total_cost cost (i ∷ written.0)) below (written_place size is_allowed cost starts i written) costs_here
        (leads.start (total_cost cost (i ∷ written.0)) costs_here)

    -- from there it leads along what is left
    pub leads_more : LeadsAlong size is_allowed cost (slice_index nexts i) nexts
    leads_more =
        let place = written_place size is_allowed cost starts i written in
        let (d, costs, paid) = least_cost_step size is_allowed cost i (slice_index nexts i) (total_cost cost (i ∷ written.0)) costs_here leads_next in
        record {
          floors = leads.floors;
          limit = leads.limit;
          start = λ c least. omega (
            arith,
            least_cost_is_one size is_allowed cost (slice_index nexts i) c d least costs,
            leads.start (total_cost cost (i ∷ written.0)) costs_here,
            leads.rises i (slice_index nexts i) below place leads_next,
            paid,
          );
          rises = leads.rises;
          each = leads.each;
        }

module _ (size : ℕ) (lasts begins farthest : List ℕ) (leads : (i : ℕ) → i < size → LeadsOn size i (slice_index lasts i)) (rising : AreRising size lasts)
    (are : AreWindowBegins size lasts begins farthest) (cost : ℕ → ℕ → ℕ) (bounds : List Bound) (known : AreBounds lasts begins farthest cost bounds) where
  -- the least way on leads from a window into the next one, so what is known of bounds holds of its segments
  floor_rises : (i j : ℕ) → i < size → IsPlace size (IsUpToLast lasts) i → IsLeastNext size (IsUpToLast lasts) cost i j
      → (bound_at bounds j).floor ≤ (bound_at bounds i).floor + cost i j
  floor_rises i j below place next =
      let counts = counts_of size lasts in
      let all = counted size lasts leads rising in
      let window : ℕ = slice_index counts 0 - slice_index counts i in
      let some = some_left size lasts counts all i below in
      let fewer = all.falling 0 i (omega arith) (omega arith) (omega arith) in
      let near = in_window size lasts counts all farthest are.ends i (omega arith) place in
      let opens = are.each window (omega (arith, are.count, are.ends.count)) in
      let next_opens = are.each (window + 1) (omega (arith, are.count, are.ends.count)) in
      let goes = next.is_least.goes_on in
      let within = goes_below size (IsUpToLast lasts) j next.rest goes.2 in
      let steps = length-least size (IsUpToLast lasts) cost i (slice_index counts i) (j ∷ next.rest) next.is_least (all.fewest i (omega arith) (omega arith)) in
      let left = (all.fewest j (omega arith) (omega arith)).none_fewer next.rest goes.2 in
      let begin : slice_index begins window ≤ i = elim (cases_lt i (slice_index begins window)) [
        | inl before ↦ absurd (omega (arith, opens.none_before i before, opens.left))
        | inr after ↦ after
      ] in
      let next_begin : slice_index begins (window + 1) ≤ j = elim (cases_lt j (slice_index begins (window + 1))) [
        | inl before ↦ absurd (omega (arith, next_opens.none_before j before, next_opens.left))
        | inr after ↦ after
      ] in
      (known.joined window i j (omega (arith, are.ends.count)) (record { begin = begin; end = near }) next_begin goes.1.1).floor

  -- so a list that leads on within a limit leads along the least walk, where that is within it
  pub leads_within : (limit c : ℕ) (nexts : List ℕ) → c ≤ limit → IsLeastCost size (IsUpToLast lasts) cost 0 c
      → HasNextsWithin size (IsUpToLast lasts) cost bounds limit 0 nexts → LeadsAlong size (IsUpToLast lasts) cost 0 nexts
  leads_within limit c nexts within least has = record {
    floors = λ k. (bound_at bounds k).floor;
    limit = limit;
    start = λ d other. omega (arith, known.first, least_cost_is_one size (IsUpToLast lasts) cost 0 d c other least);
    rises = floor_rises;
    each = λ k d below place costs inside. has k d (omega arith) below place costs inside;
  }
