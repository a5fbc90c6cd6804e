-- One step down a window within a limit: what is kept gives the best way on from the next point, where that is within the limit.
use Rattle.std.proofs.Common.{◌≡◌, ℕ, ◌+◌, ◌<◌, ◌≤◌, ◌^◌, List, length, set, ◌∙◌, sym, subst, inl, inr, arith}
use Rattle.std.proofs.lemmas.Bool.{cases_eq}
use Rattle.std.specs.Prelude.{slice_index}
use Rattle.least_walk.specs.Inner.MarkedPlaces.{IsPlace}
use Rattle.least_walk.specs.Inner.Suffix.{IsLeastCost, IsLeastNext}
use Rattle.least_walk.proofs.Filling.{filled}
use Rattle.least_walk.proofs.Onward.{least_cost_is_one}
use Rattle.polygon_search.specs.declared.bounds.Bound.{Bound}
use Rattle.polygon_search.specs.declared.search.OnwardSegment.{OnwardSegment}
use Rattle.polygon_search.specs.Inner.VertexBounds.{bound_at, IsPairBounded}
use Rattle.polygon_search.specs.Inner.Lasts.{IsUpToLast}
use Rattle.polygon_search.specs.Inner.Search.{AreEnoughSlots, HasCheapest, slot_of}
use Rattle.polygon_search.specs.Inner.Within.{AreKeptWithin, HasNextsWithin, IsLeastRest, IsOnwardBy, IsWithinLimit}
use Rattle.polygon_search.proofs.Counting.{AreCounted, last_keeps}
use Rattle.polygon_search.proofs.Keeping.{kept_more}
use Rattle.polygon_search.proofs.Leasts.{AreCheap, IsBeforeWindow, best_onward, least_small, least_there, place_there}
use Rattle.polygon_search.proofs.Limits.{AreAhead, IsOnwardWithin, onward_is, some_cheapest}
use Rattle.polygon_search.proofs.Slots.{slot_below}

-- what is known after the step
pub record HasStepped (size : ℕ) (lasts : List ℕ) (cost : ℕ → ℕ → ℕ) (bounds : List Bound) (limit i : ℕ) (costs nexts : List ℕ) (paid : ℕ) : Type 0 where
  pub kept : AreKeptWithin size (IsUpToLast lasts) cost bounds limit i costs
  pub written : HasNextsWithin size (IsUpToLast lasts) cost bounds limit i nexts
  pub exact : (c : ℕ) → IsLeastCost size (IsUpToLast lasts) cost i c → IsWithinLimit bounds limit i c → paid ≡ c

-- so much is left from one point more
pub rest_more : (size : ℕ) (is_allowed : ℕ → ℕ → Type 0) (cost : ℕ → ℕ → ℕ) (bounds : List Bound) (limit i end rest paid least : ℕ)
    → ((c : ℕ) → IsLeastCost size is_allowed cost i c → IsWithinLimit bounds limit i c → paid ≡ c)
    → least ≤ rest → least ≤ (bound_at bounds i).behind + paid
    → IsLeastRest size is_allowed cost bounds limit (i + 1) end rest → IsLeastRest size is_allowed cost bounds limit i end least
rest_more size is_allowed cost bounds limit i end rest paid least exact below here later k c above near costs inside = elim (cases_eq k i) [
  | inl same ↦ (
      let P : ℕ → Type 0 = λ m. IsLeastCost size is_allowed cost m c → IsWithinLimit bounds limit m c → least ≤ (bound_at bounds m).behind + c in
      subst P (sym same) (λ costs inside. omega (arith, exact c costs inside)) costs inside)
  | inr other ↦ omega (arith, later k c (omega arith) near costs inside)
]

module _ (size : ℕ) (lasts counts : List ℕ) (known : AreCounted size lasts counts) (cost : ℕ → ℕ → ℕ) (cheap : AreCheap size lasts cost)
    (bounds : List Bound) (limit : ℕ) (costs : List ℕ) (i begin : ℕ) (here : IsBeforeWindow size lasts counts i begin)
    (slots : AreEnoughSlots size lasts (length costs)) (later : AreKeptWithin size (IsUpToLast lasts) cost bounds limit (i + 1) costs) where
  -- none of the slots has as much as 2^56
  pub kept_small : (k : ℕ) → begin ≤ k → k ≤ slice_index lasts i → slice_index costs (slot_of (length costs) k) < 2 ^ 56
  kept_small k above near =
      let on = known.leads i here.below in
      later.small k (place_there size lasts counts known cost cheap later.whole i begin here later.are k above near)
      (omega (arith, here.begins.above)) (omega (arith, on.within)) (omega (arith, on.beyond, slots.beyond i here.below))

  module _ (joined : (k : ℕ) → begin ≤ k → k ≤ slice_index lasts i → IsPairBounded (cost i k) (bound_at bounds i) (bound_at bounds k))
      (end rest : ℕ) (reach : slice_index lasts i ≤ end) (left : IsLeastRest size (IsUpToLast lasts) cost bounds limit begin end rest) where
    ahead : AreAhead (cost i) (slice_index later.whole) (λ k. slice_index costs (slot_of (length costs) k)) (bound_at bounds) (bound_at bounds i)
        begin (slice_index lasts i + 1) limit rest
    ahead =
        let on = known.leads i here.below in
        record {
          joined = λ k above below. joined k above (omega arith);
          enough = λ k above below. later.enough k (omega (arith, here.begins.above)) (omega (arith, on.within)) (omega (arith, on.beyond, slots.beyond i here.below));
          exact = λ k above below inside. later.exact k (omega (arith, here.begins.above)) (omega (arith, on.within)) (omega (arith, on.beyond, slots.beyond i here.below)) inside;
          left = λ k above below inside. left k (slice_index later.whole k) above (omega (arith, reach))
              (least_there size lasts counts known cost cheap later.whole i begin here later.are k above (omega arith)) inside;
        }

    reaches : begin ≤ slice_index lasts i
    reaches =
        let on = known.leads i here.below in
        here.begins.none_before (slice_index lasts i) on.beyond on.within (last_keeps size lasts counts known i here.below)

    best : (onward : OnwardSegment) × HasCheapest (λ k. cost i k + slice_index later.whole k) begin (slice_index lasts i + 1) onward
    best = some_cheapest (λ k. cost i k + slice_index later.whole k) begin (slice_index lasts i + 1) (omega (arith, reaches))

    -- what is found is kept, with where it leads
    pub kept_on : (nexts : List ℕ) (slot : ℕ) (onward : OnwardSegment) → limit < 2 ^ 56
        → IsOnwardBy (λ k. cost i k + slice_index costs (slot_of (length costs) k)) begin (slice_index lasts i + 1) limit rest (bound_at bounds i) onward
        → slot ≡ slot_of (length costs) i → i < length nexts → HasNextsWithin size (IsUpToLast lasts) cost bounds limit (i + 1) nexts
        → HasStepped size lasts cost bounds limit i (set costs slot onward.cost) (set nexts i onward.next) onward.cost
    kept_on nexts slot onward low by is room written =
        let (first, is_best) = best in
        let (least, next) = best_onward size lasts counts known cost cheap later.whole i begin here later.are first is_best in
        let found : IsOnwardWithin (IsWithinLimit bounds limit i first.cost) first.cost first.next onward =
        onward_is (cost i) (slice_index later.whole) (λ k. slice_index costs (slot_of (length costs) k)) (bound_at bounds) (bound_at bounds i)
        begin (slice_index lasts i + 1) limit rest ahead first is_best onward (least_small size lasts cost cheap i first.cost least) low by in
        let there : slot < length costs = omega (arith, is, slot_below (length costs) i slots.power) in
        record {
          kept = kept_more size (IsUpToLast lasts) cost bounds limit costs i slot onward.cost first.cost here.below is there later least found.enough found.exact found.small;
          written = λ k c above below place costs inside. filled
              (λ k j. (c : ℕ) → k < size → IsPlace size (IsUpToLast lasts) k → IsLeastCost size (IsUpToLast lasts) cost k c → IsWithinLimit bounds limit k c
              → IsLeastNext size (IsUpToLast lasts) cost k j) nexts i onward.next room
              (λ c below place costs inside. (
              let same = least_cost_is_one size (IsUpToLast lasts) cost i c first.cost costs least in
              subst (IsLeastNext size (IsUpToLast lasts) cost i) (sym (found.leads (omega (arith, same)))) next))
              (λ k above c. written k c (omega arith)) k above c below place costs inside;
          exact = λ c costs inside. (
              let same = least_cost_is_one size (IsUpToLast lasts) cost i c first.cost costs least in
              found.exact (omega (arith, same)) ∙ sym same);
        }
