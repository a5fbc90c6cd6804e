-- The best way to go on from a vertex begins with the cheapest segment into the next window.
use Rattle.std.proofs.Common.{◌≡◌, ℕ, suc, ◌+◌, ◌*◌, ◌<◌, ◌≤◌, ◌^◌, List, [], ◌∷◌, length, inl, inr, arith}
use Rattle.std.proofs.lemmas.Bool.{cases_lt}
use Rattle.std.specs.Prelude.{slice_index}
use Rattle.least_walk.specs.LeastWalk.{total_cost}
use Rattle.least_walk.specs.Inner.Suffix.{HasCosts, IsLeastCost, IsLeastNext, WalksOn}
use Rattle.least_walk.specs.Inner.MarkedPlaces.{IsPlace}
use Rattle.least_walk.proofs.Cheapest.{IsCheapest, cheapest_onward}
use Rattle.least_walk.proofs.Going.{goes_below, total_cost-cons}
use Rattle.least_walk.proofs.Places.{place_onward}
use Rattle.polygon_search.specs.declared.search.OnwardSegment.{OnwardSegment}
use Rattle.polygon_search.specs.Inner.Lasts.{IsUpToLast}
use Rattle.polygon_search.specs.Inner.Search.{HasCheapest}
use Rattle.polygon_search.proofs.Counting.{AreCounted, last_keeps}

-- the first point after i from which one segment fewer is left
pub record IsBegin (size : ℕ) (counts : List ℕ) (i begin : ℕ) : Type 0 where
  pub above : i < begin
  pub within : begin ≤ size
  pub count : slice_index counts begin + 1 ≡ slice_index counts i
  pub none_before : (k : ℕ) → i < k → k ≤ size → slice_index counts k + 1 ≡ slice_index counts i → begin ≤ k

-- a vertex from which the next window begins here
pub record IsBeforeWindow (size : ℕ) (lasts counts : List ℕ) (i begin : ℕ) : Type 0 where
  pub below : i < size
  pub place : IsPlace size (IsUpToLast lasts) i
  pub begins : IsBegin size counts i begin

-- the segments of a path are few, and each of them costs little
pub record AreCheap (size : ℕ) (lasts : List ℕ) (cost : ℕ → ℕ → ℕ) : Type 0 where
  pub few : size ≤ 2 ^ 31
  pub each : (i j : ℕ) → i < size → IsUpToLast lasts i j → cost i j < 2 ^ 24

-- so they cost little together
total_small : (size : ℕ) (lasts : List ℕ) (cost : ℕ → ℕ → ℕ) → AreCheap size lasts cost
    → (i : ℕ) (rest : List ℕ) → WalksOn size (IsUpToLast lasts) i rest → total_cost cost (i ∷ rest) ≤ length rest * 2 ^ 24
total_small size lasts cost cheap i [] goes = omega arith
total_small size lasts cost cheap i (j ∷ rest) goes =
    let below = goes_below size (IsUpToLast lasts) j rest goes.2 in
    omega (arith, total_cost-cons cost i j rest, cheap.each i j (omega arith) goes.1, total_small size lasts cost cheap j rest goes.2)

-- so does the best way on
pub least_small : (size : ℕ) (lasts : List ℕ) (cost : ℕ → ℕ → ℕ) → AreCheap size lasts cost
    → (i c : ℕ) → IsLeastCost size (IsUpToLast lasts) cost i c → c < 2 ^ 56
least_small size lasts cost cheap i c least = omega (
  arith,
  cheap.few,
  least.costs,
  goes_below size (IsUpToLast lasts) i least.rest least.is_least.goes_on,
  total_small size lasts cost cheap i least.rest least.is_least.goes_on,
)

module _ (size : ℕ) (lasts counts : List ℕ) (known : AreCounted size lasts counts) (cost : ℕ → ℕ → ℕ) (cheap : AreCheap size lasts cost)
    (costs : List ℕ) (i begin : ℕ) (here : IsBeforeWindow size lasts counts i begin)
    (later : HasCosts size (IsUpToLast lasts) cost (i + 1) costs) where
  -- each segment from there on keeps to the fewest
  keeps : (k : ℕ) → begin ≤ k → k ≤ slice_index lasts i → slice_index counts k + 1 ≡ slice_index counts i
  keeps k above near =
      let on = known.leads i here.below in
      omega (
        arith,
        here.begins.count,
        known.falling begin k (omega arith) above (omega (arith, on.within)),
        known.falling k (slice_index lasts i) (omega arith) near on.within,
        last_keeps size lasts counts known i here.below,
      )

  place_at : (k : ℕ) → IsUpToLast lasts i k → slice_index counts k + 1 ≡ slice_index counts i → IsPlace size (IsUpToLast lasts) k
  place_at k allowed kept =
      let on = known.leads i here.below in
      let place = here.place in
      (suc place.0, place_onward size (IsUpToLast lasts) counts known.fewest place.0 i k place.1 allowed.0 (omega (arith, allowed.1, on.within)) allowed kept)

  least_at : (k : ℕ) → IsUpToLast lasts i k → slice_index counts k + 1 ≡ slice_index counts i
      → IsLeastCost size (IsUpToLast lasts) cost k (slice_index costs k)
  least_at k allowed kept =
      let on = known.leads i here.below in
      later k (omega (arith, allowed.0)) (omega (arith, allowed.1, on.within)) (place_at k allowed kept)

  -- it leads to a vertex, of which the list has what the best way on costs
  pub place_there : (k : ℕ) → begin ≤ k → k ≤ slice_index lasts i → IsPlace size (IsUpToLast lasts) k
  place_there k above near = place_at k (omega (arith, here.begins.above), near) (keeps k above near)

  pub least_there : (k : ℕ) → begin ≤ k → k ≤ slice_index lasts i → IsLeastCost size (IsUpToLast lasts) cost k (slice_index costs k)
  least_there k above near = least_at k (omega (arith, here.begins.above), near) (keeps k above near)

  pub costs_small : (k : ℕ) → begin ≤ k → k ≤ slice_index lasts i → slice_index costs k < 2 ^ 56
  costs_small k above near = least_small size lasts cost cheap k (slice_index costs k) (least_there k above near)

  module _ (onward : OnwardSegment)
      (best : HasCheapest (λ k. cost i k + slice_index costs k) begin (slice_index lasts i + 1) onward) where
    is_cheapest : IsCheapest (λ k. IsUpToLast lasts i k × (slice_index counts k + 1 ≡ slice_index counts i))
        (λ k. cost i k + slice_index costs k) i (slice_index lasts i + 1) onward.cost onward.next
    is_cheapest =
        let on = known.leads i here.below in
        let reached : i < onward.next = omega (arith, here.begins.above, best.above) in
        record {
          near = best.below;
          cheapest = λ k above inside kept.
              best.cheapest k (here.begins.none_before k above (omega (arith, on.within)) kept.1) inside;
          least = λ k above inside kept tied. elim (cases_lt k onward.next) [
            | inl nearer ↦ absurd (omega (arith, best.first k (here.begins.none_before k above (omega (arith, on.within)) kept.1) nearer))
            | inr far ↦ far
          ];
          reached = inr (
            reached,
            ((reached, omega (arith, best.below)), keeps onward.next best.above (omega (arith, best.below))),
            best.cost,
          );
        }

    pub best_onward : IsLeastCost size (IsUpToLast lasts) cost i onward.cost × IsLeastNext size (IsUpToLast lasts) cost i onward.next
    best_onward =
        let on = known.leads i here.below in
        cheapest_onward size (IsUpToLast lasts) cost cheap.few (λ i j inside up. omega (arith, cheap.each i j inside up)) counts costs i (slice_index lasts i + 1) onward.cost onward.next here.below
        (λ k above within. known.fewest k (omega arith) within) (λ k above within allowed kept. least_at k allowed kept) (λ k allowed. omega (arith, allowed.1)) (omega (arith, on.within)) is_cheapest
