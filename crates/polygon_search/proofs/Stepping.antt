-- One step down a window: the costs that are kept give the best way on from the next point.
use Rattle.std.proofs.Common.{◌≡◌, ℕ, ◌+◌, ◌<◌, ◌≤◌, ◌^◌, List, length, set, ap, arith}
use Rattle.std.specs.Prelude.{slice_index}
use Rattle.least_walk.specs.Inner.Suffix.{HasNexts, IsLeastCost, IsLeastNext}
use Rattle.least_walk.proofs.Filling.{nexts_more}
use Rattle.polygon_search.specs.declared.search.OnwardSegment.{OnwardSegment}
use Rattle.polygon_search.specs.Inner.Lasts.{AreRising, IsUpToLast, LeadsOn}
use Rattle.polygon_search.specs.Inner.Search.{AreEnoughSlots, AreKept, AreWindowEnds, BeginsWindow, HasCheapest, counts_of, slot_of}
use Rattle.polygon_search.proofs.Counting.{AreCounted, before_end, counted, last_keeps, some_left}
use Rattle.polygon_search.proofs.Leasts.{AreCheap, IsBeforeWindow, best_onward, costs_small}
use Rattle.polygon_search.proofs.Opening.{HasNextWindow, left_here, far_below}
use Rattle.polygon_search.proofs.Slots.{cheapest_same, kept_more, slot_below}

-- what a call for one window is given
pub windows : (size : ℕ) (lasts farthest : List ℕ) (window begin : ℕ) → ((i : ℕ) → i < size → LeadsOn size i (slice_index lasts i))
    → AreRising size lasts → AreWindowEnds size lasts farthest → window + 1 < length farthest
    → BeginsWindow size (counts_of size lasts) (window + 1) begin → HasNextWindow size lasts (counts_of size lasts) farthest window begin
windows size lasts farthest window begin leads rising are room opens = record {
  known = counted size lasts leads rising;
  are = are;
  next = omega (arith, are.count);
  opens = opens;
}

-- the longest segment from a point of the window leads to a point before the end, as the next window begins before it
pub before_end_too : (size : ℕ) (lasts counts farthest : List ℕ) (window begin : ℕ) → HasNextWindow size lasts counts farthest window begin
    → (i : ℕ) → i ≤ slice_index farthest window → begin ≤ slice_index lasts i → begin < size → slice_index lasts i < size
before_end_too size lasts counts farthest window begin w i near reaches before =
    let below : i < size = omega (arith, far_below size lasts counts farthest window begin w) in
    let left = left_here size lasts counts farthest window begin w i near reaches in
    let keeps = last_keeps size lasts counts w.known i below in
    let leads = w.known.leads i below in
    before_end size lasts counts w.known (slice_index lasts i) leads.within
    (omega (arith, keeps, left, some_left size lasts counts w.known begin before))

module _ (size : ℕ) (lasts counts : List ℕ) (known : AreCounted size lasts counts) (cost : ℕ → ℕ → ℕ) (cheap : AreCheap size lasts cost)
    (costs : List ℕ) (i begin : ℕ) (here : IsBeforeWindow size lasts counts i begin)
    (slots : AreEnoughSlots size lasts (length costs)) (later : AreKept size (IsUpToLast lasts) cost (i + 1) costs) where
  -- the slots have what the ways on from the next window cost
  kept_there : (k : ℕ) → begin ≤ k → k ≤ slice_index lasts i → slice_index costs (slot_of (length costs) k) ≡ slice_index later.whole k
  kept_there k above near =
      let on = known.leads i here.below in
      later.kept k (omega (arith, here.begins.above)) (omega (arith, on.within)) (omega (arith, on.beyond, slots.beyond i here.below))

  -- none of them costs as much as 2^56
  pub kept_small : (k : ℕ) → begin ≤ k → k ≤ slice_index lasts i → slice_index costs (slot_of (length costs) k) < 2 ^ 56
  kept_small k above near =
      omega (arith, kept_there k above near, costs_small size lasts counts known cost cheap later.whole i begin here later.are k above near)

  -- the cheapest segment begins the best way on
  kept_best : (onward : OnwardSegment) → HasCheapest (λ k. cost i k + slice_index costs (slot_of (length costs) k)) begin (slice_index lasts i + 1) onward
      → IsLeastCost size (IsUpToLast lasts) cost i onward.cost × IsLeastNext size (IsUpToLast lasts) cost i onward.next
  kept_best onward best =
      best_onward size lasts counts known cost cheap later.whole i begin here later.are onward
      (cheapest_same (λ k. cost i k + slice_index costs (slot_of (length costs) k)) (λ k. cost i k + slice_index later.whole k) begin (slice_index lasts i + 1) onward
      (λ k above near. ap (λ n. cost i k + n) (kept_there k above (omega arith))) best)

  -- and it is kept, with where it leads
  pub kept_on : (nexts : List ℕ) (slot : ℕ) (onward : OnwardSegment) → HasCheapest (λ k. cost i k + slice_index costs (slot_of (length costs) k)) begin (slice_index lasts i + 1) onward
      → slot ≡ slot_of (length costs) i → i < length nexts → HasNexts size (IsUpToLast lasts) cost (i + 1) nexts
      → AreKept size (IsUpToLast lasts) cost i (set costs slot onward.cost) × HasNexts size (IsUpToLast lasts) cost i (set nexts i onward.next)
  kept_on nexts slot onward best is room written =
      let (least, next) = kept_best onward best in
      let there : slot < length costs = omega (arith, is, slot_below (length costs) i slots.power) in (
        kept_more size (IsUpToLast lasts) cost costs i slot onward.cost here.below is there later least,
        nexts_more size (IsUpToLast lasts) cost i nexts onward.next room written next,
      )
