-- What the slots have in a search within a limit.
use Rattle.std.proofs.Common.{◌≡◌, ℕ, zero, suc, ◌+◌, ◌<◌, ◌≤◌, ◌^◌, List, length, ap, refl, sym, ◌∙◌, subst, set, get_or, get_or-set_same, inl, inr, arith}
use Rattle.std.proofs.lemmas.Bool.{cases_eq}
use Rattle.std.proofs.lemmas.List.{get_or-set_other, length-set}
use Rattle.std.specs.Prelude.{slice_index}
use Rattle.least_walk.specs.Inner.MarkedPlaces.{IsPlace}
use Rattle.least_walk.specs.Inner.Suffix.{IsLeastCost}
use Rattle.least_walk.proofs.Filling.{costs_more, filled}
use Rattle.polygon_search.specs.declared.bounds.Bound.{Bound}
use Rattle.polygon_search.specs.Inner.Lasts.{IsUpToLast}
use Rattle.polygon_search.specs.Inner.Search.{AreKept, slot_of}
use Rattle.polygon_search.specs.Inner.Within.{AreKeptWithin, IsWithinLimit}
use Rattle.polygon_search.proofs.Leasts.{AreCheap, least_small}
use Rattle.polygon_search.proofs.Slots.{apart}

-- what holds of each slot beside the list of all costs, from `i + 1` on, and of a new one of each, holds from i on
slots_more : (size : ℕ) (Holds : ℕ → ℕ → ℕ → Type 0) (costs whole : List ℕ) (i slot c least : ℕ) → i < length whole
    → slot ≡ slot_of (length costs) i → slot < length costs → Holds i c least
    → ((k : ℕ) → i + 1 ≤ k → k ≤ size → k < i + 1 + length costs → Holds k (slice_index costs (slot_of (length costs) k)) (slice_index whole k))
    → (k : ℕ) → i ≤ k → k ≤ size → k < i + length (set costs slot c)
    → Holds k (slice_index (set costs slot c) (slot_of (length (set costs slot c)) k)) (slice_index (set whole i least) k)
slots_more size Holds costs whole i slot c least long is room here later =
    let K : ℕ → Type 0 = λ slots. (k : ℕ) → i ≤ k → k ≤ size → k < i + slots
    → Holds k (slice_index (set costs slot c) (slot_of slots k)) (slice_index (set whole i least) k) in
    subst K (sym (length-set costs slot c)) (λ k above within near. elim (cases_eq k i) [
      | inl same ↦ (
          let P : ℕ → Type 0 = λ m. Holds m (get_or (set costs slot c) (slot_of (length costs) m) 0) (get_or (set whole i least) m 0) in
          let there : get_or (set costs slot c) (slot_of (length costs) i) 0 ≡ c = ap (λ n. get_or (set costs slot c) n 0) (sym is) ∙ get_or-set_same costs slot c 0 room in
          subst P (sym same) (subst (λ n. Holds i n (get_or (set whole i least) i 0)) (sym there)
          (subst (Holds i c) (sym (get_or-set_same whole i least 0 long)) here)))
      | inr other ↦ (
          let alone : ¬ (slot_of (length costs) k ≡ slot) = λ e. apart (length costs) i k (omega arith) (omega arith) (e ∙ is) in
          subst (λ n. Holds k n (get_or (set whole i least) k 0)) (sym (get_or-set_other costs slot (slot_of (length costs) k) c 0 alone))
          (subst (Holds k (get_or costs (slot_of (length costs) k) 0)) (sym (get_or-set_other whole i k least 0 other))
          (later k (omega arith) within (omega arith))))
    ])

-- what is exact is enough
pub kept_within : (size : ℕ) (lasts : List ℕ) (cost : ℕ → ℕ → ℕ) (bounds : List Bound) (limit low : ℕ) (costs : List ℕ) → AreCheap size lasts cost
    → AreKept size (IsUpToLast lasts) cost low costs → AreKeptWithin size (IsUpToLast lasts) cost bounds limit low costs
kept_within size lasts cost bounds limit low costs cheap all = record {
  whole = all.whole;
  places = all.places;
  are = all.are;
  enough = λ k above within near. omega (arith, all.kept k above within near);
  exact = λ k above within near inside. all.kept k above within near;
  small = λ k place above within near. omega (
    arith,
    all.kept k above within near,
    least_small size lasts cost cheap k (slice_index all.whole k) (all.are k above within place),
  );
}

module _ (size : ℕ) (is_allowed : ℕ → ℕ → Type 0) (cost : ℕ → ℕ → ℕ) (bounds : List Bound) (limit : ℕ) where
  -- one more is kept
  pub kept_more : (costs : List ℕ) (i slot c least : ℕ) → i < size → slot ≡ slot_of (length costs) i → slot < length costs
      → AreKeptWithin size is_allowed cost bounds limit (i + 1) costs → IsLeastCost size is_allowed cost i least
      → least ≤ c → (IsWithinLimit bounds limit i least → c ≡ least) → c < 2 ^ 56
      → AreKeptWithin size is_allowed cost bounds limit i (set costs slot c)
  kept_more costs i slot c least below is room later here enough exact small =
      let long : i < length later.whole = omega (arith, later.places) in
      record {
        whole = set later.whole i least;
        places = omega (arith, later.places, length-set later.whole i least);
        are = costs_more size is_allowed cost i later.whole least long later.are here;
        enough = slots_more size (λ k s w. w ≤ s) costs later.whole i slot c least long is room enough later.enough;
        exact = slots_more size (λ k s w. IsWithinLimit bounds limit k w → s ≡ w) costs later.whole i slot c least long is room exact later.exact;
        small = λ k place above within near. slots_more size (λ k s w. IsPlace size is_allowed k → s < 2 ^ 56) costs later.whole i slot c least long is room
            (λ place. small) (λ k above within near place. later.small k place above within near) k above within near place;
      }

  -- a point that no polygon of fewest segments goes through is passed over
  kept_same : (costs : List ℕ) (i : ℕ) → i < size → AreKeptWithin size is_allowed cost bounds limit (i + 1) costs → ¬ IsPlace size is_allowed i
      → AreKeptWithin size is_allowed cost bounds limit i costs
  kept_same costs i below later none =
      let c : ℕ = slice_index costs (slot_of (length costs) i) in
      let long : i < length later.whole = omega (arith, later.places) in
      record {
        whole = set later.whole i c;
        places = omega (arith, later.places, length-set later.whole i c);
        are = λ k above within place. elim (cases_eq k i) [
          | inl same ↦ absurd (none (subst (IsPlace size is_allowed) same place))
          | inr other ↦ subst (IsLeastCost size is_allowed cost k) (sym (get_or-set_other later.whole i k c 0 other)) (later.are k (omega arith) within place)
        ];
        enough = filled (λ k w. k ≤ size → k < i + length costs → w ≤ slice_index costs (slot_of (length costs) k)) later.whole i c long
            (λ within near. omega arith) (λ k above within near. later.enough k (omega arith) within (omega arith));
        exact = filled (λ k w. k ≤ size → k < i + length costs → IsWithinLimit bounds limit k w → slice_index costs (slot_of (length costs) k) ≡ w) later.whole i c long
            (λ within near inside. refl) (λ k above within near. later.exact k (omega arith) within (omega arith));
        small = λ k place above within near. elim (cases_eq k i) [
          | inl same ↦ absurd (none (subst (IsPlace size is_allowed) same place))
          | inr other ↦ later.small k place (omega arith) within (omega arith)
        ];
      }

  -- and so are several of them
  pub kept_down : (costs : List ℕ) (d low : ℕ) → low + d ≤ size → AreKeptWithin size is_allowed cost bounds limit (low + d) costs
      → ((k : ℕ) → low ≤ k → k < low + d → ¬ IsPlace size is_allowed k) → AreKeptWithin size is_allowed cost bounds limit low costs
  kept_down costs zero low within later none =
      let e : low + 0 ≡ low = omega arith in
      subst (λ n. AreKeptWithin size is_allowed cost bounds limit n costs) e later
  kept_down costs (suc d) low within later none =
      let e : low + suc d ≡ low + d + 1 = omega arith in
      kept_down costs d low (omega arith)
      (kept_same costs (low + d) (omega arith) (subst (λ n. AreKeptWithin size is_allowed cost bounds limit n costs) e later) (none (low + d) (omega arith) (omega arith)))
      (λ k above below. none k above (omega arith))
