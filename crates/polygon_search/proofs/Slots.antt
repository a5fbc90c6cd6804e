-- What the best ways to the end cost, as much of it as is kept.
use Rattle.std.proofs.Common.{◌≡◌, ℕ, zero, suc, ◌+◌, ◌-◌, ◌*◌, ◌/◌, ◌^◌, ◌<◌, ◌≤◌, max, List, length, ap, sym, ◌∙◌, subst, set, get_or, get_or-set_same, replicate, inl, inr, arith}
use Rattle.std.proofs.Math.Nat.{div-add-mod, mul-add, mul-le-mul_left}
use Rattle.std.proofs.Math.Pow.{pow_mono}
use Rattle.std.proofs.lemmas.Bool.{cases_eq, cases_lt}
use Rattle.std.proofs.lemmas.List.{get_or-set_other, length-replicate, length-set}
use Rattle.std.proofs.lemmas.Nat.{and_mask, mod_below, pow_pos}
use Rattle.std.specs.Int.{IsPowerOfTwo}
use Rattle.std.specs.Int.Bits.{bit_and}
use Rattle.std.specs.Prelude.{slice_index}
use Rattle.pt_core.specs.declared.limits.TheConstants.{MOST_STEPS}
use Rattle.least_walk.specs.Inner.MarkedPlaces.{IsPlace}
use Rattle.least_walk.specs.Inner.Suffix.{IsLeastCost}
use Rattle.least_walk.proofs.Filling.{costs_more}
use Rattle.least_walk.proofs.Onward.{cost_at_end}
use Rattle.polygon_search.specs.declared.search.OnwardSegment.{OnwardSegment}
use Rattle.polygon_search.specs.Inner.Search.{AreKept, HasCheapest, slot_of}

-- a power of two is above 0
pub some_slots : (slots : ℕ) → IsPowerOfTwo slots → 0 < slots
some_slots slots power = subst (λ n. 0 < n) (sym power.1) (pow_pos power.0)

-- each point has a slot
pub slot_below : (slots k : ℕ) → IsPowerOfTwo slots → slot_of slots k < slots
slot_below slots k power = mod_below k slots (some_slots slots power)

-- a mask finds it
pub masked : (slots k : ℕ) → IsPowerOfTwo slots → bit_and k (slots - 1) ≡ slot_of slots k
masked slots k (n, is) = rw is (and_mask k n)

-- two points that are nearer than there are slots have slots of their own
pub apart : (slots i k : ℕ) → i < k → k < i + slots → ¬ (slot_of slots k ≡ slot_of slots i)
apart slots i k above near same =
    let at_i = div-add-mod i slots in
    let at_k = div-add-mod k slots in
    elim (cases_lt (i / slots) (k / slots)) [
      | inl later ↦
          let more : slots * (i / slots + 1) ≤ slots * (k / slots) = mul-le-mul_left slots (omega arith) in
          absurd (omega (arith, at_i, at_k, same, more, mul-add slots (i / slots) 1))
      | inr no_later ↦
          let no_more : slots * (k / slots) ≤ slots * (i / slots) = mul-le-mul_left slots no_later in
          absurd (omega (arith, at_i, at_k, same, no_more))
    ]

-- the least power of two above a segment's steps is at most 65,536
pub few_slots : (most slots : ℕ) → IsPowerOfTwo slots → slots / 2 < max 1 (most + 1) → most ≤ MOST_STEPS → slots ≤ 2 ^ 16
few_slots most slots (k, is) near short = elim (cases_lt 16 k) [
  | inl above ↦
      let more : 2 ^ 17 ≤ 2 ^ k = pow_mono above in
      absurd (omega (arith, is, more))
  | inr within ↦
      let no_more : 2 ^ k ≤ 2 ^ 16 = pow_mono within in
      omega (arith, is, no_more)
]

module _ (size : ℕ) (is_allowed : ℕ → ℕ → Type 0) (cost : ℕ → ℕ → ℕ) where
  pub kept_at_end : (costs : List ℕ) (low slot : ℕ) → low ≡ size → slot ≡ slot_of (length costs) size → slot < length costs
      → AreKept size is_allowed cost low (set costs slot 0)
  kept_at_end costs low slot end is room =
      let all : List ℕ = replicate (size + 1) 0 in
      let long : size < length all = (let none : ℕ = 0 in omega (arith, length-replicate (size + 1) none)) in
      let nothing = get_or-set_same all size 0 0 long in
      let there = get_or-set_same costs slot 0 0 room in
      record {
        whole = set all size 0;
        places = omega (arith, length-set all size 0);
        are = λ k above within place. (
            let at_end : size ≡ k = omega arith in
            cost_at_end size is_allowed cost k (get_or (set all size 0) k 0) (omega arith) (subst (λ m. get_or (set all size 0) m 0 ≡ 0) at_end nothing)
            );
        kept = λ k above within near. (
            let at_end : size ≡ k = omega arith in
            let P : ℕ → Type 0 = λ m. get_or (set costs slot 0) (slot_of (length (set costs slot 0)) m) 0 ≡ get_or (set all size 0) m 0 in
            let Q : ℕ → Type 0 = λ n. get_or (set costs slot 0) n 0 ≡ 0 in
            subst P at_end (subst Q (is ∙ ap (λ n. slot_of n size) (sym (length-set costs slot 0))) there ∙ sym nothing)
            );
      }

  -- one more is kept
  pub kept_more : (costs : List ℕ) (i slot c : ℕ) → i < size → slot ≡ slot_of (length costs) i → slot < length costs → AreKept size is_allowed cost (i + 1) costs
      → IsLeastCost size is_allowed cost i c → AreKept size is_allowed cost i (set costs slot c)
  kept_more costs i slot c below is room later here =
      let long : i < length later.whole = omega (arith, later.places) in
      let K : ℕ → Type 0 = λ slots. (k : ℕ) → i ≤ k → k ≤ size → k < i + slots
      → slice_index (set costs slot c) (slot_of slots k) ≡ slice_index (set later.whole i c) k in
      record {
        whole = set later.whole i c;
        places = omega (arith, later.places, length-set later.whole i c);
        are = costs_more size is_allowed cost i later.whole c long later.are here;
        kept = subst K (sym (length-set costs slot c)) (λ k above within near. elim (cases_eq k i) [
          | inl same ↦ (
              let P : ℕ → Type 0 = λ m. get_or (set costs slot c) (slot_of (length costs) m) 0 ≡ get_or (set later.whole i c) m 0 in
              let Q : ℕ → Type 0 = λ n. get_or (set costs slot c) n 0 ≡ c in
              subst P (sym same) (subst Q is (get_or-set_same costs slot c 0 room) ∙ sym (get_or-set_same later.whole i c 0 long)))
          | inr other ↦ (
              let alone : ¬ (slot_of (length costs) k ≡ slot) = λ e. apart (length costs) i k (omega arith) (omega arith) (e ∙ is) in
              get_or-set_other costs slot (slot_of (length costs) k) c 0 alone ∙ later.kept k (omega arith) within (omega arith)
              ∙ sym (get_or-set_other later.whole i k c 0 other))
        ]);
      }

  -- a point that no polygon of fewest segments goes through is passed over
  pub kept_same : (costs : List ℕ) (i : ℕ) → i < size → AreKept size is_allowed cost (i + 1) costs → ¬ IsPlace size is_allowed i → AreKept size is_allowed cost i costs
  kept_same costs i below later none =
      let c : ℕ = slice_index costs (slot_of (length costs) i) in
      let long : i < length later.whole = omega (arith, later.places) in
      record {
        whole = set later.whole i c;
        places = omega (arith, later.places, length-set later.whole i c);
        are = λ k above within place. elim (cases_eq k i) [
          | inl same ↦ absurd (none (subst (IsPlace size is_allowed) same place))
          | inr other ↦ subst (IsLeastCost size is_allowed cost k) (sym (get_or-set_other later.whole i k c 0 other)) (later.are k (omega arith) within place)
        ];
        kept = λ k above within near. elim (cases_eq k i) [
          | inl same ↦ (
              let P : ℕ → Type 0 = λ m. get_or costs (slot_of (length costs) m) 0 ≡ get_or (set later.whole i c) m 0 in
              subst P (sym same) (sym (get_or-set_same later.whole i c 0 long)))
          | inr other ↦ later.kept k (omega arith) within (omega arith) ∙ sym (get_or-set_other later.whole i k c 0 other)
        ];
      }

  -- and so are several of them
  pub kept_down : (costs : List ℕ) (d low : ℕ) → low + d ≤ size → AreKept size is_allowed cost (low + d) costs
      → ((k : ℕ) → low ≤ k → k < low + d → ¬ IsPlace size is_allowed k) → AreKept size is_allowed cost low costs
  kept_down costs zero low within later none =
      let e : low + 0 ≡ low = omega arith in
      subst (λ n. AreKept size is_allowed cost n costs) e later
  kept_down costs (suc d) low within later none =
      let e : low + suc d ≡ low + d + 1 = omega arith in
      kept_down costs d low (omega arith)
      (kept_same costs (low + d) (omega arith) (subst (λ n. AreKept size is_allowed cost n costs) e later) (none (low + d) (omega arith) (omega arith)))
      (λ k above below. none k above (omega arith))

-- the cheapest segment by one reckoning is that by another one with the same costs
pub cheapest_same : (cost_by other_by : ℕ → ℕ) (begin end : ℕ) (onward : OnwardSegment) → ((k : ℕ) → begin ≤ k → k < end → cost_by k ≡ other_by k)
    → HasCheapest cost_by begin end onward → HasCheapest other_by begin end onward
cheapest_same cost_by other_by begin end onward same is =
    record {
      above = is.above;
      below = is.below;
      cost = is.cost ∙ same onward.next is.above is.below;
      cheapest = λ k above below. omega (arith, same k above below, is.cheapest k above below);
      first = λ k above nearer. omega (arith, same k above (omega (arith, is.below)), is.first k above nearer);
    }
