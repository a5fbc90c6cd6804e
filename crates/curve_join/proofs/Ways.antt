-- The best way on from a piece is the best of the ways by each run that begins there.
use Rattle.std.proofs.Common.{◌≡◌, ℕ, Bool, true, false, cond, nat_eq, ◌+◌, ◌<◌, ◌≤◌, ◌⊎◌, List, [], ◌∷◌, length, refl, inl, inr, ap, sym, subst, ◌∙◌, set, get_or-set_same, arith}
use Rattle.std.proofs.Math.Decide.{dec_lt}
use Rattle.std.proofs.lemmas.Bool.Decides.{nat_tests}
use Rattle.std.proofs.lemmas.List.{get_or-set_other}
use Rattle.std.specs.List.{slice_index, slice_range}
use Rattle.least_walk.specs.Inner.Suffix.{HasFewest, IsFewestFrom, IsLeastCost, IsLeastFrom, IsLeastNext}
use Rattle.least_walk.proofs.Filling.{filled}
use Rattle.least_walk.proofs.Going.{total_cost-cons}
use Rattle.least_walk.proofs.Onward.{fewest_onward, least_onward}
use Rattle.curve_join.specs.Choice.{run_penalty}
use Rattle.curve_join.specs.Join.{penalty_at}
use Rattle.curve_join.specs.Inner.CutSearch.{AreLeastCosts, IsNotBehind, paid}
use Rattle.curve_join.specs.declared.bend.Bend.{Bend}
use Rattle.curve_join.specs.declared.search.WayOn.{WayOn}

-- the order of ways on is reflexive and transitive
pub up_to_itself : (a : WayOn) → IsNotBehind a a
up_to_itself a = record { count = omega arith; cost = λ e. omega arith; next = λ e f. omega arith }

pub up_to_through : (a b c : WayOn) → IsNotBehind a b → IsNotBehind b c → IsNotBehind a c
up_to_through a b c ab bc =
    let first = ab.count in
    let second = bc.count in
    record {
      count = omega arith;
      cost = λ e. (let f = ab.cost (omega arith) in let g = bc.cost (omega arith) in omega arith);
      next = λ e h.
          let f = ab.cost (omega arith) in
          let g = bc.cost (omega arith) in
          let m = ab.next (omega arith) (omega arith) in
          let n = bc.next (omega arith) (omega arith) in
          omega arith;
    }

-- a way that isn't better without its penalty isn't better with it
pub up_to_paid : (a b : WayOn) (penalty : ℕ) → IsNotBehind a b → IsNotBehind a (paid penalty b)
up_to_paid a b penalty is =
    let first = is.count in
    record {
      count = first;
      cost = λ e. (let f = is.cost e in omega arith);
      next = λ e h. (let f = is.cost e in is.next e (omega arith));
    }

pub way_is : (a b : WayOn) → a.count ≡ b.count → a.cost ≡ b.cost → a.next ≡ b.next → a ≡ b
way_is a b e f g =
    let by : ℕ → ℕ → ℕ → WayOn = λ n c k. record { count = n; cost = c; next = k } in
    ap (λ n. by n a.cost a.next) e ∙ ap (λ c. by b.count c a.next) f ∙ ap (λ k. by b.count b.cost k) g

-- a run of one piece has no penalty, and a longer one has the penalty of its curve
cond_true : (b : Bool) (n : ℕ) → b ≡ true → cond b 0 n ≡ 0
cond_true true n e = refl
cond_true false n e = absurd (cc e)

cond_false : (b : Bool) (n : ℕ) → b ≡ false → cond b 0 n ≡ n
cond_false true n e = absurd (cc e)
cond_false false n e = refl

pub penalty_alone : (bends : List Bend) (i j : ℕ) → j ≡ i + 1 → run_penalty bends i j ≡ 0
penalty_alone bends i j e = cond_true (nat_eq j (i + 1)) (penalty_at (slice_range bends i j)) (grind (arith, nat_tests))

pub penalty_joined : (bends : List Bend) (i j : ℕ) → i + 1 < j → run_penalty bends i j ≡ penalty_at (slice_range bends i j)
penalty_joined bends i j far = cond_false (nat_eq j (i + 1)) (penalty_at (slice_range bends i j)) (grind (arith, nat_tests))

-- the way on from i that begins with the step to k
abbrev pub way_to : (ℕ → ℕ → ℕ) → List ℕ → List ℕ → ℕ → ℕ → WayOn
way_to cost counts costs i k = record { count = slice_index counts k + 1; cost = slice_index costs k + cost i k; next = k }

-- the way is one that begins with an allowed step
abbrev pub IsWay : ℕ → (ℕ → ℕ → Type 0) → (ℕ → ℕ → ℕ) → List ℕ → List ℕ → ℕ → WayOn → Type 0
IsWay size is_allowed cost counts costs i best =
    (i < best.next) × (best.next ≤ size) × is_allowed i best.next × (best ≡ way_to cost counts costs i best.next)

-- the way is at least as good as those by the step to the next index and by the steps to `to` or farther
pub record IsBestTo (size : ℕ) (is_allowed : ℕ → ℕ → Type 0) (cost : ℕ → ℕ → ℕ) (counts costs : List ℕ) (i to : ℕ) (best : WayOn) : Type 0 where
  pub way : IsWay size is_allowed cost counts costs i best
  pub least : (k : ℕ) → i < k → (k ≡ i + 1) ⊎ (to ≤ k) → k ≤ size → is_allowed i k → IsNotBehind best (way_to cost counts costs i k)

-- a way on by a run that ends at k, without the penalty of that run
pub record EndsAt (counts costs : List ℕ) (k : ℕ) (way : WayOn) : Type 0 where
  pub count : way.count ≡ slice_index counts k + 1
  pub cost : way.cost ≡ slice_index costs k
  pub next : way.next ≡ k

-- the better one of the best way on until now and of this way with its penalty, if its run is allowed
pub record IsBetter (is_allowed : ℕ → ℕ → Type 0) (cost : ℕ → ℕ → ℕ) (i : ℕ) (way so_far better : WayOn) : Type 0 where
  pub one : (better ≡ so_far) ⊎ (is_allowed i way.next × (better ≡ paid (cost i way.next) way))
  pub best : IsNotBehind better so_far
  pub run : is_allowed i way.next → IsNotBehind better (paid (cost i way.next) way)

module _ (size : ℕ) (is_allowed : ℕ → ℕ → Type 0) (cost : ℕ → ℕ → ℕ) where
  -- the best way on after one more step
  pub best_more : (counts costs : List ℕ) (i k to : ℕ) (way best better : WayOn) → i < k → k ≤ size → k + 1 ≡ to
      → EndsAt counts costs k way → IsBetter is_allowed cost i way best better
      → IsBestTo size is_allowed cost counts costs i to best → IsBestTo size is_allowed cost counts costs i k better
  best_more counts costs i k to way best better above within next ends is so_far =
      let count_is = ends.count in
      let cost_is = ends.cost in
      let next_is = ends.next in
      let before = is.best in
      let there : paid (cost i way.next) way ≡ way_to cost counts costs i k =
      way_is (paid (cost i way.next) way) (way_to cost counts costs i k) count_is (omega (arith, cost_is, ap (cost i) next_is)) next_is in
      let P : WayOn → Type 0 = IsWay size is_allowed cost counts costs i in
      record {
        way = elim is.one [
          | inl same ↦ subst P (sym same) so_far.way
          | inr taken ↦ subst P (sym (taken.1 ∙ there)) (above, within, subst (is_allowed i) next_is taken.0, refl)
        ];
        least = λ j j_above seen j_within allowed. elim seen [
          | inl nearest ↦ up_to_through better best (way_to cost counts costs i j) before (so_far.least j j_above (inl nearest) j_within allowed)
          | inr far ↦ elim (dec_lt k j) [
            | yes farther ↦ up_to_through better best (way_to cost counts costs i j) before (so_far.least j j_above (inr (omega arith)) j_within allowed)
            | no near ↦
                let here : k ≡ j = omega arith in
                let Q : ℕ → Type 0 = λ m. IsNotBehind better (way_to cost counts costs i m) in
                subst Q here (subst (IsNotBehind better) there (is.run (subst (is_allowed i) (sym (next_is ∙ here)) allowed)))
          ]
        ];
      }

  -- the best way on if all steps from i were tried
  module _ (counts costs : List ℕ) (i to : ℕ) (best : WayOn) (below : i < size) (room : i < length counts) (near : to ≤ i + 2)
      (later : HasFewest size is_allowed (i + 1) counts) (spent : AreLeastCosts size is_allowed cost (i + 1) costs)
      (is : IsBestTo size is_allowed cost counts costs i to best) where
    onwards : i < best.next
    onwards = is.way.0

    within : best.next ≤ size
    within = is.way.1

    allowed : is_allowed i best.next
    allowed = is.way.2

    count_is : best.count ≡ slice_index counts best.next + 1
    count_is = ap (λ (w : WayOn). w.count) is.way.3

    cost_is : best.cost ≡ slice_index costs best.next + cost i best.next
    cost_is = ap (λ (w : WayOn). w.cost) is.way.3

    least : (k : ℕ) → i < k → k ≤ size → is_allowed i k → IsNotBehind best (way_to cost counts costs i k)
    least k above k_within k_allowed = elim (dec_lt (i + 1) k) [
      | yes far ↦ is.least k above (inr (omega arith)) k_within k_allowed
      | no next ↦ is.least k above (inl (omega arith)) k_within k_allowed
    ]

    pub fewest_there : IsFewestFrom size is_allowed i best.count
    fewest_there =
        fewest_onward size is_allowed counts i best.count below later (λ k above k_within k_allowed. (least k above k_within k_allowed).count)
        best.next onwards within allowed count_is

    -- the counts with the one of index i
    abbrev with_count : List ℕ
    with_count = set counts i best.count

    count_here : slice_index with_count i ≡ best.count
    count_here = get_or-set_same counts i best.count 0 room

    count_there : (k : ℕ) → i < k → slice_index with_count k ≡ slice_index counts k
    count_there k above = get_or-set_other counts i k best.count 0 (λ e. absurd (omega arith))

    fewest_with : HasFewest size is_allowed i with_count
    fewest_with =
        filled (λ k n. k ≤ size → IsFewestFrom size is_allowed k n) counts i best.count room (λ k_within. fewest_there)
        (λ k above. later k (omega arith))

    after : IsLeastCost size is_allowed cost best.next (slice_index costs best.next)
    after = spent best.next (let h = onwards in omega arith) within

    least_by_next : IsLeastFrom size is_allowed cost i (best.next ∷ after.rest)
    least_by_next =
        least_onward size is_allowed cost with_count costs i best.next below onwards within allowed
        (omega (arith, count_there best.next onwards, count_here, count_is)) fewest_with
        (λ k above k_within k_allowed keeps. spent k (omega arith) k_within) after
        (λ k above k_within k_allowed keeps.
        let same : best.count ≡ slice_index counts k + 1 = omega (arith, count_there k above, count_here) in
        omega (arith, (least k above k_within k_allowed).cost same, cost_is))
        (λ k above k_within k_allowed keeps tied.
        let same : best.count ≡ slice_index counts k + 1 = omega (arith, count_there k above, count_here) in
        (least k above k_within k_allowed).next same (omega (arith, tied, cost_is)))

    pub cost_there : IsLeastCost size is_allowed cost i best.cost
    cost_there = record {
      rest = best.next ∷ after.rest;
      is_least = least_by_next;
      costs = omega (arith, after.costs, cost_is, total_cost-cons cost i best.next after.rest);
    }

    pub next_there : IsLeastNext size is_allowed cost i best.next
    next_there = record { rest = after.rest; is_least = least_by_next }

  -- the lists at the end of the outline, and with one more entry
  pub none_left : IsFewestFrom size is_allowed size 0
  none_left = record { rest = []; goes_on = refl; count = refl; none_fewer = λ other goes. omega arith }

  pub counts_more : (i n : ℕ) (counts : List ℕ) → i < length counts → HasFewest size is_allowed (i + 1) counts → IsFewestFrom size is_allowed i n
      → HasFewest size is_allowed i (set counts i n)
  counts_more i n counts room later here =
      filled (λ k m. k ≤ size → IsFewestFrom size is_allowed k m) counts i n room (λ within. here) (λ k above. later k (omega arith))

  pub spent_more : (i c : ℕ) (costs : List ℕ) → i < length costs → AreLeastCosts size is_allowed cost (i + 1) costs → IsLeastCost size is_allowed cost i c
      → AreLeastCosts size is_allowed cost i (set costs i c)
  spent_more i c costs room later here =
      filled (λ k m. k ≤ size → IsLeastCost size is_allowed cost k m) costs i c room (λ within. here) (λ k above. later k (omega arith))
