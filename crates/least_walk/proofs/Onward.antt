-- How the least way to go on from an index follows from those of the later indices.
use Rattle.std.proofs.Common.{◌≡◌, ℕ, ◌+◌, ◌<◌, ◌≤◌, List, [], ◌∷◌, length, refl, ap, sym, ◌∙◌, subst}
use Rattle.std.proofs.Common.{inl, inr, arith}
use Rattle.std.specs.List.{slice_index}
use Rattle.std.specs.Ordering.{nat_cmp}
use Rattle.std.specs.Cmp.Lexicographic.{slice_cmp}
use Rattle.std.specs.declared.cmp.Ordering.TheVariants.{Less, Greater}
use Rattle.std.proofs.lemmas.Bool.{cases_lt}
use Rattle.least_walk.specs.LeastWalk.{total_cost, IsBefore}
use Rattle.least_walk.specs.LeastWalk.IsBefore.{by_steps, by_cost, by_list}
use Rattle.least_walk.proofs.OneLeast.{same_from_neither}
use Rattle.least_walk.specs.Inner.Suffix.{WalksOn, IsFewestFrom, IsLeastFrom, IsLeastCost, IsLeastNext, HasFewest}
use Rattle.least_walk.proofs.Going.{goes_below, length-steps_from, total_cost-cons}
use Rattle.least_walk.proofs.Before.{slice_cmp-cons, nat_cmp_above, not_before_itself, IsBefore-cons}

module _ (size : ℕ) (is_allowed : ℕ → ℕ → Type 0) where
  -- n is the fewest from i, if a step leads to where n - 1 is the fewest, and none to where it is less
  module _ (counts : List ℕ) (i n : ℕ) (below : i < size) (later : HasFewest size is_allowed (i + 1) counts)
      (lower : (k : ℕ) → i < k → k ≤ size → is_allowed i k → n ≤ slice_index counts k + 1) where
    none_fewer_onward : (other : List ℕ) → WalksOn size is_allowed i other → n ≤ length other
    none_fewer_onward [] at_end = absurd (omega arith)
    none_fewer_onward (k ∷ v) goes =
        let room = goes_below size is_allowed k v goes.2 in
        let bound = lower k goes.0 (omega arith) goes.1 in
        let rest = (later k (omega arith) (omega arith)).none_fewer v goes.2 in
        omega arith

    pub fewest_onward : (j : ℕ) → i < j → j ≤ size → is_allowed i j → n ≡ slice_index counts j + 1
        → IsFewestFrom size is_allowed i n
    fewest_onward j onwards within allowed reached =
        let after = later j (omega arith) within in
        record {
          rest = j ∷ after.rest;
          goes_on = (onwards, allowed, after.goes_on);
          count = omega (arith, after.count);
          none_fewer = none_fewer_onward;
        }

  -- where the fewest steps are known from i and from each later index
  module _ (counts : List ℕ) (i : ℕ) (below : i < size) (fewest : HasFewest size is_allowed i counts) where
    -- a step leads to where at most one step fewer is left
    pub count_bound : (k : ℕ) → i < k → k ≤ size → is_allowed i k → slice_index counts i ≤ slice_index counts k + 1
    count_bound k onwards within allowed =
        let after = fewest k (omega arith) within in
        let here = fewest i (omega arith) (omega arith) in
        let bound = here.none_fewer (k ∷ after.rest) (onwards, allowed, after.goes_on) in
        omega (arith, after.count)

    some_fewest_in : (rest : List ℕ) → WalksOn size is_allowed i rest → length rest ≡ slice_index counts i
        → (j : ℕ) × (i < j) × (j ≤ size) × is_allowed i j × (slice_index counts j + 1 ≡ slice_index counts i)
    some_fewest_in [] at_end counted = absurd (omega arith)
    some_fewest_in (j ∷ v) goes counted =
        let room = goes_below size is_allowed j v goes.2 in
        let within : j ≤ size = omega arith in
        let above = count_bound j goes.0 within goes.1 in
        let bound = (fewest j (omega arith) within).none_fewer v goes.2 in
        (j, goes.0, within, goes.1, omega arith)

    -- and some step leads to where just one step fewer is left
    pub some_fewest : (j : ℕ)
        × (i < j) × (j ≤ size) × is_allowed i j × (slice_index counts j + 1 ≡ slice_index counts i)
    some_fewest = let here = fewest i (omega arith) (omega arith) in some_fewest_in here.rest here.goes_on here.count

  module _ (cost : ℕ → ℕ → ℕ) where
    none_before_end : (other : List ℕ) → WalksOn size is_allowed size other → ¬ IsBefore cost (size ∷ other) (size ∷ [])
    none_before_end [] at_end before = not_before_itself cost (size ∷ []) before
    none_before_end (k ∷ v) goes before = let room = goes_below size is_allowed k v goes.2 in omega arith

    pub least_at_end : IsLeastFrom size is_allowed cost size []
    least_at_end = record { goes_on = refl; none_before = none_before_end }

    -- at the end there is nothing left to pay
    pub cost_at_end : (k c : ℕ) → k ≡ size → c ≡ 0 → IsLeastCost size is_allowed cost k c
    cost_at_end k c at_end nothing = record {
      rest = [];
      is_least = subst (λ m. IsLeastFrom size is_allowed cost m []) (sym at_end) least_at_end;
      costs = sym nothing;
    }

    -- the least way to go on has the fewest steps
    pub length-least : (i n : ℕ) (rest : List ℕ) → IsLeastFrom size is_allowed cost i rest → IsFewestFrom size is_allowed i n
        → length rest ≡ n
    length-least i n rest least fewest =
        let one = length-steps_from i rest in
        let other = length-steps_from i fewest.rest in
        elim (cases_lt n (length rest)) [
          | inl more ↦ absurd (least.none_before fewest.rest fewest.goes_on (by_steps (omega (arith, fewest.count))))
          | inr most ↦ let least_count = fewest.none_fewer rest least.goes_on in omega arith
        ]

    -- one of as many steps costs no less
    cost_bound : (i : ℕ) (rest v : List ℕ) → IsLeastFrom size is_allowed cost i rest → WalksOn size is_allowed i v
        → length v ≡ length rest
        → total_cost cost (i ∷ rest) ≤ total_cost cost (i ∷ v)
    cost_bound i rest v least goes tied =
        let one = length-steps_from i rest in
        let other = length-steps_from i v in
        elim (cases_lt (total_cost cost (i ∷ v)) (total_cost cost (i ∷ rest))) [
          | inl cheaper ↦ absurd (least.none_before v goes (by_cost (omega arith) cheaper))
          | inr bound ↦ bound
        ]

    -- there is only one
    same_least : (i : ℕ) (v w : List ℕ) → IsLeastFrom size is_allowed cost i v → IsLeastFrom size is_allowed cost i w
        → v ≡ w
    same_least i v w v_least w_least =
        let not_v = w_least.none_before v v_least.goes_on in
        let not_w = v_least.none_before w w_least.goes_on in
        let same = same_from_neither cost (i ∷ v) (i ∷ w) not_v not_w in
        cc

    -- and what is left of it after a step is least again
    least_tail : (i j : ℕ) (rest : List ℕ) → IsLeastFrom size is_allowed cost i (j ∷ rest)
        → IsLeastFrom size is_allowed cost j rest
    least_tail i j rest least = record {
      goes_on = least.goes_on.2;
      none_before = λ other goes before.
          least.none_before (j ∷ other) (least.goes_on.0, least.goes_on.1, goes) (IsBefore-cons cost i j other rest before);
    }

    pub goes_next : (i j : ℕ) (rest : List ℕ)
        → IsLeastFrom size is_allowed cost i rest
        → IsLeastNext size is_allowed cost i j
        → (after : List ℕ) × (rest ≡ j ∷ after) × IsLeastFrom size is_allowed cost j after
    goes_next i j rest least next =
        (next.rest, same_least i rest (j ∷ next.rest) least next.is_least, least_tail i j next.rest next.is_least)

    -- what it costs is one number
    pub least_cost_is_one : (i c d : ℕ) → IsLeastCost size is_allowed cost i c → IsLeastCost size is_allowed cost i d → c ≡ d
    least_cost_is_one i c d one other =
        sym one.costs ∙ ap (λ rest. total_cost cost (i ∷ rest)) (same_least i one.rest other.rest one.is_least other.is_least) ∙ other.costs

    -- and it is what the first step costs and what is left to pay from there
    pub least_cost_step : (i j c : ℕ) → IsLeastCost size is_allowed cost i c → IsLeastNext size is_allowed cost i j
        → (d : ℕ) × IsLeastCost size is_allowed cost j d × (c ≡ cost i j + d)
    least_cost_step i j c least next = (
      total_cost cost (j ∷ next.rest),
      record {
        rest = next.rest;
        is_least = least_tail i j next.rest next.is_least;
        costs = refl;
      },
      sym least.costs ∙ ap (λ rest. total_cost cost (i ∷ rest)) (same_least i least.rest (j ∷ next.rest) least.is_least next.is_least)
          ∙ total_cost-cons cost i j next.rest,
    )

    -- the step to j keeps to the fewest; of all such steps it is the cheapest, and of several the shortest
    module _ (counts costs : List ℕ) (i j : ℕ) (below : i < size) (onwards : i < j) (within : j ≤ size)
        (allowed : is_allowed i j) (keeps : slice_index counts j + 1 ≡ slice_index counts i)
        (fewest : HasFewest size is_allowed i counts)
        (later : (k : ℕ) → i < k → k ≤ size → is_allowed i k → slice_index counts k + 1 ≡ slice_index counts i
        → IsLeastCost size is_allowed cost k (slice_index costs k))
        (after : IsLeastCost size is_allowed cost j (slice_index costs j))
        (cheapest : (k : ℕ) → i < k → k ≤ size → is_allowed i k → slice_index counts k + 1 ≡ slice_index counts i
        → cost i j + slice_index costs j ≤ cost i k + slice_index costs k)
        (shortest : (k : ℕ) → i < k → k ≤ size → is_allowed i k → slice_index counts k + 1 ≡ slice_index counts i
        → cost i j + slice_index costs j ≡ cost i k + slice_index costs k
        → j ≤ k) where
      after_count : length after.rest ≡ slice_index counts j
      after_count = length-least j (slice_index counts j) after.rest after.is_least (fewest j (omega arith) within)

      -- another way to go on, by k, in as few steps
      module _ (k : ℕ) (v : List ℕ) (goes : WalksOn size is_allowed i (k ∷ v)) (tied : length v ≡ slice_index counts j) where
        k_within : k ≤ size
        k_within = let room = goes_below size is_allowed k v goes.2 in omega arith

        k_count : slice_index counts k ≡ slice_index counts j
        k_count =
            let above = count_bound counts i below fewest k goes.0 k_within goes.1 in
            let bound = (fewest k (omega arith) k_within).none_fewer v goes.2 in
            omega arith

        k_keeps : slice_index counts k + 1 ≡ slice_index counts i
        k_keeps = omega (arith, k_count)

        k_costs : slice_index costs k ≤ total_cost cost (k ∷ v)
        k_costs =
            let least = later k goes.0 k_within goes.1 k_keeps in
            let counted = length-least k (slice_index counts k) least.rest least.is_least (fewest k (omega arith) k_within) in
            let bound = cost_bound k least.rest v least.is_least goes.2 (omega (arith, k_count)) in
            omega (arith, least.costs)

        not_cheaper : total_cost cost (i ∷ j ∷ after.rest) ≤ total_cost cost (i ∷ k ∷ v)
        not_cheaper =
            let bound = cheapest k goes.0 k_within goes.1 k_keeps in
            omega (arith, after.costs, total_cost-cons cost i j after.rest, total_cost-cons cost i k v, k_costs)

        not_lower : total_cost cost (i ∷ k ∷ v) ≡ total_cost cost (i ∷ j ∷ after.rest)
            → ¬ (slice_cmp nat_cmp (k ∷ v) (j ∷ after.rest) ≡ Less)
        not_lower as_cheap lower =
            let paid_j = total_cost-cons cost i j after.rest in
            let paid_k = total_cost-cons cost i k v in
            let bound = cheapest k goes.0 k_within goes.1 k_keeps in
            let far = shortest k goes.0 k_within goes.1 k_keeps (omega (arith, after.costs, k_costs)) in
            elim (cases_lt j k) [
              | inl above ↦
                  let order : slice_cmp nat_cmp (k ∷ v) (j ∷ after.rest) ≡ Greater = rw (nat_cmp_above k j above) in
                  cc
              | inr near ↦
                  let same : k ≡ j = omega arith in
                  let one = length-steps_from k v in
                  let other = length-steps_from j after.rest in
                  let before : IsBefore cost (k ∷ v) (j ∷ after.rest) =
                  by_list (omega (arith, after_count)) (omega (arith, ap (cost i) same)) lower in
                  after.is_least.none_before v
                  (subst (λ m. WalksOn size is_allowed m v) same goes.2)
                  (subst (λ m. IsBefore cost (m ∷ v) (j ∷ after.rest)) same before)
            ]

      none_before_onward : (rest : List ℕ) → WalksOn size is_allowed i rest
          → ¬ IsBefore cost (i ∷ rest) (i ∷ j ∷ after.rest)
      none_before_onward [] at_end before = absurd (omega arith)
      none_before_onward (k ∷ v) goes (by_steps fewer) =
          let one = length-steps_from i (k ∷ v) in
          let other = length-steps_from i (j ∷ after.rest) in
          let bound = (fewest i (omega arith) (omega arith)).none_fewer (k ∷ v) goes in
          omega (arith, after_count)
      none_before_onward (k ∷ v) goes (by_cost tied cheaper) =
          let one = length-steps_from i (k ∷ v) in
          let other = length-steps_from i (j ∷ after.rest) in
          omega (arith, not_cheaper k v goes (omega (arith, after_count)))
      none_before_onward (k ∷ v) goes (by_list tied as_cheap lower) =
          let one = length-steps_from i (k ∷ v) in
          let other = length-steps_from i (j ∷ after.rest) in
          not_lower k v goes (omega (arith, after_count)) as_cheap
          (sym (slice_cmp-cons i (k ∷ v) (j ∷ after.rest)) ∙ lower)

      -- then the least way to go on from i begins with it
      pub least_onward : IsLeastFrom size is_allowed cost i (j ∷ after.rest)
      least_onward = record {
        goes_on = (onwards, allowed, after.is_least.goes_on);
        none_before = none_before_onward;
      }
