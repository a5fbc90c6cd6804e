-- The cheapest of several segments, while they are tried.
use Rattle.std.proofs.Common.{◌≡◌, ℕ, ◌+◌, ◌<◌, ◌≤◌, List, length, refl, ap, sym, subst, inl, inr, arith}
use Rattle.std.proofs.lemmas.Bool.{cases_eq, cases_lt}
use Rattle.polygon_search.specs.declared.search.OnwardSegment.{OnwardSegment}
use Rattle.std.specs.Prelude.{slice_index}
use Rattle.polygon_search.specs.Inner.Search.{HasCheapest, IsCheaperIn, slot_of}
use Rattle.polygon_search.specs.Inner.Search.IsCheaperIn.{found, none}

module _ (cost_by : ℕ → ℕ) where
  pub tried_none : (begin : ℕ) (best : OnwardSegment) → IsCheaperIn cost_by begin begin best best
  tried_none begin best = none refl (λ k above below. let no : ⊥ = omega arith in elim no [ ])

  -- nothing that was tried is cheaper than the one so far
  so_far_most : (begin end : ℕ) (best onward : OnwardSegment) → IsCheaperIn cost_by begin end best onward → onward.cost ≤ best.cost
  so_far_most begin end best onward (found lower is) = omega arith
  so_far_most begin end best onward (none same dearer) = omega (arith, ap (λ (o : OnwardSegment). o.cost) same)

  so_far_least : (begin end : ℕ) (best onward : OnwardSegment) → IsCheaperIn cost_by begin end best onward
      → (k : ℕ) → begin ≤ k → k < end → onward.cost ≤ cost_by k
  so_far_least begin end best onward (found lower is) k above below = is.cheapest k above below
  so_far_least begin end best onward (none same dearer) k above below = omega (arith, ap (λ (o : OnwardSegment). o.cost) same, dearer k above below)

  -- one more, which is no cheaper
  passed : (begin end : ℕ) (best onward : OnwardSegment) → onward.cost ≤ cost_by end → IsCheaperIn cost_by begin end best onward
      → IsCheaperIn cost_by begin (end + 1) best onward
  passed begin end best onward dear (found lower is) = found lower (record {
    above = is.above;
    below = omega (arith, is.below);
    cost = is.cost;
    cheapest = λ k above below. elim (cases_eq k end) [
      | inl same ↦ omega (arith, ap cost_by same)
      | inr other ↦ is.cheapest k above (omega arith)
    ];
    first = is.first;
  })
  passed begin end best onward dear (none same dearer) = none same (λ k above below. elim (cases_eq k end) [
    | inl here ↦ omega (arith, ap cost_by here, ap (λ (o : OnwardSegment). o.cost) same)
    | inr other ↦ dearer k above (omega arith)
  ])

  pub tried_more : (begin end : ℕ) (best so_far onward : OnwardSegment) → begin ≤ end
      → (cost_by end < so_far.cost → (onward.cost ≡ cost_by end) × (onward.next ≡ end))
      → (so_far.cost ≤ cost_by end → onward ≡ so_far)
      → IsCheaperIn cost_by begin end best so_far → IsCheaperIn cost_by begin (end + 1) best onward
  tried_more begin end best so_far onward room taken kept is =
      elim (cases_lt (cost_by end) so_far.cost) [
        | inl lower ↦
            let (cost, next) = taken lower in
            found (omega (arith, so_far_most begin end best so_far is)) (record {
              above = omega arith;
              below = omega arith;
              cost = omega (arith, ap cost_by next);
              cheapest = λ k above below. elim (cases_eq k end) [
                | inl same ↦ omega (arith, ap cost_by same)
                | inr other ↦ omega (arith, so_far_least begin end best so_far is k above (omega arith))
              ];
              first = λ k above below. omega (arith, so_far_least begin end best so_far is k above (omega arith));
            })
        | inr dear ↦
            subst (IsCheaperIn cost_by begin (end + 1) best) (sym (kept dear)) (passed begin end best so_far dear is)
      ]

  -- the first one, and those beyond it
  pub with_beyond : (begin end : ℕ) (first onward : OnwardSegment) → begin < end → HasCheapest cost_by begin (begin + 1) first
      → IsCheaperIn cost_by (begin + 1) end first onward → HasCheapest cost_by begin end onward
  with_beyond begin end first onward room is (found lower at) = record {
    above = omega (arith, at.above);
    below = at.below;
    cost = at.cost;
    cheapest = λ k above below. elim (cases_lt k (begin + 1)) [
      | inl near ↦ omega (arith, is.cheapest k above near)
      | inr far ↦ at.cheapest k far below
    ];
    first = λ k above below. elim (cases_lt k (begin + 1)) [
      | inl near ↦ omega (arith, is.cheapest k above near)
      | inr far ↦ at.first k far below
    ];
  }
  with_beyond begin end first onward room is (none same dearer) =
      subst (HasCheapest cost_by begin end) (sym same) (record {
        above = is.above;
        below = omega (arith, is.below);
        cost = is.cost;
        cheapest = λ k above below. elim (cases_lt k (begin + 1)) [
          | inl near ↦ is.cheapest k above near
          | inr far ↦ dearer k far below
        ];
        first = is.first;
      })

  -- what was found is the cheapest of all of them, where one of them is cheaper than the bound
  pub is_cheapest : (begin to end : ℕ) (bound onward : OnwardSegment) → begin ≤ to → to < end → cost_by to < bound.cost
      → IsCheaperIn cost_by begin end bound onward → HasCheapest cost_by begin end onward
  is_cheapest begin to end bound onward near room cheap (found lower is) = is
  is_cheapest begin to end bound onward near room cheap (none same dearer) = absurd (omega (arith, dearer to near room))

  -- the same, where the bound is at most what one of them costs or another number, and one more
  pub is_cheapest_up_to : (begin to end most : ℕ) (bound onward : OnwardSegment) → begin ≤ to → to < end
      → (bound.cost ≤ most → cost_by to < bound.cost) → onward.cost ≤ most
      → IsCheaperIn cost_by begin end bound onward → HasCheapest cost_by begin end onward
  is_cheapest_up_to begin to end most bound onward near room cheap low (found lower is) = is
  is_cheapest_up_to begin to end most bound onward near room cheap low (none same dearer) =
      absurd (omega (arith, dearer to near room, cheap (omega (arith, ap (λ (o : OnwardSegment). o.cost) same))))

  -- and all cost more than that number, where what was found does
  pub are_dear : (begin end most : ℕ) (bound onward : OnwardSegment) → bound.cost ≤ most + 1 → most < onward.cost
      → IsCheaperIn cost_by begin end bound onward → (k : ℕ) → begin ≤ k → k < end → most < cost_by k
  are_dear begin end most bound onward low dear (found lower is) k above below = absurd (omega arith)
  are_dear begin end most bound onward low dear (none same dearer) k above below = omega (arith, dearer k above below, ap (λ (o : OnwardSegment). o.cost) same)

  -- those up to a point, and those from there on
  pub tried_on : (begin middle end : ℕ) (best so_far onward : OnwardSegment) → begin ≤ middle → middle ≤ end
      → IsCheaperIn cost_by begin middle best so_far → IsCheaperIn cost_by middle end so_far onward
      → IsCheaperIn cost_by begin end best onward
  tried_on begin middle end best so_far onward near room first (found lower is) =
      found (omega (arith, so_far_most begin middle best so_far first)) (record {
        above = omega (arith, is.above);
        below = is.below;
        cost = is.cost;
        cheapest = λ k above below. elim (cases_lt k middle) [
          | inl before ↦ omega (arith, so_far_least begin middle best so_far first k above before)
          | inr beyond ↦ is.cheapest k beyond below
        ];
        first = λ k above below. elim (cases_lt k middle) [
          | inl before ↦ omega (arith, so_far_least begin middle best so_far first k above before)
          | inr beyond ↦ is.first k beyond below
        ];
      })
  tried_on begin middle end best so_far onward near room (found lower is) (none same dearer) =
      subst (IsCheaperIn cost_by begin end best) (sym same) (found lower (record {
        above = is.above;
        below = omega (arith, is.below);
        cost = is.cost;
        cheapest = λ k above below. elim (cases_lt k middle) [
          | inl before ↦ is.cheapest k above before
          | inr beyond ↦ dearer k beyond below
        ];
        first = is.first;
      }))
  tried_on begin middle end best so_far onward near room (none as_best others) (none same dearer) =
      subst (IsCheaperIn cost_by begin end best) (sym same) (none as_best (λ k above below. elim (cases_lt k middle) [
        | inl before ↦ others k above before
        | inr beyond ↦ omega (arith, dearer k beyond below, ap (λ (o : OnwardSegment). o.cost) as_best)
      ]))

  -- one alone
  pub alone : (to : ℕ) (onward : OnwardSegment) → onward.cost ≡ cost_by to → onward.next ≡ to → HasCheapest cost_by to (to + 1) onward
  alone to onward is there = record {
    above = omega (arith, there);
    below = omega (arith, there);
    cost = omega (arith, is, ap cost_by there);
    cheapest = λ k above below. let e : k ≡ to = omega arith in omega (arith, is, ap cost_by e);
    first = λ k above below. absurd (omega (arith, there));
  }

  -- of which the cost is known
  pub alone_costs : (to : ℕ) (onward : OnwardSegment) → HasCheapest cost_by to (to + 1) onward → onward.cost ≡ cost_by to
  alone_costs to onward is = let e : onward.next ≡ to = omega (arith, is.above, is.below) in omega (arith, is.cost, ap cost_by e)

-- one more segment, whose numbers are known by other names
pub tried_by : (cost_by : ℕ → ℕ) (begin to j worth : ℕ) (best so_far onward : OnwardSegment) → begin ≤ to → j ≡ to → worth ≡ cost_by to
    → (worth < so_far.cost → (onward.cost ≡ worth) × (onward.next ≡ j)) → (so_far.cost ≤ worth → onward ≡ so_far)
    → IsCheaperIn cost_by begin to best so_far → IsCheaperIn cost_by begin (to + 1) best onward
tried_by cost_by begin to j worth best so_far onward room ej ew taken kept is =
    tried_more cost_by begin to best so_far onward room (rw (ej, ew) at taken) (rw ew at kept) is

-- what it costs with the rest of the way
pub worth_is : (penalty : ℕ → ℕ → ℕ) (costs : List ℕ) (from to i j slot : ℕ) → i ≡ from → j ≡ to → slot ≡ slot_of (length costs) to
    → penalty i j + slice_index costs slot ≡ penalty from to + slice_index costs (slot_of (length costs) to)
worth_is penalty costs from to i j slot ei ej es = rw (ei, ej, es) refl
