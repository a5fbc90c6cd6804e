-- The definitions of least walks, on pictures.
use Rattle.std.proofs.Common.{◌≡◌, ℕ, ◌+◌, ◌*◌, ◌≤◌, ◌⊎◌, List, [], ◌∷◌, suc, zero, refl, ap, subst, inl, inr, arith, lit<, Some}
use Rattle.std.specs.List.{Contains, slice_get}
use Rattle.least_walk.specs.LeastWalk.{Step, steps_of, step_count, total_cost, IsBefore, IsFewest, IsFewestPlace, IsFewestStep, walk_from}
use Rattle.least_walk.specs.LeastWalk.IsBefore.{by_steps, by_cost, by_list}
use Rattle.least_walk.specs.Inner.Suffix.{WalksOn}
use Rattle.least_walk.specs.Windows.{IsWindow}
use Rattle.least_walk.proofs.Walks.{walk_from_goes, goes_from_walk}

-- 0 ------- 2 -- 3
by_two : List ℕ
by_two = 0 ∷ 2 ∷ 3 ∷ []

-- 0 -- 1 ------- 3
by_one : List ℕ
by_one = 0 ∷ 1 ∷ 3 ∷ []

-- 0 -- 1 -- 2 -- 3
by_all : List ℕ
by_all = 0 ∷ 1 ∷ 2 ∷ 3 ∷ []

starts_and_end : walk_from (0 ∷ 2 ∷ []) 3 ≡ by_two
unfolding by_two
starts_and_end = refl

two_steps : steps_of by_two ≡ record { from = 0; to = 2 } ∷ record { from = 2; to = 3 } ∷ []
unfolding by_two
two_steps = refl

counted : step_count by_all ≡ 3
unfolding by_all
counted = refl

-- the step from 0 to 2 costs 2, and the one from 2 to 3 costs 23
summed : total_cost (λ i j. 10 * i + j) by_two ≡ 25
unfolding by_two
summed = refl

-- fewer steps come first, whatever they cost
fewer : IsBefore (λ i j. 100 * j) by_two by_all
unfolding by_two by_all
fewer = by_steps (lit< tt)

-- then the lower cost, also of the higher list
cheaper : IsBefore (λ i j. j * j) by_one by_two
unfolding by_one by_two
cheaper = by_cost refl (lit< tt)

-- and then the lower list
lower : IsBefore (λ i j. 7) by_one by_two
unfolding by_one by_two
lower = by_list refl refl refl

-- steps of one and of two are allowed: 0 -- 1 ------- 3 is a walk of fewest steps, and so is
-- 0 ------- 2 -- 3
IsShort : ℕ → ℕ → Type 0
IsShort i j = (j ≡ i + 1) ⊎ (j ≡ i + 2)

-- 3 isn't reached in fewer than two steps
two_at_least : (rest : List ℕ) → WalksOn 3 IsShort 0 rest → 2 ≤ step_count (0 ∷ rest)
unfolding IsShort
two_at_least [] goes = omega arith
two_at_least (i ∷ []) goes = omega (arith, goes.1)
two_at_least (i ∷ j ∷ rest) goes = omega arith

by_one_is_fewest : IsFewest 3 IsShort by_one
unfolding IsShort by_one
by_one_is_fewest = record {
  is_walk = walk_from_goes 3 IsShort (1 ∷ 3 ∷ []) (lit< tt, inl refl, (lit< tt, inr refl, refl));
  none_fewer = λ other walk.
      let (rest, same, goes) = goes_from_walk 3 IsShort other walk in
      omega (arith, two_at_least rest goes, ap step_count same);
}

-- so the steps of these walks are fewest steps
first_step : IsFewestStep 3 IsShort 0 1
unfolding by_one
first_step = record { walk = by_one; is_fewest = by_one_is_fewest; goes = (0, lit< tt, refl) }

-- and the one from 1 to 2 is on no walk of fewest steps
not_between : (rest : List ℕ) → WalksOn 3 IsShort 0 rest → step_count (0 ∷ rest) ≤ 2
    → ¬ Contains (steps_of (0 ∷ rest)) (record { from = 1; to = 2 })
unfolding IsShort
not_between [] goes few (k, below, here) = omega arith
not_between (i ∷ []) goes few (zero, below, here) = omega (arith, ap (λ (step : Step). step.from) here)
not_between (i ∷ []) goes few (suc k, below, here) = omega arith
not_between (i ∷ j ∷ []) goes few (zero, below, here) = omega (arith, ap (λ (step : Step). step.from) here)
not_between (i ∷ j ∷ []) goes few (suc zero, below, here) = omega (arith, ap (λ (step : Step). step.to) here, goes.2.2)
not_between (i ∷ j ∷ []) goes few (suc (suc k), below, here) = omega arith
not_between (i ∷ j ∷ h ∷ rest) goes few contained = omega arith

middle_step : ¬ IsFewestStep 3 IsShort 1 2
unfolding by_one
middle_step step =
    let (rest, same, goes) = goes_from_walk 3 IsShort step.walk step.is_fewest.is_walk in
    let few : step_count step.walk ≤ 2 = step.is_fewest.none_fewer by_one by_one_is_fewest.is_walk in
    not_between rest goes (omega (arith, ap step_count same))
    (subst (λ walk. Contains (steps_of walk) (record { from = 1; to = 2 })) same step.goes)

by_two_is_fewest : IsFewest 3 IsShort by_two
unfolding IsShort by_two
by_two_is_fewest = record {
  is_walk = walk_from_goes 3 IsShort (2 ∷ 3 ∷ []) (lit< tt, inr refl, (lit< tt, inl refl, refl));
  none_fewer = λ other walk.
      let (rest, same, goes) = goes_from_walk 3 IsShort other walk in
      omega (arith, two_at_least rest goes, ap step_count same);
}

-- after one step such a walk stands at 1 or at 2
after_one : (rest : List ℕ) (i : ℕ) → WalksOn 3 IsShort 0 rest → slice_get (0 ∷ rest) 1 ≡ Some i → (1 ≤ i) × (i ≤ 2)
unfolding IsShort
after_one [] i goes is = absurd cc
after_one (j ∷ rest) i goes is = let same : j ≡ i = cc in (omega (arith, goes.1), omega (arith, goes.1))

place_after_one : (i : ℕ) → IsFewestPlace 3 IsShort 1 i → (1 ≤ i) × (i ≤ 2)
place_after_one i place =
    let (rest, same, goes) = goes_from_walk 3 IsShort place.walk place.is_fewest.is_walk in
    after_one rest i goes (subst (λ walk. slice_get walk 1 ≡ Some i) same place.stands)

-- and the window after one step goes from 1 to 2
second_window : IsWindow 3 IsShort 1 (record { least = 1; greatest = 2 })
unfolding by_one by_two
second_window = record {
  least_stands = record { walk = by_one; is_fewest = by_one_is_fewest; stands = refl };
  greatest_stands = record { walk = by_two; is_fewest = by_two_is_fewest; stands = refl };
  none_below = λ i place. (place_after_one i place).0;
  none_above = λ i place. (place_after_one i place).1;
}
