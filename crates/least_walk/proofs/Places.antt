-- The indices that walks of fewest steps go through, and the steps between them.
use Rattle.std.proofs.Common.{◌≡◌, ℕ, zero, suc, ◌+◌, ◌<◌, ◌≤◌, List, [], ◌∷◌, length, refl, ap, sym, subst, arith, Some}
use Rattle.std.specs.List.{slice_get, Contains, slice_index}
use Rattle.std.proofs.lemmas.List.Elements.{Contains-append_right}
use Rattle.std.proofs.lemmas.Option.{slice_get-get_or}
use Rattle.least_walk.specs.LeastWalk.{Step, steps_from, step_count, IsFewest, IsFewestStep, IsFewestPlace}
use Rattle.least_walk.specs.Inner.Suffix.{HasFewest, WalksOn}
use Rattle.least_walk.specs.Inner.MarkedPlaces.{ComesBy}
use Rattle.least_walk.proofs.Going.{length-steps_from, goes_below}
use Rattle.least_walk.proofs.Onward.{count_bound}
use Rattle.least_walk.proofs.Walks.{walk_from_goes, goes_from_walk}

module _ (size : ℕ) (is_allowed : ℕ → ℕ → Type 0) where
  -- first steps that lead to i, and a way to go on from there, are a whole walk
  record IsWhole (n i : ℕ) (rest whole : List ℕ) : Type 0 where
    goes_on : WalksOn size is_allowed 0 whole
    count : length whole ≡ n + length rest
    stands : (c : ℕ) → slice_get (0 ∷ whole) (n + c) ≡ slice_get (i ∷ rest) c
    goes : (step : Step) → Contains (steps_from i rest) step → Contains (steps_from 0 whole) step

  whole_from : (n i : ℕ) (rest : List ℕ) → ComesBy is_allowed n i → WalksOn size is_allowed i rest
      → (whole : List ℕ) × IsWhole n i rest whole
  whole_from zero i rest at_start goes_on = (
    rest,
    subst (λ k. IsWhole 0 k rest rest) (sym at_start) (record {
      goes_on = subst (λ k. WalksOn size is_allowed k rest) at_start goes_on;
      count = omega arith;
      stands = λ c. let at : 0 + c ≡ c = omega arith in ap (λ m. slice_get (0 ∷ rest) m) at;
      goes = λ step has. has;
    }),
  )
  whole_from (suc n) i rest (k, below, allowed, comes) goes_on =
      let (whole, is) = whole_from n k (i ∷ rest) comes (below, allowed, goes_on) in (
        whole,
        record {
          goes_on = is.goes_on;
          count = omega (arith, is.count);
          stands = λ c.
              let at : n + suc c ≡ suc n + c = omega arith in
              subst (λ m. slice_get (0 ∷ whole) m ≡ slice_get (i ∷ rest) c) at (is.stands (suc c));
          goes = λ step has. is.goes step
              (Contains-append_right (record { from = k; to = i } ∷ []) (steps_from i rest) step has);
        },
      )

  -- and a walk is that, at each of its indices
  record Goes (c i : ℕ) (rest : List ℕ) (total : ℕ) : Type 0 where
    comes : ComesBy is_allowed c i
    goes_on : WalksOn size is_allowed i rest
    count : c + length rest ≡ total

  split_at : (n i c j : ℕ) (rest : List ℕ) → ComesBy is_allowed n i → WalksOn size is_allowed i rest
      → slice_get (i ∷ rest) c ≡ Some j → (after : List ℕ) × Goes (n + c) j after (n + length rest)
  split_at n i zero j rest comes goes_on is =
      let same : i ≡ j = cc in
      let P : ℕ → Type 0 = λ k. Goes (n + 0) k rest (n + length rest) in
      let none : n ≡ n + 0 = omega arith in
      (rest, subst P same (record { comes = subst (λ m. ComesBy is_allowed m i) none comes; goes_on = goes_on; count = omega arith }))
  split_at n i (suc c) j [] comes goes_on is = absurd (cc is)
  split_at n i (suc c) j (k ∷ rest) comes goes_on is =
      let (after, goes) = split_at (suc n) k c j rest (i, goes_on.0, goes_on.1, comes) goes_on.2 is in
      let at : suc n + c ≡ n + suc c = omega arith in
      (after, record { comes = subst (λ m. ComesBy is_allowed m j) at goes.comes; goes_on = goes.goes_on; count = omega (arith, goes.count) })

  module _ (counts : List ℕ) (fewest : HasFewest size is_allowed 0 counts) where
    -- the first steps to i and the fewest from there are no fewer than those of a walk
    comes_bound : (c i : ℕ) → ComesBy is_allowed c i → i ≤ size → slice_index counts 0 ≤ c + slice_index counts i
    comes_bound c i comes within =
        let onward = fewest i (omega arith) within in
        let (whole, is) = whole_from c i onward.rest comes onward.goes_on in
        let bound = (fewest 0 (omega arith) (omega arith)).none_fewer whole is.goes_on in
        omega (arith, is.count, onward.count)

    -- a way to go on from 0 by the fewest steps is a walk of fewest steps
    pub is_fewest : (rest : List ℕ) → WalksOn size is_allowed 0 rest → length rest ≡ slice_index counts 0
        → IsFewest size is_allowed (0 ∷ rest)
    is_fewest rest goes_on counted = record {
      is_walk = walk_from_goes size is_allowed rest goes_on;
      none_fewer = λ other walk.
          let (after, same, goes) = goes_from_walk size is_allowed other walk in
          let bound = (fewest 0 (omega arith) (omega arith)).none_fewer after goes in
          omega (arith, length-steps_from 0 rest, length-steps_from 0 after, ap step_count same);
    }

    -- where a walk of fewest steps stands after c of them, the others are left
    pub record StandsAfter (c i : ℕ) : Type 0 where
      pub comes : ComesBy is_allowed c i
      pub within : i ≤ size
      pub count : c + slice_index counts i ≡ slice_index counts 0

    pub stands_after : (c i : ℕ) → IsFewestPlace size is_allowed c i → StandsAfter c i
    stands_after c i place =
        let (rest, same, goes_on) = goes_from_walk size is_allowed place.walk place.is_fewest.is_walk in
        let stands : slice_get (0 ∷ rest) c ≡ Some i = subst (λ walk. slice_get walk c ≡ Some i) same place.stands in
        let (after, goes) = split_at 0 0 c i rest refl goes_on stands in
        let at : 0 + c ≡ c = omega arith in
        let comes = subst (λ m. ComesBy is_allowed m i) at goes.comes in
        let within : i ≤ size = omega (arith, goes_below size is_allowed i after goes.goes_on) in
        let onward = (fewest i (omega arith) within).none_fewer after goes.goes_on in
        let here = fewest 0 (omega arith) (omega arith) in
        let fewest_walk = walk_from_goes size is_allowed here.rest here.goes_on in
        let most = place.is_fewest.none_fewer (0 ∷ here.rest) fewest_walk in
        record {
          comes = comes;
          within = within;
          count = omega (
            arith,
            goes.count,
            here.count,
            length-steps_from 0 rest,
            length-steps_from 0 here.rest,
            ap step_count same,
            comes_bound c i comes within,
          );
        }

    pub place_after : (c i : ℕ) → StandsAfter c i → IsFewestPlace size is_allowed c i
    place_after c i after =
        let onward = fewest i (omega arith) after.within in
        let (whole, is) = whole_from c i onward.rest after.comes onward.goes_on in
        let at : c + 0 ≡ c = omega arith in
        record {
          walk = 0 ∷ whole;
          is_fewest = is_fewest whole is.goes_on (omega (arith, is.count, onward.count, after.count));
          stands = subst (λ m. slice_get (0 ∷ whole) m ≡ Some i) at (is.stands 0);
        }

    -- a step from there that keeps to the fewest is a fewest step, and walks of fewest steps stand
    -- where it leads
    module _ (c i j : ℕ) (place : IsFewestPlace size is_allowed c i) (onwards : i < j) (within : j ≤ size)
        (allowed : is_allowed i j) (keeps : slice_index counts j + 1 ≡ slice_index counts i) where
      pub fewest_step : IsFewestStep size is_allowed i j
      fewest_step =
          let after = stands_after c i place in
          let onward = fewest j (omega arith) within in
          let (whole, is) = whole_from c i (j ∷ onward.rest) after.comes (onwards, allowed, onward.goes_on) in
          record {
            walk = 0 ∷ whole;
            is_fewest = is_fewest whole is.goes_on (omega (arith, is.count, onward.count, after.count));
            goes = is.goes (record { from = i; to = j }) (0, omega arith, refl);
          }

      pub place_onward : IsFewestPlace size is_allowed (suc c) j
      place_onward =
          let after = stands_after c i place in
          place_after (suc c) j (record {
            comes = (i, onwards, allowed, after.comes);
            within = within;
            count = omega (arith, after.count);
          })

    -- the start is such an index, and after each number of steps there is one
    pub place_at_start : IsFewestPlace size is_allowed 0 0
    place_at_start = place_after 0 0 (record { comes = refl; within = omega arith; count = omega arith })

    pub some_place : (c : ℕ) → c ≤ slice_index counts 0 → (i : ℕ) × IsFewestPlace size is_allowed c i
    some_place c few =
        let here = fewest 0 (omega arith) (omega arith) in
        let walk = 0 ∷ here.rest in (
          slice_index walk c,
          record {
            walk = walk;
            is_fewest = is_fewest here.rest here.goes_on here.count;
            stands = slice_get-get_or walk c 0 (omega (arith, here.count));
          },
        )

    -- a mark at the start, and on from each marked index, reaches all of them
    pub all_reached : (Marked : ℕ → Type 0) → Marked 0
        → ((i k : ℕ) → i < size → Marked i → i < k → k ≤ size → is_allowed i k
        → slice_index counts k + 1 ≡ slice_index counts i → Marked k)
        → (c i : ℕ) → StandsAfter c i → Marked i
    all_reached Marked first onward zero i after = subst Marked (sym after.comes) first
    all_reached Marked first onward (suc c) i after =
        let (k, below, allowed, comes) = after.comes in
        let within = after.within in
        let most = count_bound size is_allowed counts k (omega arith) (λ m above inside. fewest m (omega arith) inside) i below within allowed in
        let least = comes_bound c k comes (omega arith) in
        let keeps : slice_index counts i + 1 ≡ slice_index counts k = omega (arith, after.count) in
        onward k i (omega arith)
        (all_reached Marked first onward c k (record { comes = comes; within = omega arith; count = omega (arith, after.count) }))
        below within allowed keeps
