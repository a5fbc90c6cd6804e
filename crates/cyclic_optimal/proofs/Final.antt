-- The best of the ways once round from the window is the least cyclic polygon.
use Rattle.std.proofs.Common.{◌≡◌, ℕ, ◌+◌, ◌-◌, ◌*◌, ◌/◌, ◌^◌, ◌<◌, ◌≤◌, List, [], ◌∷◌, ◌++◌, length, length-append, ap, sym, ◌∙◌, subst, inl, inr, arith}
use Rattle.std.specs.declared.cmp.Ordering.TheVariants.{Less}
use Rattle.std.proofs.lemmas.Bool.{cases_lt}
use Rattle.std.proofs.lemmas.Nat.{div-mul-add}
use Rattle.std.proofs.lemmas.List.Elements.{All-head}
use Rattle.pt_core.specs.declared.point.Point.{Point}
use Rattle.straight_paths.specs.Straight.{IsPossible}
use Rattle.least_walk.specs.LeastWalk.{IsBefore, step_count, total_cost}
use Rattle.least_walk.specs.LeastWalk.IsBefore.{by_steps, by_cost, by_list}
use Rattle.least_walk.proofs.Before.{slice_cmp-cons}
use Rattle.least_walk.proofs.Going.{length-steps_from}
use Rattle.polygon_search.specs.Polygon.{penalty_of}
use Rattle.cyclic_optimal.specs.Cyclic.{IsCyclicPolygon, IsLeastCyclic, once_round, round_penalty}
use Rattle.cyclic_optimal.specs.Inner.Fronts.{IsBestAmong, worth_of}
use Rattle.cyclic_optimal.specs.declared.round.Best.{Best}
use Rattle.cyclic_optimal.proofs.Lists.{cons_above, not_lower_both, not_lower_nothing, one_list, list_order}
use Rattle.cyclic_optimal.proofs.Rounds.{FromRound, from_round}
use Rattle.cyclic_optimal.proofs.Through.{through}
use Rattle.cyclic_optimal.proofs.Worth.{worth_round}

round_steps : (n j : ℕ) (o : List ℕ) → step_count (once_round n (j ∷ o)) ≡ length (j ∷ o)
round_steps n j o = length-steps_from j (o ++ (j + n) ∷ []) ∙ omega (arith, length-append o ((j + n) ∷ []))

module _ (points : List Point) (k last : ℕ) (low : k < length points) (within : (j : ℕ) → IsPossible points k j → j < length points)
    (farthest : (j : ℕ) → IsPossible points k j → j ≤ last) (few : length points ≤ 2 ^ 31) (small : last < length points)
    (best : Best) (among : IsBestAmong points (k + 1) (last + 1) best) where
  start_low : among.start < length points
  start_low = omega (arith, among.under)

  found : FromRound points among.start among.way
  found = from_round points among.start among.way start_low among.goes

  abbrev first : ℕ
  first = found.crosses.at - length points

  abbrev others : List ℕ
  others = found.others

  list_is : best.at.items ≡ first ∷ others
  list_is = one_list (length points) among.way best.at.items (first ∷ others) among.list found.list

  worth_is : best.worth ≡ round_penalty points (first ∷ others) * 2 ^ 32 + first
  worth_is =
      let c = found.crosses in
      omega (
        arith,
        among.worth,
        found.cost,
        worth_round points (among.start + length points) among.start c.before c.at c.after start_low c.below c.above c.goes,
        ap (λ l. total_cost (worth_of points) (among.start ∷ l)) c.is,
        ap (λ l. total_cost (penalty_of points) (among.start ∷ l)) c.is,
      )

  first_small : first < length points
  first_small = All-head (λ j. j < length points) first others found.polygon.within

  fewest : (i : ℕ) (o : List ℕ) → IsCyclicPolygon points (i ∷ o) → length (first ∷ others) ≤ length (i ∷ o)
  fewest i o polygon =
      let by = through points k low within i o polygon in
      let least = among.fewest by.start by.way (omega (arith, by.above)) (omega (arith, farthest by.start by.reached)) by.goes in
      omega (arith, by.count, found.count, among.count)

  cheapest : (i : ℕ) (o : List ℕ) → IsCyclicPolygon points (i ∷ o) → length (i ∷ o) ≡ length (first ∷ others)
      → round_penalty points (first ∷ others) * 2 ^ 32 + first ≤ round_penalty points (i ∷ o) * 2 ^ 32 + i
  cheapest i o polygon tied =
      let by = through points k low within i o polygon in
      let least = among.least by.start by.way (omega (arith, by.above)) (omega (arith, farthest by.start by.reached)) by.goes
      (omega (arith, by.count, found.count, among.count)) in
      omega (arith, by.worth, worth_is)

  -- one that ties in all and begins at the same point isn't a lower list
  not_lower : (i : ℕ) (o : List ℕ) → IsCyclicPolygon points (i ∷ o) → length (i ∷ o) ≡ length (first ∷ others)
      → round_penalty points (i ∷ o) ≡ round_penalty points (first ∷ others) → ¬ (list_order (i ∷ o) (first ∷ others) ≡ Less)
  not_lower i o polygon tied as_dear =
      elim (cases_lt first i) [
        | inl later ↦ λ lower. absurd (let high = cons_above i first o others later in cc)
        | inr near ↦
            let less = cheapest i o polygon tied in
            let by = through points k low within i o polygon in
            let P : List ℕ → Type 0 = λ l. ¬ (list_order (i ∷ o) l ≡ Less) in
            subst P list_is
            (among.lowest by.start by.way (i ∷ o) (omega (arith, by.above)) (omega (arith, farthest by.start by.reached)) by.goes
            (omega (arith, by.count, found.count, among.count)) (omega (arith, by.worth, worth_is)) by.list)
      ]

  none_before : (other : List ℕ) → IsCyclicPolygon points other
      → ¬ IsBefore (penalty_of points) (once_round (length points) other) (once_round (length points) (first ∷ others))
  none_before [] polygon before = absurd (omega (arith, polygon.some))
  none_before (i ∷ o) polygon (by_steps fewer) =
      omega (arith, fewest i o polygon, round_steps (length points) i o, round_steps (length points) first others)
  none_before (i ∷ o) polygon (by_cost tied cheaper) =
      let count : length (i ∷ o) ≡ length (first ∷ others) = omega (arith, round_steps (length points) i o, round_steps (length points) first others) in
      let least = cheapest i o polygon count in
      let low = All-head (λ j. j < length points) i o polygon.within in
      omega (arith, first_small)
  none_before (i ∷ o) polygon (by_list tied as_dear lower) =
      let count : length (i ∷ o) ≡ length (first ∷ others) = omega (arith, round_steps (length points) i o, round_steps (length points) first others) in
      let least = cheapest i o polygon count in
      elim (cases_lt first i) [
        | inl later ↦
            absurd (let high = cons_above i first (o ++ (i + length points) ∷ []) (others ++ (first + length points) ∷ []) later in cc)
        | inr near ↦
            let same : i ≡ first = omega arith in
            let ends : ¬ (list_order ((i + length points) ∷ []) ((first + length points) ∷ []) ≡ Less)
            = λ less. not_lower_nothing [] (sym (slice_cmp-cons (first + length points) [] [])
            ∙ subst (λ m. list_order ((m + length points) ∷ []) ((first + length points) ∷ []) ≡ Less) same less) in
            not_lower_both (i ∷ o) (first ∷ others) ((i + length points) ∷ []) ((first + length points) ∷ []) count
            (not_lower i o polygon count as_dear) ends lower
      ]

  pub least_cyclic : IsLeastCyclic points best.at.items
  least_cyclic = subst (IsLeastCyclic points) (sym list_is) (record { is_polygon = found.polygon; none_before = none_before })

  pub cyclic_cost : best.worth / 2 ^ 32 ≡ round_penalty points best.at.items
  cyclic_cost =
      ap (λ m. m / 2 ^ 32) worth_is
      ∙ div-mul-add (round_penalty points (first ∷ others)) (2 ^ 32) first (omega (arith, first_small))
      ∙ ap (round_penalty points) (sym list_is)
