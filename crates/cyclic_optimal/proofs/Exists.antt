-- A closed walk has a least cyclic polygon.
use Rattle.std.proofs.Common.{◌≡◌, ℕ, zero, suc, ◌+◌, ◌-◌, ◌<◌, ◌≤◌, List, [], ◌∷◌, ◌++◌, length, length-append, refl, ap, sym, ◌∙◌, subst, inl, inr, arith}
use Rattle.std.proofs.lemmas.Bool.{cases_lt, cases_order}
use Rattle.std.proofs.lemmas.List.{length-map}
use Rattle.std.proofs.lemmas.List.Elements.{All-head}
use Rattle.pt_core.specs.ClosedWalk.{IsClosedWalk}
use Rattle.pt_core.specs.declared.point.Point.{Point}
use Rattle.straight_paths.specs.Straight.{IsPossible}
use Rattle.path_cones.proofs.Decided.{is_possible}
use Rattle.straight_paths.proofs.Far.{step_possible}
use Rattle.std.specs.declared.cmp.Ordering.TheVariants.{Less}
use Rattle.least_walk.specs.LeastWalk.{step_count, total_cost, IsBefore, IsLeast, IsWalk}
use Rattle.least_walk.specs.LeastWalk.IsBefore.{by_steps, by_cost, by_list}
use Rattle.least_walk.specs.Inner.Suffix.{WalksOn}
use Rattle.least_walk.proofs.Before.{slice_cmp-cons}
use Rattle.least_walk.proofs.Going.{goes_below, length-steps_from}
use Rattle.least_walk.proofs.Exists.{least_found}
use Rattle.least_walk.proofs.Walks.{goes_from_walk, walk_from_goes}
use Rattle.polygon_search.specs.Polygon.{penalty_of}
use Rattle.cyclic_optimal.specs.Cyclic.{IsCyclicPolygon, IsLeastCyclic, once_round, round_penalty}
use Rattle.cyclic_optimal.proofs.Lists.{cons_above, lists_moved, list_order}
use Rattle.cyclic_optimal.proofs.Ways.{on_by, goes_moved, goes_back, cost_moved}
use Rattle.cyclic_optimal.proofs.Rounds.{FromRound, from_round, round_of}

module _ (points : List Point) (closed : IsClosedWalk points) where
  abbrev Way : ℕ → List ℕ → Type 0
  Way s r = WalksOn (s + length points) (IsPossible points) s r

  abbrev pays : ℕ → List ℕ → ℕ
  pays s r = total_cost (penalty_of points) (s ∷ r)

  -- the best way once round from point s
  record BestWay (s : ℕ) : Type 0 where
    way : List ℕ
    goes : Way s way
    fewest : (r : List ℕ) → Way s r → length way ≤ length r
    cheapest : (r : List ℕ) → Way s r → length r ≡ length way → pays s way ≤ pays s r
    lowest : (r : List ℕ) → Way s r → length r ≡ length way → pays s r ≡ pays s way → ¬ (list_order r way ≡ Less)

  module _ (s : ℕ) where
    abbrev may : ℕ → ℕ → Type 0
    may i j = IsPossible points (i + s) (j + s)

    abbrev costs : ℕ → ℕ → ℕ
    costs i j = penalty_of points (i + s) (j + s)

    best_by : (rest : List ℕ) → IsLeast (length points) may costs (0 ∷ rest) → BestWay s
    best_by rest least =
        let (same_rest, same, from_zero) = goes_from_walk (length points) may (0 ∷ rest) least.is_walk in
        let is : rest ≡ same_rest = cc in
        let a : length points + s ≡ s + length points = omega arith in
        let b : 0 + s ≡ s = omega arith in
        let out = goes_moved may (IsPossible points) s (λ i j m. m) (length points) 0 same_rest from_zero in
        let goes : Way s (on_by s rest)
        = subst (λ l. Way s (on_by s l)) (sym is)
        (subst (λ m. WalksOn m (IsPossible points) s (on_by s same_rest)) a
        (subst (λ m. WalksOn (length points + s) (IsPossible points) m (on_by s same_rest)) b out)) in
        let paid : pays s (on_by s rest) ≡ total_cost costs (0 ∷ rest)
        = ap (λ m. total_cost (penalty_of points) (m ∷ on_by s rest)) (sym b) ∙ cost_moved costs (penalty_of points) s (λ i j. refl) 0 rest in
        record {
          way = on_by s rest;
          goes = goes;
          fewest = λ r way.
              (let (q, same, walk, paid_q) = inwards r way in
              elim (cases_lt (length r) (length (on_by s rest))) [
                | inl fewer ↦ absurd (least.none_before (0 ∷ q) walk (by_steps (omega (
                  arith,
                  length-steps_from 0 q,
                  length-steps_from 0 rest,
                  ap length same,
                  length-map q (λ k. k + s),
                  length-map rest (λ k. k + s),
                ))))
                | inr most ↦ most
              ]);
          cheapest = λ r way tied.
              (let (q, same, walk, paid_q) = inwards r way in
              elim (cases_lt (pays s r) (pays s (on_by s rest))) [
                | inl cheaper ↦ absurd (least.none_before (0 ∷ q) walk (by_cost
                    (omega (
                      arith,
                      length-steps_from 0 q,
                      length-steps_from 0 rest,
                      ap length same,
                      length-map q (λ k. k + s),
                      length-map rest (λ k. k + s),
                    ))
                    (omega (arith, paid, paid_q))))
                | inr most ↦ most
              ]);
          lowest = λ r way tied as_dear lower.
              (let (q, same, walk, paid_q) = inwards r way in
              least.none_before (0 ∷ q) walk (by_list
              (omega (
                arith,
                length-steps_from 0 q,
                length-steps_from 0 rest,
                ap length same,
                length-map q (λ k. k + s),
                length-map rest (λ k. k + s),
              ))
              (sym paid_q ∙ as_dear ∙ paid)
              (slice_cmp-cons 0 q rest ∙ sym (lists_moved s q rest) ∙ ap (λ l. list_order l (on_by s rest)) (sym same) ∙ lower)));
        } where
          inwards : (r : List ℕ) → Way s r → (q : List ℕ) × (r ≡ on_by s q) × IsWalk (length points) may (0 ∷ q) × (pays s r ≡ total_cost costs (0 ∷ q))
          inwards r way =
              let a : s + length points ≡ length points + s = omega arith in
              let b : s ≡ 0 + s = omega arith in
              let moved = subst (λ m. WalksOn m (IsPossible points) (0 + s) r) a
              (subst (λ m. WalksOn (s + length points) (IsPossible points) m r) b way) in
              let (q, same, back) = goes_back may (IsPossible points) s (λ i j m. m) (length points) 0 r moved in (
                q,
                same,
                walk_from_goes (length points) may q back,
                ap (λ l. total_cost (penalty_of points) (s ∷ l)) same
                    ∙ ap (λ m. total_cost (penalty_of points) (m ∷ on_by s q)) b
                    ∙ cost_moved costs (penalty_of points) s (λ i j. refl) 0 q,
              )

    best_way : BestWay s
    best_way =
        let (rest, least) = least_found (length points) may costs (λ i j rises within. is_possible points (i + s) (j + s))
        (λ i below.
        let e : i + s + 1 ≡ i + 1 + s = omega arith in
        let P : ℕ → Type 0 = IsPossible points (i + s) in
        subst P e (step_possible points (i + s) closed)) in
        best_by rest least

  -- the best way of those from the first points, and none as good from an earlier one
  record BestBelow (t : ℕ) : Type 0 where
    start : ℕ
    below : start < t
    way : List ℕ
    goes : Way start way
    fewest : (s : ℕ) (r : List ℕ) → s < t → Way s r → length way ≤ length r
    cheapest : (s : ℕ) (r : List ℕ) → s < t → Way s r → length r ≡ length way → pays start way ≤ pays s r
    earliest : (s : ℕ) (r : List ℕ) → s < start → Way s r → length r ≡ length way → pays start way < pays s r
    lowest : (r : List ℕ) → Way start r → length r ≡ length way → pays start r ≡ pays start way → ¬ (list_order r way ≡ Less)

  best_first : BestBelow 1
  best_first =
      let b = best_way 0 in
      let here : (s : ℕ) (r : List ℕ) → s < 1 → Way s r → Way 0 r = λ s r low way. (let is : s ≡ 0 = omega arith in subst (λ m. Way m r) is way) in
      record {
        start = 0;
        below = omega arith;
        way = b.way;
        goes = b.goes;
        fewest = λ s r low way. b.fewest r (here s r low way);
        cheapest = λ s r low way tied.
            (let is : s ≡ 0 = omega arith in
            let less = b.cheapest r (here s r low way) tied in
            omega (arith, ap (λ m. pays m r) is));
        earliest = λ s r low. (let no : ⊥ = omega arith in elim no [ ]);
        lowest = b.lowest;
      }

  -- one more start, which is no better
  best_kept : (t : ℕ) (so_far : BestBelow t) → ((r : List ℕ) → Way t r → length so_far.way ≤ length r)
      → ((r : List ℕ) → Way t r → length r ≡ length so_far.way → pays so_far.start so_far.way ≤ pays t r) → BestBelow (t + 1)
  best_kept t so_far more dearer = record {
    start = so_far.start;
    below = omega (arith, so_far.below);
    way = so_far.way;
    goes = so_far.goes;
    fewest = λ s r low way. elim (cases_lt s t) [
      | inl earlier ↦ so_far.fewest s r earlier way
      | inr late ↦ let is : s ≡ t = omega arith in more r (subst (λ m. Way m r) is way)
    ];
    cheapest = λ s r low way tied. elim (cases_lt s t) [
      | inl earlier ↦ so_far.cheapest s r earlier way tied
      | inr late ↦
          let is : s ≡ t = omega arith in
          let less = dearer r (subst (λ m. Way m r) is way) tied in
          omega (arith, ap (λ m. pays m r) is)
    ];
    earliest = so_far.earliest;
    lowest = so_far.lowest;
  }

  -- and one that is better
  best_taken : (t : ℕ) (b : BestWay t) → ((s : ℕ) (r : List ℕ) → s < t → Way s r → length b.way ≤ length r)
      → ((s : ℕ) (r : List ℕ) → s < t → Way s r → length r ≡ length b.way → pays t b.way < pays s r) → BestBelow (t + 1)
  best_taken t b more dearer = record {
    start = t;
    below = omega arith;
    way = b.way;
    goes = b.goes;
    fewest = λ s r low way. elim (cases_lt s t) [
      | inl earlier ↦ more s r earlier way
      | inr late ↦ let is : s ≡ t = omega arith in b.fewest r (subst (λ m. Way m r) is way)
    ];
    cheapest = λ s r low way tied. elim (cases_lt s t) [
      | inl earlier ↦ let less = dearer s r earlier way tied in omega arith
      | inr late ↦
          let is : s ≡ t = omega arith in
          let less = b.cheapest r (subst (λ m. Way m r) is way) tied in
          omega (arith, ap (λ m. pays m r) is)
    ];
    earliest = λ s r low way tied. dearer s r low way tied;
    lowest = b.lowest;
  }

  best_more : (t : ℕ) → BestBelow t → BestBelow (t + 1)
  best_more t so_far =
      let b = best_way t in
      elim (cases_order (length b.way) (length so_far.way)) [
        | inl tied ↦ elim (cases_lt (pays t b.way) (pays so_far.start so_far.way)) [
          | inl cheaper ↦ best_taken t b (λ s r low way. let least = so_far.fewest s r low way in omega arith)
              (λ s r low way same. let least = so_far.cheapest s r low way (same ∙ tied) in omega arith)
          | inr dear ↦ best_kept t so_far (λ r way. let least = b.fewest r way in omega arith)
              (λ r way same. let least = b.cheapest r way (same ∙ sym tied) in omega arith)
        ]
        | inr (inl fewer) ↦ best_taken t b (λ s r low way. let least = so_far.fewest s r low way in omega arith)
            (λ s r low way same. let least = so_far.fewest s r low way in absurd (omega arith))
        | inr (inr more) ↦ best_kept t so_far (λ r way. let least = b.fewest r way in omega arith)
            (λ r way same. let least = b.fewest r way in absurd (omega arith))
      ]

  best_below : (t : ℕ) → BestBelow (suc t)
  best_below zero = best_first
  best_below (suc t) = let e : suc t + 1 ≡ suc (suc t) = omega arith in subst BestBelow e (best_more (suc t) (best_below t))

  all_starts : BestBelow (length points)
  all_starts = let e : suc (length points - 1) ≡ length points = omega (arith, closed.least) in subst BestBelow e (best_below (length points - 1))

  round_length : (i : ℕ) (others : List ℕ) → length (others ++ (i + length points) ∷ []) ≡ length (i ∷ others)
  round_length i others = omega (arith, length-append others ((i + length points) ∷ []))

  abbrev f : ℕ
  f = all_starts.start

  begun : FromRound points f all_starts.way
  begun = from_round points f all_starts.way all_starts.below all_starts.goes

  abbrev others : List ℕ
  others = begun.others

  -- the polygon begins at the start
  begins : begun.crosses.at - length points ≡ f
  begins =
      let i : ℕ = begun.crosses.at - length points in
      let room = goes_below (f + length points) (IsPossible points) begun.crosses.at begun.crosses.after begun.crosses.goes in
      elim (cases_lt i f) [
        | inl before ↦
            let round = round_of points i others begun.polygon in
            let dear = all_starts.earliest i (others ++ (i + length points) ∷ []) before round (round_length i others ∙ begun.count) in
            absurd (omega (arith, begun.cost))
        | inr not_before ↦ omega arith
      ]

  polygon : IsCyclicPolygon points (f ∷ others)
  polygon = subst (λ m. IsCyclicPolygon points (m ∷ others)) begins begun.polygon

  paid : round_penalty points (f ∷ others) ≡ pays f all_starts.way
  paid = ap (λ m. round_penalty points (m ∷ others)) (sym begins) ∙ begun.cost

  -- and has no point past the path's end
  none_after : (v : ℕ) (r : List ℕ) → f + length points ≤ v → WalksOn (f + length points) (IsPossible points) v r → r ≡ []
  none_after v [] past goes = refl
  none_after v (j ∷ r) past goes = let room = goes_below (f + length points) (IsPossible points) j r goes.2 in absurd (omega (arith, goes.0))

  one_behind : (i : ℕ) (rest before behind : List ℕ) → length behind ≡ 1 → i ∷ rest ≡ behind ++ before → rest ≡ before
  one_behind i rest before [] one is = absurd (omega arith)
  one_behind i rest before (x ∷ []) one is = cc
  one_behind i rest before (x ∷ y ∷ behind) one is = absurd (omega arith)

  way_is : all_starts.way ≡ others ++ (f + length points) ∷ []
  way_is =
      let c = begun.crosses in
      let at : c.at ≡ f + length points = omega (arith, begins, c.above) in
      let none = none_after c.at c.after (omega arith) c.goes in
      let l = begun.list in
      let one : length l.behind ≡ 1
      = omega (arith, length-map l.behind (λ k. k + length points), ap length begun.splits.1, ap length none) in
      let rest = one_behind (c.at - length points) others l.before l.behind one l.list in
      c.is
      ∙ ap (λ (l : List ℕ). c.before ++ c.at ∷ l) none
      ∙ ap (λ m. c.before ++ m ∷ []) at
      ∙ ap (λ (l : List ℕ). l ++ (f + length points) ∷ []) (sym (rest ∙ begun.splits.0))

  round_steps : (j : ℕ) (o : List ℕ) → step_count (once_round (length points) (j ∷ o)) ≡ length (j ∷ o)
  round_steps j o = length-steps_from j (o ++ (j + length points) ∷ []) ∙ round_length j o

  none_before : (other : List ℕ) → IsCyclicPolygon points other
      → ¬ IsBefore (penalty_of points) (once_round (length points) other) (once_round (length points) (f ∷ others))
  none_before [] other before = absurd (omega (arith, other.some))
  none_before (j ∷ o) other before =
      let low = All-head (λ k. k < length points) j o other.within in
      let round = round_of points j o other in
      let count = round_length j o in
      let tally : length (f ∷ others) ≡ length all_starts.way = begun.count in
      by before low round count tally where
        by : IsBefore (penalty_of points) (once_round (length points) (j ∷ o)) (once_round (length points) (f ∷ others))
            → j < length points → Way j (o ++ (j + length points) ∷ []) → length (o ++ (j + length points) ∷ []) ≡ length (j ∷ o)
            → length (f ∷ others) ≡ length all_starts.way → ⊥
        by (by_steps fewer) low round count tally =
            omega (arith, round_steps j o, round_steps f others, all_starts.fewest j (o ++ (j + length points) ∷ []) low round)
        by (by_cost tied cheaper) low round count tally =
            omega (
              arith,
              paid,
              all_starts.cheapest j (o ++ (j + length points) ∷ []) low round (omega (arith, round_steps j o, round_steps f others)),
            )
        by (by_list tied as_dear lower) low round count tally =
            let same_count : length (o ++ (j + length points) ∷ []) ≡ length all_starts.way = omega (arith, round_steps j o, round_steps f others) in
            elim (cases_lt j f) [
              | inl before ↦ omega (arith, paid, all_starts.earliest j (o ++ (j + length points) ∷ []) before round same_count)
              | inr not_before ↦ elim (cases_lt f j) [
                | inl later ↦ absurd (let high = cons_above j f (o ++ (j + length points) ∷ []) (others ++ (f + length points) ∷ []) later in cc)
                | inr not_later ↦
                    let e : j ≡ f = omega arith in
                    let way : Way f (o ++ (j + length points) ∷ []) = subst (λ m. Way m (o ++ (j + length points) ∷ [])) e round in
                    let pay : pays f (o ++ (j + length points) ∷ []) ≡ pays f all_starts.way
                    = ap (λ m. pays m (o ++ (j + length points) ∷ [])) (sym e) ∙ as_dear ∙ paid in
                    all_starts.lowest (o ++ (j + length points) ∷ []) way same_count pay
                    (ap (list_order (o ++ (j + length points) ∷ [])) way_is
                    ∙ sym (slice_cmp-cons f (o ++ (j + length points) ∷ []) (others ++ (f + length points) ∷ []))
                    ∙ ap (λ m. list_order (m ∷ o ++ (j + length points) ∷ []) (f ∷ others ++ (f + length points) ∷ [])) (sym e)
                    ∙ lower)
              ]
            ]

  found_round : (at : List ℕ) × IsLeastCyclic points at
  found_round = (f ∷ others, record { is_polygon = polygon; none_before = none_before })

pub least_found_round : (points : List Point) → IsClosedWalk points → (at : List ℕ) × IsLeastCyclic points at
least_found_round points closed = found_round points closed
