-- Each cyclic polygon has a vertex in the window after a point, and the best way from there begins the best one.
use Rattle.std.proofs.Common.{◌≡◌, ℕ, ◌+◌, ◌*◌, ◌^◌, ◌<◌, ◌≤◌, List, [], ◌∷◌, ◌++◌, length, length-append, append_assoc, refl, ap, sym, ◌∙◌, subst, inl, inr, arith}
use Rattle.std.specs.List.{All}
use Rattle.std.proofs.lemmas.Bool.{cases_lt}
use Rattle.std.proofs.lemmas.List.{append_cancel_right, length-map}
use Rattle.std.proofs.lemmas.List.Elements.{All-head, All-tail}
use Rattle.pt_core.specs.declared.point.Point.{Point}
use Rattle.straight_paths.specs.Straight.{IsPossible}
use Rattle.least_walk.specs.LeastWalk.{total_cost}
use Rattle.least_walk.specs.Inner.Suffix.{WalksOn}
use Rattle.least_walk.proofs.Going.{goes_below}
use Rattle.polygon_search.specs.Polygon.{penalty_of}
use Rattle.cyclic_optimal.specs.Cyclic.{IsCyclicPolygon, round_penalty}
use Rattle.cyclic_optimal.specs.Inner.Fronts.{IsListOf, worth_of}
use Rattle.cyclic_optimal.proofs.Ways.{on_by, goes_to_last, goes_moved, goes_anew, cost_anew}
use Rattle.cyclic_optimal.proofs.Rounds.{Crosses, crossing, round_of, may_lap, may_back, pen_lap}
use Rattle.cyclic_optimal.proofs.Steps.{possible_from}
use Rattle.cyclic_optimal.proofs.Worth.{worth_round}

all_behind : (n : ℕ) (xs : List ℕ) (y : ℕ) (ys : List ℕ) → All (λ k. k < n) (xs ++ y ∷ ys) → All (λ k. k < n) ys
all_behind n [] y ys all = All-tail (λ k. k < n) y ys all
all_behind n (x ∷ xs) y ys all = all_behind n xs y ys (All-tail (λ k. k < n) x (xs ++ y ∷ ys) all)

all_among : (n : ℕ) (xs : List ℕ) (y : ℕ) (ys : List ℕ) → All (λ k. k < n) (xs ++ y ∷ ys) → y < n
all_among n [] y ys all = All-head (λ k. k < n) y ys all
all_among n (x ∷ xs) y ys all = all_among n xs y ys (All-tail (λ k. k < n) x (xs ++ y ∷ ys) all)

module _ (points : List Point) where
  -- a way once round from a point of the window, as good as a cyclic polygon that begins at i
  pub record Through (k i : ℕ) (others : List ℕ) : Type 0 where
    pub start : ℕ
    pub above : k < start
    pub reached : IsPossible points k start
    pub way : List ℕ
    pub goes : WalksOn (start + length points) (IsPossible points) start way
    pub count : length way ≡ length (i ∷ others)
    pub worth : total_cost (worth_of points) (start ∷ way) ≡ round_penalty points (i ∷ others) * 2 ^ 32 + i
    pub list : IsListOf (length points) way (i ∷ others)

  module _ (k : ℕ) (low : k < length points) (within : (j : ℕ) → IsPossible points k j → j < length points)
      (i : ℕ) (others : List ℕ) (polygon : IsCyclicPolygon points (i ∷ others)) where
    abbrev n : ℕ
    n = length points

    abbrev round : List ℕ
    round = others ++ (i + n) ∷ []

    round_goes : WalksOn (i + n) (IsPossible points) i round
    round_goes = round_of points i others polygon

    first_low : i < n
    first_low = All-head (λ j. j < n) i others polygon.within

    others_low : All (λ j. j < n) others
    others_low = All-tail (λ j. j < n) i others polygon.within

    round_count : length round ≡ length (i ∷ others)
    round_count = omega (arith, length-append others ((i + n) ∷ []))

    -- the polygon begins in the window
    from_first : k < i → Through k i others
    from_first later =
        let c = crossing (IsPossible points) (i + n) n i round first_low (omega arith) round_goes in
        let crossed = worth_round points (i + n) i others (i + n) [] first_low others_low (omega arith) refl in
        let over : k + n < c.at = crossed_past c in
        let back = may_back points k i (possible_from points c.from (k + n) (i + n) (last_step c) (omega (arith, c.from_below)) (omega arith)) in
        record {
          start = i;
          above = later;
          reached = back;
          way = round;
          goes = round_goes;
          count = round_count;
          worth = omega (arith, crossed);
          list = record { before = others; behind = i ∷ []; is = refl; early = others_low; list = refl };
        } where
          -- the round's only step past the end leads to the first vertex again
          same_at : (c : Crosses (IsPossible points) (i + n) n i round) → c.at ≡ i + n
          same_at c = elim (cases_lt c.at (i + n)) [
            | inl before ↦
                let (t, is) = goes_to_last (IsPossible points) (i + n) c.at c.after before c.goes in
                let list : others ++ (i + n) ∷ [] ≡ (c.before ++ c.at ∷ t) ++ (i + n) ∷ []
                = c.is ∙ ap (λ l. c.before ++ c.at ∷ l) is ∙ sym (append_assoc c.before (c.at ∷ t) ((i + n) ∷ [])) in
                let same = append_cancel_right others (c.before ++ c.at ∷ t) ((i + n) ∷ []) list in
                let small = all_among n c.before c.at t (subst (All (λ j. j < n)) same others_low) in
                absurd (omega (arith, c.above))
            | inr not_before ↦
                let room = goes_below (i + n) (IsPossible points) c.at c.after c.goes in
                omega arith
          ]

          crossed_past : (c : Crosses (IsPossible points) (i + n) n i round) → k + n < c.at
          crossed_past c = omega (arith, same_at c)

          last_step : (c : Crosses (IsPossible points) (i + n) n i round) → IsPossible points c.from (i + n)
          last_step c = let P : ℕ → Type 0 = IsPossible points c.from in subst P (same_at c) c.step

    -- or it comes to the window later
    from_later : i ≤ k → Through k i others
    from_later before =
        let c = crossing (IsPossible points) (i + n) (k + 1) i round (omega arith) (omega arith) round_goes in
        let reached = possible_from points c.from k c.at c.step (omega (arith, c.from_below)) (omega (arith, c.above)) in
        let small = within c.at reached in
        let (t, is) = goes_to_last (IsPossible points) (i + n) c.at c.after (omega arith) c.goes in
        let list : others ++ (i + n) ∷ [] ≡ (c.before ++ c.at ∷ t) ++ (i + n) ∷ []
        = c.is ∙ ap (λ l. c.before ++ c.at ∷ l) is ∙ sym (append_assoc c.before (c.at ∷ t) ((i + n) ∷ [])) in
        let same = append_cancel_right others (c.before ++ c.at ∷ t) ((i + n) ∷ []) list in
        let t_low = all_behind n c.before c.at t (subst (All (λ j. j < n)) same others_low) in
        let first : List ℕ = c.before ++ c.at ∷ [] in
        let whole : first ++ c.after ≡ round = append_assoc c.before (c.at ∷ []) c.after ∙ sym c.is in
        let way : List ℕ = c.after ++ on_by n first in
        let goes = goes_anew (IsPossible points) n (may_lap points) i c.at first c.after c.comes c.goes in
        let cost = cost_anew (IsPossible points) n (may_lap points) (penalty_of points) (pen_lap points) i c.at first c.after c.comes c.goes in
        let behind = goes_moved (IsPossible points) (IsPossible points) n (may_lap points) c.at i first c.comes in
        let regrouped : way ≡ t ++ (i + n) ∷ on_by n first
        = ap (λ (l : List ℕ). l ++ on_by n first) is ∙ append_assoc t ((i + n) ∷ []) (on_by n first) in
        let worth = worth_round points (c.at + n) c.at t (i + n) (on_by n first) small t_low (omega arith) behind in
        record {
          start = c.at;
          above = omega (arith, c.above);
          reached = reached;
          way = way;
          goes = goes;
          count = omega (
            arith,
            length-append c.after (on_by n first),
            length-map first (λ j. j + n),
            length-append first c.after,
            ap length whole,
            round_count,
          );
          worth = omega (
            arith,
            worth,
            cost,
            ap (λ l. total_cost (worth_of points) (c.at ∷ l)) regrouped,
            ap (λ l. total_cost (penalty_of points) (c.at ∷ l)) regrouped,
            ap (λ l. total_cost (penalty_of points) (i ∷ l)) whole,
          );
          list = record {
            before = t;
            behind = i ∷ first;
            is = regrouped;
            early = t_low;
            list = ap (λ (l : List ℕ). i ∷ l) (same ∙ sym (append_assoc c.before (c.at ∷ []) t));
          };
        }

    pub through : Through k i others
    through = elim (cases_lt k i) [
      | inl later ↦ from_first later
      | inr before ↦ from_later before
    ]
