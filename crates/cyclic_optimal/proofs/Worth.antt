-- What segments count, and where the longest ones lead, also past the path's end.
use Rattle.std.proofs.Common.{◌≡◌, ℕ, ◌+◌, ◌-◌, ◌*◌, ◌/◌, ◌%◌, ◌^◌, ◌<◌, ◌≤◌, List, Option, None, Some, [], ◌∷◌, ◌++◌, length, true, false, refl, ap, sym, ◌∙◌, subst, inl, inr, arith}
use Rattle.std.specs.Prelude.{IfNone, IfSome, min, nat_lt}
use Rattle.std.proofs.Math.Nat.{div-add-mod, mod-lt}
use Rattle.std.specs.List.{All}
use Rattle.std.proofs.lemmas.Bool.{lt-ltb, le-ltb, cases_lt}
use Rattle.std.proofs.lemmas.List.Elements.{All-head, All-tail}
use Rattle.pt_core.specs.declared.point.Point.{Point}
use Rattle.pt_core.specs.OnPage.{AreOnPage}
use Rattle.straight_paths.specs.Straight.{IsFarthest, IsPossible}
use Rattle.least_walk.specs.LeastWalk.{total_cost}
use Rattle.least_walk.specs.Inner.Suffix.{WalksOn}
use Rattle.least_walk.proofs.Going.{goes_below, total_cost-cons}
use Rattle.prefix_moments.specs.Sums.{IsPenalty}
use Rattle.polygon_search.specs.Polygon.{penalty_of}
use Rattle.polygon_search.specs.Inner.OnePenalty.{penalty_is, penalty_most}
use Rattle.cyclic_optimal.specs.Inner.Fronts.{IsInLap, IsLongest, past, worth_of}
use Rattle.cyclic_optimal.proofs.Rounds.{may_lap, may_back, pen_lap}

-- what follows from what holds of a number that is there, and where there is none
pub where_some : {A : Type 0} (P Q : A → Type 0) (option : Option A) → ((a : A) → P a → Q a) → IfSome option P → IfSome option Q
where_some P Q None so is = tt
where_some P Q (Some a) so is = so a is

pub where_none : {A P Q : Type 0} (option : Option A) → (P → Q) → IfNone option P → IfNone option Q
where_none None so is = so is
where_none (Some a) so is = tt

module _ (points : List Point) where
  pub past_in : (i j : ℕ) → i < length points → past (length points) i j ≡ j - length points
  past_in i j low = let test : nat_lt i (length points) ≡ true = lt-ltb i (length points) low in rw test refl

  pub past_on : (i j : ℕ) → length points ≤ i → past (length points) i j ≡ 0
  past_on i j high = let test : nat_lt i (length points) ≡ false = le-ltb i (length points) high in rw test refl

  worth_is : (i j : ℕ) → worth_of points i j ≡ penalty_of points i j * 2 ^ 32 + past (length points) i j
  unfolding worth_of
  worth_is i j = refl

  pub worth_in : (i j : ℕ) → i < length points → worth_of points i j ≡ penalty_of points i j * 2 ^ 32 + (j - length points)
  worth_in i j low = omega (arith, worth_is i j, past_in i j low)

  pub worth_on : (i j : ℕ) → length points ≤ i → worth_of points i j ≡ penalty_of points i j * 2 ^ 32
  worth_on i j high = omega (arith, worth_is i j, past_on i j high)

  -- a segment, and the same one in the first lap
  module _ (i j from to : ℕ) (lap : IsInLap (length points) i from) (long : to + i ≡ j + from) where
    pub possible_in : IsPossible points i j → IsPossible points from to
    possible_in possible = elim (cases_lt i (length points)) [
      | inl low ↦
          let a : i ≡ from = sym (lap.in_first low) in
          let b : j ≡ to = omega arith in
          let P : ℕ → Type 0 = λ m. IsPossible points m j in
          subst (IsPossible points from) b (subst P a possible)
      | inr high ↦
          let a : i ≡ from + length points = sym (lap.in_second high) in
          let b : j ≡ to + length points = omega arith in
          let P : ℕ → Type 0 = λ m. IsPossible points m j in
          may_back points from to (subst (IsPossible points (from + length points)) b (subst P a possible))
    ]

    penalty_in : penalty_of points i j ≡ penalty_of points from to
    penalty_in = elim (cases_lt i (length points)) [
      | inl low ↦
          let a : i ≡ from = sym (lap.in_first low) in
          let b : j ≡ to = omega arith in
          ap (λ m. penalty_of points m j) a ∙ ap (penalty_of points from) b
      | inr high ↦
          let a : i ≡ from + length points = sym (lap.in_second high) in
          let b : j ≡ to + length points = omega arith in
          ap (λ m. penalty_of points m j) a ∙ ap (penalty_of points (from + length points)) b ∙ pen_lap points from to
    ]

    pub worth_in_lap : worth_of points i j ≡ penalty_of points from to * 2 ^ 32 + past (length points) i j
    worth_in_lap = omega (arith, worth_is i j, penalty_in)

  pub worth_most : AreOnPage points → (i j : ℕ) → j < 2 ^ 33 → worth_of points i j < 2 ^ 89
  worth_most on_page i j small =
      elim (cases_lt i (length points)) [
        | inl low ↦ omega (arith, worth_in i j low, penalty_most points on_page i j)
        | inr high ↦ omega (arith, worth_on i j high, penalty_most points on_page i j)
      ]

  -- a penalty that reaches a limit's upper digits
  pub dear : (i j limit most : ℕ) → penalty_of points i j < 2 ^ 24 → most ≡ min (limit / 2 ^ 32) (2 ^ 24 - 1) + 1
      → ((p : ℕ) → IsPenalty points i j p → most ≤ p) → limit ≤ penalty_of points i j * 2 ^ 32
  dear i j limit most cheap is reached =
      let whole = div-add-mod limit (2 ^ 32) in
      let part : limit % 2 ^ 32 < 2 ^ 32 = mod-lt limit (omega arith) in
      omega (arith, reached (penalty_of points i j) (penalty_is points i j), cheap)

  pub last_in : (i d : ℕ) → IsFarthest points i d → IsLongest points i (i + d)
  last_in i d farthest = record {
    reached = farthest.reached;
    farthest = λ j possible.
        (let e : j ≡ i + (j - i) = omega (arith, possible.rises) in
        let P : ℕ → Type 0 = IsPossible points i in
        let most = farthest.greatest (j - i) (subst P e possible) in
        omega (arith, possible.rises));
  }

  pub last_on : (i d : ℕ) → length points ≤ i → IsFarthest points (i - length points) d → IsLongest points i (i + d)
  last_on i d high farthest =
      let n = length points in
      let P : ℕ → Type 0 = IsPossible points i in
      let a : i - n + n ≡ i = omega arith in
      let b : i - n + d + n ≡ i + d = omega arith in
      let Q : ℕ → Type 0 = λ m. IsPossible points m (i - n + d + n) in
      record {
        reached = subst P b (subst Q a (may_lap points (i - n) (i - n + d) farthest.reached));
        farthest = λ j possible.
            (let e : j ≡ i - n + (j - i) + n = omega (arith, possible.rises) in
            let R : ℕ → Type 0 = λ m. IsPossible points m (i - n + (j - i) + n) in
            let most = farthest.greatest (j - i) (may_back points (i - n) (i - n + (j - i)) (subst R (sym a) (subst P e possible))) in
            omega (arith, possible.rises));
      }

  -- a way counts less than 2^120
  pub ways_count : AreOnPage points → (e i : ℕ) (r : List ℕ) → e < 2 ^ 33 → WalksOn e (IsPossible points) i r
      → total_cost (worth_of points) (i ∷ r) ≤ length r * 2 ^ 89
  ways_count on_page e i [] small goes = omega arith
  ways_count on_page e i (j ∷ r) small goes =
      let room = goes_below e (IsPossible points) j r goes.2 in
      omega (
        arith,
        total_cost-cons (worth_of points) i j r,
        worth_most on_page i j (omega arith),
        ways_count on_page e j r small goes.2,
      )

  -- what a way round counts: its penalties, and the first of its points after the path's end
  worth_after : (e v : ℕ) (r : List ℕ) → length points ≤ v → WalksOn e (IsPossible points) v r
      → total_cost (worth_of points) (v ∷ r) ≡ total_cost (penalty_of points) (v ∷ r) * 2 ^ 32
  worth_after e v [] high goes = refl
  worth_after e v (j ∷ r) high goes =
      omega (
        arith,
        total_cost-cons (worth_of points) v j r,
        total_cost-cons (penalty_of points) v j r,
        worth_on v j high,
        worth_after e j r (omega (arith, goes.0)) goes.2,
      )

  pub worth_round : (e i : ℕ) (xs : List ℕ) (v : ℕ) (ys : List ℕ) → i < length points → All (λ k. k < length points) xs → length points ≤ v
      → WalksOn e (IsPossible points) v ys
      → total_cost (worth_of points) (i ∷ xs ++ v ∷ ys) ≡ total_cost (penalty_of points) (i ∷ xs ++ v ∷ ys) * 2 ^ 32 + (v - length points)
  worth_round e i [] v ys low all high goes =
      omega (
        arith,
        total_cost-cons (worth_of points) i v ys,
        total_cost-cons (penalty_of points) i v ys,
        worth_in i v low,
        worth_after e v ys high goes,
      )
  worth_round e i (x ∷ xs) v ys low all high goes =
      let here = All-head (λ k. k < length points) x xs all in
      omega (
        arith,
        total_cost-cons (worth_of points) i x (xs ++ v ∷ ys),
        total_cost-cons (penalty_of points) i x (xs ++ v ∷ ys),
        worth_in i x low,
        worth_round e x xs v ys here (All-tail (λ k. k < length points) x xs all) high goes,
      )
