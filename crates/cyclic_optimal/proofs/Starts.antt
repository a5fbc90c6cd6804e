-- The best way once round from one of several points.
use Rattle.std.proofs.Common.{◌≡◌, ℕ, ◌+◌, ◌<◌, ◌≤◌, List, [], ◌∷◌, length, refl, ap, sym, ◌∙◌, subst, inl, inr, arith}
use Rattle.std.specs.declared.cmp.Ordering.{Ordering}
use Rattle.std.specs.declared.cmp.Ordering.TheVariants.{Less, Equal, Greater}
use Rattle.std.proofs.lemmas.Bool.{cases_lt}
use Rattle.pt_core.specs.declared.point.Point.{Point}
use Rattle.straight_paths.specs.Straight.{IsPossible}
use Rattle.least_walk.specs.LeastWalk.{total_cost}
use Rattle.least_walk.specs.Inner.Suffix.{IsFewestFrom, WalksOn}
use Rattle.cyclic_optimal.specs.Inner.Fronts.{IsBestAmong, IsBestFrom, IsListOf, worth_of}
use Rattle.cyclic_optimal.specs.declared.round.Best.{Best}
use Rattle.cyclic_optimal.proofs.Lists.{lower_chain, not_lower_chain, not_lower_nothing, list_order}

module _ (points : List Point) where
  -- the fewest segments from one more point
  pub fewest_more : (low s fewest one least : ℕ) → low ≤ s
      → (t : ℕ) × (low ≤ t) × (t < s) × IsFewestFrom (t + length points) (IsPossible points) t fewest
      → IsFewestFrom (s + length points) (IsPossible points) s one
      → (one < fewest → least ≡ one) → (fewest ≤ one → least ≡ fewest)
      → (t : ℕ) × (low ≤ t) × (t < s + 1) × IsFewestFrom (t + length points) (IsPossible points) t least
  fewest_more low s fewest one least above so_far here fewer more =
      elim (cases_lt one fewest) [
        | inl few ↦ (s, above, omega arith, subst (IsFewestFrom (s + length points) (IsPossible points) s) (sym (fewer few)) here)
        | inr many ↦
            let (t, low_enough, before, is) = so_far in
            (t, low_enough, omega arith, subst (IsFewestFrom (t + length points) (IsPossible points) t) (sym (more many)) is)
      ]

  -- some way once round from one of these points has these numbers
  pub record IsWayAmong (low high : ℕ) (best : Best) : Type 0 where
    pub start : ℕ
    pub above : low ≤ start
    pub under : start < high
    pub way : List ℕ
    pub goes : WalksOn (start + length points) (IsPossible points) start way
    pub count : length way ≡ best.count
    pub worth : total_cost (worth_of points) (start ∷ way) ≡ best.worth
    pub list : IsListOf (length points) way best.at.items

  -- no way from one of these points has fewer segments, or as many and counts less, or ties in both and is a lower list
  pub record IsLeastAmong (low high : ℕ) (best : Best) : Type 0 where
    pub fewest : (s : ℕ) (r : List ℕ) → low ≤ s → s < high → WalksOn (s + length points) (IsPossible points) s r
        → best.count ≤ length r
    pub least : (s : ℕ) (r : List ℕ) → low ≤ s → s < high → WalksOn (s + length points) (IsPossible points) s r
        → length r ≡ best.count → best.worth ≤ total_cost (worth_of points) (s ∷ r)
    pub lowest : (s : ℕ) (r at : List ℕ) → low ≤ s → s < high → WalksOn (s + length points) (IsPossible points) s r
        → length r ≡ best.count → total_cost (worth_of points) (s ∷ r) ≡ best.worth → IsListOf (length points) r at
        → ¬ (list_order at best.at.items ≡ Less)

  -- of the points that were looked at it is the best one; or none of so few segments was found
  pub record IsBestSoFar (fewest low high : ℕ) (best : Best) : Type 0 where
    pub found : best.count ≤ fewest → IsWayAmong low high best
    pub least : IsLeastAmong low high best
    pub most : best.count ≤ fewest + 1
    pub nothing : best.count ≡ fewest + 1 → best.worth ≡ 0
    pub no_list : best.count ≡ fewest + 1 → best.at.items ≡ []

  pub so_far_none : (fewest from high : ℕ) (best : Best) → from ≡ high → best.count ≡ fewest + 1 → best.worth ≡ 0
      → best.at.items ≡ [] → IsBestSoFar fewest from high best
  so_far_none fewest from high best here count worth none = record {
    found = λ few. absurd (omega arith);
    least = record {
      fewest = λ s r a b. let no : ⊥ = omega arith in elim no [ ];
      least = λ s r a b. let no : ⊥ = omega arith in elim no [ ];
      lowest = λ s r at a b. let no : ⊥ = omega arith in elim no [ ];
    };
    most = omega arith;
    nothing = λ _. worth;
    no_list = λ _. none;
  }

  module _ (s high : ℕ) (under : s < high) where
    way_on : (best : Best) → IsWayAmong (s + 1) high best → IsWayAmong s high best
    way_on best is = record {
      start = is.start;
      above = omega (arith, is.above);
      under = is.under;
      way = is.way;
      goes = is.goes;
      count = is.count;
      worth = is.worth;
      list = is.list;
    }

    -- no way from this point is better
    record IsNoneHere (best : Best) : Type 0 where
      fewest : (r : List ℕ) → WalksOn (s + length points) (IsPossible points) s r → best.count ≤ length r
      least : (r : List ℕ) → WalksOn (s + length points) (IsPossible points) s r → length r ≡ best.count
          → best.worth ≤ total_cost (worth_of points) (s ∷ r)
      lowest : (r at : List ℕ) → WalksOn (s + length points) (IsPossible points) s r → length r ≡ best.count
          → total_cost (worth_of points) (s ∷ r) ≡ best.worth → IsListOf (length points) r at → ¬ (list_order at best.at.items ≡ Less)

    -- the points behind this one, and this one
    least_on : (best : Best) → IsLeastAmong (s + 1) high best → IsNoneHere best → IsLeastAmong s high best
    least_on best behind here = record {
      fewest = λ t r a b goes. elim (cases_lt s t) [
        | inl later ↦ behind.fewest t r (omega arith) b goes
        | inr at ↦
            let is : t ≡ s = omega arith in
            here.fewest r (subst (λ m. WalksOn (m + length points) (IsPossible points) m r) is goes)
      ];
      least = λ t r a b goes counted. elim (cases_lt s t) [
        | inl later ↦ behind.least t r (omega arith) b goes counted
        | inr at ↦
            let is : t ≡ s = omega arith in
            let less = here.least r (subst (λ m. WalksOn (m + length points) (IsPossible points) m r) is goes) counted in
            omega (arith, ap (λ m. total_cost (worth_of points) (m ∷ r)) is)
      ];
      lowest = λ t r list a b goes counted costs lists. elim (cases_lt s t) [
        | inl later ↦ behind.lowest t r list (omega arith) b goes counted costs lists
        | inr at ↦
            let is : t ≡ s = omega arith in
            here.lowest r list (subst (λ m. WalksOn (m + length points) (IsPossible points) m r) is goes) counted
            (subst (λ m. total_cost (worth_of points) (m ∷ r) ≡ best.worth) is costs) lists
      ];
    }

    module _ (fewest : ℕ) (best : Best) (so_far : IsBestSoFar fewest (s + 1) high best) where
      kept : IsNoneHere best → IsBestSoFar fewest s high best
      kept here = record {
        found = λ few. way_on best (so_far.found few);
        least = least_on best so_far.least here;
        most = so_far.most;
        nothing = so_far.nothing;
        no_list = so_far.no_list;
      }

      -- a point from which there are more segments
      pub so_far_passed : (count : ℕ) → fewest < count → IsFewestFrom (s + length points) (IsPossible points) s count
          → IsBestSoFar fewest s high best
      so_far_passed count more is =
          kept (record {
            fewest = λ r goes. omega (arith, so_far.most, is.none_fewer r goes);
            least = λ r goes counted. omega (arith, so_far.most, is.none_fewer r goes, so_far.nothing (omega (arith, so_far.most, is.none_fewer r goes)));
            lowest = λ r at goes counted costs lists lower.
                (let none = so_far.no_list (omega (arith, so_far.most, is.none_fewer r goes)) in
                not_lower_nothing at (subst (λ (l : List ℕ). list_order at l ≡ Less) none lower));
          })

      taken : (next : Best) → next.count ≤ fewest → IsBestFrom points s next → IsLeastAmong (s + 1) high next
          → IsBestSoFar fewest s high next
      taken next few from behind = record {
        found = λ _. record {
          start = s;
          above = omega arith;
          under = under;
          way = from.way;
          goes = from.goes;
          count = from.count;
          worth = from.worth;
          list = from.list;
        };
        least = least_on next behind (record { fewest = from.fewest; least = from.least; lowest = from.lowest });
        most = omega arith;
        nothing = λ many. absurd (omega arith);
        no_list = λ many. absurd (omega arith);
      }

      -- the better one of two
      module _ (next chosen : Best) (small : next.count ≤ fewest) (from : IsBestFrom points s next) where
        -- the one that was found before has fewer segments, or as many and counts less
        before_better : (next.count ≡ best.count → best.worth < next.worth) → best.count ≤ next.count → IsBestSoFar fewest s high best
        before_better cheap before =
            kept (record {
              fewest = λ r goes. (let least = from.fewest r goes in omega arith);
              least = λ r goes counted. (let few = from.fewest r goes in let least = from.least r goes (omega arith) in omega (arith, cheap (omega arith)));
              lowest = λ r at goes counted costs lists lower.
                  (let few = from.fewest r goes in
                  let least = from.least r goes (omega arith) in
                  omega (arith, cheap (omega arith)));
            })

        -- the next one has, or does
        next_better : (next.count ≡ best.count → next.worth < best.worth) → next.count ≤ best.count → IsBestSoFar fewest s high next
        next_better cheap after =
            taken next small from (record {
              fewest = λ t r a b goes. (let least = so_far.least.fewest t r a b goes in omega arith);
              least = λ t r a b goes counted.
                  (let few = so_far.least.fewest t r a b goes in
                  let least = so_far.least.least t r a b goes (omega arith) in
                  omega (arith, cheap (omega arith)));
              lowest = λ t r at a b goes counted costs lists lower.
                  (let few = so_far.least.fewest t r a b goes in
                  let least = so_far.least.least t r a b goes (omega arith) in
                  omega (arith, cheap (omega arith)));
            })

        -- they tie, and the next one is the lower list
        next_lower : next.count ≡ best.count → next.worth ≡ best.worth → list_order next.at.items best.at.items ≡ Less → IsBestSoFar fewest s high next
        next_lower tied as_dear first =
            taken next small from (record {
              fewest = λ t r a b goes. (let least = so_far.least.fewest t r a b goes in omega arith);
              least = λ t r a b goes counted. (let least = so_far.least.least t r a b goes (omega arith) in omega arith);
              lowest = λ t r at a b goes counted costs lists lower.
                  so_far.least.lowest t r at a b goes (omega arith) (omega arith) lists (lower_chain at next.at.items best.at.items lower first);
            })

        -- they tie, and it isn't
        before_lower : next.count ≡ best.count → next.worth ≡ best.worth → ¬ (list_order next.at.items best.at.items ≡ Less) → IsBestSoFar fewest s high best
        before_lower tied as_dear not_first =
            kept (record {
              fewest = λ r goes. (let least = from.fewest r goes in omega arith);
              least = λ r goes counted. (let least = from.least r goes (omega arith) in omega arith);
              lowest = λ r at goes counted costs lists.
                  not_lower_chain at next.at.items best.at.items (from.lowest r at goes (omega arith) (omega arith) lists) not_first;
            })

        -- the lists decide where all else ties
        chosen_by : next.count ≡ best.count → next.worth ≡ best.worth
            → (list_order next.at.items best.at.items ≡ Less → chosen ≡ next) → (¬ (list_order next.at.items best.at.items ≡ Less) → chosen ≡ best)
            → (r : Ordering) → list_order next.at.items best.at.items ≡ r → IsBestSoFar fewest s high chosen
        chosen_by tied as_dear first kept Less is = subst (IsBestSoFar fewest s high) (sym (first is)) (next_lower tied as_dear is)
        chosen_by tied as_dear first kept Equal is =
            let not_first : ¬ (list_order next.at.items best.at.items ≡ Less) = λ lower. (let both = sym is ∙ lower in cc) in
            subst (IsBestSoFar fewest s high) (sym (kept not_first)) (before_lower tied as_dear not_first)
        chosen_by tied as_dear first kept Greater is =
            let not_first : ¬ (list_order next.at.items best.at.items ≡ Less) = λ lower. (let both = sym is ∙ lower in cc) in
            subst (IsBestSoFar fewest s high) (sym (kept not_first)) (before_lower tied as_dear not_first)

        pub so_far_better : (next.count < best.count → chosen ≡ next)
            → (best.count < next.count → chosen ≡ best)
            → (next.count ≡ best.count → next.worth < best.worth → chosen ≡ next)
            → (next.count ≡ best.count → best.worth < next.worth → chosen ≡ best)
            → (next.count ≡ best.count → next.worth ≡ best.worth → list_order next.at.items best.at.items ≡ Less → chosen ≡ next)
            → (next.count ≡ best.count → next.worth ≡ best.worth → ¬ (list_order next.at.items best.at.items ≡ Less) → chosen ≡ best)
            → IsBestSoFar fewest s high chosen
        so_far_better fewer more lower higher first kept =
            elim (cases_lt next.count best.count) [
              | inl few ↦ subst (IsBestSoFar fewest s high) (sym (fewer few)) (next_better (λ tied. absurd (omega arith)) (omega arith))
              | inr not_fewer ↦ elim (cases_lt best.count next.count) [
                | inl many ↦ subst (IsBestSoFar fewest s high) (sym (more many)) (before_better (λ tied. absurd (omega arith)) (omega arith))
                | inr not_more ↦
                    let tied : next.count ≡ best.count = omega arith in
                    elim (cases_lt next.worth best.worth) [
                      | inl cheap ↦ subst (IsBestSoFar fewest s high) (sym (lower tied cheap)) (next_better (λ _. cheap) (omega arith))
                      | inr not_cheap ↦ elim (cases_lt best.worth next.worth) [
                        | inl dear ↦ subst (IsBestSoFar fewest s high) (sym (higher tied dear)) (before_better (λ _. dear) (omega arith))
                        | inr not_dear ↦
                            let as_dear : next.worth ≡ best.worth = omega arith in
                            chosen_by tied as_dear (first tied as_dear) (kept tied as_dear) (list_order next.at.items best.at.items) refl
                      ]
                    ]
              ]
            ]

  -- in the end one was found
  pub best_found_among : (fewest low high : ℕ) (best : Best) → IsBestSoFar fewest low high best
      → (s : ℕ) → low ≤ s → s < high → IsFewestFrom (s + length points) (IsPossible points) s fewest
      → IsBestAmong points low high best
  best_found_among fewest low high best so_far s above under is =
      let few = so_far.least.fewest s is.rest above under is.goes_on in
      let found = so_far.found (omega (arith, is.count)) in
      record {
        start = found.start;
        above = found.above;
        under = found.under;
        way = found.way;
        goes = found.goes;
        count = found.count;
        worth = found.worth;
        list = found.list;
        fewest = so_far.least.fewest;
        least = so_far.least.least;
        lowest = so_far.least.lowest;
      }
