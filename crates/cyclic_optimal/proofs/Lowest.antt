-- The lowest list of the least ways once round from a point.
use Rattle.std.proofs.Common.{◌≡◌, ℕ, ◌+◌, ◌-◌, ◌*◌, ◌^◌, ◌<◌, ◌≤◌, List, [], ◌∷◌, ◌++◌, get_or, length, length-append, append_assoc, refl, ap, sym, ◌∙◌, subst, inl, inr, arith}
use Rattle.std.specs.Prelude.{slice_index}
use Rattle.std.specs.declared.cmp.Ordering.TheVariants.{Less}
use Rattle.std.proofs.lemmas.Bool.{cases_lt}
use Rattle.std.proofs.lemmas.List.{append-nil, length-map}
use Rattle.pt_core.specs.declared.point.Point.{Point}
use Rattle.straight_paths.specs.Straight.{IsPossible}
use Rattle.least_walk.specs.LeastWalk.{total_cost}
use Rattle.least_walk.specs.Inner.Suffix.{WalksOn}
use Rattle.least_walk.proofs.Before.{slice_cmp-cons}
use Rattle.least_walk.proofs.Going.{goes_below, total_cost-cons}
use Rattle.polygon_search.specs.Polygon.{penalty_of}
use Rattle.cyclic_optimal.specs.Inner.Fronts.{AreFrontsOf, AreTops, IsFirstOnward, IsFirstWay, IsFrontAt, IsLeastBy, IsListOf, worth_of}
use Rattle.cyclic_optimal.specs.declared.fronts.Front.{Front}
use Rattle.cyclic_optimal.specs.declared.fronts.Onward.{Onward}
use Rattle.cyclic_optimal.specs.declared.fronts.TheConstants.{NONE}
use Rattle.cyclic_optimal.proofs.Lists.{cons_above, lists_moved, lower_behind, lower_first, not_lower_both, one_list, list_order}
use Rattle.cyclic_optimal.proofs.Rounds.{FromRound, from_round}
use Rattle.cyclic_optimal.proofs.Ways.{cost_both, goes_both, on_by}
use Rattle.cyclic_optimal.proofs.Worth.{worth_round}

module _ (points : List Point) where
  -- no list of as many is lower than the one of nothing
  pub way_none : (end i rest : ℕ) → IsLeastBy points end 0 i rest → rest < NONE → IsFirstWay points end 0 i rest []
  way_none end i rest by small =
      let (r, goes, counted, costs) = by.some small in
      at r goes counted costs where
        lowest : (r : List ℕ) → length r ≡ 0 → ¬ (list_order r [] ≡ Less)
        lowest [] counted lower = let no = lower in cc
        lowest (j ∷ r) counted lower = omega arith

        at : (r : List ℕ) → WalksOn end (IsPossible points) i r → length r ≡ 0 → total_cost (worth_of points) (i ∷ r) ≡ rest → IsFirstWay points end 0 i rest []
        at [] goes counted costs = record { goes = goes; counted = refl; costs = costs; lowest = λ r goes counted costs. lowest r counted }
        at (j ∷ r) goes counted costs = absurd (omega arith)

  -- the shortest segment, and the lowest list from there
  pub way_more : (end left i rest : ℕ) (onward : Onward) → IsFirstOnward points end left i rest onward → (way : List ℕ)
      → IsFirstWay points end left onward.next onward.least way → IsFirstWay points end (left + 1) i rest (onward.next ∷ way)
  way_more end left i rest onward first way is = record {
    goes = (first.possible.rises, first.possible, is.goes);
    counted = omega (arith, is.counted);
    costs = omega (arith, total_cost-cons (worth_of points) i onward.next way, is.costs, first.sum);
    lowest = lowest;
  } where
    lowest : (r : List ℕ) → WalksOn end (IsPossible points) i r → length r ≡ left + 1 → total_cost (worth_of points) (i ∷ r) ≡ rest
        → ¬ (list_order r (onward.next ∷ way) ≡ Less)
    lowest [] goes counted costs lower = omega arith
    lowest (j ∷ r) goes counted costs lower =
        elim (cases_lt j onward.next) [
          | inl shorter ↦ omega (arith, first.before j r shorter goes.1 goes.2 (omega arith))
          | inr not_shorter ↦ elim (cases_lt onward.next j) [
            | inl longer ↦ absurd (let high = cons_above j onward.next r way longer in cc)
            | inr not_longer ↦
                let e : j ≡ onward.next = omega arith in
                let pays = total_cost-cons (worth_of points) i j r in
                let P : ℕ → Type 0 = λ m. WalksOn end (IsPossible points) m r in
                let Q : ℕ → Type 0 = λ m. list_order (m ∷ r) (onward.next ∷ way) ≡ Less in
                is.lowest r (subst P e goes.2) (omega arith)
                (omega (arith, first.sum, ap (worth_of points i) e, ap (λ m. total_cost (worth_of points) (m ∷ r)) e))
                (sym (slice_cmp-cons onward.next r way) ∙ subst Q e lower)
          ]
        ]

-- the farthest points bound where ways to the end lead
pub leads_to : (points : List Point) (start end count : ℕ) (tops : List ℕ) → AreTops points start end count tops
    → (c i : ℕ) (way : List ℕ) (j : ℕ) → i ≤ slice_index tops c → WalksOn j (IsPossible points) i way → j ≤ end → c + length way ≤ count
    → j ≤ slice_index tops (c + length way)
leads_to points start end count tops are c i [] j order goes within few =
    let e : c ≡ c + 0 = omega arith in
    omega (arith, ap (slice_index tops) e)
leads_to points start end count tops are c i (k ∷ way) j order goes within few =
    let e : c + 1 + length way ≡ c + length (k ∷ way) = omega arith in
    let room = goes_below j (IsPossible points) k way goes.2 in
    let far = leads_to points start end count tops are (c + 1) k way j (are.onwards c i k (omega arith) order goes.1 (omega arith)) goes.2 within (omega arith) in
    omega (arith, ap (slice_index tops) e)

-- a way so far: whatever the lowest list from its last point is, both together are the lowest one from its start
pub record IsSoFar (points : List Point) (end count start worth left at rest : ℕ) (way : List ℕ) : Type 0 where
  pub goes : WalksOn at (IsPossible points) start way
  pub tally : length way + left ≡ count
  pub least : IsLeastBy points end left at rest
  pub small : rest < NONE
  pub begun : (r : List ℕ) → IsFirstWay points end left at rest r → IsFirstWay points end count start worth (way ++ r)

pub so_far_none : (points : List Point) (end count start worth : ℕ) → IsLeastBy points end count start worth → worth < NONE
    → IsSoFar points end count start worth count start worth []
so_far_none points end count start worth least small = record {
  goes = refl;
  tally = omega arith;
  least = least;
  small = small;
  begun = λ r is. is;
}

-- at the end it is the whole one
pub so_far_all : (points : List Point) (end count start worth at rest : ℕ) (way : List ℕ)
    → IsSoFar points end count start worth 0 at rest way → IsFirstWay points end count start worth way
so_far_all points end count start worth at rest way so_far =
    subst (IsFirstWay points end count start worth) (append-nil way)
    (so_far.begun [] (way_none points end at rest so_far.least so_far.small))

-- by one of the fronts to the next one
module _ (points : List Point) (start worth : ℕ) (fronts : List Front) (are : AreFrontsOf points start (start + length points) fronts)
    (left at rest : ℕ) (way : List ℕ)
    (so_far : IsSoFar points (start + length points) (length fronts - 1) start worth (left + 1) at rest way)
    (front : Front) (is : front ≡ get_or fronts left front) where
  pub front_at : IsFrontAt points (start + length points) (slice_index are.tops (length fronts - 1 - left)) left front
  front_at =
      subst (IsFrontAt points (start + length points) (slice_index are.tops (length fronts - 1 - left)) left) (sym is)
      (are.each left front (omega (arith, so_far.tally)))

  pub rest_by : IsLeastBy points front.end (front.left + 1) at rest
  rest_by =
      let e : left + 1 ≡ front.left + 1 = omega (arith, front_at.count) in
      let P : ℕ → Type 0 = λ e. IsLeastBy points e (front.left + 1) at rest in
      let Q : ℕ → Type 0 = λ n. IsLeastBy points (start + length points) n at rest in
      subst P (sym front_at.ends) (subst Q e so_far.least)

  pub before_end : at < start + length points
  before_end =
      let (r, goes, counted, costs) = so_far.least.some so_far.small in
      let room = goes_below (start + length points) (IsPossible points) at r goes in
      omega arith

  pub reached : (j : ℕ) → IsPossible points at j → j ≤ front.end → j < front.low + length front.least.items
  reached j possible within =
      let end : ℕ = start + length points in
      let c : ℕ = 0 + length way in
      let here = leads_to points start end (length fronts - 1) are.tops are.are 0 start way at (omega (arith, are.are.first)) so_far.goes
      (omega (arith, before_end)) (omega (arith, so_far.tally)) in
      let far = are.are.onwards c at j (omega (arith, so_far.tally)) here possible (omega (arith, front_at.ends)) in
      let place : c + 1 ≡ length fronts - 1 - left = omega (arith, so_far.tally) in
      omega (arith, front_at.above, ap (slice_index are.tops) place)

  pub so_far_more : (onward : Onward) → IsFirstOnward points front.end front.left at rest onward
      → IsSoFar points (start + length points) (length fronts - 1) start worth left onward.next onward.least (way ++ onward.next ∷ [])
  so_far_more onward first =
      let end : ℕ = start + length points in
      let P : ℕ → Type 0 = λ e. IsFirstOnward points e front.left at rest onward in
      let Q : ℕ → Type 0 = λ n. IsFirstOnward points end n at rest onward in
      let here : IsFirstOnward points end left at rest onward = subst Q front_at.count (subst P front_at.ends first) in
      record {
        goes = goes_both (IsPossible points) onward.next at start way (onward.next ∷ []) so_far.goes (here.possible.rises, here.possible, refl);
        tally = omega (arith, so_far.tally, length-append way (onward.next ∷ []));
        least = here.least;
        small = omega (arith, here.sum, so_far.small);
        begun = λ r is.
            subst (IsFirstWay points end (length fronts - 1) start worth) (sym (append_assoc way (onward.next ∷ []) r))
            (so_far.begun (onward.next ∷ r) (way_more points end left at rest onward here r is));
      }

-- it is the lowest list from the first point past the path's end on, too
module _ (points : List Point) (s count worth : ℕ) (low : s < length points) (few : length points ≤ 2 ^ 31)
    (fewest : (r : List ℕ) → WalksOn (s + length points) (IsPossible points) s r → count ≤ length r)
    (least : (r : List ℕ) → WalksOn (s + length points) (IsPossible points) s r → length r ≡ count → worth ≤ total_cost (worth_of points) (s ∷ r))
    (way at : List ℕ) (first : IsFirstWay points (s + length points) count s worth way) (list : IsListOf (length points) way at) where
  abbrev n : ℕ
  n = length points

  abbrev end : ℕ
  end = s + length points

  abbrev cost : List ℕ → ℕ
  cost = total_cost (worth_of points)

  -- where a way of so many segments that counts so much passes the path's end
  record Passes (r : List ℕ) : Type 0 where
    round : FromRound points s r
    tally : length r ≡ count
    costs : cost (s ∷ r) ≡ worth
    past : ℕ
    past_is : worth ≡ total_cost (penalty_of points) (s ∷ r) * 2 ^ 32 + past
    small : past < 2 ^ 32
    at_is : round.crosses.at ≡ past + n
    parts : r ≡ (round.crosses.before ++ round.crosses.at ∷ []) ++ round.crosses.after

  passes : (r : List ℕ) → WalksOn end (IsPossible points) s r → length r ≡ count → cost (s ∷ r) ≡ worth → Passes r
  passes r goes tally costs =
      let round = from_round points s r low goes in
      let c = round.crosses in
      let room = goes_below end (IsPossible points) c.at c.after c.goes in
      record {
        round = round;
        tally = tally;
        costs = costs;
        past = c.at - n;
        past_is = omega (
          arith,
          worth_round points end s c.before c.at c.after low c.below c.above c.goes,
          ap (λ l. total_cost (worth_of points) (s ∷ l)) c.is,
          ap (λ l. total_cost (penalty_of points) (s ∷ l)) c.is,
        );
        small = omega arith;
        at_is = omega (arith, c.above);
        parts = c.is ∙ sym (append_assoc c.before (c.at ∷ []) c.after);
      }

  one_past : (r t : List ℕ) (a : Passes r) (b : Passes t) → a.round.crosses.at ≡ b.round.crosses.at
  one_past r t a b = omega (arith, a.at_is, b.at_is, a.past_is, b.past_is, a.small, b.small)

  here : Passes way
  here = passes way first.goes first.counted first.costs

  pub lowest_list : (r other : List ℕ) → WalksOn end (IsPossible points) s r → length r ≡ count → cost (s ∷ r) ≡ worth → IsListOf n r other
      → ¬ (list_order other at ≡ Less)
  lowest_list r other goes tally costs lists = apart (passes r goes tally costs) where
    apart : Passes r → ¬ (list_order other at ≡ Less)
    apart there =
        let a = here.round.crosses in
        let b = there.round.crosses in
        let v = a.at in
        let same : b.at ≡ v = one_past r way there here in
        let fore : List ℕ = a.before ++ v ∷ [] in
        let fore_there : List ℕ = b.before ++ v ∷ [] in
        let parts : way ≡ fore ++ a.after = here.parts in
        let P : ℕ → Type 0 = λ m. r ≡ (b.before ++ m ∷ []) ++ b.after in
        let parts_there : r ≡ fore_there ++ b.after = subst P same there.parts in
        let Q : ℕ → Type 0 = λ m. WalksOn m (IsPossible points) s (b.before ++ m ∷ []) in
        let comes_there : WalksOn v (IsPossible points) s fore_there = subst Q same b.comes in
        let R : ℕ → Type 0 = λ m. WalksOn end (IsPossible points) m b.after in
        let goes_there : WalksOn end (IsPossible points) v b.after = subst R same b.goes in
        let one = goes_both (IsPossible points) end v s fore b.after a.comes goes_there in
        let two = goes_both (IsPossible points) end v s fore_there a.after comes_there a.goes in
        let size = length-append fore a.after in
        let size_there = length-append fore_there b.after in
        let size_one = length-append fore b.after in
        let size_two = length-append fore_there a.after in
        let few_one = fewest (fore ++ b.after) one in
        let few_two = fewest (fore_there ++ a.after) two in
        let long : length fore_there ≡ length fore = omega (arith, ap length parts, ap length parts_there, here.tally, there.tally) in
        let count_one : length (fore ++ b.after) ≡ count = omega (arith, ap length parts, ap length parts_there, here.tally, there.tally) in
        let count_two : length (fore_there ++ a.after) ≡ count = omega (arith, ap length parts, here.tally) in
        let least_one = least (fore ++ b.after) one count_one in
        let least_two = least (fore_there ++ a.after) two count_two in
        let cost_here = cost_both (IsPossible points) (worth_of points) v s fore a.after a.comes in
        let cost_there = cost_both (IsPossible points) (worth_of points) v s fore_there b.after comes_there in
        let cost_one = cost_both (IsPossible points) (worth_of points) v s fore b.after a.comes in
        let cost_two = cost_both (IsPossible points) (worth_of points) v s fore_there a.after comes_there in
        let pays = ap (λ l. total_cost (worth_of points) (s ∷ l)) parts in
        let pays_there = ap (λ l. total_cost (worth_of points) (s ∷ l)) parts_there in
        let pays_one : cost (s ∷ fore ++ b.after) ≡ worth = omega (arith, here.costs, there.costs) in
        let pays_two : cost (s ∷ fore_there ++ a.after) ≡ worth = omega (arith, here.costs, there.costs) in
        let S : List ℕ → Type 0 = λ l. ¬ (list_order (fore ++ b.after) l ≡ Less) in
        let T : List ℕ → Type 0 = λ l. ¬ (list_order (fore_there ++ a.after) l ≡ Less) in
        let not_one = subst S parts (first.lowest (fore ++ b.after) one count_one pays_one) in
        let not_two = subst T parts (first.lowest (fore_there ++ a.after) two count_two pays_two) in
        let not_behind : ¬ (list_order b.after a.after ≡ Less) = λ lower. not_one (lower_behind fore b.after a.after lower) in
        let not_fore : ¬ (list_order fore_there fore ≡ Less) = λ lower. not_two (lower_first fore_there fore a.after a.after long lower) in
        let long_before : length b.before ≡ length a.before = omega (arith, length-append a.before (v ∷ []), length-append b.before (v ∷ [])) in
        let not_before : ¬ (list_order b.before a.before ≡ Less) = λ lower. not_fore (lower_first b.before a.before (v ∷ []) (v ∷ []) long_before lower) in
        let f = here.round.list in
        let g = there.round.list in
        let at_here : at ≡ f.behind ++ a.before
        = one_list n way at ((here.round.crosses.at - n) ∷ here.round.others) list f ∙ f.list ∙ ap (λ (l : List ℕ). f.behind ++ l) here.round.splits.0 in
        let at_there : other ≡ g.behind ++ b.before
        = one_list n r other ((there.round.crosses.at - n) ∷ there.round.others) lists g ∙ g.list ∙ ap (λ (l : List ℕ). g.behind ++ l) there.round.splits.0 in
        let order : list_order g.behind f.behind ≡ list_order b.after a.after
        = sym (lists_moved n g.behind f.behind)
        ∙ ap (λ l. list_order l (on_by n f.behind)) there.round.splits.1
        ∙ ap (list_order (b.at ∷ b.after)) here.round.splits.1
        ∙ ap (λ m. list_order (m ∷ b.after) (v ∷ a.after)) same
        ∙ slice_cmp-cons v b.after a.after in
        let long_behind : length g.behind ≡ length f.behind
        = omega (
          arith,
          length-map g.behind (λ k. k + n),
          length-map f.behind (λ k. k + n),
          ap length there.round.splits.1,
          ap length here.round.splits.1,
          ap length parts,
          ap length parts_there,
          here.tally,
          there.tally,
        ) in
        let whole = not_lower_both g.behind f.behind b.before a.before long_behind (λ lower. not_behind (sym order ∙ lower)) not_before in
        λ lower. whole (ap (λ l. list_order l (f.behind ++ a.before)) (sym at_there) ∙ ap (list_order other) (sym at_here) ∙ lower)
