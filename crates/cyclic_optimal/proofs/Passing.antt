-- What one start's fronts tell of another start's.
use Rattle.std.proofs.Common.{◌≡◌, ℕ, ◌+◌, ◌-◌, ◌*◌, ◌^◌, ◌<◌, ◌≤◌, List, [], ◌∷◌, length, sym, subst, inl, inr, arith}
use Rattle.std.proofs.lemmas.Bool.{cases_lt}
use Rattle.std.specs.Prelude.{slice_index}
use Rattle.pt_core.specs.OnPage.{AreOnPage}
use Rattle.pt_core.specs.declared.point.Point.{Point}
use Rattle.straight_paths.specs.Straight.{IsPossible}
use Rattle.straight_paths.proofs.Far.{shorter_possible}
use Rattle.least_walk.specs.LeastWalk.{total_cost}
use Rattle.least_walk.specs.Inner.Suffix.{WalksOn}
use Rattle.least_walk.proofs.Going.{goes_below, total_cost-cons}
use Rattle.cyclic_optimal.specs.Inner.Fronts.{IsFrontOf, IsLeastBy, IsMoved, IsMovedTo, worth_of}
use Rattle.cyclic_optimal.specs.declared.fronts.Front.{Front}
use Rattle.cyclic_optimal.specs.declared.fronts.TheConstants.{MOST, NONE}
use Rattle.cyclic_optimal.proofs.Worth.{worth_most}

-- a way of no segments is at its end
at_end : (points : List Point) (e i : ℕ) (r : List ℕ) → WalksOn e (IsPossible points) i r → length r ≡ 0 → i ≡ e
at_end points e i [] goes none = goes
at_end points e i (j ∷ r) goes none = absurd (omega arith)

-- a front that is another one moved, and the front before the other one
pub record AreToldOn (points : List Point) (top : ℕ) (later other before : Front) : Type 0 where
  pub is_later : IsFrontOf points later
  pub is_other : IsFrontOf points other
  pub is_before : IsFrontOf points before
  pub moved : IsMoved later other
  pub ends : before.end ≡ other.end
  pub lefts : before.left ≡ other.left + 1
  pub early : top < later.end
  pub low : before.low ≤ top
  pub high : top < before.low + length before.least.items
  pub few : later.low + length later.least.items ≤ 2 ^ 33
  pub reached : (i j : ℕ) → i ≤ top → IsPossible points i j → j ≤ later.end → j < later.low + length later.least.items

module _ (points : List Point) (on_page : AreOnPage points) (top : ℕ) (later other before : Front) (is : AreToldOn points top later other before) where
  -- what the least ways from a point count, to the one end and to the other
  abbrev here : ℕ → ℕ
  here j = slice_index later.least.items (j - later.low)

  abbrev there : ℕ → ℕ
  there j = slice_index other.least.items (j - later.low)

  abbrev more : ℕ
  more = slice_index later.least.items 0

  abbrev less : ℕ
  less = slice_index other.least.items 0

  record IsIn (j : ℕ) : Type 0 where
    above : later.low ≤ j
    under : j < later.low + length later.least.items

  at_other : (j : ℕ) → IsIn j → IsLeastBy points other.end other.left j (there j)
  at_other j within =
      let P : ℕ → Type 0 = λ n. IsLeastBy points other.end other.left j (slice_index other.least.items (j - n)) in
      subst P (sym is.moved.low) (is.is_other.each j (omega (arith, is.moved.low, within.above)) (omega (arith, is.moved.low, is.moved.most, within.under)))

  -- a way to this end passes the front
  in_here : (i j : ℕ) (r : List ℕ) → i ≤ top → IsPossible points i j → WalksOn later.end (IsPossible points) j r → length r ≡ later.left → IsIn j
  in_here i j r order possible goes counted =
      let room = goes_below later.end (IsPossible points) j r goes in
      record {
        above = elim (cases_lt j later.low) [
          | inl early ↦ absurd (is.is_later.below j r early goes counted)
          | inr late ↦ late
        ];
        under = is.reached i j order possible (omega arith);
      }

  -- the end itself is a front of no segments, and so is the other end
  not_past : (i j : ℕ) → i ≤ top → IsPossible points i j → j ≤ other.end → later.end < j → ⊥
  not_past i j order possible room past =
      let first = is.moved.each 0 (omega (arith, is.moved.some)) in
      let z : later.low - later.low ≡ 0 = omega arith in
      let P : ℕ → Type 0 = λ n. IsLeastBy points later.end later.left later.low (slice_index later.least.items n) in
      let low = subst P z (is.is_later.each later.low (omega arith) (omega (arith, is.moved.some))) in
      let (r, goes, counted, costs) = low.some (omega (arith, first.0)) in
      let begins = goes_below later.end (IsPossible points) later.low r goes in
      let shorter = shorter_possible points i later.end j possible (omega (arith, is.early)) (omega arith) in
      let within : IsIn later.end = record { above = omega arith; under = is.reached i later.end order shorter (omega arith) } in
      let (small, small_other, same) = is.moved.each (later.end - later.low) (omega (arith, within.above, within.under)) in
      let (s, ends, counted_on, pays) = (is.is_later.each later.end within.above within.under).some (omega arith) in
      let none = goes_below later.end (IsPossible points) later.end s ends in
      let (t, ends_other, counted_other, pays_other) = (at_other later.end within).some (omega arith) in
      let one = at_end points other.end later.end t ends_other (omega (arith, is.moved.left)) in
      omega arith

  -- and so does a way to the other end
  in_there : (i j : ℕ) (r : List ℕ) → i ≤ top → IsPossible points i j → WalksOn other.end (IsPossible points) j r → length r ≡ other.left → IsIn j
  in_there i j r order possible goes counted =
      let room = goes_below other.end (IsPossible points) j r goes in
      record {
        above = elim (cases_lt j later.low) [
          | inl early ↦ absurd (is.is_other.below j r (omega (arith, is.moved.low)) goes counted)
          | inr late ↦ late
        ];
        under = elim (cases_lt later.end j) [
          | inl past ↦ absurd (not_past i j order possible (omega arith) past)
          | inr near ↦ is.reached i j order possible near
        ];
      }

  -- a segment to the front, and a way on to the other end
  way_on : (i j : ℕ) → IsPossible points i j → IsIn j → (r : List ℕ) × WalksOn before.end (IsPossible points) i r × (length r ≡ before.left)
      × (total_cost (worth_of points) (i ∷ r) ≡ worth_of points i j + there j)
  way_on i j possible within =
      let (small, small_other, same) = is.moved.each (j - later.low) (omega (arith, within.above, within.under)) in
      let (r, goes, counted, costs) = (at_other j within).some (omega arith) in
      let P : ℕ → Type 0 = λ e. WalksOn e (IsPossible points) j r in (
        j ∷ r,
        (possible.rises, possible, subst P (sym is.ends) goes),
        omega (arith, is.lefts),
        omega (arith, total_cost-cons (worth_of points) i j r),
      )

  -- a point whose ways to the other end are known
  module _ (i least value : ℕ) (order : i ≤ top) (by : IsLeastBy points before.end before.left i least) (to : IsMovedTo more less least value) where
    no_more : (j : ℕ) → IsPossible points i j → IsIn j → least ≤ worth_of points i j + there j
    no_more j possible within = let (r, goes, counted, costs) = way_on i j possible within in omega (arith, by.bound r goes counted)

    -- a way to the other end, turned to this one
    record IsTurned : Type 0 where
      way : List ℕ
      goes : WalksOn later.end (IsPossible points) i way
      counted : length way ≡ later.left + 1
      costs : total_cost (worth_of points) (i ∷ way) + less ≡ least + more
      enough : less ≤ least + more

    turned_by : (r : List ℕ) → WalksOn before.end (IsPossible points) i r → length r ≡ before.left → total_cost (worth_of points) (i ∷ r) ≡ least → IsTurned
    turned_by [] goes counted costs = absurd (omega (arith, is.lefts))
    turned_by (j ∷ r) goes counted costs =
        let P : ℕ → Type 0 = λ e. WalksOn e (IsPossible points) j r in
        let on = subst P is.ends goes.2 in
        let tally : length r ≡ other.left = omega (arith, is.lefts) in
        let within = in_there i j r order goes.1 on tally in
        let (small, small_other, same) = is.moved.each (j - later.low) (omega (arith, within.above, within.under)) in
        let most = (at_other j within).bound r on tally in
        let (s, ends, counted_on, pays) = (is.is_later.each j within.above within.under).some (omega arith) in
        let first = total_cost-cons (worth_of points) i j r in
        let first_on = total_cost-cons (worth_of points) i j s in
        let bound = no_more j goes.1 within in
        record {
          way = j ∷ s;
          goes = (goes.0, goes.1, ends);
          counted = omega arith;
          costs = omega arith;
          enough = omega arith;
        }

    turned : least < NONE → IsTurned
    turned small = let (r, goes, counted, costs) = by.some small in turned_by r goes counted costs

    bound : (r : List ℕ) → WalksOn later.end (IsPossible points) i r → length r ≡ later.left + 1 → value ≤ total_cost (worth_of points) (i ∷ r)
    bound [] goes counted = absurd (omega arith)
    bound (j ∷ r) goes counted =
        let tally : length r ≡ later.left = omega arith in
        let within = in_here i j r order goes.1 goes.2 tally in
        let (small, small_other, same) = is.moved.each (j - later.low) (omega (arith, within.above, within.under)) in
        let rest = (is.is_later.each j within.above within.under).bound r goes.2 tally in
        let most = no_more j goes.1 within in
        let first = total_cost-cons (worth_of points) i j r in
        elim (cases_lt least (2 * MOST)) [
          | inl told ↦ let t = turned (omega arith) in omega (arith, to.told told t.enough)
          | inr dear ↦ absurd (omega (arith, worth_most points on_page i j (omega (arith, within.under, is.few))))
        ]

    told_by : IsLeastBy points later.end (later.left + 1) i value
    told_by = record {
      bound = bound;
      some = λ below. elim (cases_lt least (2 * MOST)) [
        | inl told ↦
            let t = turned (omega arith) in
            (t.way, t.goes, t.counted, omega (arith, t.costs, to.told told t.enough))
        | inr dear ↦ absurd (omega (arith, to.none dear))
      ];
    }

  -- so the points of the front before are told
  module _ (front : Front) (end : front.end ≡ later.end) (left : front.left ≡ later.left + 1) (low : front.low ≡ before.low)
      (size : front.low + length front.least.items ≡ top + 1)
      (each : (k : ℕ) → k < length front.least.items → IsMovedTo more less (slice_index before.least.items k) (slice_index front.least.items k)) where
    below : (i : ℕ) (r : List ℕ) → i < before.low → WalksOn later.end (IsPossible points) i r → length r ≡ later.left + 1 → ⊥
    below i [] early goes counted = omega arith
    below i (j ∷ r) early goes counted =
        let within = in_here i j r (omega (arith, is.low)) goes.1 goes.2 (omega arith) in
        let (s, on, tally, costs) = way_on i j goes.1 within in
        is.is_before.below i s early on tally

    at_front : (i : ℕ) → front.low ≤ i → i < front.low + length front.least.items
        → IsLeastBy points later.end (later.left + 1) i (slice_index front.least.items (i - front.low))
    at_front i above under =
        let P : ℕ → Type 0 = λ n. IsMovedTo more less (slice_index before.least.items (i - n)) (slice_index front.least.items (i - front.low)) in
        told_by i (slice_index before.least.items (i - before.low)) (slice_index front.least.items (i - front.low)) (omega arith)
        (is.is_before.each i (omega arith) (omega (arith, is.high))) (subst P low (each (i - front.low) (omega arith)))

    pub front_told : IsFrontOf points front
    front_told = record {
      each = λ i above under.
          (let v = slice_index front.least.items (i - front.low) in
          let P : ℕ → Type 0 = λ e. IsLeastBy points e front.left i v in
          let Q : ℕ → Type 0 = λ n. IsLeastBy points later.end n i v in
          subst P (sym end) (subst Q (sym left) (at_front i above under)));
      below = λ i r early goes counted.
          (let P : ℕ → Type 0 = λ e. WalksOn e (IsPossible points) i r in
          below i r (omega arith) (subst P end goes) (omega arith));
    }
