-- Fronts, one by one from the end.
use Rattle.std.proofs.Common.{◌≡◌, ℕ, ◌+◌, ◌-◌, ◌^◌, ◌<◌, ◌≤◌, List, [], ◌∷◌, ◌++◌, get_or, length, length-append, ap, sym, ◌∙◌, subst, inl, inr, arith}
use Rattle.std.proofs.Math.ListN.{get_or-append}
use Rattle.std.proofs.Math.Seq.{get_or-append_seam}
use Rattle.std.proofs.lemmas.Bool.{cases_eq, cases_lt}
use Rattle.std.specs.Prelude.{slice_index}
use Rattle.pt_core.specs.declared.point.Point.{Point}
use Rattle.straight_paths.specs.Straight.{IsPossible}
use Rattle.least_walk.specs.LeastWalk.{total_cost}
use Rattle.least_walk.specs.Inner.Suffix.{WalksOn}
use Rattle.least_walk.proofs.Going.{fewest_below, goes_below, total_cost-cons}
use Rattle.pt_core.specs.OnPage.{AreOnPage}
use Rattle.cyclic_optimal.specs.Inner.Fronts.{AreFrontsOf, IsFrontAt, IsFrontOf, IsLeastBy, IsLeastVia, worth_of}
use Rattle.cyclic_optimal.specs.declared.fronts.TheConstants.{NONE}
use Rattle.cyclic_optimal.specs.declared.fronts.Front.{Front}
use Rattle.cyclic_optimal.proofs.Worth.{ways_count}

module _ (points : List Point) where
  -- no way has been looked at
  pub via_none : (end count i to : ℕ) → ((j : ℕ) (r : List ℕ) → j < to → IsPossible points i j → WalksOn end (IsPossible points) j r → length r ≡ count → ⊥)
      → IsLeastVia points end count i to NONE
  via_none end count i to nowhere = record {
    bound = λ j r below possible goes counted. absurd (nowhere j r below possible goes counted);
    some = λ below. absurd (omega arith);
  }

  -- before the front's first point, and before the next one
  pub nowhere : (front : Front) (i begin : ℕ) → IsFrontOf points front → ((j : ℕ) → i < j → j < begin → j < front.low)
      → (j : ℕ) (r : List ℕ) → j < begin → IsPossible points i j → WalksOn front.end (IsPossible points) j r → length r ≡ front.left → ⊥
  nowhere front i begin is first j r below possible goes counted = is.below j r (first j possible.rises below) goes counted

  -- a first segment that was tried before all others
  pub via_tried : (end count i to begin rest lower : ℕ)
      → ((j : ℕ) (r : List ℕ) → j < begin → IsPossible points i j → WalksOn end (IsPossible points) j r → length r ≡ count → ⊥)
      → IsPossible points i to → IsLeastBy points end count to rest
      → (worth_of points i to + rest < NONE → lower ≡ worth_of points i to + rest)
      → (NONE ≤ worth_of points i to + rest → lower ≡ NONE)
      → IsLeastVia points end count i begin lower
  via_tried end count i to begin rest lower before possible by taken kept = record {
    bound = λ j r below possible goes counted. absurd (before j r below possible goes counted);
    some = λ below. elim (cases_lt (worth_of points i to + rest) NONE) [
      | inl cheaper ↦
          let is = taken cheaper in
          let (r, goes, counted, costs) = by.some (omega arith) in (
            to ∷ r,
            (possible.rises, possible, goes),
            omega arith,
            omega (arith, total_cost-cons (worth_of points) i to r),
          )
      | inr dear ↦ absurd (omega (arith, kept dear))
    ];
  }

  -- one more first segment
  pub via_more : (end count i to least rest lower : ℕ) → IsPossible points i to → IsLeastBy points end count to rest
      → (worth_of points i to + rest < least → lower ≡ worth_of points i to + rest)
      → (least ≤ worth_of points i to + rest → lower ≡ least)
      → least ≤ NONE
      → IsLeastVia points end count i to least → IsLeastVia points end count i (to + 1) lower
  via_more end count i to least rest lower possible by taken kept few via =
      elim (cases_lt (worth_of points i to + rest) least) [
        | inl cheaper ↦
            let is = taken cheaper in
            record {
              bound = λ j r below possible goes counted. elim (cases_eq j to) [
                | inl here ↦
                    let all = by.bound r (subst (λ m. WalksOn end (IsPossible points) m r) here goes) counted in
                    omega (arith, total_cost-cons (worth_of points) i j r, ap (worth_of points i) here, ap (λ m. total_cost (worth_of points) (m ∷ r)) here)
                | inr other ↦ omega (arith, via.bound j r (omega arith) possible goes counted)
              ];
              some = λ below.
                  (let (r, goes, counted, costs) = by.some (omega arith) in (
                    to ∷ r,
                    (possible.rises, possible, goes),
                    omega arith,
                    omega (arith, total_cost-cons (worth_of points) i to r),
                  ));
            }
        | inr dear ↦
            let is = kept dear in
            record {
              bound = λ j r below possible goes counted. elim (cases_eq j to) [
                | inl here ↦
                    let all = by.bound r (subst (λ m. WalksOn end (IsPossible points) m r) here goes) counted in
                    omega (arith, total_cost-cons (worth_of points) i j r, ap (worth_of points i) here, ap (λ m. total_cost (worth_of points) (m ∷ r)) here)
                | inr other ↦ omega (arith, via.bound j r (omega arith) possible goes counted)
              ];
              some = λ below.
                  (let (r, goes, counted, costs) = via.some (omega arith) in
                  (r, goes, counted, omega arith));
            }
      ]

  -- all first segments
  pub via_all : (end count i to least : ℕ) → ((j : ℕ) → IsPossible points i j → j ≤ end → j < to)
      → IsLeastVia points end count i to least → IsLeastBy points end (count + 1) i least
  via_all end count i to least all via = record {
    bound = over;
    some = via.some;
  } where
    over : (r : List ℕ) → WalksOn end (IsPossible points) i r → length r ≡ count + 1 → least ≤ total_cost (worth_of points) (i ∷ r)
    over [] goes counted = absurd (omega arith)
    over (j ∷ r) goes counted =
        let room = goes_below end (IsPossible points) j r goes.2 in
        via.bound j r (all j goes.1 (omega arith)) goes.1 goes.2 (omega arith)

  -- the front at the end
  pub last_front : (front : Front) → front.low ≡ front.end → front.left ≡ 0 → front.least.items ≡ 0 ∷ [] → IsFrontOf points front
  last_front front low left least = record {
    each = λ i above below. (
        let one : length front.least.items ≡ 1 = ap length least in
        let here : i ≡ front.end = omega arith in
        let at : i - front.low ≡ 0 = omega arith in
        let value : slice_index front.least.items (i - front.low) ≡ 0 = ap (slice_index front.least.items) at ∙ ap (λ l. slice_index l 0) least in
        record {
          bound = λ r goes counted. omega arith;
          some = λ below. ([], here, omega arith, sym value);
        });
    below = under;
  } where
    under : (i : ℕ) (r : List ℕ) → i < front.low → WalksOn front.end (IsPossible points) i r → length r ≡ front.left → ⊥
    under i [] early goes counted = omega arith
    under i (j ∷ r) early goes counted = omega arith

  -- the points of a front that are looked at
  pub record AreEach (end count low to : ℕ) (least : List ℕ) : Type 0 where
    pub size : length least + low ≡ to
    pub each : (i : ℕ) → low ≤ i → i < to → IsLeastBy points end count i (slice_index least (i - low))

  pub each_none : (end count low to : ℕ) (least : List ℕ) → least ≡ [] → to ≡ low → AreEach end count low to least
  each_none end count low to least none at = record {
    size = omega (arith, ap length none);
    each = λ i above below. (let no : ⊥ = omega arith in elim no [ ]);
  }

  pub each_more : (end count low to one : ℕ) (least more : List ℕ) → more ≡ least ++ one ∷ [] → IsLeastBy points end count to one
      → AreEach end count low to least → AreEach end count low (to + 1) more
  each_more end count low to one least more pushed by are =
      subst (AreEach end count low (to + 1)) (sym pushed) (record {
        size = omega (arith, are.size, length-append least (one ∷ []));
        each = λ i above below. elim (cases_lt i to) [
          | inl earlier ↦
              let e : slice_index (least ++ one ∷ []) (i - low) ≡ slice_index least (i - low) = get_or-append least (one ∷ []) 0 (i - low) (omega (arith, are.size)) in
              subst (IsLeastBy points end count i) (sym e) (are.each i above earlier)
          | inr here ↦
              let is : i ≡ to = omega arith in
              let at : i - low ≡ length least = omega (arith, are.size) in
              let e : slice_index (least ++ one ∷ []) (i - low) ≡ one = ap (slice_index (least ++ one ∷ [])) at ∙ get_or-append_seam least one [] 0 in
              let P : ℕ → Type 0 = λ m. IsLeastBy points end count m (slice_index (least ++ one ∷ []) (i - low)) in
              subst P (sym is) (subst (IsLeastBy points end count to) (sym e) by)
        ];
      })

  -- one front earlier
  pub front_earlier : (later front : Front) (to : ℕ) → IsFrontOf points later → front.end ≡ later.end → front.left ≡ later.left + 1
      → AreEach later.end (later.left + 1) front.low to front.least.items
      → ((i j : ℕ) → i < front.low → IsPossible points i j → j < later.low)
      → IsFrontOf points front
  front_earlier later front to is same_end one_more are short = record {
    each = λ i above below.
        (let P : ℕ → Type 0 = λ e. IsLeastBy points e front.left i (slice_index front.least.items (i - front.low)) in
        let Q : ℕ → Type 0 = λ n. IsLeastBy points later.end n i (slice_index front.least.items (i - front.low)) in
        subst P (sym same_end) (subst Q (sym one_more) (are.each i above (omega (arith, are.size)))));
    below = under;
  } where
    under : (i : ℕ) (r : List ℕ) → i < front.low → WalksOn front.end (IsPossible points) i r → length r ≡ front.left → ⊥
    under i [] early goes counted = omega arith
    under i (j ∷ r) early goes counted =
        is.below j r (short i j early goes.1) (subst (λ e. WalksOn e (IsPossible points) j r) same_end goes.2) (omega arith)

  -- what is kept of a point of a front
  pub front_at : (front : Front) (j value : ℕ) → IsFrontOf points front → front.low ≤ j → j < front.low + length front.least.items
      → value ≡ slice_index front.least.items (j - front.low) → IsLeastBy points front.end front.left j value
  front_at front j value is above below same = subst (IsLeastBy points front.end front.left j) (sym same) (is.each j above below)

  pub rest_most : AreOnPage points → (end count j rest : ℕ) → end < 2 ^ 33 → count < 2 ^ 31 → IsLeastBy points end count j rest
      → rest < NONE → rest ≤ 2 ^ 120
  rest_most on_page end count j rest small few by below =
      let (r, goes, counted, costs) = by.some below in
      omega (arith, ways_count points on_page end j r small goes)

  -- the last front has the best way from the start
  module _ (on_page : AreOnPage points) (few : length points ≤ 2 ^ 31) (start : ℕ) (below : start < length points) (fronts : List Front)
      (are : AreFrontsOf points start (start + length points) fronts) (whole : Front) (is : whole ≡ get_or fronts (length fronts - 1) whole) where
    at_start : IsFrontAt points (start + length points) (slice_index are.tops (length fronts - 1 - (length fronts - 1))) (length fronts - 1) whole
    at_start =
        subst (IsFrontAt points (start + length points) (slice_index are.tops (length fronts - 1 - (length fronts - 1))) (length fronts - 1)) (sym is)
        (are.each (length fronts - 1) whole (omega (arith, are.some)))

    pub starts_under : start < whole.low + length whole.least.items
    starts_under =
        let z : length fronts - 1 - (length fronts - 1) ≡ 0 = omega arith in
        omega (arith, at_start.above, ap (slice_index are.tops) z, are.are.first)

    pub starts_in : whole.low ≤ start
    starts_in = elim (cases_lt start whole.low) [
      | inl early ↦
          let P : ℕ → Type 0 = λ e. WalksOn e (IsPossible points) start are.fewest.rest in
          absurd (at_start.is.below start are.fewest.rest early (subst P (sym at_start.ends) are.fewest.goes_on) (omega (arith, at_start.count, are.fewest.count)))
      | inr late ↦ late
    ]

    module _ (worth : ℕ) (value : worth ≡ slice_index whole.least.items (start - whole.low)) where
      pub best_least : IsLeastBy points (start + length points) (length fronts - 1) start worth
      best_least =
          let P : ℕ → Type 0 = λ e. IsLeastBy points e whole.left start worth in
          let Q : ℕ → Type 0 = λ n. IsLeastBy points (start + length points) n start worth in
          subst Q at_start.count (subst P at_start.ends (front_at whole start worth at_start.is starts_in starts_under value))

      pub best_small : worth < NONE
      best_small =
          let most = ways_count points on_page (start + length points) start are.fewest.rest (omega arith) are.fewest.goes_on in
          let short = fewest_below (start + length points) (IsPossible points) start (length fronts - 1) are.fewest in
          omega (arith, best_least.bound are.fewest.rest are.fewest.goes_on are.fewest.count, are.fewest.count)

  -- a least way from a point goes on to one of a front's
  pub record LeadsOn (later : Front) (i rest : ℕ) : Type 0 where
    pub to : ℕ
    pub possible : IsPossible points i to
    pub above : later.low ≤ to
    pub under : to < later.low + length later.least.items
    pub sum : worth_of points i to + slice_index later.least.items (to - later.low) ≡ rest

  pub leads_on : (later : Front) (i rest : ℕ) → IsFrontOf points later → IsLeastBy points later.end (later.left + 1) i rest → rest < NONE
      → ((j : ℕ) → IsPossible points i j → j ≤ later.end → j < later.low + length later.least.items) → LeadsOn later i rest
  leads_on later i rest is by small reached =
      let (r, goes, counted, costs) = by.some small in
      leads r goes counted costs where
        leads : (r : List ℕ) → WalksOn later.end (IsPossible points) i r → length r ≡ later.left + 1 → total_cost (worth_of points) (i ∷ r) ≡ rest
            → LeadsOn later i rest
        leads [] goes counted costs = absurd (omega arith)
        leads (j ∷ r) goes counted costs =
            let room = goes_below later.end (IsPossible points) j r goes.2 in
            let above : later.low ≤ j = elim (cases_lt j later.low) [
              | inl early ↦ absurd (is.below j r early goes.2 (omega arith))
              | inr late ↦ late
            ] in
            let under = reached j goes.1 (omega arith) in
            let here = is.each j above under in
            let least = here.bound r goes.2 (omega arith) in
            let pays = total_cost-cons (worth_of points) i j r in
            let (s, goes_on, tally, cost) = here.some (omega arith) in
            let all = by.bound (j ∷ s) (goes.0, goes.1, goes_on) (omega arith) in
            let pays_on = total_cost-cons (worth_of points) i j s in
            record { to = j; possible = goes.1; above = above; under = under; sum = omega arith }

  -- no way by another segment counts as little
  pub not_by : (later : Front) (i j rest : ℕ) (r : List ℕ) → IsFrontOf points later → IsLeastBy points later.end (later.left + 1) i rest
      → rest < NONE → IsPossible points i j → later.low ≤ j → j < later.low + length later.least.items
      → ¬ (worth_of points i j + slice_index later.least.items (j - later.low) ≡ rest)
      → WalksOn later.end (IsPossible points) j r → length r ≡ later.left → rest < total_cost (worth_of points) (i ∷ j ∷ r)
  not_by later i j rest r is by small possible above under other goes counted =
      let here = is.each j above under in
      let most = here.bound r goes counted in
      let pays = total_cost-cons (worth_of points) i j r in
      elim (cases_lt (slice_index later.least.items (j - later.low)) NONE) [
        | inl some ↦
            let (s, goes_on, tally, cost) = here.some some in
            let all = by.bound (j ∷ s) (possible.rises, possible, goes_on) (omega arith) in
            let pays_on = total_cost-cons (worth_of points) i j s in
            elim (cases_eq (worth_of points i j + slice_index later.least.items (j - later.low)) rest) [
              | inl same ↦ absurd (other same)
              | inr apart ↦ omega arith
            ]
        | inr none ↦ omega arith
      ]

-- one more front behind the others
pub fronts_more : (P : ℕ → Front → Type 0) (fronts more : List Front) (front : Front) → more ≡ fronts ++ front ∷ []
    → ((left : ℕ) (d : Front) → left < length fronts → P left (get_or fronts left d)) → P (length fronts) front
    → (left : ℕ) (d : Front) → left < length more → P left (get_or more left d)
fronts_more P fronts more front is each last left d below =
    let value = ap (λ l. get_or l left d) is in
    let size = length-append fronts (front ∷ []) in
    elim (cases_lt left (length fronts)) [
      | inl earlier ↦ subst (P left) (sym (value ∙ get_or-append fronts (front ∷ []) d left earlier)) (each left d earlier)
      | inr late ↦
          let e : left ≡ length fronts = omega (arith, ap length is) in
          let Q : ℕ → Type 0 = λ n. P n front in
          subst (P left) (sym (value ∙ ap (λ n. get_or (fronts ++ front ∷ []) n d) e ∙ get_or-append_seam fronts front [] d)) (subst Q (sym e) last)
    ]
