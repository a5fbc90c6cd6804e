-- The slots of a filter hold rows of a page, and still do after a row is taken, raised or dropped.
use Rattle.std.proofs.Common.{◌≡◌, ℕ, suc, ◌+◌, ◌-◌, ◌*◌, ◌/◌, ◌%◌, ◌<◌, ◌≤◌, min, List, [], length, get_or, set, map, refl, arith, sym, ap, ◌∙◌, inl, inr, subst}
use Rattle.std.specs.List.{range_with_len}
use Rattle.std.specs.Prelude.{if◌then◌else◌, nat_eq}
use Rattle.std.proofs.lemmas.Nat.{div-add-mod', mod_below, mul-le}
use Rattle.std.proofs.lemmas.Bool.{cases_lt, cases_eq}
use Rattle.std.proofs.lemmas.List.{get_or-set_same, get_or-set_other, get_or_past, get_or_default}
use Rattle.std.proofs.lemmas.List.FromFn.{get_or-map-range_with_len, length-map-range_with_len}
use Rattle.mkbitmap.specs.Box.{Gray, sum_between, box_from, box_end, box_count, box_area, column_sum, box_sum}
use Rattle.mkbitmap.specs.Relief.{raised_by, raised_of}
use Rattle.mkbitmap.specs.Filtering.{Filtering, HasGone, SameSetup}
use Rattle.mkbitmap.specs.Follows.{HoldsRows, AreRaised}
use Rattle.mkbitmap.specs.Inner.Layout.{HasRoom, IsLaidOut, filtering_of, first_held, held_row}
use Rattle.mkbitmap.specs.declared.filter.Filter.TheInside.{Inside}
use Rattle.mkbitmap.proofs.BoxSums.{sum-first, sum-grown, sum-most, sum-same}

-- two rows that are less than n apart have different slots
apart : (n j t : ℕ) → 1 ≤ n → j < t → t < j + n → j % n ≡ t % n → ⊥
apart n j t some before near same =
    let p : j / n * n + j % n ≡ j = div-add-mod' j n in
    let q : t / n * n + t % n ≡ t = div-add-mod' t n in
    elim (cases_lt (j / n) (t / n)) [
      | inl less ↦
          let far : (j / n + 1) * n ≤ t / n * n = mul-le (j / n + 1) n (t / n) n (omega (arith, less)) (omega arith) in
          omega (arith, p, q, same, far, near)
      | inr more ↦
          let back : t / n * n ≤ j / n * n = mul-le (t / n) n (j / n) n more (omega arith) in
          omega (arith, p, q, same, back, before)
    ]

-- a ring of n slots that holds fewer than n rows takes another row; row j is in slot j % n
module _ (n low taken : ℕ) (ring : List (List ℕ)) (s : List ℕ) (some : 1 ≤ n) (len : length ring ≡ n) (near : taken < low + n) where
  slot_other : (j : ℕ) → low ≤ j → j < taken → get_or (set ring (taken % n) s) (j % n) [] ≡ get_or ring (j % n) []
  slot_other j from less = get_or-set_other ring (taken % n) (j % n) s [] (λ e. apart n j taken some less (omega (arith, near, from)) e)

  slot_same : get_or (set ring (taken % n) s) (taken % n) [] ≡ s
  slot_same = get_or-set_same ring (taken % n) s [] (rw len (mod_below taken n some))

  -- a fact about each row that is held, and about the new row, holds for all rows afterwards
  pub rows_next : (P : ℕ → List ℕ → Type 0) → ((j : ℕ) → low ≤ j → j < taken → P j (get_or ring (j % n) [])) → P taken s
      → (j : ℕ) → low ≤ j → j < taken + 1 → P j (get_or (set ring (taken % n) s) (j % n) [])
  rows_next P held here j from to =
      elim (cases_lt j taken) [
        | inl less ↦ subst (P j) (sym (slot_other j from less)) (held j from less)
        | inr more ↦
            let is : taken ≡ j = omega (arith, more, to) in
            subst (λ k. P k (get_or (set ring (taken % n) s) (k % n) [])) is (subst (P taken) (sym slot_same) here)
      ]

  -- the columns' sums with the new row
  pub sums_next : low ≤ taken → (x : ℕ)
      → sum_between (λ j. get_or (get_or ring (j % n) []) x 0) low taken + get_or s x 0
      ≡ sum_between (λ j. get_or (get_or (set ring (taken % n) s) (j % n) []) x 0) low (taken + 1)
  sums_next order x =
      let new : ℕ → ℕ = λ j. get_or (get_or (set ring (taken % n) s) (j % n) []) x 0 in
      let before : sum_between new low taken ≡ sum_between (λ j. get_or (get_or ring (j % n) []) x 0) low taken
      = sum-same new (λ j. get_or (get_or ring (j % n) []) x 0) low taken (λ j from to. ap (λ (r : List ℕ). get_or r x 0) (slot_other j from to)) in
      let here : new taken ≡ get_or s x 0 = ap (λ (r : List ℕ). get_or r x 0) slot_same in
      let one : taken + 1 ≡ suc taken = omega arith in
      sym (ap (sum_between new low) one ∙ sum-grown new low taken order ∙ ap (λ k. k + new taken) before ∙ ap (λ k. sum_between (λ j. get_or (get_or ring (j % n) []) x 0) low taken + k) here)

-- the slots keep their width
pub slot_next : (n i width : ℕ) (ring : List (List ℕ)) (s : List ℕ) → i < length ring
    → ((k : ℕ) → k < n → length (get_or ring k []) ≡ width) → length s ≡ width
    → (k : ℕ) → k < n → length (get_or (set ring i s) k []) ≡ width
slot_next n i width ring s within widths same k h =
    elim (cases_eq k i) [
      | inl is ↦ rw is (ap length (get_or-set_same ring i s [] within) ∙ same)
      | inr isnt ↦ ap length (get_or-set_other ring i k s [] isnt) ∙ widths k h
    ]

-- an item that exists doesn't depend on the default
pub slot_is : (ring : List (List ℕ)) (i : ℕ) (s : List ℕ) → i < length ring → s ≡ get_or ring i s → s ≡ get_or ring i []
slot_is ring i s within is = is ∙ get_or_default ring i s [] within

-- there is a free slot if another row is needed
pub has_slot : (f : Inside) → HasRoom f → f.taken < min f.height (f.pairs + f.radius + 1) → f.taken < first_held f + (2 * f.radius + 1)
has_slot f room wanted = omega (arith, wanted, room.pairs)

-- the sums are small
pub sums_small : (f : Inside) → IsLaidOut f → (x : ℕ) → get_or f.columns.items x 0 ≤ (f.taken - first_held f) * f.maxval
sums_small f laid x =
    elim (cases_lt x f.width) [
      | inl within ↦
          let lowered : ℕ → ℕ = λ j. min (get_or (held_row f j) x 0) f.maxval in
          let same : sum_between (λ j. get_or (held_row f j) x 0) (first_held f) f.taken ≡ sum_between lowered (first_held f) f.taken
          = sum-same (λ j. get_or (held_row f j) x 0) lowered (first_held f) f.taken (λ j from to. omega (arith, laid.bright j from to x)) in
          let most : sum_between lowered (first_held f) f.taken ≤ (f.taken - first_held f) * f.maxval
          = sum-most lowered f.maxval (first_held f) f.taken (λ j. omega arith) in
          rw (laid.sums x within, same) most
      | inr past ↦ rw (get_or_past f.columns.items x 0 (omega (arith, laid.room.columns, past))) (omega arith)
    ]

-- A page with the rows that the slots hold.

pub record RingHolds (page : Gray) (f : Inside) : Type 0 where
  pub width : page.width ≡ f.width
  pub height : page.height ≡ f.height
  pub maxval : page.maxval ≡ f.maxval
  pub bright : (x y : ℕ) → page.sample x y ≤ f.maxval
  pub held : (j : ℕ) → first_held f ≤ j → j < f.taken → (x : ℕ) → x < f.width → get_or (held_row f j) x 0 ≡ page.sample x j

-- there is such a page
abbrev pub held_page : Inside → Gray
held_page f = record { width = f.width; height = f.height; maxval = f.maxval; sample = λ x y. min (get_or (held_row f y) x 0) f.maxval }

pub holds_itself : (f : Inside) → IsLaidOut f → RingHolds (held_page f) f
holds_itself f laid = record {
  width = refl;
  height = refl;
  maxval = refl;
  bright = λ x y. omega arith;
  held = λ j from to x within. omega (arith, laid.bright j from to x);
}

held_length : (f : Inside) → length (filtering_of f).held ≡ f.taken - first_held f
held_length f = length-map-range_with_len (held_row f) (first_held f) (f.taken - first_held f)

held_at : (f : Inside) (k j : ℕ) → k < f.taken - first_held f → first_held f + k ≡ j → get_or (filtering_of f).held k [] ≡ held_row f j
held_at f k j = get_or-map-range_with_len (held_row f) (first_held f) (f.taken - first_held f) k j []

-- the slots hold the rows of a page if the filter does
pub ring_of : (page : Gray) (f : Inside) → IsLaidOut f → HoldsRows page (filtering_of f) → RingHolds page f
ring_of page f laid holds = record {
  width = holds.width;
  height = holds.height;
  maxval = holds.maxval;
  bright = holds.bright;
  held = λ j from to x within.
      let is : get_or (filtering_of f).held (j - first_held f) [] ≡ held_row f j = held_at f (j - first_held f) j (omega (arith, from, to)) (omega (arith, from)) in
      let row = holds.held (j - first_held f) (rw (held_length f) (omega (arith, from, to))) in
      let at : f.taken - length (filtering_of f).held + (j - first_held f) ≡ j = rw (held_length f) (omega (arith, from, to, laid.room.low)) in
      let sample : page.sample x (f.taken - length (filtering_of f).held + (j - first_held f)) ≡ min (get_or (get_or (filtering_of f).held (j - first_held f) []) x 0) page.maxval
      = row.sample x (omega (arith, within, holds.width)) in
      let here : page.sample x j ≡ min (get_or (held_row f j) x 0) page.maxval
      = ap (page.sample x) (sym at) ∙ sample ∙ ap (λ (r : List ℕ). min (get_or r x 0) page.maxval) is in
      omega (arith, here, laid.bright j from to x, holds.maxval);
}

-- the filter holds the rows of a page if the slots do
pub holds_of : (page : Gray) (g : Filtering) (n low : ℕ) (ring : List (List ℕ)) → g.held ≡ map (λ j. get_or ring (j % n) []) (range_with_len low (g.taken - low)) → low ≤ g.taken
    → page.width ≡ g.width → page.height ≡ g.height → page.maxval ≡ g.maxval → ((x y : ℕ) → page.sample x y ≤ g.maxval)
    → ((j : ℕ) → low ≤ j → j < g.taken → (x : ℕ) → x < g.width → get_or (get_or ring (j % n) []) x 0 ≡ page.sample x j) → HoldsRows page g
holds_of page g n low ring has order width height maxval bright held = record {
  width = width;
  height = height;
  maxval = maxval;
  bright = bright;
  held = λ k within.
      let row : ℕ → List ℕ = λ j. get_or ring (j % n) [] in
      let many : length g.held ≡ g.taken - low = ap length has ∙ length-map-range_with_len row low (g.taken - low) in
      let below : k < g.taken - low = subst (λ (m : ℕ). k < m) many within in
      let at : g.taken - length g.held + k ≡ low + k = omega (arith, many, order) in
      let is : get_or g.held k [] ≡ row (low + k) = ap (λ (l : List (List ℕ)). get_or l k []) has ∙ get_or-map-range_with_len row low (g.taken - low) k (low + k) [] below refl in
      rw (at, is) (record {
        sample = λ x across.
            let here : get_or (row (low + k)) x 0 ≡ page.sample x (low + k) = held (low + k) (omega arith) (omega (arith, below)) x (omega (arith, across, width)) in
            omega (arith, here, bright x (low + k), maxval);
      });
}

-- the columns' sums are those of the page's rows
sums_are : (page : Gray) (f : Inside) → IsLaidOut f → RingHolds page f → (x : ℕ) → x < f.width → get_or f.columns.items x 0 ≡ sum_between (page.sample x) (first_held f) f.taken
sums_are page f laid ring x within =
    laid.sums x within ∙ sum-same (λ j. get_or (held_row f j) x 0) (page.sample x) (first_held f) f.taken (λ j from to. ring.held j from to x within)

-- a function has equal values for four pairs of equal numbers
four : (F : ℕ → ℕ → ℕ → ℕ → ℕ) {a b c d a' b' c' d' : ℕ} → a ≡ a' → b ≡ b' → c ≡ c' → d ≡ d' → F a b c d ≡ F a' b' c' d'
four F p q r s = λ i. F (p i) (q i) (r i) (s i)

-- the raised relief of the next row, from the sums of the columns
abbrev raised_with : ℕ → ℕ → ℕ → ℕ → ℕ → ℕ
raised_with radius sample sum area maxval = if nat_eq radius 0 then 256 * sample + 128 * maxval else raised_by sample sum area maxval

-- a relief was computed from row s of the ring and from the columns' sums
pub record IsRaisedFrom (f : Inside) (x : ℕ) (s columns : List ℕ) (rows v : ℕ) : Type 0 where
  pub row_is : s ≡ held_row f f.pairs
  pub columns_are : columns ≡ f.columns.items
  pub rows_are : rows ≡ f.taken - (f.pairs - f.radius)
  pub value_is : v ≡ raised_with f.radius (get_or s x 0) (sum_between (λ a. get_or columns a 0) (box_from f.radius x) (box_end f.radius (length columns) x))
      (box_count f.radius (length columns) x * rows) f.maxval

module _ (page : Gray) (f : Inside) (laid : IsLaidOut f) (holds : RingHolds page f) (due : f.pairs < f.height) (ready : f.taken ≡ min f.height (f.pairs + f.radius + 1)) where
  pub row_raised : (x : ℕ) → x < f.width → (s columns : List ℕ) (rows v : ℕ) → IsRaisedFrom f x s columns rows v → v ≡ raised_of page f.radius x f.pairs
  row_raised x within s columns rows v from =
      let wide : length columns ≡ page.width = ap length from.columns_are ∙ laid.room.columns ∙ sym holds.width in
      let sample : get_or s x 0 ≡ page.sample x f.pairs
      = ap (λ l. get_or l x 0) from.row_is ∙ holds.held f.pairs (omega arith) (omega (arith, ready)) x within in
      let column : (a : ℕ) → box_from f.radius x ≤ a → a < box_end f.radius (length columns) x → get_or columns a 0 ≡ column_sum page f.radius f.pairs a
      = λ a l r.
      let inside : a < f.width = omega (arith, wide, holds.width, r) in
      let low : first_held f ≡ box_from f.radius f.pairs = omega (arith, due) in
      let end : f.taken ≡ box_end f.radius page.height f.pairs = omega (arith, ready, holds.height) in
      ap (λ l. get_or l a 0) from.columns_are ∙ sums_are page f laid holds a inside ∙ ap (λ k. sum_between (page.sample a) k f.taken) low
      ∙ ap (λ k. sum_between (page.sample a) (box_from f.radius f.pairs) k) end in
      let sum : sum_between (λ a. get_or columns a 0) (box_from f.radius x) (box_end f.radius (length columns) x) ≡ box_sum page f.radius x f.pairs
      = sum-same (λ a. get_or columns a 0) (column_sum page f.radius f.pairs) (box_from f.radius x) (box_end f.radius (length columns) x) column
      ∙ ap (λ n. sum_between (column_sum page f.radius f.pairs) (box_from f.radius x) (box_end f.radius n x)) wide in
      let high : rows ≡ box_count f.radius page.height f.pairs = omega (arith, from.rows_are, ready, holds.height) in
      let area : box_count f.radius (length columns) x * rows ≡ box_area page f.radius x f.pairs
      = ap (λ n. box_count f.radius n x * rows) wide ∙ ap (λ n. box_count f.radius page.width x * n) high in
      from.value_is ∙ four (raised_with f.radius) sample sum area (sym holds.maxval)

-- a column's sum is at least the sample that is subtracted
pub first_goes : (f : Inside) → IsLaidOut f → f.pairs < f.height → f.radius ≤ f.pairs → f.taken ≡ min f.height (f.pairs + f.radius + 1) → (x : ℕ) → x < f.width → (s : List ℕ)
    → s ≡ held_row f (f.pairs - f.radius)
    → get_or f.columns.items x 0 ≡ get_or s x 0 + sum_between (λ j. get_or (held_row f j) x 0) (min (f.pairs + 1) f.height - f.radius) f.taken
first_goes f laid due from ready x within s is =
    let sample : ℕ → ℕ = λ j. get_or (held_row f j) x 0 in
    let low : first_held f ≡ f.pairs - f.radius = omega (arith, due) in
    let next : min (f.pairs + 1) f.height - f.radius ≡ suc (f.pairs - f.radius) = omega (arith, due, from) in
    let first : sum_between sample (f.pairs - f.radius) f.taken ≡ sample (f.pairs - f.radius) + sum_between sample (suc (f.pairs - f.radius)) f.taken
    = sum-first sample (f.pairs - f.radius) f.taken (omega (arith, ready, due)) in
    laid.sums x within ∙ ap (λ k. sum_between sample k f.taken) low ∙ first ∙ ap (λ (r : List ℕ). get_or r x 0 + sum_between sample (suc (f.pairs - f.radius)) f.taken) (sym is)
    ∙ ap (λ k. get_or s x 0 + sum_between sample k f.taken) (sym next)

-- reliefs that were copied
pub carried : (page : Gray) (f g : Filtering) (xs ys : List ℕ) (y z : ℕ) → SameSetup f g → ys ≡ xs → z ≡ y → AreRaised page f xs y → AreRaised page g ys z
carried page f g xs ys y z same items row raised x within =
    ap (λ (l : List ℕ). get_or l x 0) items ∙ raised x (omega (arith, within, same.width)) ∙ ap (λ k. raised_of page f.radius x k) (sym row) ∙ ap (λ r. raised_of page r x z) (sym same.radius)

-- two changes of a filter, one after the other
pub same_twice : (f g h : Filtering) → SameSetup f g → SameSetup g h → SameSetup f h
same_twice f g h a b = record {
  width = b.width ∙ a.width;
  height = b.height ∙ a.height;
  maxval = b.maxval ∙ a.maxval;
  radius = b.radius ∙ a.radius;
  times = b.times ∙ a.times;
  level = b.level ∙ a.level;
}

pub gone_on : (rows steps more again : ℕ) (f g h : Filtering) → HasGone rows steps f g → HasGone more again g h → HasGone (rows + more) (steps + again) f h
gone_on rows steps more again f g h a b = record {
  setup = same_twice f g h a.setup b.setup;
  taken = omega (arith, a.taken, b.taken);
  pairs = omega (arith, a.pairs, b.pairs);
}
