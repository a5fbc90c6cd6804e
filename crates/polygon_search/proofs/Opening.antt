-- Where windows begin: the points of a window are those up to its farthest one whose longest segments reach the next one.
use Rattle.std.proofs.Common.{◌≡◌, ℕ, ◌+◌, ◌-◌, ◌<◌, ◌≤◌, List, sym, subst, inl, inr, arith}
use Rattle.std.proofs.lemmas.Bool.{cases_lt}
use Rattle.std.specs.Prelude.{slice_index}
use Rattle.least_walk.specs.Inner.MarkedPlaces.{IsPlace}
use Rattle.polygon_search.specs.Inner.Lasts.{IsUpToLast}
use Rattle.polygon_search.specs.Inner.Search.{AreFarthest, BeginsWindow}
use Rattle.polygon_search.proofs.Counting.{AreCounted, before_end, last_keeps, none_left, some_left}
use Rattle.polygon_search.proofs.Leasts.{IsBegin, IsBeforeWindow}
use Rattle.polygon_search.proofs.Placing.{in_window, place_in_window}

-- the first window begins at the first point
pub begins_at_start : (size : ℕ) (counts : List ℕ) (begin : ℕ) → BeginsWindow size counts 0 begin → begin ≡ 0
begins_at_start size counts begin opens = elim (cases_lt 0 begin) [
  | inl above ↦ absurd (omega (arith, opens.none_before 0 above, opens.left))
  | inr start ↦ omega arith
]

module _ (size : ℕ) (lasts counts : List ℕ) (known : AreCounted size lasts counts) where
  -- the end is the last window
  pub begins_at_end : (window begin : ℕ) → window ≡ slice_index counts 0 → begin ≡ size → BeginsWindow size counts window begin
  begins_at_end window begin last end =
      let none : slice_index counts begin ≡ 0 = subst (λ n. slice_index counts n ≡ 0) (sym end) (none_left size lasts counts known) in
      record {
        within = omega arith;
        left = omega arith;
        none_before = λ k below. omega (arith, some_left size lasts counts known k (omega arith));
      }

-- the points of a window are looked for, of which the next one begins here
pub record HasNextWindow (size : ℕ) (lasts counts farthest : List ℕ) (window begin : ℕ) : Type 0 where
  pub known : AreCounted size lasts counts
  pub are : AreFarthest size lasts counts (slice_index counts 0) farthest
  pub next : window < slice_index counts 0
  pub opens : BeginsWindow size counts (window + 1) begin

module _ (size : ℕ) (lasts counts farthest : List ℕ) (window begin : ℕ) (w : HasNextWindow size lasts counts farthest window begin) where
  abbrev far : ℕ
  far = slice_index farthest window

  far_left : slice_index counts far ≡ slice_index counts begin + 1
  far_left = omega (arith, w.are.left window (omega (arith, w.next)), w.opens.left)

  pub far_below : far < size
  far_below = before_end size lasts counts w.known far (w.are.within window (omega (arith, w.next))) (omega (arith, far_left))

  -- the farthest point stands before the next window
  pub far_before : far < begin
  far_before = elim (cases_lt far begin) [
    | inl before ↦ before
    | inr after ↦ absurd (omega (arith, w.known.falling begin far (omega arith) after (omega (arith, far_below)), far_left))
  ]

  -- and its longest segment reaches that
  pub far_reaches : begin ≤ slice_index lasts far
  far_reaches = elim (cases_lt (slice_index lasts far) begin) [
    | inl short ↦ absurd (omega (arith, w.opens.none_before (slice_index lasts far) short, last_keeps size lasts counts w.known far far_below, far_left))
    | inr reached ↦ reached
  ]

  -- no point between the two windows is a vertex
  pub none_between : (k : ℕ) → far + 1 ≤ k → k < begin → ¬ IsPlace size (IsUpToLast lasts) k
  none_between k above below place =
      let within : k ≤ size = omega (arith, w.opens.within) in
      let left : slice_index counts k ≡ slice_index counts begin + 1 =
      omega (arith, w.opens.none_before k below, w.known.falling far k (omega arith) (omega arith) within, far_left) in
      let same : slice_index counts 0 - slice_index counts k ≡ window = omega (arith, w.opens.left) in
      let inside = subst (λ n. k ≤ slice_index farthest n) same (in_window size lasts counts w.known farthest w.are k within place) in
      omega arith

  -- a point up to the farthest one whose longest segment reaches the next window
  module _ (i : ℕ) (near : i ≤ far) (reaches : begin ≤ slice_index lasts i) where
    below : i < size
    below = omega (arith, far_below)

    pub left_here : slice_index counts i ≡ slice_index counts begin + 1
    left_here = omega (
      arith,
      w.opens.none_before i (omega (arith, far_before)),
      w.known.falling begin (slice_index lasts i) (omega arith) reaches (w.known.leads i below).within,
      last_keeps size lasts counts w.known i below,
    )

    begin_here : IsBegin size counts i begin
    begin_here = record {
      above = omega (arith, far_before);
      within = w.opens.within;
      count = omega (arith, left_here);
      none_before = λ k above within kept. elim (cases_lt k begin) [
        | inl before ↦ absurd (omega (arith, w.opens.none_before k before, left_here))
        | inr after ↦ after
      ];
    }

    pub vertex_here : IsBeforeWindow size lasts counts i begin
    vertex_here =
        let same : window ≡ slice_index counts 0 - slice_index counts i = omega (arith, left_here, w.opens.left) in
        record {
          below = below;
          place = place_in_window size lasts counts w.known farthest w.are i (omega (arith, below))
              (subst (λ n. i ≤ slice_index farthest n) same near);
          begins = begin_here;
        }

  -- the first of them begins the window
  pub opens_at : (first : ℕ) → first ≤ far → slice_index counts first ≡ slice_index counts begin + 1
      → ((i : ℕ) → i + 1 ≡ first → slice_index lasts i < begin) → BeginsWindow size counts window first
  opens_at first near left short = record {
    within = omega (arith, far_below);
    left = omega (arith, left, w.opens.left);
    none_before = λ k below.
        (let i : ℕ = first - 1 in
        let inside : i < size = omega (arith, far_below) in
        omega (
          arith,
          w.known.falling k i (omega arith) (omega arith) (omega arith),
          last_keeps size lasts counts w.known i inside,
          w.opens.none_before (slice_index lasts i) (short i (omega arith)),
          left,
        ));
  }
