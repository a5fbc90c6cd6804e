-- Where the windows of a path lie: each ends before the next one begins, and the segments from one end in the next.
use Rattle.std.proofs.Common.{◌≡◌, ℕ, ◌+◌, ◌-◌, ◌<◌, ◌≤◌, List, length, subst, inl, inr, arith}
use Rattle.std.proofs.lemmas.Bool.{cases_lt}
use Rattle.std.specs.Prelude.{slice_index}
use Rattle.pt_core.specs.declared.limits.TheConstants.{MOST_STEPS}
use Rattle.polygon_search.specs.Inner.VertexBounds.{AreWindowBegins, IsInWindow}
use Rattle.polygon_search.specs.Inner.Search.{BeginsWindow, counts_of, AreWindowEnds}
use Rattle.polygon_search.proofs.Counting.{AreCounted, last_keeps, rises, counted, counts_fewest, some_left}
use Rattle.polygon_search.proofs.Opening.{HasNextWindow, begins_at_start, far_before, far_below, left_here, opens_at, vertex_here}
use Rattle.least_walk.specs.Inner.Suffix.{IsFewestFrom}
use Rattle.polygon_search.specs.Inner.Lasts.{AreRising, IsUpToLast, LeadsOn}
use Rattle.polygon_search.proofs.Leasts.{IsBeforeWindow}

-- the window before one that begins here begins at the first point up to its end whose longest segment reaches there
pub opens_before : (size : ℕ) (lasts counts farthest : List ℕ) (window begin first : ℕ) → HasNextWindow size lasts counts farthest window begin
    → first ≤ slice_index farthest window → begin ≤ slice_index lasts first
    → ((k : ℕ) → k < first → slice_index lasts k < begin) → BeginsWindow size counts window first
opens_before size lasts counts farthest window begin first w near reaches short =
    opens_at size lasts counts farthest window begin w first near (left_here size lasts counts farthest window begin w first near reaches)
    (λ k is. short k (omega arith))

-- a point between this window and the next one is not too far from the vertices of either
pub record IsMiddle (size : ℕ) (begins farthest : List ℕ) (window at : ℕ) : Type 0 where
  pub order : slice_index farthest window ≤ at
  pub beyond : at < slice_index begins (window + 1)
  pub inside : at < size
  pub lap : slice_index farthest (window + 1) ≤ size
  pub back : at - slice_index begins window ≤ MOST_STEPS
  pub on : slice_index farthest (window + 1) - at ≤ MOST_STEPS

module _ (size : ℕ) (lasts begins farthest : List ℕ) (known : AreCounted size lasts (counts_of size lasts))
    (are : AreWindowBegins size lasts begins farthest) where
  abbrev counts : List ℕ
  counts = counts_of size lasts

  -- no window begins beyond its end
  pub begin_near : (window : ℕ) → window < length farthest → slice_index begins window ≤ slice_index farthest window
  begin_near window room = elim (cases_lt (slice_index farthest window) (slice_index begins window)) [
    | inl beyond ↦
        let opens = are.each window (omega (arith, are.count)) in
        absurd (omega (
          arith,
          opens.none_before (slice_index farthest window) beyond,
          opens.left,
          are.ends.left window (omega (arith, are.ends.count)),
        ))
    | inr near ↦ near
  ]

  pub within_end : (window : ℕ) → window < length farthest → slice_index farthest window ≤ size
  within_end window room = are.ends.within window (omega (arith, are.ends.count))

  -- as many segments are left from each vertex of a window
  pub window_left : (window i : ℕ) → window < length farthest → IsInWindow begins farthest window i
      → slice_index counts i + window ≡ slice_index counts 0
  window_left window i room inside =
      let opens = are.each window (omega (arith, are.count)) in
      let end = within_end window room in
      omega (
        arith,
        opens.left,
        are.ends.left window (omega (arith, are.ends.count)),
        known.falling (slice_index begins window) i (omega arith) inside.begin (omega (arith, inside.end)),
        known.falling i (slice_index farthest window) (omega arith) inside.end end,
      )

  -- the vertices of a window come before those of each later one
  pub windows_apart : (window later i j : ℕ) → window < later → later < length farthest
      → IsInWindow begins farthest window i → IsInWindow begins farthest later j → i < j
  windows_apart window later i j before room here there = elim (cases_lt i j) [
    | inl below ↦ below
    | inr above ↦ absurd (omega (
      arith,
      window_left window i (omega arith) here,
      window_left later j room there,
      known.falling j i (omega arith) above (omega (arith, here.end, within_end window (omega arith))),
    ))
  ]

  pub starts_first : 0 < length farthest → slice_index begins 0 ≡ 0
  starts_first some = begins_at_start size counts (slice_index begins 0) (are.each 0 (omega (arith, are.count)))

  module _ (window : ℕ) (room : window + 1 < length farthest) where
    pub next_window : HasNextWindow size lasts counts farthest window (slice_index begins (window + 1))
    next_window = record {
      known = known;
      are = are.ends;
      next = omega (arith, are.ends.count);
      opens = are.each (window + 1) (omega (arith, are.count));
    }

    pub end_below : slice_index farthest window < size
    end_below = far_below size lasts counts farthest window (slice_index begins (window + 1)) next_window

    pub end_before : slice_index farthest window < slice_index begins (window + 1)
    end_before = far_before size lasts counts farthest window (slice_index begins (window + 1)) next_window

    pub next_end : slice_index farthest (window + 1) ≡ slice_index lasts (slice_index farthest window)
    next_end = are.ends.onwards window (omega (arith, are.ends.count))

    module _ (i : ℕ) (inside : IsInWindow begins farthest window i) where
      -- the longest segment from a vertex leads into the next window
      pub last_beyond : slice_index begins (window + 1) ≤ slice_index lasts i
      last_beyond = elim (cases_lt (slice_index lasts i) (slice_index begins (window + 1))) [
        | inl short ↦
            let opens = are.each (window + 1) (omega (arith, are.count)) in
            absurd (omega (
              arith,
              opens.none_before (slice_index lasts i) short,
              opens.left,
              last_keeps size lasts counts known i (omega (arith, inside.end, end_below)),
              window_left window i (omega arith) inside,
            ))
        | inr reached ↦ reached
      ]

      pub last_within : slice_index lasts i ≤ slice_index farthest (window + 1)
      last_within =
          let e : i + (slice_index farthest window - i) ≡ slice_index farthest window = omega (arith, inside.end) in
          let rise = rises size lasts known.leads known.rising (slice_index farthest window - i) i (omega (arith, e, end_below)) in
          let up = subst (λ n. slice_index lasts i ≤ slice_index lasts n) e rise in
          omega (arith, up, next_end)

    pub is_between : (at : ℕ) → slice_index farthest window ≤ at → at < slice_index begins (window + 1) → IsMiddle size begins farthest window at
    is_between at order beyond =
        let first : ℕ = slice_index begins window in
        let near = begin_near window (omega (arith, room)) in
        let reached = last_beyond first (record { begin = omega arith; end = near }) in
        let within = within_end (window + 1) room in
        let start = known.leads first (omega (arith, near, end_below)) in
        let stop = known.leads (slice_index farthest window) end_below in
        record {
          order = order;
          beyond = beyond;
          inside = omega (arith, begin_near (window + 1) room, within);
          lap = within;
          back = omega (arith, reached, start.short);
          on = omega (arith, stop.short, next_end);
        }

-- the same by how far segments reach, as a search within a limit asks it
module _ (size : ℕ) (lasts begins farthest : List ℕ) (leads : (i : ℕ) → i < size → LeadsOn size i (slice_index lasts i)) (rising : AreRising size lasts)
    (are : AreWindowBegins size lasts begins farthest) (window : ℕ) (room : window + 1 < length farthest) where
  abbrev far : ℕ
  far = slice_index farthest window

  abbrev begin : ℕ
  begin = slice_index begins (window + 1)

  known : AreCounted size lasts (counts_of size lasts)
  known = counted size lasts leads rising

  -- each but the last one is before another
  pub is_before_window : HasNextWindow size lasts (counts_of size lasts) farthest window begin
  is_before_window = next_window size lasts begins farthest known are window room

  pub ends_before_end : far < size
  ends_before_end = end_below size lasts begins farthest known are window room

  -- it begins before it ends
  pub begins_before : slice_index begins window ≤ far
  begins_before = begin_near size lasts begins farthest known are window (omega arith)

  -- the longest segments of all of its points reach the next one
  pub all_reach : (i : ℕ) → slice_index begins window ≤ i → i ≤ far → begin ≤ slice_index lasts i
  all_reach i above near = last_beyond size lasts begins farthest known are window room i (record { begin = above; end = near })

  -- and none of them reaches beyond it
  pub none_beyond : (i : ℕ) → slice_index begins window ≤ i → i ≤ far → slice_index lasts i ≤ slice_index farthest (window + 1)
  none_beyond i above near = last_within size lasts begins farthest known are window room i (record { begin = above; end = near })

  -- all of them are vertices
  pub all_vertices : (i : ℕ) → slice_index begins window ≤ i → i ≤ far → IsBeforeWindow size lasts (counts_of size lasts) i begin
  all_vertices i above near =
      vertex_here size lasts (counts_of size lasts) farthest window begin is_before_window i near (all_reach i above near)

-- the last window is the end
pub last_at_end : (size : ℕ) (lasts begins farthest : List ℕ) → ((i : ℕ) → i < size → LeadsOn size i (slice_index lasts i)) → AreRising size lasts
    → AreWindowBegins size lasts begins farthest → (window : ℕ) → window + 1 ≡ length farthest → slice_index begins window ≡ size
last_at_end size lasts begins farthest leads rising are window last =
    let counts = counts_of size lasts in
    let known = counted size lasts leads rising in
    let opens = are.each window (omega (arith, are.count)) in
    let within = opens.within in
    elim (cases_lt (slice_index begins window) size) [
      | inl before ↦ absurd (omega (
        arith,
        some_left size lasts counts known (slice_index begins window) before,
        opens.left,
        are.ends.count,
      ))
      | inr end ↦ omega arith
    ]

-- there are as many segments as windows, without the first
pub windows_fewest : (size : ℕ) (lasts farthest : List ℕ) → ((i : ℕ) → i < size → LeadsOn size i (slice_index lasts i)) → AreRising size lasts
    → AreWindowEnds size lasts farthest → IsFewestFrom size (IsUpToLast lasts) 0 (length farthest - 1)
windows_fewest size lasts farthest leads rising ends =
    let same : slice_index (counts_of size lasts) 0 ≡ length farthest - 1 = omega (arith, ends.count) in
    subst (IsFewestFrom size (IsUpToLast lasts) 0) same (counts_fewest size lasts leads rising 0 (omega arith) (omega arith))
