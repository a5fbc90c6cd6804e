-- What is known of two windows' vertices, by all segments between them or by the halves of these.
use Rattle.std.proofs.Common.{◌≡◌, ℕ, ◌+◌, ◌<◌, ◌≤◌, List, length, refl, ◌∙◌, ap, inl, inr, arith}
use Rattle.std.proofs.lemmas.Bool.{cases_lt}
use Rattle.std.specs.Prelude.{slice_index, IfSome}
use Rattle.std.specs.declared.option.Option.{Option}
use Rattle.pt_core.specs.declared.point.Point.{Point}
use Rattle.half_penalties.specs.declared.halves.Halves.{Halves}
use Rattle.polygon_search.specs.declared.bounds.Bound.{Bound}
use Rattle.polygon_search.specs.Polygon.{penalty_of}
use Rattle.polygon_search.specs.Inner.VertexBounds.{AreBoundsOf, AreWindowBegins, IsInWindow, bound_at}
use Rattle.polygon_search.specs.Inner.Joining.{AreBlank, AreChanged, IsAheadFound, IsBehindFound, IsFloorChange}
use Rattle.polygon_search.specs.Inner.Search.{counts_of}
use Rattle.polygon_search.proofs.Counting.{AreCounted}
use Rattle.polygon_search.proofs.Halving.{AreHalvesOf, halves_most}
use Rattle.polygon_search.proofs.Joining.{AreJoined, changed_each}
use Rattle.polygon_search.proofs.Windowed.{begin_near, end_before, last_within}

module _ (size : ℕ) (lasts begins farthest : List ℕ) (known : AreCounted size lasts (counts_of size lasts))
    (are : AreWindowBegins size lasts begins farthest) (window : ℕ) (room : window + 1 < length farthest) where
  abbrev begin : ℕ
  begin = slice_index begins (window + 1)

  abbrev last : ℕ
  last = slice_index farthest (window + 1)

  -- the floors of the next window are what is paid by the cheapest segment from this one
  pub joined_by_segments : (cost : ℕ → ℕ → ℕ) (before after : List Bound) → AreBoundsOf lasts begins farthest cost window before
      → AreBlank begins farthest window before → AreChanged (λ k. IsFloorChange) begin (last + 1) before after
      → ((i j : ℕ) → IsInWindow begins farthest window i → begin ≤ j → j ≤ slice_index lasts i → (bound_at after j).floor ≤ (bound_at before i).floor + cost i j)
      → AreJoined lasts begins farthest cost window before after
  joined_by_segments cost before after so_far blank changed floors =
      let between = end_before size lasts begins farthest known are window room in
      let near = begin_near size lasts begins farthest known are window (omega arith) in
      let next = begin_near size lasts begins farthest known are (window + 1) room in
      let ahead = changed_each (λ k. IsFloorChange) (λ b a. a.ahead ≡ b.ahead) begin (last + 1) before after changed (λ k from to is. is.ahead) (λ b. refl) in
      let behind = changed_each (λ k. IsFloorChange) (λ b a. a.behind ≡ b.behind) begin (last + 1) before after changed (λ k from to is. is.behind) (λ b. refl) in
      record {
        early = λ k below. changed.others k (inl (omega (arith, near, between)));
        late = λ k above. changed.others k (inr (omega arith));
        floor = λ k below. ap (λ (b : Bound). b.floor) (changed.others k (inl below));
        behind = λ k below. behind k;
        ahead = λ k beyond. ahead k;
        small = λ k above. elim (cases_lt k (last + 1)) [
          | inl below ↦ (changed.changed k above below).floor
          | inr late ↦ omega (arith, ap (λ (b : Bound). b.floor) (changed.others k (inr late)), so_far.small k)
        ];
        joined = λ i j inside above reached.
            (let here = ap (λ (b : Bound). b.floor) (changed.others i (inl (omega (arith, inside.end, between)))) in
            record {
              floor = omega (arith, floors i j inside above reached, here);
              halves = omega (arith, ahead i, behind j, blank.ahead i inside.begin, blank.behind j (omega (arith, between)));
            });
      }

  -- or what is paid in the middle between them, and what is behind
  pub joined_by_halves : (points : List Point) (halves : Option Halves) (middle paid : ℕ) (before between after : List Bound)
      → AreBoundsOf lasts begins farthest (penalty_of points) window before
      → slice_index farthest window ≤ middle → middle < begin → IfSome halves (AreHalvesOf points (slice_index begins window) middle last)
      → AreChanged (IsAheadFound halves paid) (slice_index begins window) (slice_index farthest window + 1) before between
      → AreChanged (IsBehindFound halves paid) begin (last + 1) between after
      → AreJoined lasts begins farthest (penalty_of points) window before after
  joined_by_halves points halves middle paid before between after so_far order beyond of_them here there =
      let apart = end_before size lasts begins farthest known are window room in
      let near = begin_near size lasts begins farthest known are window (omega arith) in
      let next = begin_near size lasts begins farthest known are (window + 1) room in
      let end : ℕ = slice_index farthest window in
      let floor_here = changed_each (IsAheadFound halves paid) (λ b a. a.floor ≡ b.floor) (slice_index begins window) (end + 1) before between here
      (λ k from to is. is.floor) (λ b. refl) in
      let behind_here = changed_each (IsAheadFound halves paid) (λ b a. a.behind ≡ b.behind) (slice_index begins window) (end + 1) before between here
      (λ k from to is. is.behind) (λ b. refl) in
      let ahead_there = changed_each (IsBehindFound halves paid) (λ b a. a.ahead ≡ b.ahead) begin (last + 1) between after there
      (λ k from to is. is.ahead) (λ b. refl) in
      record {
        early = λ k below. there.others k (inl (omega (arith, near, apart))) ∙ here.others k (inl below);
        late = λ k above. there.others k (inr (omega arith)) ∙ here.others k (inr (omega (arith, apart, next)));
        floor = λ k below. ap (λ (b : Bound). b.floor) (there.others k (inl below)) ∙ floor_here k;
        behind = λ k below. ap (λ (b : Bound). b.behind) (there.others k (inl below)) ∙ behind_here k;
        ahead = λ k past. ahead_there k ∙ ap (λ (b : Bound). b.ahead) (here.others k (inr (omega arith)));
        small = λ k above. elim (cases_lt k (last + 1)) [
          | inl below ↦ (there.changed k above below).small
          | inr late ↦ omega (arith, ap (λ (b : Bound). b.floor) (there.others k (inr late)), floor_here k, so_far.small k)
        ];
        joined = λ i j inside above reached.
            (let within = last_within size lasts begins farthest known are window room i inside in
            let start = here.changed i inside.begin (omega (arith, inside.end)) in
            let stop = there.changed j above (omega (arith, within)) in
            let same = there.others i (inl (omega (arith, inside.end, apart))) in
            let floor_same = ap (λ (b : Bound). b.floor) same in
            let ahead_same = ap (λ (b : Bound). b.ahead) same in
            let most = halves_most points (slice_index begins window) middle last halves of_them i j (bound_at between i).ahead (bound_at after j).behind
            inside.begin (omega (arith, inside.end)) (omega arith) (omega (arith, within)) start.ahead stop.behind in
            record {
              floor = omega (arith, stop.floor, start.enough, most, floor_same);
              halves = omega (arith, most, ahead_same);
            });
      }
