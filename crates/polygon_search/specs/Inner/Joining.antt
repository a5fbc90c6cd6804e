-- How what is known of two windows' vertices grows.
use Rattle.std.specs.Prelude.{◌≡◌, ℕ, ◌+◌, ◌-◌, ◌⊎◌, ◌<◌, ◌≤◌, ◌^◌, List, length, slice_index, IfSome, IfNone}
use Rattle.std.specs.declared.option.Option.{Option}
use Rattle.pt_core.specs.declared.limits.TheConstants.{MOST_STEPS}
use Rattle.half_penalties.specs.Inner.HalfPenalties.{IsBoundBefore, IsBoundBehind}
use Rattle.half_penalties.specs.declared.halves.Halves.{Halves}
use Rattle.polygon_search.specs.declared.bounds.Bound.{Bound}
use Rattle.polygon_search.specs.Inner.VertexBounds.{bound_at}

-- of no vertex of this window or a later one is anything ahead, and of none of the later ones is anything behind
pub record AreBlank (begins farthest : List ℕ) (window : ℕ) (bounds : List Bound) : Type 0 where
  pub ahead : (k : ℕ) → slice_index begins window ≤ k → (bound_at bounds k).ahead ≡ 0
  pub behind : (k : ℕ) → slice_index farthest window < k → (bound_at bounds k).behind ≡ 0

-- what is known of the points from `begin` to before `end` was changed in this way, and nothing else was
pub record AreChanged (is_change : ℕ → Bound → Bound → Type 0) (begin end : ℕ) (before after : List Bound) : Type 0 where
  pub places : length after ≡ length before
  pub others : (k : ℕ) → (k < begin) ⊎ (end ≤ k) → bound_at after k ≡ bound_at before k
  pub changed : (k : ℕ) → begin ≤ k → k < end → is_change k (bound_at before k) (bound_at after k)

-- the floor alone may be another
pub record IsFloorChange (before after : Bound) : Type 0 where
  pub floor : after.floor < 2 ^ 56
  pub ahead : after.ahead ≡ before.ahead
  pub behind : after.behind ≡ before.behind

-- the floor was lowered to what a polygon pays that comes there by a segment of this cost, if it was higher
pub record IsLowered (paid cost : ℕ) (before after : Bound) : Type 0 where
  pub lower : after.floor ≤ before.floor
  pub floor : after.floor ≤ paid + cost
  pub ahead : after.ahead ≡ before.ahead
  pub behind : after.behind ≡ before.behind

-- the points from `first` to `end` are up to the middle of these halves, and not too far from it
pub record ReachesBack (halves : Halves) (first end : ℕ) : Type 0 where
  pub order : end ≤ halves.middle
  pub steps : halves.middle - first ≤ MOST_STEPS
  pub inside : halves.middle < length halves.moments.now

-- the points from `begin` to `last` are beyond the middle of these halves, and not too far from it
pub record ReachesOn (halves : Halves) (begin last : ℕ) : Type 0 where
  pub beyond : halves.middle < begin
  pub steps : last - halves.middle ≤ MOST_STEPS
  pub lap : last ≤ length halves.moments.now
  pub inside : halves.middle < length halves.moments.now

-- the half from point i to the middle adds so much at least: nothing, where there are no halves
pub record IsAheadOf (halves : Option Halves) (i ahead : ℕ) : Type 0 where
  pub some : IfSome halves (λ h. IsBoundBefore h.moments.now h.slant h.middle i ahead)
  pub none : IfNone halves (ahead ≡ 0)

-- the same of the half from the middle to point j
pub record IsBehindOf (halves : Option Halves) (j behind : ℕ) : Type 0 where
  pub some : IfSome halves (λ h. IsBoundBehind h.moments.now h.slant h.middle j behind)
  pub none : IfNone halves (behind ≡ 0)

-- what is ahead of point k was written, and a polygon through it has paid at least so much in the middle
pub record IsAheadFound (halves : Option Halves) (paid k : ℕ) (before after : Bound) : Type 0 where
  pub ahead : IsAheadOf halves k after.ahead
  pub enough : paid ≤ after.floor + after.ahead
  pub floor : after.floor ≡ before.floor
  pub behind : after.behind ≡ before.behind

-- what is behind point k was written, and its floor, where polygons have paid so much in the middle
pub record IsBehindFound (halves : Option Halves) (paid k : ℕ) (before after : Bound) : Type 0 where
  pub behind : IsBehindOf halves k after.behind
  pub floor : after.floor ≤ paid + after.behind
  pub small : after.floor < 2 ^ 56
  pub ahead : after.ahead ≡ before.ahead
