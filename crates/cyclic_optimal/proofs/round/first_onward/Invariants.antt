use Rattle.std.proofs.Common.{◌≡◌, ℕ, ◌+◌, ◌<◌, List, ◌∷◌, length}
use Rattle.straight_paths.specs.Straight.{IsPossible}
use Rattle.least_walk.specs.LeastWalk.{total_cost}
use Rattle.least_walk.specs.Inner.Suffix.{WalksOn}
use Rattle.cyclic_optimal.specs.Inner.Fronts.{IsInLap, worth_of}
use Rattle.cyclic_optimal.proofs.round.first_onward.Given as goal

abbrev pub invariant-loop-next : goal.invariant-loop-next
invariant-loop-next l = record {
  moments : l.segment.moments.now ≡ l.sides.moments.now;
  from : IsInLap (length l.sides.moments.now) l.i l.segment.from;
  to : l.segment.to + l.i ≡ l.next + l.segment.from;
  before : (j : ℕ) (r : List ℕ) → j < l.next → IsPossible l.sides.moments.now l.i j
      → WalksOn l.later.end (IsPossible l.sides.moments.now) j r → length r ≡ l.later.left
      → l.rest < total_cost (worth_of l.sides.moments.now) (l.i ∷ j ∷ r);
}
