use Rattle.std.proofs.Common.{◌≡◌, ℕ, ◌+◌, ◌<◌, ◌≤◌, ◌^◌, List, sym, subst, arith}
use Rattle.std.specs.Prelude.{IfNone, unsigned_abs}
use Rattle.pt_core.specs.declared.point.Point.{Point}
use Rattle.prefix_moments.specs.Sums.{IsPenalty, spread_of}
use Rattle.polygon_search.specs.Polygon.{penalty_of}
use Rattle.polygon_search.specs.Inner.OnePenalty.{penalty_is_one}
use Rattle.cyclic_optimal.proofs.Worth.{dear, where_none, where_some}
use Rattle.cyclic_optimal.proofs.sides.WalkSegments.penalty_below.Goals as goal

pub returns-clause-some : goal.returns-clause-some
returns-clause-some c =
    let points = c.args.self.now.moments.now in
    let segment = c.args.segment.now in
    let P : ℕ → List Point → Type 0 = λ penalty walk. IsPenalty walk segment.from segment.to penalty in
    where_some (λ (penalty : ℕ). IsPenalty segment.moments.now segment.from segment.to penalty)
    (λ (penalty : ℕ). penalty ≡ penalty_of points segment.from segment.to) c.penalty_below.result
    (λ penalty is. penalty_is_one points segment.from segment.to penalty (subst (P penalty) c.requires.moments is))
    c.penalty_below.ensures.some

pub returns-clause-none : goal.returns-clause-none
returns-clause-none c =
    let s = c.args.self.now in
    let segment = c.args.segment.now in
    let P : List Point → Type 0 = λ walk. IfNone c.penalty_below.result
    ((penalty : ℕ) → IsPenalty walk segment.from segment.to penalty → c.min.result + 1 ≤ penalty) in
    where_none c.penalty_below.result
    (dear s.moments.now segment.from segment.to c.args.limit (c.min.result + 1) (s.cheap segment.from segment.to c.requires.possible)
    (omega (arith, c.min.ensures)))
    (subst P c.requires.moments c.penalty_below.ensures.none)

pub penalty_below-requires-clause-small : goal.penalty_below-requires-clause-small
penalty_below-requires-clause-small c =
    let s = c.args.self.now in
    let segment = c.args.segment.now in
    let P : List Point → Type 0 = λ points. unsigned_abs (spread_of points segment.from segment.to) < 2 ^ 48 in
    subst P (sym c.requires.moments) (s.small segment.from segment.to c.requires.possible)
