use Rattle.std.proofs.Common.{◌≡◌, ℕ, ◌<◌, ◌≤◌, ◌^◌, List, length, refl, sym, subst, arith}
use Rattle.std.specs.Prelude.{unsigned_abs}
use Rattle.pt_core.specs.declared.point.Point.{Point}
use Rattle.prefix_moments.specs.Sums.{IsPenalty, spread_of}
use Rattle.polygon_search.specs.Inner.OnePenalty.{penalty_is, penalty_is_one}
use Rattle.polygon_search.specs.Polygon.{penalty_of}
use Rattle.polygon_search.proofs.search.cheaper_by.Goals as goal

-- what was said of each penalty by one list of points is so of the penalty by the same list
of_penalty : (points ps : List Point) (from to : ℕ) (P : ℕ → Type 0) → ps ≡ points
    → ((penalty : ℕ) → IsPenalty ps from to penalty → P penalty) → P (penalty_of points from to)
of_penalty points ps from to P same all = all (penalty_of points from to) (subst (λ ps. IsPenalty ps from to (penalty_of points from to)) (sym same) (penalty_is points from to))

-- a penalty is below 2^24
pub returns-then-reaches-clause-cheaper : goal.returns-then-reaches-clause-cheaper
returns-then-reaches-clause-cheaper c = λ lower.
    let s = c.args.segments.now in
    let segment = c.args.segment.now in
    let least = of_penalty s.moments.now _ segment.from segment.to (λ n. c.min-limit.result ≤ n) c.requires.segment (c.reaches.ensures.reached c.if-reaches.true) in
    let Q : List Point → Type 0 = λ points. segment.from < length points in
    let below = subst Q c.requires.segment segment.point in
    absurd (omega (arith, least, c.min-limit.ensures, s.cheap segment.from segment.to below (segment.onwards, c.requires.reached)))

pub returns-clause-cheaper : goal.returns-clause-cheaper
returns-clause-cheaper c = λ lower.
    let s = c.args.segment.now in
    let P : List Point → Type 0 = λ points. IsPenalty points s.from s.to c.penalty.result in
    let is = penalty_is_one c.args.segments.now.moments.now s.from s.to c.penalty.result (subst P c.requires.segment c.penalty.ensures) in
    (omega (arith, is), refl)

pub returns-clause-same : goal.returns-clause-same
returns-clause-same c = λ dear.
    let s = c.args.segment.now in
    let less = of_penalty c.args.segments.now.moments.now _ s.from s.to (λ n. n < c.min-limit.result) c.requires.segment (c.reaches.ensures.below c.if-reaches.false) in
    absurd (omega (arith, less, c.min-limit.ensures))

pub reaches-requires-clause-small : goal.reaches-requires-clause-small
reaches-requires-clause-small c =
    let s = c.args.segments.now in
    let segment = c.args.segment.now in
    let P : List Point → Type 0 = λ points. unsigned_abs (spread_of points segment.from segment.to) < 2 ^ 48 in
    let Q : List Point → Type 0 = λ points. segment.from < length points in
    subst P (sym c.requires.segment) (s.small segment.from segment.to (subst Q c.requires.segment segment.point) (segment.onwards, c.requires.reached))
