use Rattle.std.proofs.Common.{◌≡◌, ℕ, ◌<◌, ◌≤◌, List, length, sym, subst, arith}
use Rattle.pt_core.specs.declared.point.Point.{Point}
use Rattle.prefix_moments.specs.Sums.{IsPenalty}
use Rattle.polygon_search.specs.Inner.OnePenalty.{penalty_is, penalty_is_one}
use Rattle.polygon_search.specs.Polygon.{penalty_of}
use Rattle.outline_check.proofs.onward.cheaper_by.Goals as goal

-- what was said of each penalty by one list of points is so of the penalty by the same list
of_penalty : (points ps : List Point) (from i to : ℕ) (P : ℕ → Type 0) → ps ≡ points → i ≡ from
    → ((penalty : ℕ) → IsPenalty ps i to penalty → P penalty) → P (penalty_of points from to)
of_penalty points ps from i to P same at all =
    let Q : List Point → Type 0 = λ ps. IsPenalty ps from to (penalty_of points from to) in
    let R : ℕ → Type 0 = λ i. IsPenalty ps i to (penalty_of points from to) in
    all (penalty_of points from to) (subst R (sym at) (subst Q (sym same) (penalty_is points from to)))

-- a penalty is below 2^24
pub returns-then-reaches-clause-cheaper : goal.returns-then-reaches-clause-cheaper
returns-then-reaches-clause-cheaper c = λ lower.
    let s = c.args.window.now.segments.now in
    let start = c.args.window.now.start in
    let segment = c.args.segment.now in
    let least = of_penalty s.moments _ start.from segment.from segment.to (λ n. c.min-limit.result ≤ n) c.requires.segment c.requires.from (c.reaches.ensures.reached c.if-reaches.true) in
    let R : List Point → Type 0 = λ points. start.from < length points in
    let below = subst R c.args.window.now.one_walk start.point in
    absurd (omega (
      arith,
      least,
      c.min-limit.ensures,
      c.requires.rest,
      s.cheap start.from segment.to below
          (omega (arith, c.requires.from, segment.onwards), omega (arith, c.args.window.now.reached, c.requires.near)),
    ))

pub returns-clause-cheaper : goal.returns-clause-cheaper
returns-clause-cheaper c = λ lower.
    let points = c.args.window.now.segments.now.moments in
    let from = c.args.window.now.start.from in
    let to = c.args.segment.now.to in
    let P : List Point → Type 0 = λ points. IsPenalty points c.args.segment.now.from to c.penalty.result in
    let Q : ℕ → Type 0 = λ from. IsPenalty points from to c.penalty.result in
    let is = penalty_is_one points from to c.penalty.result (subst Q c.requires.from (subst P c.requires.segment c.penalty.ensures)) in
    let rest = c.requires.rest in
    cc

pub returns-clause-same : goal.returns-clause-same
returns-clause-same c = λ dear.
    let s = c.args.window.now.segments.now in
    let segment = c.args.segment.now in
    let less = of_penalty s.moments _ c.args.window.now.start.from segment.from segment.to (λ n. n < c.min-limit.result) c.requires.segment c.requires.from (c.reaches.ensures.below c.if-reaches.false) in
    absurd (omega (arith, less, c.min-limit.ensures, c.requires.rest))
