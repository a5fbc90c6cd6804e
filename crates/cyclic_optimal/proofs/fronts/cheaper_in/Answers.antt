use Rattle.std.proofs.Common.{◌≡◌, ℕ, ◌+◌, ◌-◌, ◌<◌, ◌≤◌, List, length, ◌∙◌, inl, inr, subst, sym, arith}
use Rattle.std.proofs.lemmas.Bool.{cases_lt}
use Rattle.std.proofs.lemmas.List.{get_or_default}
use Rattle.std.specs.Prelude.{slice_index}
use Rattle.pt_core.specs.declared.point.Point.{Point}
use Rattle.cyclic_optimal.specs.Inner.Fronts.{IsInLap, worth_of}
use Rattle.cyclic_optimal.proofs.Layers.{front_at, rest_most, via_more}
use Rattle.cyclic_optimal.proofs.fronts.cheaper_in.Goals as goal

pub loop-j-init : goal.loop-j-init
loop-j-init c =
    let s = c.args.sides.now in
    let front = c.args.later.now in
    let j = c.args.begin in
    let value : c.index-first.result.now ≡ slice_index front.least.items (j - front.low)
    = c.index-first.ensures ∙ get_or_default front.least.items (j - front.low) c.index-first.result.now 0 (omega (arith, c.requires.low, c.requires.some, c.requires.high)) in
    let is = c.segment-segment.ensures in
    record {
      moments = is.moments;
      from = is.from;
      to = omega (arith, is.to);
      least = via_more s.moments.now front.end front.left c.args.i j c.args.best.least c.index-first.result.now c.lower-cheapest.result.least
          (c.requires.possible j (omega (arith, c.requires.onwards)) (omega (arith, c.requires.some)))
          (front_at s.moments.now front j c.index-first.result.now c.requires.front (omega (arith, c.requires.low)) (omega (arith, c.requires.some, c.requires.high)) value)
          c.lower-cheapest.ensures.lower c.lower-cheapest.ensures.same c.requires.most c.requires.least;
      most = elim (cases_lt (worth_of s.moments.now c.args.i j + c.index-first.result.now) c.args.best.least) [
        | inl less ↦ omega (arith, c.lower-cheapest.ensures.lower less, c.requires.most)
        | inr more ↦ omega (arith, c.lower-cheapest.ensures.same more, c.requires.most)
      ];
    }

pub loop-j-preserved : goal.loop-j-preserved
loop-j-preserved c =
    let s = c.args.sides.now in
    let front = c.args.later.now in
    let j = c.loop-j.j in
    let so_far = c.loop-j.invariant in
    let above : front.low ≤ j = omega (arith, c.loop-j.auto.j, c.requires.low) in
    let under : j < front.low + length front.least.items = omega (arith, c.loop-j-test.true, c.requires.high) in
    let value : c.index.result.now ≡ slice_index front.least.items (j - front.low)
    = c.index.ensures ∙ get_or_default front.least.items (j - front.low) c.index.result.now 0 (omega arith) in
    let is = c.longer-segment.ensures in
    let P : ℕ → Type 0 = IsInLap (length s.moments.now) c.args.i in
    record {
      moments = is.moments ∙ so_far.moments;
      from = subst P (sym is.from) so_far.from;
      to = omega (arith, is.from, is.to, so_far.to);
      least = via_more s.moments.now front.end front.left c.args.i j c.loop-j.cheapest.least c.index.result.now c.lower-cheapest-in-loop-j.result.least
          (c.requires.possible j (omega (arith, c.loop-j.auto.j, c.requires.onwards)) (omega (arith, c.loop-j-test.true)))
          (front_at s.moments.now front j c.index.result.now c.requires.front above under value)
          c.lower-cheapest-in-loop-j.ensures.lower c.lower-cheapest-in-loop-j.ensures.same so_far.most so_far.least;
      most = elim (cases_lt (worth_of s.moments.now c.args.i j + c.index.result.now) c.loop-j.cheapest.least) [
        | inl less ↦ omega (arith, c.lower-cheapest-in-loop-j.ensures.lower less, so_far.most)
        | inr more ↦ omega (arith, c.lower-cheapest-in-loop-j.ensures.same more, so_far.most)
      ];
    }

pub lower-cheapest-requires-clause-most : goal.lower-cheapest-requires-clause-most
lower-cheapest-requires-clause-most c =
    λ below.
    (let s = c.args.sides.now in
    let front = c.args.later.now in
    let j = c.args.begin in
    let above : front.low ≤ j = omega (arith, c.requires.low) in
    let under : j < front.low + length front.least.items = omega (arith, c.requires.some, c.requires.high) in
    let value : c.index-first.result.now ≡ slice_index front.least.items (j - front.low)
    = c.index-first.ensures ∙ get_or_default front.least.items (j - front.low) c.index-first.result.now 0 (omega arith) in
    rest_most s.moments.now s.on_page front.end front.left j c.index-first.result.now c.requires.end c.requires.left
    (front_at s.moments.now front j c.index-first.result.now c.requires.front above under value)
    (omega (arith, c.requires.most)))

pub longer-segment-requires-clause-steps : goal.longer-segment-requires-clause-steps
longer-segment-requires-clause-steps c =
    let possible = c.requires.possible c.loop-j.j (omega (arith, c.loop-j.auto.j, c.requires.onwards)) (omega (arith, c.loop-j-test.true)) in
    omega (arith, possible.short, possible.rises, c.loop-j.invariant.to)

pub longer-segment-requires-clause-lap : goal.longer-segment-requires-clause-lap
longer-segment-requires-clause-lap c =
    let possible = c.requires.possible c.loop-j.j (omega (arith, c.loop-j.auto.j, c.requires.onwards)) (omega (arith, c.loop-j-test.true)) in
    let P : List Point → Type 0 = λ points. c.loop-j.segment.to - c.loop-j.segment.from < length points in
    subst P (sym c.loop-j.invariant.moments)
    (omega (arith, possible.leaves_three, possible.rises, c.loop-j.invariant.to))

pub lower-cheapest-requires-in-loop-j-clause-possible : goal.lower-cheapest-requires-in-loop-j-clause-possible
lower-cheapest-requires-in-loop-j-clause-possible c =
    c.requires.possible c.loop-j.j (omega (arith, c.loop-j.auto.j, c.requires.onwards)) (omega (arith, c.loop-j-test.true))

pub lower-cheapest-requires-in-loop-j-clause-most : goal.lower-cheapest-requires-in-loop-j-clause-most
lower-cheapest-requires-in-loop-j-clause-most c =
    λ below.
    (let s = c.args.sides.now in
    let front = c.args.later.now in
    let j = c.loop-j.j in
    let above : front.low ≤ j = omega (arith, c.loop-j.auto.j, c.requires.low) in
    let under : j < front.low + length front.least.items = omega (arith, c.loop-j-test.true, c.requires.high) in
    let value : c.index.result.now ≡ slice_index front.least.items (j - front.low)
    = c.index.ensures ∙ get_or_default front.least.items (j - front.low) c.index.result.now 0 (omega arith) in
    rest_most s.moments.now s.on_page front.end front.left j c.index.result.now c.requires.end c.requires.left
    (front_at s.moments.now front j c.index.result.now c.requires.front above under value)
    (omega (arith, c.loop-j.invariant.most)))
