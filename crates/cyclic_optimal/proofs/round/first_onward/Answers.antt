use Rattle.std.proofs.Common.{◌≡◌, ℕ, ◌+◌, ◌-◌, ◌<◌, ◌≤◌, List, ◌∷◌, length, refl, ◌∙◌, ap, inl, inr, subst, sym, arith}
use Rattle.std.proofs.lemmas.Bool.{cases_lt}
use Rattle.std.proofs.lemmas.List.{get_or_default}
use Rattle.std.specs.Prelude.{slice_index}
use Rattle.straight_paths.specs.Straight.{IsPossible}
use Rattle.straight_paths.proofs.Far.{shorter_possible}
use Rattle.cyclic_optimal.specs.Inner.Fronts.{IsInLap, worth_of}
use Rattle.least_walk.specs.LeastWalk.{total_cost}
use Rattle.least_walk.specs.Inner.Suffix.{WalksOn}
use Rattle.least_walk.proofs.Going.{total_cost-cons}
use Rattle.pt_core.specs.declared.point.Point.{Point}
use Rattle.cyclic_optimal.proofs.Layers.{front_at, leads_on, not_by}
use Rattle.cyclic_optimal.proofs.round.first_onward.Goals as goal

pub segment-segment-requires-clause-possible : goal.segment-segment-requires-clause-possible
segment-segment-requires-clause-possible c =
    let s = c.args.sides.now in
    let later = c.args.later.now in
    let to = leads_on s.moments.now later c.args.i c.args.rest c.requires.front c.requires.rest c.requires.some c.requires.reached in
    shorter_possible s.moments.now c.args.i c.max-begin.result to.to to.possible
    (omega (arith, c.max-begin.ensures)) (omega (arith, c.max-begin.ensures, to.above, to.possible.rises))

pub loop-next-init : goal.loop-next-init
loop-next-init c =
    let is = c.segment-segment.ensures in
    record {
      moments = is.moments;
      from = is.from;
      to = is.to;
      before = λ j r below possible goes counted.
          absurd (c.requires.front.below j r (omega (arith, c.max-begin.ensures, possible.rises)) goes counted);
    }

pub leads_on-requires-clause-possible : goal.leads_on-requires-clause-possible
leads_on-requires-clause-possible c =
    let s = c.args.sides.now in
    shorter_possible s.moments.now c.args.i c.loop-next.next c.last.result c.last.ensures.reached
    (omega (arith, c.loop-next.auto.next, c.max-begin.ensures)) (omega (arith, c.loop-next-test.true, c.min-beyond.ensures))

pub longer-segment-requires-clause-steps : goal.longer-segment-requires-clause-steps
longer-segment-requires-clause-steps c =
    let s = c.args.sides.now in
    let possible = shorter_possible s.moments.now c.args.i (c.loop-next.next + 1) c.last.result c.last.ensures.reached
    (omega (arith, c.loop-next.auto.next, c.max-begin.ensures)) (omega (arith, c.loop-next-test.true, c.min-beyond.ensures)) in
    omega (arith, possible.short, possible.rises, c.loop-next.invariant.to)

pub longer-segment-requires-clause-lap : goal.longer-segment-requires-clause-lap
longer-segment-requires-clause-lap c =
    let s = c.args.sides.now in
    let possible = shorter_possible s.moments.now c.args.i (c.loop-next.next + 1) c.last.result c.last.ensures.reached
    (omega (arith, c.loop-next.auto.next, c.max-begin.ensures)) (omega (arith, c.loop-next-test.true, c.min-beyond.ensures)) in
    let P : List Point → Type 0 = λ points. c.loop-next.segment.to - c.loop-next.segment.from < length points in
    subst P (sym c.loop-next.invariant.moments) (omega (arith, possible.leaves_three, possible.rises, c.loop-next.invariant.to))

pub loop-next-preserved : goal.loop-next-preserved
loop-next-preserved c =
    let s = c.args.sides.now in
    let points = s.moments.now in
    let later = c.args.later.now in
    let so_far = c.loop-next.invariant in
    let is = c.longer-segment.ensures in
    let j = c.loop-next.next in
    let above : later.low ≤ j = omega (arith, c.loop-next.auto.next, c.max-begin.ensures) in
    let under : j < later.low + length later.least.items = omega (arith, c.loop-next-test.true, c.min-beyond.ensures) in
    let possible = shorter_possible points c.args.i j c.last.result c.last.ensures.reached
    (omega (arith, c.loop-next.auto.next, c.max-begin.ensures)) (omega (arith, c.loop-next-test.true, c.min-beyond.ensures)) in
    let value : c.index-least.result.now ≡ slice_index later.least.items (j - later.low)
    = c.index-least.ensures ∙ get_or_default later.least.items (j - later.low) c.index-least.result.now 0 (omega arith) in
    let P : ℕ → Type 0 = IsInLap (length points) c.args.i in
    record {
      moments = is.moments ∙ so_far.moments;
      from = subst P (sym is.from) so_far.from;
      to = omega (arith, is.from, is.to, so_far.to);
      before = λ k r below may goes counted. elim (cases_lt k j) [
        | inl earlier ↦ so_far.before k r earlier may goes counted
        | inr late ↦
            let e : k ≡ j = omega arith in
            let Q : ℕ → Type 0 = λ m. WalksOn later.end (IsPossible points) m r in
            let most = not_by points later c.args.i j c.args.rest r c.requires.front c.requires.rest c.requires.some possible above under
            (λ same. c.if-leads_on.ensures.not refl (ap (λ n. worth_of points c.args.i j + n) value ∙ same)) (subst Q e goes) counted in
            omega (arith, ap (λ m. total_cost (worth_of points) (c.args.i ∷ m ∷ r)) e)
      ];
    }

-- the segment counts so much
pub returns-then-leads_on : goal.returns-then-leads_on
returns-then-leads_on c =
    let s = c.args.sides.now in
    let points = s.moments.now in
    let later = c.args.later.now in
    let j = c.loop-next.next in
    let above : later.low ≤ j = omega (arith, c.loop-next.auto.next, c.max-begin.ensures) in
    let under : j < later.low + length later.least.items = omega (arith, c.loop-next-test.true, c.min-beyond.ensures) in
    let value : c.index-least.result.now ≡ slice_index later.least.items (j - later.low)
    = c.index-least.ensures ∙ get_or_default later.least.items (j - later.low) c.index-least.result.now 0 (omega arith) in
    record {
      possible = shorter_possible points c.args.i j c.last.result c.last.ensures.reached
          (omega (arith, c.loop-next.auto.next, c.max-begin.ensures)) (omega (arith, c.loop-next-test.true, c.min-beyond.ensures));
      least = front_at points later j c.index-least.result.now c.requires.front above under value;
      sum = c.if-leads_on.ensures.so refl;
      before = c.loop-next.invariant.before;
    }

-- no other one does, so the last one does
pub returns : goal.returns
returns c =
    let s = c.args.sides.now in
    let points = s.moments.now in
    let later = c.args.later.now in
    let begin = c.max-begin.result in
    let last : ℕ = c.min-beyond.result - 1 in
    let to = leads_on points later c.args.i c.args.rest c.requires.front c.requires.rest c.requires.some c.requires.reached in
    let near : to.to ≤ last = omega (arith, c.min-beyond.ensures, to.under, c.last.ensures.farthest to.to to.possible) in
    let high : begin ≤ last = omega (arith, c.max-begin.ensures, to.above, to.possible.rises) in
    let above : later.low ≤ last = omega (arith, c.max-begin.ensures) in
    let under : last < later.low + length later.least.items = omega (arith, c.min-beyond.ensures) in
    let value : c.index-least-2.result.now ≡ slice_index later.least.items (last - later.low)
    = c.index-least-2.ensures ∙ get_or_default later.least.items (last - later.low) c.index-least-2.result.now 0 (omega arith) in
    let ended : c.loop-next.next ≡ last = omega (arith, c.loop-next-test.false, c.loop-next.auto.next, c.loop-next.auto.next-end) in
    let here : to.to ≡ last = elim (cases_lt to.to last) [
      | inl earlier ↦
          let (r, goes, counted, costs) = (c.requires.front.each to.to to.above to.under).some (omega (arith, to.sum, c.requires.some)) in
          absurd (omega (
            arith,
            to.sum,
            total_cost-cons (worth_of points) c.args.i to.to r,
            c.loop-next.invariant.before to.to r (omega arith) to.possible goes counted,
          ))
      | inr not_earlier ↦ omega arith
    ] in
    record {
      possible = shorter_possible points c.args.i last c.last.result c.last.ensures.reached
          (omega (arith, c.max-begin.ensures)) (omega (arith, c.min-beyond.ensures));
      least = front_at points later last c.index-least-2.result.now c.requires.front above under value;
      sum = omega (
        arith,
        to.sum,
        value,
        ap (worth_of points c.args.i) here,
        ap (λ m. slice_index later.least.items (m - later.low)) here,
      );
      before = λ j r below. c.loop-next.invariant.before j r (omega arith);
    }

pub overflow_sub-next-end : goal.overflow_sub-next-end
overflow_sub-next-end c =
    let points = c.args.sides.now.moments.now in
    let to = leads_on points c.args.later.now c.args.i c.args.rest c.requires.front c.requires.rest c.requires.some c.requires.reached in
    omega (arith, c.min-beyond.ensures, to.under, c.last.ensures.farthest to.to to.possible, to.possible.rises)

pub overflow_sub-next-2 : goal.overflow_sub-next-2
overflow_sub-next-2 c =
    let points = c.args.sides.now.moments.now in
    let to = leads_on points c.args.later.now c.args.i c.args.rest c.requires.front c.requires.rest c.requires.some c.requires.reached in
    omega (arith, c.min-beyond.ensures, to.under, c.last.ensures.farthest to.to to.possible, to.possible.rises)

pub overflow_sub-next-3 : goal.overflow_sub-next-3
overflow_sub-next-3 c =
    let points = c.args.sides.now.moments.now in
    let to = leads_on points c.args.later.now c.args.i c.args.rest c.requires.front c.requires.rest c.requires.some c.requires.reached in
    omega (arith, c.min-beyond.ensures, to.above, to.under, c.last.ensures.farthest to.to to.possible, to.possible.rises)

pub index-least-requires-2 : goal.index-least-requires-2
index-least-requires-2 c =
    let points = c.args.sides.now.moments.now in
    let to = leads_on points c.args.later.now c.args.i c.args.rest c.requires.front c.requires.rest c.requires.some c.requires.reached in
    omega (arith, c.min-beyond.ensures, to.above, to.under, c.last.ensures.farthest to.to to.possible, to.possible.rises, c.args.later.now.least.ok.0)
