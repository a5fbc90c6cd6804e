use Rattle.std.proofs.Common.{ℕ, ◌<◌, ◌≤◌, List, length, inl, inr, arith}
use Rattle.std.proofs.lemmas.Bool.{cases_lt}
use Rattle.std.proofs.lemmas.List.{get_or_past}
use Rattle.std.specs.Prelude.{slice_index}
use Rattle.polygon_search.specs.Inner.OnePenalty.{penalty_is_one}
use Rattle.polygon_search.proofs.segments.SegmentsSteps.cost.Goals as goal

-- a segment leads from a point of the path
inside : (lasts : List ℕ) (from to : ℕ) → from < to → to ≤ slice_index lasts from → from < length lasts
inside lasts from to onwards reached = elim (cases_lt from (length lasts)) [
  | inl below ↦ below
  | inr past ↦ absurd (omega (arith, get_or_past lasts from 0 past))
]

pub penalty-requires-clause-start : goal.penalty-requires-clause-start
penalty-requires-clause-start c =
    let s = c.args.self.now in
    omega (arith, inside s.lasts.items c.args.from c.args.to c.requires.allowed.0 c.requires.allowed.1, s.places)

pub penalty-requires-clause-onwards : goal.penalty-requires-clause-onwards
penalty-requires-clause-onwards c = c.requires.allowed.0

pub penalty-requires-clause-steps : goal.penalty-requires-clause-steps
penalty-requires-clause-steps c =
    let s = c.args.self.now in
    let below : c.args.from < length s.moments.now = omega (arith, inside s.lasts.items c.args.from c.args.to c.requires.allowed.0 c.requires.allowed.1, s.places) in
    omega (arith, (s.onwards c.args.from below).short, c.requires.allowed.1)

pub penalty-requires-clause-lap : goal.penalty-requires-clause-lap
penalty-requires-clause-lap c =
    let s = c.args.self.now in
    let below : c.args.from < length s.moments.now = omega (arith, inside s.lasts.items c.args.from c.args.to c.requires.allowed.0 c.requires.allowed.1, s.places) in
    omega (arith, (s.onwards c.args.from below).within, c.requires.allowed.1)

pub returns : goal.returns
returns c = penalty_is_one c.args.self.now.moments.now c.args.from c.args.to c.penalty.result c.penalty.ensures
