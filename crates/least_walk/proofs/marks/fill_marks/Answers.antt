use Rattle.std.proofs.Common.{◌+◌, Bool, List, sym, ◌∙◌, subst, arith}
use Rattle.std.proofs.lemmas.Bool.{false≢true}
use Rattle.least_walk.specs.Inner.MarkedPlaces.{IsMarked}
use Rattle.least_walk.proofs.Marking.{AreSpread, spread_start, spread_same, spread_more, spread_whole}
use Rattle.least_walk.proofs.marks.fill_marks.Goals as goal
use Rattle.least_walk.proofs.marks.fill_marks.Goals.{then-marks-from, else-marks-from}

pub loop-from-init : goal.loop-from-init
loop-from-init g c =
    let steps = c.args.steps.now in
    spread_start (g.S.Steps.size_of steps) (g.S.Steps.is_allowed steps) c.args.counts.now c.requires.fewest
    c.args.marks.now c.requires.mark_places c.requires.unmarked

pub mark_onward-requires-clause-place : goal.mark_onward-requires-clause-place
mark_onward-requires-clause-place g c = c.loop-from.invariant.places c.loop-from.from (omega arith) c.if-marks-from.true

pub mark_onward-requires-clause-places : goal.mark_onward-requires-clause-places
mark_onward-requires-clause-places g c = c.loop-from.invariant.places

pub loop-from-preserved : goal.loop-from-preserved
loop-from-preserved g c =
    let steps = c.args.steps.now in
    let size = g.S.Steps.size_of steps in
    let is_allowed = g.S.Steps.is_allowed steps in
    let counts = c.args.counts.now in
    let P : List Bool → Type 0 = AreSpread size is_allowed counts (c.loop-from.from + 1) in
    elim c.if-marks-from.branch [
      | then-marks-from w ↦
          let more = w.mark_onward.ensures in
          subst P (sym w.marks-is)
          (spread_more size is_allowed counts c.requires.fewest c.loop-from.from c.loop-from.marks w.mark_onward.new.marks
          more.mark_places more.places more.kept more.earlier more.onward c.loop-from.invariant)
      | else-marks-from w ↦
          let unmarked : ¬ IsMarked c.loop-from.marks c.loop-from.from = λ is. false≢true (sym w.if-marks-from.false ∙ is) in
          subst P (sym w.marks-is)
          (spread_same size is_allowed counts c.requires.fewest c.loop-from.from c.loop-from.marks unmarked c.loop-from.invariant)
    ]

pub returns : goal.returns
returns g c =
    let steps = c.args.steps.now in
    spread_whole (g.S.Steps.size_of steps) (g.S.Steps.is_allowed steps) c.args.counts.now c.requires.fewest
    c.loop-from.from c.loop-from.marks (omega arith) c.loop-from.invariant
