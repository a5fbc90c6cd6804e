use Rattle.std.proofs.Common.{◌<◌, ◌≤◌, length, arith}
use Rattle.least_walk.proofs.Marking.{onward_none, onward_more}
use Rattle.least_walk.proofs.marks.mark_onward.Goals as goal

pub loop-to-init : goal.loop-to-init
loop-to-init g c =
    let steps = c.args.steps.now in
    onward_none (g.S.Steps.size_of steps) (g.S.Steps.is_allowed steps) c.args.counts.now c.requires.fewest
    c.args.from c.args.marks.now c.requires.places

pub loop-to-preserved : goal.loop-to-preserved
loop-to-preserved g c =
    let steps = c.args.steps.now in
    let last = g.met.S.Steps.last_is_within steps c.args.from c.requires.from in
    let so_far = c.loop-to.invariant in
    let within : c.loop-to.to ≤ g.S.Steps.size_of steps = omega arith in
    let room : c.loop-to.to < length c.loop-to.marks = omega (arith, so_far.mark_places) in
    onward_more (g.S.Steps.size_of steps) (g.S.Steps.is_allowed steps) c.args.counts.now c.requires.fewest
    c.args.from c.loop-to.to c.args.marks.now c.loop-to.marks c.is_reached.result c.requires.place (omega arith) within room
    c.is_reached.ensures so_far

pub returns : goal.returns
returns g c =
    let steps = c.args.steps.now in
    let done = c.loop-to.invariant in
    record {
      mark_places = done.mark_places;
      places = done.places;
      kept = done.kept;
      earlier = done.earlier;
      onward = λ k above within keeps.
          let last = g.met.S.Steps.allowed_ends_at_last steps c.args.from k c.requires.from keeps.0 in
          done.onward k above (omega arith) keeps;
    }
