use Rattle.std.proofs.Common.{arith, get_or}
use Rattle.least_walk.proofs.Going.{fewest_below}
use Rattle.least_walk.proofs.marks.is_reached.Goals as goal

-- the fewest steps are at most as many as the size, 2^31
pub overflow_add-counts : goal.overflow_add-counts
overflow_add-counts g c =
    let steps = c.args.steps.now in
    let to = c.args.to in
    let fewest = c.requires.fewest to (omega arith) c.requires.within in
    let count = get_or c.args.counts.now to 0 in
    omega (
      arith,
      g.met.S.Steps.greatest_size steps,
      fewest_below (g.S.Steps.size_of steps) (g.S.Steps.is_allowed steps) to count fewest,
    )
