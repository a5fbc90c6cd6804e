-- The last line goes back to the first corner.
use Rattle.std.proofs.Common.{◌-◌, length, arith}
use Rattle.boundary_edges.proofs.LineSpots.{step_last}
use Rattle.boundary_edges.proofs.LinesTaken.{all_taken, none_taken, step_next, taken_more}
use Rattle.boundary_edges.proofs.taking.take_lines.Goals as goal

pub lines-init : goal.lines-init
lines-init c = none_taken c.args.rows c.args.starts.now c.args.points.now c.args.words.now (omega (arith, c.requires.words.closed.least)) c.requires.blocks

pub take_line-requires-clause-step : goal.take_line-requires-clause-step
take_line-requires-clause-step c = step_next c.args.points.now c.lines.i c.requires.words.closed (omega (arith, c.lines-test.true))

pub lines-preserved : goal.lines-preserved
lines-preserved c =
    taken_more c.args.rows c.args.starts.now c.args.points.now c.lines.i c.args.words.now c.lines.words c.take_line.new.words c.lines.invariant (omega (arith, c.lines-test.true)) c.take_line.ensures

pub take_line-requires-2-clause-step : goal.take_line-requires-2-clause-step
take_line-requires-2-clause-step c = step_last c.args.points.now (length c.args.points.now - 1) c.requires.words.closed (omega (arith, c.requires.words.closed.least))

pub returns : goal.returns
returns c =
    all_taken c.args.rows c.args.starts.now c.args.points.now c.lines.i (length c.args.points.now - 1) c.args.words.now c.lines.words c.take_line-2.new.words
    (omega (arith, c.lines-test.false, c.lines.auto.i-end)) (omega (arith, c.requires.words.closed.least)) c.lines.invariant c.take_line-2.ensures
