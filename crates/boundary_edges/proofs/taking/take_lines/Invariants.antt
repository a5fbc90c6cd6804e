use Rattle.boundary_edges.specs.Inner.Taken.{AreLinesTaken}
use Rattle.boundary_edges.proofs.taking.take_lines.Given as goal

-- the lines up to this corner are taken away
abbrev pub invariant-lines : goal.invariant-lines
invariant-lines l = AreLinesTaken l.rows l.starts l.points l.i l.fn.words l.words
