use Rattle.std.proofs.Common.{arith}
use Rattle.vertex_adjust.proofs.vertices.quadratic_at.Goals as goal

pub quadratic_of-requires-clause-first : goal.quadratic_of-requires-clause-first
quadratic_of-requires-clause-first c =
    let is = c.requires.before in
    record { nx = is.nx; ny = is.ny; cx = omega (arith, is.cx); cy = omega (arith, is.cy) }

pub quadratic_of-requires-clause-second : goal.quadratic_of-requires-clause-second
quadratic_of-requires-clause-second c =
    let is = c.requires.after in
    record { nx = is.nx; ny = is.ny; cx = omega (arith, is.cx); cy = omega (arith, is.cy) }

pub quadratic_of-requires-clause-on_page : goal.quadratic_of-requires-clause-on_page
quadratic_of-requires-clause-on_page c = c.requires.on_page
