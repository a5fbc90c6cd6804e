use Rattle.std.proofs.Common.{arith}
use Rattle.std.proofs.lemmas.Int.{ints}
use Rattle.path_decompose.proofs.trail.Trail.note.Goals as goal

pub overflow_cast-x : goal.overflow_cast-x
overflow_cast-x c = omega (arith, ints, c.requires.column)

pub overflow_cast-y : goal.overflow_cast-y
overflow_cast-y c = omega (arith, ints, c.requires.row)

pub overflow_add-self : goal.overflow_add-self
overflow_add-self c = omega (arith, c.from.ensures, c.requires.sums.up, c.requires.column)

pub overflow_add-self-in-South : goal.overflow_add-self-in-South
overflow_add-self-in-South c = omega (arith, c.from-in-South.ensures, c.requires.sums.down, c.requires.column)
