use Rattle.std.proofs.Common.{arith}
use Rattle.prefix_moments.proofs.growing.Growing.longer.Goals as goal

pub overflow_add-self : goal.overflow_add-self
overflow_add-self c = record { fits = c.requires.number }

pub place-requires : goal.place-requires
place-requires c = omega (arith, c.requires.lap, c.args.self.point)
