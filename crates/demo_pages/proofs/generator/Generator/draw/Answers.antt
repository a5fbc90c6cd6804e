use Rattle.std.proofs.Common.{arith}
use Rattle.demo_pages.specs.Generator.{next_state}
use Rattle.demo_pages.proofs.generator.Generator.draw.Goals as goal

pub returns-clause-state : goal.returns-clause-state
unfolding next_state
returns-clause-state c = omega (arith, c.self.view_is)

pub returns-clause-number : goal.returns-clause-number
unfolding next_state
returns-clause-number c = omega (arith, c.self.view_is)
