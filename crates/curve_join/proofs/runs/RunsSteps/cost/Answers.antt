use Rattle.curve_join.proofs.Slices.{ends_near, ends_within, joinable, penalty_is}
use Rattle.std.proofs.Common.{arith}
use Rattle.curve_join.specs.Inner.Costs.{goes_up}
use Rattle.curve_join.proofs.runs.RunsSteps.cost.Goals as goal

pub returns : goal.returns
returns c = penalty_is c.args.self.now.bends.items c.run.result.bends.now c.args.from c.args.to c.run.ensures c.if-to-from-eq1.false _ c.in-Some.penalty c.in-Some.ensures.is

pub unreachable-requires : goal.unreachable-requires
unreachable-requires c =
    c.in-None.ensures (joinable c.args.self.now.bends.items c.run.result.bends.now c.args.from c.args.to c.run.ensures c.if-to-from-eq1.false c.args.self.now.tol c.requires.allowed)

pub overflow_sub-to : goal.overflow_sub-to
overflow_sub-to c = omega (arith, goes_up c.args.self.now.tol c.args.self.now.bends.items c.args.from c.args.to c.requires.allowed)

pub run-requires-clause-onwards : goal.run-requires-clause-onwards
run-requires-clause-onwards c = omega (arith, c.if-to-from-eq1.false, goes_up c.args.self.now.tol c.args.self.now.bends.items c.args.from c.args.to c.requires.allowed)

pub run-requires-clause-within : goal.run-requires-clause-within
run-requires-clause-within c = ends_within c.args.self.now.bends.items c.args.self.now.tol c.args.from c.args.to c.if-to-from-eq1.false c.requires.allowed

pub run-requires-clause-few : goal.run-requires-clause-few
run-requires-clause-few c = ends_near c.args.self.now.bends.items c.args.self.now.tol c.args.from c.args.to c.if-to-from-eq1.false c.requires.allowed

pub joined_run-requires : goal.joined_run-requires
joined_run-requires c = c.args.self.now.tolerance
