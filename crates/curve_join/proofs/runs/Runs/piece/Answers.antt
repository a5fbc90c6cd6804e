use Rattle.std.proofs.Common.{arith}
use Rattle.curve_join.proofs.Slices.{ends_near, joinable}
use Rattle.curve_join.proofs.runs.Runs.piece.Goals as goal

pub overflow_sub-to : goal.overflow_sub-to
overflow_sub-to c = omega (arith, c.requires.onwards)

pub bounds-pieces-from : goal.bounds-pieces-from
bounds-pieces-from c = omega (arith, c.requires.onwards, c.requires.within)

pub run-requires-clause-onwards : goal.run-requires-clause-onwards
run-requires-clause-onwards c = omega (arith, c.if-to-from-eq1.false, c.requires.onwards)

pub run-requires-clause-within : goal.run-requires-clause-within
run-requires-clause-within c = omega (arith, c.requires.within, c.requires.one_each)

pub run-requires-clause-few : goal.run-requires-clause-few
run-requires-clause-few c = ends_near c.args.self.now.bends.items c.args.self.now.tol c.args.from c.args.to c.if-to-from-eq1.false c.requires.run

pub joined_curve-requires-clause-tangents : goal.joined_curve-requires-clause-tangents
joined_curve-requires-clause-tangents c =
    (joinable c.args.self.now.bends.items c.run.result.bends.now c.args.from c.args.to c.run.ensures c.if-to-from-eq1.false c.args.self.now.tol c.requires.run).tangents

pub joined_curve-requires-clause-area : goal.joined_curve-requires-clause-area
joined_curve-requires-clause-area c =
    (joinable c.args.self.now.bends.items c.run.result.bends.now c.args.from c.args.to c.run.ensures c.if-to-from-eq1.false c.args.self.now.tol c.requires.run).area
