use Rattle.std.proofs.Common.{◌∙◌, arith}
use Rattle.pt_core.proofs.Sizes.{back, long_back}
use Rattle.half_penalties.proofs.Forms.{bound_shown, zero_bound}
use Rattle.half_penalties.proofs.bound.bound_by.Goals as goal

pub returns-then-is_bound-clause-bound : goal.returns-then-is_bound-clause-bound
returns-then-is_bound-clause-bound c =
    let d = c.determinant in
    let a = c.along_squares-along in
    let determinant = long_back d.result (omega (arith, d.ensures.most)) ∙ d.ensures.value in
    let along = back a.result (omega (arith, a.ensures.most)) ∙ a.ensures.value in
    let slant = back c.args.slant (omega (arith, c.requires.slant)) in
    bound_shown c.args.products c.args.slant c.args.weight c.near_bound-guess.result c.requires.sums c.requires.slant
    (rw (determinant, along, slant) at (c.is_bound.ensures c.if-is_bound.true))

pub returns-clause-bound : goal.returns-clause-bound
returns-clause-bound c = zero_bound c.args.products c.args.slant c.args.weight c.requires.sums
