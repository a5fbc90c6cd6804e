use Rattle.std.proofs.Common.{sym, subst, ℤ, ◌≤◌, ◌^◌, unsigned_abs}
use Rattle.half_penalties.proofs.Fitting.{along_fits, along_fits_at_first, along_is, along_most}
use Rattle.half_penalties.proofs.bound.along_squares.Goals as goal

pub overflow_add-result : goal.overflow_add-result
overflow_add-result c = along_fits_at_first c.args.products c.args.slant c.requires.sums c.requires.slant

pub overflow_add-result-2 : goal.overflow_add-result-2
overflow_add-result-2 c = along_fits c.args.products c.args.slant c.requires.sums c.requires.slant

pub returns-clause-value : goal.returns-clause-value
returns-clause-value c = along_is c.args.products c.args.slant c.requires.sums c.requires.slant

pub returns-clause-most : goal.returns-clause-most
returns-clause-most c =
    let P : ℤ → Type 0 = λ z. unsigned_abs z ≤ 2 ^ 48 in
    subst P (sym (returns-clause-value c)) (along_most c.args.products c.args.slant c.requires.sums c.requires.slant)
