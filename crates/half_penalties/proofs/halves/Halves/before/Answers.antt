use Rattle.std.proofs.Common.{◌-◌, sym, subst, arith}
use Rattle.pt_core.proofs.Sizes.{back}
use Rattle.half_penalties.specs.Inner.Products.{AreHalfSums}
use Rattle.half_penalties.proofs.Sums.{are_sums, half_bound, zero_half}
use Rattle.half_penalties.proofs.halves.Halves.before.Goals as goal

pub returns-then-i-self-clause-bound : goal.returns-then-i-self-clause-bound
returns-then-i-self-clause-bound c =
    let h = c.args.self.now in
    zero_half h.moments.now c.args.i c.args.i h.middle h.slant (h.middle - c.args.i)

pub bound_by-requires-clause-sums : goal.bound_by-requires-clause-sums
bound_by-requires-clause-sums c =
    let h = c.args.self.now in
    subst AreHalfSums (sym c.products_from.ensures) (are_sums h.moments.now c.args.i c.args.i h.middle h.on_page c.requires.steps)

pub returns-clause-bound : goal.returns-clause-bound
returns-clause-bound c =
    let h = c.args.self.now in
    let slant = back h.slant (omega (arith, h.slanted)) in
    half_bound h.moments.now c.args.i c.args.i h.middle h.slant (h.middle - c.args.i) c.bound_by.result
    (rw (c.products_from.ensures, slant) at c.bound_by.ensures.bound)
