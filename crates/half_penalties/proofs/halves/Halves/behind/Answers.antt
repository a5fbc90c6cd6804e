use Rattle.std.proofs.Common.{◌≡◌, ℕ, ◌+◌, ◌-◌, sym, subst, arith}
use Rattle.pt_core.proofs.Sizes.{back}
use Rattle.half_penalties.specs.Inner.Products.{AreHalfSums}
use Rattle.half_penalties.specs.Inner.HalfPenalties.{IsHalfBound}
use Rattle.half_penalties.proofs.Sums.{are_sums, half_bound, zero_half}
use Rattle.half_penalties.proofs.halves.Halves.behind.Goals as goal

pub returns-then-j-next-clause-bound : goal.returns-then-j-next-clause-bound
returns-then-j-next-clause-bound c =
    let h = c.args.self.now in
    zero_half h.moments.now c.args.j (h.middle + 1) c.args.j h.slant (c.args.j - h.middle - 1)

pub bound_by-requires-clause-sums : goal.bound_by-requires-clause-sums
bound_by-requires-clause-sums c =
    let h = c.args.self.now in
    subst AreHalfSums (sym c.products_to.ensures) (are_sums h.moments.now c.args.j (h.middle + 1) c.args.j h.on_page (omega (arith, c.requires.steps)))

pub returns-clause-bound : goal.returns-clause-bound
returns-clause-bound c =
    let h = c.args.self.now in
    let slant = back h.slant (omega (arith, h.slanted)) in
    let weight : c.args.j - (h.middle + 1) ≡ c.args.j - h.middle - 1 = omega arith in
    let P : ℕ → Type 0 = λ w. IsHalfBound h.moments.now h.slant c.args.j (h.middle + 1) c.args.j w c.bound_by.result in
    subst P weight
    (half_bound h.moments.now c.args.j (h.middle + 1) c.args.j h.slant (c.args.j - (h.middle + 1)) c.bound_by.result
    (rw (c.products_to.ensures, slant) at c.bound_by.ensures.bound))
