use Rattle.std.proofs.Common.{ℤ, FitsSigned, w32, sym, subst, ◌∙◌, arith}
use Rattle.std.proofs.lemmas.Int.{ints, to_z-of_z}
use Rattle.page_trace.proofs.known_outlines.way_between.Goals as goal

pub returns-clause-right : goal.returns-clause-right
returns-clause-right c =
    let fits = c.in_ok-right.ensures.0 in
    let is = c.in_ok-right.ensures.1 in
    to_z-of_z w32 c.in_ok-right.right (subst (λ (z : ℤ). FitsSigned w32 z) (sym is) fits) ∙ is ∙ search (arith, ints, to_z-of_z, c.in_ok-checked_sub.ensures)
