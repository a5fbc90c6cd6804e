use Rattle.std.proofs.Common.{◌+◌, sym, ap, ◌∙◌, subst, arith}
use Rattle.pt_core.proofs.Sizes.{back}
use Rattle.pt_core.specs.declared.limits.TheConstants.{MOST_STEPS}
use Rattle.prefix_moments.specs.declared.sums.Sums.{Sums}
use Rattle.prefix_moments.specs.Inner.Table.{IsRawOf, without_count}
use Rattle.prefix_moments.specs.Sums.{rightward_of, above_of}
use Rattle.prefix_moments.proofs.Earlier.{offsets_most}
use Rattle.half_penalties.proofs.Sums.{moved_is}
use Rattle.half_penalties.proofs.halves.Halves.products_to.Goals as goal

pub moved-requires-clause-small : goal.moved-requires-clause-small
moved-requires-clause-small c =
    let P : Sums → Type 0 = λ sums. IsRawOf (MOST_STEPS + 1) (without_count sums) in
    subst P (sym c.sums.ensures) (offsets_most c.args.self.now.moments.now c.args.self.now.on_page c.args.i c.args.j c.requires.steps)

pub returns : goal.returns
returns c =
    let halves = c.args.self.now in
    let way = c.offset_between-way.ensures in
    let right = back c.offset_between-way.result.right (omega (arith, way.right_most)) ∙ way.right ∙ ap (λ list. rightward_of list c.args.i c.args.j) halves.points_are in
    let above = back c.offset_between-way.result.above (omega (arith, way.above_most)) ∙ way.above ∙ ap (λ list. above_of list c.args.i c.args.j) halves.points_are in
    c.moved.ensures ∙ rw (c.sums.ensures, right, above) (moved_is halves.moments.now c.args.i c.args.j)
