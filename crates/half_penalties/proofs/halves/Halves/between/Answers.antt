use Rattle.std.proofs.Common.{ap, ◌∙◌, arith}
use Rattle.pt_core.proofs.Sizes.{back}
use Rattle.prefix_moments.specs.Sums.{rightward_of, above_of}
use Rattle.half_penalties.specs.Inner.HalfPenalties.{GoesOneWay}
use Rattle.half_penalties.proofs.OneWay.{neither_way, parts_go_one_way}
use Rattle.half_penalties.proofs.halves.Halves.between.Goals as goal

pub returns-in_err-slant-clause-none : goal.returns-in_err-slant-clause-none
returns-in_err-slant-clause-none c =
    let way = c.offset_between-way.ensures in
    let right = back c.offset_between-way.result.right (omega (arith, way.right_most)) ∙ way.right ∙ ap (λ list. rightward_of list c.args.first c.args.last) c.requires.points in
    let above = back c.offset_between-way.result.above (omega (arith, way.above_most)) ∙ way.above ∙ ap (λ list. above_of list c.args.first c.args.last) c.requires.points in
    rw c.from_residual.ensures
    (neither_way c.args.moments.now c.args.first c.args.last _ _ right above c.in_err-slant.ensures.rising c.in_err-slant.ensures.falling)

pub returns-clause-one_way : goal.returns-clause-one_way
returns-clause-one_way c =
    let points = c.args.moments.now in
    let s = c.in_ok-slant in
    let way = c.offset_between-way.ensures in
    let right = back c.offset_between-way.result.right (omega (arith, way.right_most)) ∙ way.right ∙ ap (λ list. rightward_of list c.args.first c.args.last) c.requires.points in
    let above = back c.offset_between-way.result.above (omega (arith, way.above_most)) ∙ way.above ∙ ap (λ list. above_of list c.args.first c.args.last) c.requires.points in
    let slant = back s.slant (omega (arith, s.ensures.slant)) in
    let whole : GoesOneWay points s.slant c.args.first c.args.last = rw (right, above) at s.ensures.along in
    rw slant (parts_go_one_way points c.requires.closed s.slant s.ensures.slant c.args.first c.args.last whole)
