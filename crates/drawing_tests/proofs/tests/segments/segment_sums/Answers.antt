use Rattle.std.proofs.Common.{sym, subst, refl}
use Rattle.prefix_moments.specs.declared.sums.Sums.{Sums}
use Rattle.vertex_adjust.specs.Line.{AreSums}
use Rattle.vertex_adjust.proofs.Segments.{segment_sums, sums_are}
use Rattle.drawing_tests.proofs.tests.segments.segment_sums.Goals as goal

pub returns : goal.returns
returns c =
    let P : Sums → Type 0 = λ s. AreSums s in
    subst P (sym (sums_are c.args.points.now c.args.moments.now c.args.i c.args.j c.args.j c.sums.result c.sums.ensures c.requires.moments refl))
    (segment_sums c.args.points.now c.requires.on_page c.args.i c.args.j c.requires.onwards c.requires.steps)
