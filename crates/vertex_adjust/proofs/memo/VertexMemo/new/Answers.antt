use Rattle.std.proofs.Common.{List, sym, subst}
use Rattle.std.specs.List.{All}
use Rattle.std.proofs.lemmas.List.Elements.{All-replicate}
use Rattle.vertex_adjust.specs.Inner.Line.{IsNormal}
use Rattle.vertex_adjust.specs.Inner.Quadratic.{IsLeastShift}
use Rattle.vertex_adjust.specs.declared.memo.LeastShift.{LeastShift}
use Rattle.vertex_adjust.specs.declared.normal.Normal.{Normal}
use Rattle.vertex_adjust.proofs.memo.VertexMemo.new.Goals as goal

pub invariant_of-result : goal.invariant_of-result
invariant_of-result c =
    let P : List Normal → Type 0 = λ normals. All IsNormal normals in
    let Q : List LeastShift → Type 0 = λ shifts. All IsLeastShift shifts in (
      subst P (sym (c.in_ok-normals.ensures.items_if_clones_equal (λ y same. same))) (All-replicate IsNormal 4096 c.no_normal.result c.no_normal.ensures),
      subst Q (sym (c.in_ok-shifts.ensures.items_if_clones_equal (λ y same. same))) (All-replicate IsLeastShift 4096 c.no_shift.result c.no_shift.ensures),
    )
