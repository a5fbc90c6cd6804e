use Rattle.std.proofs.Common.{◌≡◌, ℕ, List, ◌++◌, length, take, sym, ap, ◌∙◌, subst, arith}
use Rattle.std.proofs.Math.Seq.{take-append_seam}
use Rattle.pt_core.specs.declared.point.Point.{Point}
use Rattle.polygon_search.specs.Inner.Lasts.{IsUpToLast}
use Rattle.polygon_search.specs.Polygon.{IsSegment, penalty_of}
use Rattle.polygon_search.proofs.Reaching.{segment_up_to, up_to_segment}
use Rattle.outline_check.specs.declared.label.Label.{Label}
use Rattle.outline_check.specs.Certificate.{AreRightLabels}
use Rattle.outline_check.specs.Inner.Known.{AreRightDownTo}
use Rattle.outline_check.proofs.Reaching.{are_right_where, right_from_known}
use Rattle.outline_check.proofs.labels.labels.Goals as goal

-- what was written through a slice of a whole vector
whole : (written rest : List Label) (len : ℕ) → len ≡ length written → take len (written ++ rest) ≡ written
whole written rest len all = ap (λ n. take n (written ++ rest)) all ∙ take-append_seam written rest

pub returns : goal.returns
returns c =
    let points = c.args.points.now in
    let lasts = c.in_ok-segments.segments.lasts.items in
    let has = c.in_ok-segments.ensures.lasts in
    let len = c.deref_mut.ensures.len in
    let P : List Point → Type 0 = λ points. AreRightDownTo (length points) (IsUpToLast lasts) (penalty_of points) 0 c.fill.new.labels in
    let known = subst P c.in_ok-segments.ensures.points c.fill.ensures in
    let right = are_right_where (IsUpToLast lasts) (IsSegment points) (segment_up_to points lasts has) (up_to_segment points lasts has)
    (penalty_of points) c.fill.new.labels (length points)
    (right_from_known (length points) (IsUpToLast lasts) (penalty_of points) c.fill.new.labels known) in
    subst (AreRightLabels points) (sym (whole c.fill.new.labels _ _ (omega (arith, c.fill.auto.labels)))) right
