use Rattle.std.proofs.Common.{◌≡◌, ℕ, ◌+◌, List, length, refl, ap, subst, arith}
use Rattle.std.specs.Prelude.{slice_index, slice_index_or}
use Rattle.pt_core.specs.declared.point.Point.{Point}
use Rattle.prefix_moments.specs.Sums.{IsPenalty}
use Rattle.polygon_search.specs.Inner.OnePenalty.{penalty_is_one}
use Rattle.polygon_search.specs.Inner.Search.{slot_of}
use Rattle.polygon_search.specs.Polygon.{penalty_of}
use Rattle.polygon_search.proofs.Scanning.{alone}
use Rattle.polygon_search.proofs.search.onward_by.Goals as goal

pub returns : goal.returns
returns c =
    let points = c.args.segments.now.moments.now in
    let costs = c.args.costs.now in
    let from : ℕ = c.args.segment.now.from in
    let to : ℕ = c.args.segment.now.to in
    let P : List Point → Type 0 = λ points. IsPenalty points from to c.penalty_by.result in
    let penalty = penalty_is_one points from to c.penalty_by.result (subst P c.requires.segment c.penalty_by.ensures) in
    let rest : slice_index_or costs c.slot.result 0 ≡ slice_index costs (slot_of (length costs) to) = ap (λ n. slice_index_or costs n 0) c.slot.ensures in
    alone (λ k. penalty_of points from k + slice_index costs (slot_of (length costs) k)) to _ (omega (arith, penalty, rest)) refl
