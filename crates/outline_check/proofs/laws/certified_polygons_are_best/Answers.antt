use Rattle.std.proofs.Common.{length}
use Rattle.polygon_search.specs.Polygon.{IsSegment, penalty_of}
use Rattle.outline_check.proofs.Best.{best}
use Rattle.outline_check.proofs.Exists.{segment_goes_up}
use Rattle.outline_check.proofs.laws.certified_polygons_are_best.Goals as goal

pub returns : goal.returns
returns c = record {
  best = λ points at labels is. (best (length points) (IsSegment points) (penalty_of points) (segment_goes_up points) labels is.right at is.leads).0;
  count = λ points at labels is. (best (length points) (IsSegment points) (penalty_of points) (segment_goes_up points) labels is.right at is.leads).2;
  cost = λ points at labels is. (best (length points) (IsSegment points) (penalty_of points) (segment_goes_up points) labels is.right at is.leads).1;
}
