use Rattle.std.specs.List.{AllWithin}
use Rattle.path_tree.specs.Inner.Candidates.{IsInBounds, IsPageBounds}
use Rattle.path_tree.proofs.bounds.Bounds.of.Given as goal

-- the points before the current one lie within the bounds
abbrev pub invariant-loop-point : goal.invariant-loop-point
invariant-loop-point l = record {
  within : AllWithin (IsInBounds l.bounds) l.points 0 l.point-index;
  rows : IsPageBounds l.bounds;
}
