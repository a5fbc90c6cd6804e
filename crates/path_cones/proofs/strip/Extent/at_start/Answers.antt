use Rattle.std.proofs.Common.{rules}
use Rattle.path_cones.proofs.Extents.{extent_at_start}
use Rattle.path_cones.proofs.strip.Extent.at_start.Goals as goal

pub returns : goal.returns
returns c = λ quarter way path. extent_at_start quarter way path _ (search rules)
