-- Roots that are kept.
use Rattle.std.specs.Prelude.{◌*◌, ◌/◌}
use Rattle.pt_core.specs.Root.{IsRoot}
use Rattle.prefix_moments.specs.declared.roots.MeanRoot.{MeanRoot}

-- it is the root of 65536 times the mean, as that of a penalty
abbrev pub IsMeanRoot : MeanRoot → Type 0
IsMeanRoot kept = IsRoot (65536 * kept.total / kept.count) kept.root
