use Rattle.std.proofs.Common.{length}
use Rattle.polygon_search.proofs.Slots.{masked}
use Rattle.polygon_search.proofs.search.slot.Goals as goal

pub returns : goal.returns
returns c = masked (length c.args.costs.now) c.args.point c.requires
