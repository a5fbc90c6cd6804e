-- The closure answers the same test each time, and stays as it is.
use Rattle.std.proofs.Common.{nat_lt, rules}
use Rattle.std.proofs.lemmas.Fn.{filter_same}
use Rattle.path_decompose.proofs.speckle.keep.Goals as goal

pub returns : goal.returns
returns c = filter_same _ (λ path. nat_lt c.args.most path.area) _ (λ path b f k. search rules) _ _ c.retain.ensures.filtered
