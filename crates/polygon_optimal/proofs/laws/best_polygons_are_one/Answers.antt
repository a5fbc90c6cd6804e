use Rattle.polygon_search.proofs.Best.{one_best}
use Rattle.polygon_optimal.proofs.laws.best_polygons_are_one.Goals as goal

pub returns : goal.returns
returns c = one_best
