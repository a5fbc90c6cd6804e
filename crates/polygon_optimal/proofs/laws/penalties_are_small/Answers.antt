use Rattle.polygon_search.proofs.Small.{possible_most, total_most}
use Rattle.polygon_optimal.proofs.laws.penalties_are_small.Goals as goal

pub returns-clause-segment : goal.returns-clause-segment
returns-clause-segment c = possible_most

pub returns-clause-polygon : goal.returns-clause-polygon
returns-clause-polygon c = total_most
