use Rattle.outline_distance.proofs.Moving.{passes_points}
use Rattle.outline_distance.proofs.laws.segments_pass_by.Goals as goal

pub returns : goal.returns
returns c = passes_points
