use Rattle.outline_distance.proofs.Unjoined.{outline_of_corners}
use Rattle.outline_distance.proofs.laws.outlines_are_corners.Goals as goal

pub returns : goal.returns
returns c = outline_of_corners
