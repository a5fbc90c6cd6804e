use Rattle.outline_distance.proofs.Chords.{chord_point_close}
use Rattle.outline_distance.proofs.laws.chord_points_are_rounded.Goals as goal

pub returns : goal.returns
returns c = chord_point_close
