use Rattle.outline_distance.proofs.Chords.{chord_passes}
use Rattle.outline_distance.proofs.laws.chords_pass_by_curves.Goals as goal

pub returns : goal.returns
returns c = chord_passes
