-- Each is a lemma.
use Rattle.outline_distance.proofs.Means.{chords_on, curve_on, line_on}
use Rattle.outline_distance.proofs.laws.pieces_keep_to_their_points.Goals as goal

pub returns-clause-lines : goal.returns-clause-lines
returns-clause-lines c = line_on

pub returns-clause-curves : goal.returns-clause-curves
returns-clause-curves c = curve_on

pub returns-clause-chords : goal.returns-clause-chords
returns-clause-chords c = chords_on
