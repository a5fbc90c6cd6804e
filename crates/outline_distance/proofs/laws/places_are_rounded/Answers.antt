use Rattle.outline_distance.proofs.Written.{place_close}
use Rattle.outline_distance.proofs.laws.places_are_rounded.Goals as goal

pub returns : goal.returns
returns c = place_close
