use Rattle.outline_check.proofs.Written.{right_text}
use Rattle.outline_check.proofs.laws.texts_of_best_polygons_are_right.Goals as goal

pub returns : goal.returns
returns c = right_text
