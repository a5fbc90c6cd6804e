use Rattle.document_readings.proofs.EpsBoxes.{document_boxed}
use Rattle.document_readings.proofs.laws.programs_tell_their_boxes.Goals as goal

pub returns : goal.returns
returns c = document_boxed
