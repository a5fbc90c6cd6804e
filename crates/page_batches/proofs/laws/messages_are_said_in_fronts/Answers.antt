use Rattle.page_batches.proofs.Fronts.{said_in_fronts}
use Rattle.page_batches.proofs.laws.messages_are_said_in_fronts.Goals as goal

pub returns : goal.returns
returns c = λ old now messages said. let fronts = said_in_fronts old now messages said in (fronts.texts, fronts.are, fronts.appended, fronts.whole)
