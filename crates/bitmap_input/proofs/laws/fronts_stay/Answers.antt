use Rattle.bitmap_input.proofs.FrontStays.{front_stays, page_decided}
use Rattle.bitmap_input.proofs.laws.fronts_stay.Goals as goal

pub returns-clause-same : goal.returns-clause-same
returns-clause-same c = front_stays

pub returns-clause-decided : goal.returns-clause-decided
returns-clause-decided c = page_decided
