-- Each is a lemma.
use Rattle.outline_distance.proofs.AlmostOnPage.{trace_on, trace_written_on}
use Rattle.outline_distance.proofs.laws.unjoined_outlines_are_almost_on_pages.Goals as goal

pub returns-clause-traced : goal.returns-clause-traced
returns-clause-traced c = trace_on

pub returns-clause-written : goal.returns-clause-written
returns-clause-written c = trace_written_on
