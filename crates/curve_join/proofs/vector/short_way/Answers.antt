use Rattle.curve_join.proofs.Widths.{within_far}
use Rattle.curve_join.proofs.Meetings.{way_within}
use Rattle.curve_join.proofs.vector.short_way.Goals as goal

pub returns-clause-value : goal.returns-clause-value
returns-clause-value c = c.way.ensures

pub returns-clause-near : goal.returns-clause-near
returns-clause-near c = way_within c.args.from c.args.to c.way.result c.requires.from c.requires.to c.way.ensures

pub returns-clause-far : goal.returns-clause-far
returns-clause-far c = within_far c.way.result (way_within c.args.from c.args.to c.way.result c.requires.from c.requires.to c.way.ensures)
