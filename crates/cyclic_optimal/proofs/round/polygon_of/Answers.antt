use Rattle.std.proofs.Common.{◌∙◌}
use Rattle.cyclic_optimal.proofs.Lists.{list_from}
use Rattle.cyclic_optimal.proofs.round.polygon_of.Goals as goal

pub returns : goal.returns
returns c = λ before behind is early.
    c.in_ok-at.ensures
    ∙ list_from c.args.size before behind c.args.way.now _ c.crossing.result is early c.crossing.ensures.most c.crossing.ensures.before c.crossing.ensures.here
    (c.deref.ensures.value ∙ c.in_ok-numbers.ensures)
