use Rattle.curve_join.proofs.Horner.{powers_are}
use Rattle.curve_join.proofs.stand_in.Powers.of.Goals as goal

pub returns : goal.returns
returns c = powers_are c.args.start c.args.first c.args.second c.args.third c.from.result c.requires.start c.requires.first c.requires.second c.requires.third c.from.ensures
