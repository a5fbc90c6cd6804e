use Rattle.curve_join.proofs.Horner.{next_fits, next_is, next_most, product_fits}
use Rattle.curve_join.proofs.stand_in.horner.Goals as goal

pub returns-clause-most : goal.returns-clause-most
returns-clause-most c = next_most c.args.sum c.args.next c.from.result c.args.u c.requires.sum c.requires.u c.requires.next c.from.ensures

pub returns-clause-value : goal.returns-clause-value
returns-clause-value c = next_is c.args.sum c.args.next c.from.result c.args.u c.requires.sum c.requires.u c.requires.next c.from.ensures

pub overflow_mul-result : goal.overflow_mul-result
overflow_mul-result c = product_fits c.args.sum c.args.next c.from.result c.args.u c.requires.sum c.requires.u c.requires.next c.from.ensures

pub overflow_add-result : goal.overflow_add-result
overflow_add-result c = next_fits c.args.sum c.args.next c.from.result c.args.u c.requires.sum c.requires.u c.requires.next c.from.ensures
