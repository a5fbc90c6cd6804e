use Rattle.std.proofs.Common.{arith}
use Rattle.half_penalties.proofs.Fitting.{less_product_is}
use Rattle.half_penalties.proofs.halves.less_product.Goals as goal

pub returns : goal.returns
returns c = record { value = less_product_is c.args.sum c.args.a c.args.b (omega (arith, c.requires.sum)) c.requires.a c.requires.b }
