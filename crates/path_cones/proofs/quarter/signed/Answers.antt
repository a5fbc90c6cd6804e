use Rattle.std.proofs.Common.{◌≤◌, ℤ, unsigned_abs, arith}
use Rattle.path_cones.specs.Inner.Wedges.{IsSign}
use Rattle.path_cones.proofs.Bounds.{product_back, product_fits}
use Rattle.path_cones.proofs.Quarters.{sign_most, sign_small}
use Rattle.path_cones.proofs.quarter.signed.Goals as goal

sign_short : (s : ℤ) → IsSign s → unsigned_abs s ≤ 65536
sign_short s sign = let small = sign_small s sign in omega arith

pub overflow_mul-result : goal.overflow_mul-result
overflow_mul-result c = product_fits c.args.sign c.args.number (sign_short c.args.sign c.requires.sign) c.requires.short

pub returns-clause-value : goal.returns-clause-value
returns-clause-value c = product_back c.args.sign c.args.number (sign_short c.args.sign c.requires.sign) c.requires.short

pub returns-clause-most : goal.returns-clause-most
returns-clause-most c = rw (returns-clause-value c) (sign_most c.args.sign c.args.number 65536 c.requires.sign c.requires.short)
