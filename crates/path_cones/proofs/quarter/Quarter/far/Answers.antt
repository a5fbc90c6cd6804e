use Rattle.std.proofs.Common.{◌≤◌, ℤ, ◌+ℤ◌, unsigned_abs, FitsSigned, w64, to_z, of_z, arith}
use Rattle.path_cones.proofs.Bounds.{sum_fits}
use Rattle.path_cones.proofs.Quarters.{sum_is, sum_most}
use Rattle.path_cones.proofs.quarter.Quarter.far.Goals as goal

both_fit : (a b : ℤ) → unsigned_abs a ≤ 65536 → unsigned_abs b ≤ 65536 → FitsSigned w64 (to_z w64 (of_z w64 a) +ℤ to_z w64 (of_z w64 b))
both_fit a b h k = sum_fits a b (omega arith) (omega arith)

pub overflow_add-result : goal.overflow_add-result
overflow_add-result c = both_fit c.turned-turned.result.x c.turned-turned.result.y c.turned-turned.ensures.short.x c.turned-turned.ensures.short.y

pub returns-clause-value : goal.returns-clause-value
returns-clause-value c =
    let turned = c.turned-turned.ensures in
    sum_is c.turned-turned.result.x c.turned-turned.result.y _ _ turned.x turned.y turned.short.x turned.short.y

pub returns-clause-most : goal.returns-clause-most
returns-clause-most c =
    sum_most c.turned-turned.result.x c.turned-turned.result.y c.turned-turned.ensures.short.x c.turned-turned.ensures.short.y
