use Rattle.std.proofs.Common.{◌≤◌, ℤ, pos, neg_ℤ, ◌+ℤ◌, ◌≤ℤ◌, unsigned_abs, FitsSigned, w64, to_z, of_z, arith}
use Rattle.std.proofs.lemmas.Int.{ints}
use Rattle.path_cones.specs.Inner.Strips.{IsFromTo}
use Rattle.path_cones.proofs.Bounds.{sum_fits}
use Rattle.path_cones.proofs.strip.Span.shifted.Goals as goal

shifted_fits : (low high z by : ℤ) → neg_ℤ (pos 131072) ≤ℤ low → high ≤ℤ pos 131072 → IsFromTo low high z → unsigned_abs by ≤ 131072
    → FitsSigned w64 (to_z w64 (of_z w64 z) +ℤ to_z w64 (of_z w64 by))
shifted_fits low high z by low_fits high_fits in_z short =
    let least = in_z.least in
    let most = in_z.most in
    sum_fits z by (omega (arith, ints)) (omega arith)

pub overflow_add-self : goal.overflow_add-self
overflow_add-self c = shifted_fits _ _ c.args.self.least c.args.by (omega (arith, ints)) (omega (arith, ints)) c.requires.small.least c.requires.by

pub overflow_add-self-2 : goal.overflow_add-self-2
overflow_add-self-2 c = shifted_fits _ _ c.args.self.greatest c.args.by (omega (arith, ints)) (omega (arith, ints)) c.requires.small.greatest c.requires.by
