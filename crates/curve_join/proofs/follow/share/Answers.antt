use Rattle.std.proofs.Common.{ℕ, ◌*◌, ◌^◌, ◌<◌, ◌≤◌, arith, ◌/◌, refl}
use Rattle.std.proofs.lemmas.Nat.{mul-le}
use Rattle.curve_join.specs.Inner.Costs.{share_most}
use Rattle.curve_join.proofs.follow.share.Goals as goal

long_most : (c : goal.After-from) → 256 * c.from-distance.result * c.from-distance.result / c.from.result ≤ 2 ^ 48
long_most c = rw (c.from-distance.ensures, c.from.ensures) (share_most c.args.tol c.args.distance c.args.square c.requires.tol c.requires.some c.requires.near)

short_square : (n : ℕ) → n < 2 ^ 27 → 256 * n * n < 2 ^ 64
short_square n short = omega (arith, mul-le n n (2 ^ 27) (2 ^ 27) (omega arith) (omega arith))

long_square : (n : ℕ) → n ≤ 2 ^ 59 → 256 * n * n < 2 ^ 128
long_square n most = omega (arith, mul-le n n (2 ^ 59) (2 ^ 59) most most)

pub overflow_mul-result-then-distance : goal.overflow_mul-result-then-distance
overflow_mul-result-then-distance c = record { fits = short_square c.args.distance c.if-distance.true }

pub overflow_mul-result-3 : goal.overflow_mul-result-3
overflow_mul-result-3 c = record { fits = long_square c.from-distance.result (omega (arith, c.from-distance.ensures, c.requires.distance)) }

pub overflow_mul-result : goal.overflow_mul-result
overflow_mul-result c = record { fits = omega (arith, c.if-distance.true) }

pub nonzero_div-result : goal.nonzero_div-result
nonzero_div-result c = c.requires.some

pub returns-then-distance-clause-value : goal.returns-then-distance-clause-value
returns-then-distance-clause-value c = refl

pub returns-then-distance-clause-most : goal.returns-then-distance-clause-most
returns-then-distance-clause-most c = share_most c.args.tol c.args.distance c.args.square c.requires.tol c.requires.some c.requires.near

pub overflow_mul-result-2 : goal.overflow_mul-result-2
overflow_mul-result-2 c = record { fits = omega (arith, c.from-distance.ensures, c.requires.distance) }

pub nonzero_div-result-2 : goal.nonzero_div-result-2
nonzero_div-result-2 c = rw c.from.ensures c.requires.some

pub overflow_cast-result : goal.overflow_cast-result
overflow_cast-result c = record { fits = omega (arith, long_most c) }

pub returns-clause-value : goal.returns-clause-value
returns-clause-value c = rw (c.from-distance.ensures, c.from.ensures) refl

pub returns-clause-most : goal.returns-clause-most
returns-clause-most c = long_most c
