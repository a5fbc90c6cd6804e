use Rattle.std.proofs.Common.{ℕ, ◌+◌, ◌*◌, ◌^◌, ◌<◌, ◌≤◌, arith}
use Rattle.std.proofs.lemmas.Nat.{mul-le}
use Rattle.pt_core.specs.declared.limits.TheConstants.{MOST_STEPS}
use Rattle.prefix_moments.proofs.start.is_reached.Goals as goal

-- the squares' products fit
few_squares : (s n : ℕ) → s ≤ 2 ^ 48 → n ≤ MOST_STEPS + 1 → s * n < 2 ^ 64
few_squares s n small few = omega (arith, mul-le s n (2 ^ 48) (MOST_STEPS + 1) small few)

pub overflow_mul-squares : goal.overflow_mul-squares
overflow_mul-squares c =
    record { fits = few_squares c.square.result c.args.count c.square.ensures.most c.requires.few }
