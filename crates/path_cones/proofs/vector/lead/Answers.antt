use Rattle.std.proofs.Common.{◌≤◌, ℤ, pos, ◌+ℤ◌, ◌*ℤ◌, unsigned_abs, FitsSigned, w64, to_z, of_z, arith}
use Rattle.std.proofs.lemmas.Int.{fits_signed_from_abs}
use Rattle.pt_core.proofs.Sizes.{product_most}
use Rattle.path_cones.proofs.Bounds.{shorter_back, sum_fits}
use Rattle.path_cones.proofs.vector.lead.Goals as goal

-- the first number with its weight
weighed : (z : ℤ) → unsigned_abs z ≤ 65535 → unsigned_abs (z *ℤ pos 65536) ≤ 4294901760
weighed z h = product_most z (pos 65536) 65535 65536 h (omega arith)

weighed_fits : (z : ℤ) → unsigned_abs z ≤ 65535 → FitsSigned w64 (to_z w64 (of_z w64 z) *ℤ pos 65536)
weighed_fits z h = rw (shorter_back z h) (fits_signed_from_abs w64 (z *ℤ pos 65536) (let most = weighed z h in omega arith))

sum_of_both_fits : (a b : ℤ) → unsigned_abs a ≤ 65535 → unsigned_abs b ≤ 65535
    → FitsSigned w64 (to_z w64 (of_z w64 (to_z w64 (of_z w64 a) *ℤ pos 65536)) +ℤ to_z w64 (of_z w64 b))
sum_of_both_fits a b h k = let most = weighed a h in rw (shorter_back a h) (sum_fits (a *ℤ pos 65536) b (omega arith) (omega arith))

pub overflow_mul-first : goal.overflow_mul-first
overflow_mul-first c = weighed_fits c.args.first c.requires.first

pub overflow_add-first : goal.overflow_add-first
overflow_add-first c = sum_of_both_fits c.args.first c.args.second c.requires.first c.requires.second
