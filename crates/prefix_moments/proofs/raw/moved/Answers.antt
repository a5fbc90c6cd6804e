use Rattle.std.proofs.Common.{◌≡◌, ℕ, ◌+◌, ◌*◌, ◌≤◌, ℤ, pos, ◌-ℤ◌, ◌*ℤ◌, w64, to_z, of_z, ap, arith}
use Rattle.std.specs.Prelude.{unsigned_abs}
use Rattle.std.specs.Int.RustNames.{FitsSigned}
use Rattle.pt_core.proofs.Sizes.{back, product_most}
use Rattle.pt_core.specs.declared.limits.TheConstants.{LONGEST_SIDE, MOST_STEPS}
use Rattle.prefix_moments.proofs.Fitting.{product_fits, difference_back, difference_fits, difference_most}
use Rattle.prefix_moments.proofs.raw.moved.Goals as goal

module _ (n : ℕ) (s r f : ℤ) (is : r ≡ pos n) (few : n ≤ MOST_STEPS + 1) (sum : unsigned_abs s ≤ (MOST_STEPS + 1) * LONGEST_SIDE) (short : unsigned_abs f ≤ LONGEST_SIDE) where
  few_points : unsigned_abs r ≤ MOST_STEPS + 1
  few_points = rw is few

  most_together : unsigned_abs (r *ℤ f) ≤ (MOST_STEPS + 1) * LONGEST_SIDE
  most_together = product_most r f (MOST_STEPS + 1) LONGEST_SIDE few_points short

  less_fits : FitsSigned w64 (to_z w64 (of_z w64 s) -ℤ to_z w64 (of_z w64 (to_z w64 (of_z w64 r) *ℤ to_z w64 (of_z w64 f))))
  less_fits =
      let small = few_points in
      let most = most_together in
      rw (back r (omega arith), back f (omega arith)) (difference_fits s (r *ℤ f) (omega arith) (omega arith))

  less_is : to_z w64 (of_z w64 (to_z w64 (of_z w64 s) -ℤ to_z w64 (of_z w64 (to_z w64 (of_z w64 r) *ℤ to_z w64 (of_z w64 f))))) ≡ s -ℤ pos n *ℤ f
  less_is =
      let small = few_points in
      let most = most_together in
      rw (back r (omega arith), back f (omega arith)) (difference_back s (r *ℤ f) (pos n *ℤ f) (omega arith) (omega arith) (ap (λ k. k *ℤ f) is))

pub overflow_mul-result : goal.overflow_mul-result
overflow_mul-result c =
    product_fits c.from.result c.args.from (MOST_STEPS + 1) LONGEST_SIDE
    (few_points c.args.count c.args.sum c.from.result c.args.from c.from.ensures c.requires.few c.requires.sum c.requires.from) c.requires.from (omega arith) (omega arith) (omega arith)

pub overflow_sub-result : goal.overflow_sub-result
overflow_sub-result c = less_fits c.args.count c.args.sum c.from.result c.args.from c.from.ensures c.requires.few c.requires.sum c.requires.from

pub returns-clause-value : goal.returns-clause-value
returns-clause-value c = less_is c.args.count c.args.sum c.from.result c.args.from c.from.ensures c.requires.few c.requires.sum c.requires.from

pub returns-clause-most : goal.returns-clause-most
returns-clause-most c =
    rw (returns-clause-value c)
    (difference_most c.args.sum (pos c.args.count *ℤ c.args.from) ((MOST_STEPS + 1) * LONGEST_SIDE) ((MOST_STEPS + 1) * LONGEST_SIDE) c.requires.sum
    (product_most (pos c.args.count) c.args.from (MOST_STEPS + 1) LONGEST_SIDE c.requires.few c.requires.from))
