use Rattle.std.proofs.Common.{◌≡◌, ℕ, ◌+◌, ◌^◌, ◌≤◌, ℤ, ◌-ℤ◌, unsigned_abs, w32, w64, to_z, of_z, refl, ap, ◌∙◌, arith}
use Rattle.corner_smooth.specs.Corner.{IsInReach}
use Rattle.pt_core.proofs.Sizes.{back}
use Rattle.corner_smooth.proofs.Fitting.{difference_is, difference_passed, reach_passed}
use Rattle.corner_smooth.proofs.triangle.distance.Goals as goal

-- the numbers are passed as they are
pub between-requires-clause-from : goal.between-requires-clause-from
between-requires-clause-from c = reach_passed c.args.before.x c.requires.before.x

pub between-requires-clause-to : goal.between-requires-clause-to
between-requires-clause-to c = reach_passed c.args.after.x c.requires.after.x

pub between-requires-2-clause-from : goal.between-requires-2-clause-from
between-requires-2-clause-from c = reach_passed c.args.before.y c.requires.before.y

pub between-requires-2-clause-to : goal.between-requires-2-clause-to
between-requires-2-clause-to c = reach_passed c.args.after.y c.requires.after.y

-- how far apart two coordinates are
size_is : (from to d : ℤ) (n : ℕ) → IsInReach from → IsInReach to → unsigned_abs d ≤ 2 ^ 25 → d ≡ to_z w32 (of_z w32 to) -ℤ to_z w32 (of_z w32 from)
    → n ≡ unsigned_abs (to_z w64 (of_z w64 d)) → n ≡ unsigned_abs (to -ℤ from)
size_is from to d n f t most e size = size ∙ ap unsigned_abs (back d (omega arith) ∙ difference_is from to d f t e)

size_most : (d : ℤ) (n : ℕ) → unsigned_abs d ≤ 2 ^ 25 → n ≡ unsigned_abs (to_z w64 (of_z w64 d)) → n ≤ 2 ^ 25
size_most d n most size = rw size (difference_passed d most)

module _ (c : goal.After-unsigned_abs-2) where
  both_most : c.unsigned_abs.result + c.unsigned_abs-2.result ≤ 2 ^ 26
  both_most =
      omega (
        arith,
        size_most c.between.result c.unsigned_abs.result c.between.ensures.most c.unsigned_abs.ensures.value,
        size_most c.between-2.result c.unsigned_abs-2.result c.between-2.ensures.most c.unsigned_abs-2.ensures.value,
      )

pub overflow_add-result : goal.overflow_add-result
overflow_add-result c = record { fits = omega (arith, both_most c) }

pub returns-clause-most : goal.returns-clause-most
returns-clause-most c = both_most c

pub returns-clause-value : goal.returns-clause-value
returns-clause-value c =
    let p = c.args.before in
    let q = c.args.after in
    let x = size_is p.x q.x c.between.result c.unsigned_abs.result c.requires.before.x c.requires.after.x c.between.ensures.most c.between.ensures.value c.unsigned_abs.ensures.value in
    let y = size_is p.y q.y c.between-2.result c.unsigned_abs-2.result c.requires.before.y c.requires.after.y c.between-2.ensures.most c.between-2.ensures.value c.unsigned_abs-2.ensures.value in
    rw (x, y) refl
