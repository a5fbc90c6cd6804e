use Rattle.std.proofs.Common.{◌≤◌, ℤ, ◌+ℤ◌, ◌*ℤ◌, FitsSigned, unsigned_abs, w64, to_z, of_z, ap, ◌∙◌, subst, arith}
use Rattle.std.proofs.lemmas.Int.{ints}
use Rattle.path_cones.specs.Inner.Cones.{IsShort}
use Rattle.path_cones.specs.declared.vector.Vector.{Vector}
use Rattle.path_cones.proofs.trial.onward_to.Goals as goal

sum_fits : (a b : ℤ) → unsigned_abs a ≤ 65536 → unsigned_abs b ≤ 65536 → FitsSigned w64 (to_z w64 (of_z w64 a) +ℤ to_z w64 (of_z w64 b))
sum_fits a b h k = omega (arith, ints)

pub overflow_add-onward : goal.overflow_add-onward
overflow_add-onward c = sum_fits c.turned-onward.result.x c.turned-onward.result.y c.turned-onward.ensures.short.x c.turned-onward.ensures.short.y

pub returns : goal.returns
returns c =
    let short = c.turned-onward.ensures.short in
    let short_x = short.x in
    let short_y = short.y in
    let few = c.way.ensures.closed.most in
    let h = c.requires.subpath.short_of_lap in
    let is = c.way.ensures.value in
    let t = c.if-onward-most.false in
    let some = c.if-most-eq0.false in
    record {
      walk = c.way.ensures.closed;
      some = omega arith;
      is_quarter = c.requires.quarter;
      short = subst (IsShort 65535) is c.way.ensures.short;
      right = c.turned-onward.ensures.x ∙ ap (λ (o : Vector). c.args.quarter.right *ℤ o.x) is;
      up = c.turned-onward.ensures.y ∙ ap (λ (o : Vector). c.args.quarter.up *ℤ o.y) is;
      all = omega (arith, ints);
    }
