use Rattle.std.proofs.Common.{◌≡◌, ◌≤◌, ℕ, ℤ, w64, to_z, of_z, ◌∙◌, subst, arith}
use Rattle.std.proofs.lemmas.Int.{ints}
use Rattle.path_cones.specs.Inner.Strips.{AreUpTo, TakesIn}
use Rattle.path_cones.specs.declared.trial.Ends.{Ends}
use Rattle.path_cones.proofs.Extents.{span_up_to}
use Rattle.path_cones.proofs.trial.Sway.on.Goals as goal

up_to_more : (steps next : ℕ) (ends : Ends) → steps ≤ next → AreUpTo steps ends → AreUpTo next ends
up_to_more steps next ends more is =
    let a = is.right in
    let b = is.left in
    record { right = omega arith; left = omega arith }

pub returns : goal.returns
returns c = λ way path steps more run small is sway.
    let next = c.args.next in
    let crossing : to_z w64 (of_z w64 c.args.across) ≡ c.args.across = omega (arith, ints) in
    let old = c.args.self.span in
    let new = c.with.result in
    record {
      small = c.with.ensures.within _ _ sway.small (rw crossing (record { least = omega (arith, ints); most = omega (arith, ints) }));
      span = span_up_to way path steps next old new more run sway.span
          (subst (λ (z : ℤ). TakesIn old z new) (crossing ∙ is) c.with.ensures.takes_in);
      ends = c.with-2.ensures next (omega arith) (up_to_more steps next c.args.self.ends more sway.ends);
    }
