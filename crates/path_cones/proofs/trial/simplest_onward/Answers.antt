use Rattle.std.proofs.Common.{◌≡◌, inl, inr, ◌≤◌, ℤ, pos, ◌*ℤ◌, ◌≤ℤ◌, unsigned_abs, sym, subst, arith}
use Rattle.std.proofs.lemmas.Int.{ints}
use Rattle.path_cones.specs.Inner.Wedges.{IsSign}
use Rattle.path_cones.proofs.Quarters.{sign_most}
use Rattle.path_cones.proofs.trial.simplest_onward.Goals as goal

-- a number that isn't below 0, turned into a quarter and seen in it
turned_twice : (s z t : ℤ) → IsSign s → pos 0 ≤ℤ z → t ≡ s *ℤ z → pos 0 ≤ℤ (s *ℤ t)
turned_twice s z t (inl e) h is =
    let P : ℤ → Type 0 = λ u. pos 0 ≤ℤ (u *ℤ (u *ℤ z)) in subst (λ (v : ℤ). pos 0 ≤ℤ (s *ℤ v)) (sym is) (subst P (sym e) (omega (arith, ints)))
turned_twice s z t (inr e) h is =
    let P : ℤ → Type 0 = λ u. pos 0 ≤ℤ (u *ℤ (u *ℤ z)) in subst (λ (v : ℤ). pos 0 ≤ℤ (s *ℤ v)) (sym is) (subst P (sym e) (omega (arith, ints)))

turned_most : (s z t : ℤ) → IsSign s → unsigned_abs z ≤ 65535 → t ≡ s *ℤ z → unsigned_abs t ≤ 65535
turned_most s z t sign h is = subst (λ (v : ℤ). unsigned_abs v ≤ 65535) (sym is) (sign_most s z 65535 sign h)

pub strip_onward-trial-requires-clause-right : goal.strip_onward-trial-requires-clause-right
strip_onward-trial-requires-clause-right c =
    turned_twice c.args.quarter.right c.way.result.x c.turned-way.result.x c.requires.onward.is_quarter.right c.way.ensures.right c.turned-way.ensures.x

pub strip_onward-trial-requires-clause-up : goal.strip_onward-trial-requires-clause-up
strip_onward-trial-requires-clause-up c =
    turned_twice c.args.quarter.up c.way.result.y c.turned-way.result.y c.requires.onward.is_quarter.up c.way.ensures.up c.turned-way.ensures.y

pub strip_onward-trial-requires-clause-short : goal.strip_onward-trial-requires-clause-short
strip_onward-trial-requires-clause-short c =
    let quarter = c.requires.onward.is_quarter in
    let short = c.way.ensures.short in
    record {
      x = turned_most c.args.quarter.right c.way.result.x c.turned-way.result.x quarter.right short.x c.turned-way.ensures.x;
      y = turned_most c.args.quarter.up c.way.result.y c.turned-way.result.y quarter.up short.y c.turned-way.ensures.y;
    }
