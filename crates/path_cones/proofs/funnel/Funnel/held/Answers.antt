use Rattle.std.proofs.Common.{◌≡◌, inl, inr, ℕ, ◌+◌, ◌*◌, ◌<◌, ◌≤◌, ℤ, pos, negsuc, ◌*ℤ◌, ◌≤ℤ◌, ◌<ℤ◌, unsigned_abs, w64, to_z, of_z, subst, arith}
use Rattle.std.proofs.lemmas.Int.{ints}
use Rattle.std.proofs.lemmas.Bool.{cases_lt}
use Rattle.path_cones.specs.Inner.Funnels.{IsFunnel}
use Rattle.path_cones.specs.declared.funnel.Funnel.{Funnel}
use Rattle.path_cones.proofs.Mirrors.{above_back}
use Rattle.path_cones.proofs.funnel.Funnel.held.Goals as goal

pub record IsQuotient (a b : ℤ) (q r : ℕ) : Type 0 where
  pub fewer : q < r
  pub held : (pos q *ℤ b) ≤ℤ a
  pub no_more : a <ℤ (pos (q + 1) *ℤ b)

le_times : (r q b : ℕ) → r ≤ q → r * b ≤ q * b
le_times r q b h = grind arith

parts : (a b : ℤ) (r q rest : ℕ) → pos 0 ≤ℤ a → pos 0 ≤ℤ b → unsigned_abs a ≡ q * unsigned_abs b + rest → rest < unsigned_abs b
    → a <ℤ (pos r *ℤ b) → IsQuotient a b q r
parts (negsuc a) b r q rest la lb is less h = absurd (omega (arith, ints))
parts (pos a) (negsuc b) r q rest la lb is less h = absurd (omega (arith, ints))
parts (pos a) (pos b) r q rest la lb is less h =
    let most : q * b ≤ a = omega (arith, is) in
    let beyond : a < (q + 1) * b = omega (arith, is, less) in
    record {
      fewer = elim (cases_lt q r) [
        | inl l ↦ l
        | inr g ↦ let few = le_times r q b g in absurd (omega (arith, ints))
      ];
      held = omega (arith, ints);
      no_more = omega (arith, ints);
    }

module _ (f : Funnel) (n : IsFunnel f) (r : ℕ) (left : f.above <ℤ (pos r *ℤ f.flat.y)) where
  flat_back : to_z w64 (of_z w64 f.flat.y) ≡ f.flat.y
  flat_back = let a = n.flat.forward.y.least in let b = n.flat.forward.y.most in omega (arith, ints)

  pub quotient : (q rest : ℕ)
      → unsigned_abs (to_z w64 (of_z w64 f.above)) ≡ q * unsigned_abs (to_z w64 (of_z w64 f.flat.y)) + rest → rest < unsigned_abs (to_z w64 (of_z w64 f.flat.y))
      → IsQuotient f.above f.flat.y q r
  quotient q rest is less =
      let e = above_back f n in
      let g = flat_back in
      parts f.above f.flat.y r q rest n.above n.flat.forward.y.least
      (subst (λ (z : ℤ). unsigned_abs z ≡ q * unsigned_abs f.flat.y + rest) e
      (subst (λ (z : ℤ). unsigned_abs (to_z w64 (of_z w64 f.above)) ≡ q * unsigned_abs z + rest) g is))
      (subst (λ (z : ℤ). rest < unsigned_abs z) g less) left

pub returns-clause-fewer : goal.returns-clause-fewer
returns-clause-fewer c = (quotient c.args.self c.requires.funnel c.args.run c.requires.left c.of.result.whole c.of.result.rest c.of.ensures.value c.of.ensures.rest).fewer

pub returns-clause-held : goal.returns-clause-held
returns-clause-held c = (quotient c.args.self c.requires.funnel c.args.run c.requires.left c.of.result.whole c.of.result.rest c.of.ensures.value c.of.ensures.rest).held

pub returns-clause-no_more : goal.returns-clause-no_more
returns-clause-no_more c = (quotient c.args.self c.requires.funnel c.args.run c.requires.left c.of.result.whole c.of.result.rest c.of.ensures.value c.of.ensures.rest).no_more
