use Rattle.std.proofs.Common.{◌≡◌, ◌^◌, ◌≤◌, true, false, refl, sym, ap, ◌∙◌, ℤ, pos, neg_ℤ, ◌<ℤ◌, unsigned_abs, w64, to_z, of_z, arith}
use Rattle.std.proofs.lemmas.Int.{ints}
use Rattle.std.specs.Int.Signed.{lt_z}
use lib.Signed.{le_z}
use Rattle.curve_join.specs.Vector.{towards}
use Rattle.curve_join.specs.declared.sense.Sense.{Sense}
use Rattle.curve_join.specs.declared.sense.Sense.TheVariants.{Left, Right}
use Rattle.curve_join.proofs.Widths.{back, size_counted, within_far}
use Rattle.curve_join.proofs.run.goes_round.Goals as goal

-- a number with a sense, as the code computes it
counted : (s : Sense) (r v z : ℤ) → unsigned_abs v ≤ 2 ^ 58 → v ≡ z → r ≡ towards s (to_z w64 (of_z w64 v)) → to_z w64 (of_z w64 r) ≡ towards s z
counted Left r v z most is e = rw (e, back v (omega arith), back v (omega arith)) is
counted Right r v z most is e = rw (e, back v (omega arith)) (back (neg_ℤ v) (omega (arith, ints)) ∙ ap neg_ℤ is)

-- what the tests show
above_tested : (z : ℤ) → le_z z (pos 0) ≡ false → pos 0 <ℤ z
above_tested z tested = omega (arith, ints)

below_tested : (z : ℤ) → le_z z (pos 0) ≡ true → ¬ (pos 0 <ℤ z)
below_tested z tested = λ h. omega (arith, ints)

above_found : (z : ℤ) → lt_z (pos 0) z ≡ true → pos 0 <ℤ z
above_found z tested = omega (arith, ints)

below_found : (z : ℤ) → lt_z (pos 0) z ≡ false → ¬ (pos 0 <ℤ z)
below_found z tested = λ h. omega (arith, ints)

module _ (s : Sense) (r v z : ℤ) (most : unsigned_abs v ≤ 2 ^ 58) (is : v ≡ z) (e : r ≡ towards s (to_z w64 (of_z w64 v))) where
  more : le_z (to_z w64 (of_z w64 r)) (pos 0) ≡ false → pos 0 <ℤ towards s z
  more tested = above_tested _ (sym (ap (λ y. le_z y (pos 0)) (counted s r v z most is e)) ∙ tested)

  not_more : le_z (to_z w64 (of_z w64 r)) (pos 0) ≡ true → ¬ (pos 0 <ℤ towards s z)
  not_more tested = below_tested _ (sym (ap (λ y. le_z y (pos 0)) (counted s r v z most is e)) ∙ tested)

  above : lt_z (pos 0) (to_z w64 (of_z w64 r)) ≡ true → pos 0 <ℤ towards s z
  above tested = above_found _ (sym (ap (λ y. lt_z (pos 0) y) (counted s r v z most is e)) ∙ tested)

  not_above : lt_z (pos 0) (to_z w64 (of_z w64 r)) ≡ false → ¬ (pos 0 <ℤ towards s z)
  not_above tested = below_found _ (sym (ap (λ y. lt_z (pos 0) y) (counted s r v z most is e)) ∙ tested)

pub returns-clause-round : goal.returns-clause-round
returns-clause-round c = λ tested. record {
  curve = c.if-not-bend.false;
  turns = more c.args.sense c.towards.result c.args.bend.now.turn _ c.requires.small.turn refl c.towards.ensures.value c.if-towards-le0.false;
  less_than_half = above c.args.sense c.towards-2.result c.cross.result _ c.cross.ensures.most c.cross.ensures.value c.towards-2.ensures.value tested;
}

pub returns-clause-not : goal.returns-clause-not
returns-clause-not c = λ tested is.
    not_above c.args.sense c.towards-2.result c.cross.result _ c.cross.ensures.most c.cross.ensures.value c.towards-2.ensures.value tested is.less_than_half

pub returns-then-not-bend-clause-round : goal.returns-then-not-bend-clause-round
returns-then-not-bend-clause-round c = λ e. absurd (cc e)

pub returns-then-not-bend-clause-not : goal.returns-then-not-bend-clause-not
returns-then-not-bend-clause-not c = λ e is. cc (c.if-not-bend.true, is.curve)

pub towards-requires : goal.towards-requires
towards-requires c = size_counted c.args.bend.now.turn c.requires.small.turn

pub returns-then-towards-le0-clause-round : goal.returns-then-towards-le0-clause-round
returns-then-towards-le0-clause-round c = λ e. absurd (cc e)

pub returns-then-towards-le0-clause-not : goal.returns-then-towards-le0-clause-not
returns-then-towards-le0-clause-not c = λ e is. not_more c.args.sense c.towards.result c.args.bend.now.turn _ c.requires.small.turn refl c.towards.ensures.value c.if-towards-le0.true is.turns

pub cross-requires-clause-short : goal.cross-requires-clause-short
cross-requires-clause-short c = c.requires.arrives

pub cross-requires-clause-long : goal.cross-requires-clause-long
cross-requires-clause-long c = within_far c.args.bend.now.leaves c.requires.small.leaves

pub towards-requires-2 : goal.towards-requires-2
towards-requires-2 c = size_counted c.cross.result c.cross.ensures.most
