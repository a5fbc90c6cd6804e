use Rattle.std.proofs.Common.{◌≡◌, ℕ, ◌≤◌, ℤ, pos, ◌+ℤ◌, ◌-ℤ◌, ◌*ℤ◌, ◌≤ℤ◌, ◌<ℤ◌, FitsSigned, false, true, unsigned_abs, ◌^◌, w64, to_z, of_z, refl, arith}
use Rattle.std.proofs.lemmas.Int.{ints}
use Rattle.std.specs.Int.Signed.{lt_z}
use Rattle.path_cones.specs.Inner.Funnels.{IsFunnel}
use Rattle.path_cones.specs.declared.funnel.Funnel.{Funnel}
use Rattle.path_cones.proofs.Bounds.{product_small, sum_fits, difference_fits, difference_back}
use Rattle.path_cones.proofs.Funnels.{kept_on, narrowed_on}
use Rattle.path_cones.proofs.Mirrors.{above_small, below_small}
use Rattle.path_cones.proofs.funnel.Funnel.over.Goals as goal

small_back : (z : ℤ) → unsigned_abs z ≤ 2 ^ 40 → to_z w64 (of_z w64 z) ≡ z
small_back z h = omega (arith, ints)

natural_back : (r : ℕ) → r ≤ 65535 → to_z w64 r ≡ pos r
natural_back r h = omega (arith, ints)

sum_back : (a b : ℤ) → unsigned_abs a ≤ 2 ^ 40 → unsigned_abs b ≤ 2 ^ 40 → to_z w64 (of_z w64 (to_z w64 (of_z w64 a) +ℤ to_z w64 (of_z w64 b))) ≡ a +ℤ b
sum_back a b h k = omega (arith, ints)

not_below : (z : ℤ) → lt_z z (pos 0) ≡ false → pos 0 ≤ℤ z
not_below z h = omega (arith, ints)

is_below : (z : ℤ) → lt_z z (pos 0) ≡ true → z <ℤ pos 0
is_below z h = omega (arith, ints)

is_less : (a b : ℤ) → lt_z a b ≡ true → a <ℤ b
is_less a b h = omega (arith, ints)

not_less : (a b : ℤ) → lt_z a b ≡ false → b ≤ℤ a
not_less a b h = omega (arith, ints)

module _ (f : Funnel) (n : IsFunnel f) (r : ℕ) (some : 1 ≤ r) (short : (f.way.x +ℤ pos r) ≤ℤ pos 65535) where
  few : r ≤ 65535
  few = let x = n.way.x.least in omega (arith, ints)

  flat_small : unsigned_abs f.flat.y ≤ 65536
  flat_small = let a = n.flat.forward.y.least in let b = n.flat.forward.y.most in omega (arith, ints)

  steep_small : unsigned_abs f.steep.y ≤ 65536
  steep_small = let a = n.steep.forward.y.least in let b = n.steep.forward.y.most in omega (arith, ints)

  flat_product : unsigned_abs (pos r *ℤ f.flat.y) ≤ 4294967296
  flat_product = let h = few in product_small (pos r) f.flat.y (omega (arith, ints)) flat_small

  steep_product : unsigned_abs (pos r *ℤ f.steep.y) ≤ 4294967296
  steep_product = let h = few in product_small (pos r) f.steep.y (omega (arith, ints)) steep_small

  flat_is : to_z w64 r *ℤ to_z w64 (of_z w64 f.flat.y) ≡ pos r *ℤ f.flat.y
  flat_is = let h = flat_small in rw (natural_back r few, small_back f.flat.y (omega arith)) refl

  steep_is : to_z w64 r *ℤ to_z w64 (of_z w64 f.steep.y) ≡ pos r *ℤ f.steep.y
  steep_is = let h = steep_small in rw (natural_back r few, small_back f.steep.y (omega arith)) refl

  pub flat_fits : FitsSigned w64 (to_z w64 r *ℤ to_z w64 (of_z w64 f.flat.y))
  flat_fits = let h = flat_product in rw flat_is (omega (arith, ints))

  pub steep_fits : FitsSigned w64 (to_z w64 r *ℤ to_z w64 (of_z w64 f.steep.y))
  steep_fits = let h = steep_product in rw steep_is (omega (arith, ints))

  pub above_fits : FitsSigned w64 (to_z w64 (of_z w64 f.above) -ℤ to_z w64 (of_z w64 (to_z w64 r *ℤ to_z w64 (of_z w64 f.flat.y))))
  above_fits = let a = above_small f n in let b = flat_product in rw flat_is (difference_fits f.above (pos r *ℤ f.flat.y) (omega arith) (omega arith))

  pub below_fits : FitsSigned w64 (to_z w64 (of_z w64 f.below) +ℤ to_z w64 (of_z w64 (to_z w64 r *ℤ to_z w64 (of_z w64 f.steep.y))))
  below_fits = let a = below_small f n in let b = steep_product in rw steep_is (sum_fits f.below (pos r *ℤ f.steep.y) (omega arith) (omega arith))

  above_back : to_z w64 (of_z w64 (to_z w64 (of_z w64 f.above) -ℤ to_z w64 (of_z w64 (to_z w64 r *ℤ to_z w64 (of_z w64 f.flat.y))))) ≡ f.above -ℤ pos r *ℤ f.flat.y
  above_back = let a = above_small f n in let b = flat_product in rw flat_is (difference_back f.above (pos r *ℤ f.flat.y) (omega arith) (omega arith))

  below_back : to_z w64 (of_z w64 (to_z w64 (of_z w64 f.below) +ℤ to_z w64 (of_z w64 (to_z w64 r *ℤ to_z w64 (of_z w64 f.steep.y))))) ≡ f.below +ℤ pos r *ℤ f.steep.y
  below_back = let a = below_small f n in let b = steep_product in rw steep_is (sum_back f.below (pos r *ℤ f.steep.y) (omega arith) (omega arith))

  way_back : to_z w64 (of_z w64 (to_z w64 (of_z w64 f.way.x) +ℤ to_z w64 r)) ≡ f.way.x +ℤ pos r
  way_back = let h = few in let x = n.way.x.least in let m = n.way.x.most in omega (arith, ints)

  row_back : to_z w64 (of_z w64 f.way.y) ≡ f.way.y
  row_back = let y = n.way.y.least in let m = n.way.y.most in omega (arith, ints)

  sum_is : to_z w64 (of_z w64 (to_z w64 (of_z w64 f.steep.x) +ℤ to_z w64 (of_z w64 f.steep.y))) ≡ f.steep.x +ℤ f.steep.y
  sum_is =
      let a = n.steep.forward.x.least in
      let b = n.steep.forward.x.most in
      let h = steep_small in
      sum_back f.steep.x f.steep.y (omega (arith, ints)) (omega arith)

  pub sum_fit : FitsSigned w64 (to_z w64 (of_z w64 f.steep.x) +ℤ to_z w64 (of_z w64 f.steep.y))
  sum_fit =
      let a = n.steep.forward.x.least in
      let b = n.steep.forward.x.most in
      let h = steep_small in
      sum_fits f.steep.x f.steep.y (omega (arith, ints)) (omega arith)

  x_back : to_z w64 (of_z w64 (f.way.x +ℤ pos r)) ≡ f.way.x +ℤ pos r
  x_back = let x = n.way.x.least in small_back (f.way.x +ℤ pos r) (omega (arith, ints))

  own_fits : FitsSigned w64 (to_z w64 (of_z w64 (to_z w64 (of_z w64 (to_z w64 (of_z w64 f.way.x) +ℤ to_z w64 r)))) -ℤ pos 1)
  own_fits = let x = n.way.x.least in rw (way_back, x_back) (omega (arith, ints))

  own_row_fits : FitsSigned w64 (to_z w64 (of_z w64 (to_z w64 (of_z w64 f.way.y))) +ℤ pos 1)
  own_row_fits = let y = n.way.y.least in let m = n.way.y.most in rw (row_back, row_back) (omega (arith, ints))

  whole_fits : FitsSigned w64 (to_z w64 (of_z w64 (to_z w64 (of_z w64 (to_z w64 (of_z w64 f.way.x) +ℤ to_z w64 r)))) +ℤ to_z w64 (of_z w64 (to_z w64 (of_z w64 f.way.y))))
  whole_fits = let x = n.way.x.least in let y = n.way.y.least in let m = n.way.y.most in rw (way_back, x_back, row_back, row_back) (omega (arith, ints))

  own_back : to_z w64 (of_z w64 (to_z w64 (of_z w64 (to_z w64 (of_z w64 (to_z w64 (of_z w64 f.way.x) +ℤ to_z w64 r)))) -ℤ pos 1)) ≡ f.way.x +ℤ pos r -ℤ pos 1
  own_back = let x = n.way.x.least in rw (way_back, x_back) (small_back (f.way.x +ℤ pos r -ℤ pos 1) (omega (arith, ints)))

  own_row_back : to_z w64 (of_z w64 (to_z w64 (of_z w64 (to_z w64 (of_z w64 f.way.y))) +ℤ pos 1)) ≡ f.way.y +ℤ pos 1
  own_row_back = let y = n.way.y.least in let m = n.way.y.most in rw (row_back, row_back) (small_back (f.way.y +ℤ pos 1) (omega (arith, ints)))

  whole_back : to_z w64 (of_z w64 (to_z w64 (of_z w64 (to_z w64 (of_z w64 (to_z w64 (of_z w64 f.way.x) +ℤ to_z w64 r)))) +ℤ to_z w64 (of_z w64 (to_z w64 (of_z w64 f.way.y))))) ≡ f.way.x +ℤ pos r +ℤ f.way.y
  whole_back =
      let x = n.way.x.least in
      let y = n.way.y.least in
      let m = n.way.y.most in
      rw (way_back, x_back, row_back, row_back) (small_back (f.way.x +ℤ pos r +ℤ f.way.y) (omega (arith, ints)))

  over_held : lt_z (to_z w64 (of_z w64 (to_z w64 (of_z w64 f.above) -ℤ to_z w64 (of_z w64 (to_z w64 r *ℤ to_z w64 (of_z w64 f.flat.y)))))) (pos 0) ≡ false
      → (pos r *ℤ f.flat.y) ≤ℤ f.above
  over_held test =
      let back = above_back in
      let held = not_below (f.above -ℤ pos r *ℤ f.flat.y) (rw back at test) in
      omega (arith, ints)

pub overflow_mul-above : goal.overflow_mul-above
overflow_mul-above c = flat_fits c.args.self c.requires.funnel c.args.run c.requires.some c.requires.short

pub overflow_sub-above : goal.overflow_sub-above
overflow_sub-above c = above_fits c.args.self c.requires.funnel c.args.run c.requires.some c.requires.short

pub overflow_mul-below : goal.overflow_mul-below
overflow_mul-below c = steep_fits c.args.self c.requires.funnel c.args.run c.requires.some c.requires.short

pub overflow_add-below : goal.overflow_add-below
overflow_add-below c = below_fits c.args.self c.requires.funnel c.args.run c.requires.some c.requires.short

pub overflow_add-self : goal.overflow_add-self
overflow_add-self c = sum_fit c.args.self c.requires.funnel c.args.run c.requires.some c.requires.short

pub returns-then-above-lt0-clause-left : goal.returns-then-above-lt0-clause-left
returns-then-above-lt0-clause-left c = λ none.
    let f = c.args.self in
    let n = c.requires.funnel in
    let r = c.args.run in
    let back = above_back f n r c.requires.some c.requires.short in
    let below = rw back at c.if-above-lt0.true in
    let h = is_below (f.above -ℤ pos r *ℤ f.flat.y) below in
    omega (arith, ints)

pub returns-then-below-self-clause-run : goal.returns-then-below-self-clause-run
returns-then-below-self-clause-run c =
    let f = c.args.self in
    let n = c.requires.funnel in
    let r = c.args.run in
    let some = c.requires.some in
    let short = c.requires.short in
    let above = above_back f n r some short in
    let below = below_back f n r some short in
    let way = way_back f n r some short in
    let row = row_back f n r some short in
    let held = over_held f n r some short c.if-above-lt0.false in
    let less = is_less (f.below +ℤ pos r *ℤ f.steep.y) (f.steep.x +ℤ f.steep.y) (rw (below, sum_is f n r some short) at c.if-below-self.true) in
    rw (way, row, above, below) (kept_on f n r some short held less)

pub overflow_sub-result : goal.overflow_sub-result
overflow_sub-result c = own_fits c.args.self c.requires.funnel c.args.run c.requires.some c.requires.short

pub overflow_add-result : goal.overflow_add-result
overflow_add-result c = own_row_fits c.args.self c.requires.funnel c.args.run c.requires.some c.requires.short

pub overflow_add-result-2 : goal.overflow_add-result-2
overflow_add-result-2 c = whole_fits c.args.self c.requires.funnel c.args.run c.requires.some c.requires.short

pub returns-clause-run : goal.returns-clause-run
returns-clause-run c =
    let f = c.args.self in
    let n = c.requires.funnel in
    let r = c.args.run in
    let some = c.requires.some in
    let short = c.requires.short in
    let above = above_back f n r some short in
    let below = below_back f n r some short in
    let held = over_held f n r some short c.if-above-lt0.false in
    let no_less = not_less (f.below +ℤ pos r *ℤ f.steep.y) (f.steep.x +ℤ f.steep.y) (rw (below, sum_is f n r some short) at c.if-below-self.false) in
    rw (own_back f n r some short, own_row_back f n r some short, whole_back f n r some short, way_back f n r some short, row_back f n r some short, above)
    (narrowed_on f n r some short held no_less)

pub returns-then-below-self-clause-held : goal.returns-then-below-self-clause-held
returns-then-below-self-clause-held c = over_held c.args.self c.requires.funnel c.args.run c.requires.some c.requires.short c.if-above-lt0.false

pub returns-clause-held : goal.returns-clause-held
returns-clause-held c = over_held c.args.self c.requires.funnel c.args.run c.requires.some c.requires.short c.if-above-lt0.false
