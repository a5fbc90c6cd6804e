use Rattle.std.proofs.Common.{◌≡◌, ◌^◌, ◌≤◌, ℤ, ◌+ℤ◌, ◌*ℤ◌, unsigned_abs, FitsSigned, w32, w64, to_z, of_z, refl, sym, ◌∙◌, subst, rules, arith}
use Rattle.std.proofs.lemmas.Int.{ints, fits_signed_from_abs}
use Rattle.pt_core.proofs.Sizes.{back, product_most}
use Rattle.path_cones.proofs.vector.Vector.rise.Goals as goal

-- a coordinate of a point, as it is passed
coordinate : (z r : ℤ) → FitsSigned w32 z → r ≡ to_z w32 (of_z w32 z) → r ≡ z
coordinate z r fits is = omega (arith, ints)

coordinate_most : (z r : ℤ) → FitsSigned w32 z → r ≡ z → unsigned_abs r ≤ 2 ^ 31
coordinate_most z r fits is = omega (arith, ints)

module _ (a b r s : ℤ) (a_most : unsigned_abs a ≤ 65535) (b_most : unsigned_abs b ≤ 65535)
    (r_most : unsigned_abs r ≤ 2 ^ 31) (s_most : unsigned_abs s ≤ 2 ^ 31) where
  product_back : (u z : ℤ) → unsigned_abs u ≤ 65535 → unsigned_abs z ≤ 2 ^ 31 → to_z w64 (of_z w64 (to_z w64 (of_z w64 u) *ℤ to_z w64 (of_z w64 z))) ≡ u *ℤ z
  product_back u z h k =
      let p = product_most u z 65535 (2 ^ 31) h k in
      rw (back u (omega arith), back z (omega arith)) (back (u *ℤ z) (omega arith))

  sum_most : unsigned_abs (a *ℤ r +ℤ b *ℤ s) ≤ 2 ^ 48
  sum_most =
      let p = product_most a r 65535 (2 ^ 31) a_most r_most in
      let q = product_most b s 65535 (2 ^ 31) b_most s_most in
      omega (arith, ints)

  sum_fits : FitsSigned w64 (to_z w64 (of_z w64 (to_z w64 (of_z w64 a) *ℤ to_z w64 (of_z w64 r))) +ℤ to_z w64 (of_z w64 (to_z w64 (of_z w64 b) *ℤ to_z w64 (of_z w64 s))))
  sum_fits = rw (product_back a r a_most r_most, product_back b s b_most s_most) (fits_signed_from_abs w64 (a *ℤ r +ℤ b *ℤ s) (let m = sum_most in omega arith))

  sum_back : to_z w64 (of_z w64 (to_z w64 (of_z w64 (to_z w64 (of_z w64 a) *ℤ to_z w64 (of_z w64 r))) +ℤ to_z w64 (of_z w64 (to_z w64 (of_z w64 b) *ℤ to_z w64 (of_z w64 s)))))
      ≡ a *ℤ r +ℤ b *ℤ s
  sum_back = rw (product_back a r a_most r_most, product_back b s b_most s_most) (back (a *ℤ r +ℤ b *ℤ s) (let m = sum_most in omega arith))

pub overflow_add-result : goal.overflow_add-result
overflow_add-result c =
    let f : FitsSigned w32 c.args.point.x = search rules in
    let g : FitsSigned w32 c.args.point.y = search rules in
    sum_fits c.args.self.x c.args.self.y c.from.result c.from-2.result c.requires.x c.requires.y
    (coordinate_most c.args.point.x _ f (coordinate c.args.point.x _ f c.from.ensures)) (coordinate_most c.args.point.y _ g (coordinate c.args.point.y _ g c.from-2.ensures))

pub returns-clause-value : goal.returns-clause-value
returns-clause-value c =
    let f : FitsSigned w32 c.args.point.x = search rules in
    let g : FitsSigned w32 c.args.point.y = search rules in
    let x = coordinate c.args.point.x _ f c.from.ensures in
    let y = coordinate c.args.point.y _ g c.from-2.ensures in
    sum_back c.args.self.x c.args.self.y c.from.result c.from-2.result c.requires.x c.requires.y
    (coordinate_most c.args.point.x _ f x) (coordinate_most c.args.point.y _ g y) ∙ rw (x, y) refl

pub returns-clause-most : goal.returns-clause-most
returns-clause-most c =
    let f : FitsSigned w32 c.args.point.x = search rules in
    let g : FitsSigned w32 c.args.point.y = search rules in
    let m = coordinate_most c.args.point.x _ f (coordinate c.args.point.x _ f c.from.ensures) in
    let n = coordinate_most c.args.point.y _ g (coordinate c.args.point.y _ g c.from-2.ensures) in
    let P : ℤ → Type 0 = λ z. unsigned_abs z ≤ 2 ^ 48 in
    subst P (sym (sum_back c.args.self.x c.args.self.y c.from.result c.from-2.result c.requires.x c.requires.y m n))
    (sum_most c.args.self.x c.args.self.y c.from.result c.from-2.result c.requires.x c.requires.y m n)
