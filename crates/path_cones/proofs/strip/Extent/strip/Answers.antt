use Rattle.std.proofs.Common.{◌^◌, ◌≤◌, ℤ, pos, negsuc, neg_ℤ, unsigned_abs, ◌≡◌, ◌-ℤ◌, ◌≤ℤ◌, ◌<ℤ◌, FitsSigned, false, w64, to_z, of_z, arith}
use Rattle.std.proofs.lemmas.Int.{ints, to_z-of_z}
use Rattle.std.specs.Int.Signed.{lt_z}
use Rattle.path_cones.specs.Inner.Strips.{IsFromTo}
use Rattle.path_cones.proofs.Bounds.{difference_fits, minus_fits}
use Rattle.path_cones.proofs.Fitting.{is_strip, stays_in}
use Rattle.path_cones.proofs.strip.Extent.strip.Goals as goal

breadth_fits : (g l : ℤ) → IsFromTo (pos 0) (pos (2 ^ 34)) g → IsFromTo (neg_ℤ (pos (2 ^ 34))) (pos 0) l → FitsSigned w64 (to_z w64 (of_z w64 g) -ℤ to_z w64 (of_z w64 l))
breadth_fits g l in_g in_l =
    let a = in_l.least in
    let b = in_l.most in
    let d = in_g.least in
    let e = in_g.most in
    difference_fits g l (omega (arith, ints)) (omega (arith, ints))

pub overflow_sub-self : goal.overflow_sub-self
overflow_sub-self c = breadth_fits c.args.self.across.greatest c.args.self.across.least c.requires.small.across.greatest c.requires.small.across.least

-- what the test tells, in whole numbers
narrow_tested : (b g l : ℤ) → unsigned_abs b ≤ 131072 → IsFromTo (pos 0) (pos (2 ^ 34)) g → IsFromTo (neg_ℤ (pos (2 ^ 34))) (pos 0) l
    → lt_z (to_z w64 (of_z w64 b)) (to_z w64 (of_z w64 (to_z w64 (of_z w64 g) -ℤ to_z w64 (of_z w64 l)))) ≡ false
    → (g -ℤ l) ≤ℤ b
narrow_tested b g l most in_g in_l tested =
    let a = in_l.least in
    let c = in_l.most in
    let d = in_g.least in
    let e = in_g.most in
    omega (arith, ints)

-- a breadth is at least 1
some_breadth : (b : ℤ) → unsigned_abs b ≤ 131072 → lt_z (to_z w64 (of_z w64 b)) (pos 1) ≡ false → pos 0 <ℤ b
some_breadth b most tested = omega (arith, ints)

-- how far a path is behind its start
behind_short : (l : ℤ) → IsFromTo (negsuc 0) (pos 0) l → unsigned_abs l ≤ 65535
behind_short l in_l =
    let a = in_l.least in
    let b = in_l.most in
    omega (arith, ints)

behind_fits : (l : ℤ) → IsFromTo (negsuc 0) (pos 0) l → FitsSigned w64 l × FitsSigned w64 (pos 0 -ℤ l)
behind_fits l in_l =
    let a = in_l.least in
    let b = in_l.most in
    (omega (arith, ints), omega (arith, ints))

pub overflow_sub-result : goal.overflow_sub-result
overflow_sub-result c = minus_fits c.args.self.right.least (behind_short c.args.self.right.least c.requires.small.right.least)

pub overflow_sub-result-2 : goal.overflow_sub-result-2
overflow_sub-result-2 c = minus_fits c.args.self.up.least (behind_short c.args.self.up.least c.requires.small.up.least)

pub returns-clause-strip : goal.returns-clause-strip
returns-clause-strip c =
    let small = c.requires.small in
    let across = small.across in
    let narrow = narrow_tested c.far-breadth.result c.args.self.across.greatest c.args.self.across.least c.far-breadth.ensures.most
    across.greatest across.least c.if-breadth-self.false in
    let f1 : FitsSigned w64 c.far-breadth.result = record { sfits = c.far-breadth.type_inv } in
    let right = behind_fits c.args.self.right.least small.right.least in
    let up = behind_fits c.args.self.up.least small.up.least in
    let f5 : FitsSigned w64 c.args.self.right.least = right.0 in
    let f6 : FitsSigned w64 (pos 0 -ℤ c.args.self.right.least) = right.1 in
    let f7 : FitsSigned w64 c.args.self.up.least = up.0 in
    let f8 : FitsSigned w64 (pos 0 -ℤ c.args.self.up.least) = up.1 in
    simp to_z-of_z (is_strip c.args.quarter c.args.way c.args.self c.far-breadth.result small narrow
    c.requires.quarter c.requires.short c.requires.right c.requires.up c.far-breadth.ensures.value
    (some_breadth c.far-breadth.result c.far-breadth.ensures.most c.if-breadth-lt1.false))

pub returns-clause-stays : goal.returns-clause-stays
returns-clause-stays c = λ path count is.
    let small = c.requires.small in
    let across = small.across in
    let narrow = narrow_tested c.far-breadth.result c.args.self.across.greatest c.args.self.across.least c.far-breadth.ensures.most
    across.greatest across.least c.if-breadth-self.false in
    let f1 : FitsSigned w64 c.far-breadth.result = record { sfits = c.far-breadth.type_inv } in
    let right = behind_fits c.args.self.right.least small.right.least in
    let up = behind_fits c.args.self.up.least small.up.least in
    let f5 : FitsSigned w64 c.args.self.right.least = right.0 in
    let f6 : FitsSigned w64 (pos 0 -ℤ c.args.self.right.least) = right.1 in
    let f7 : FitsSigned w64 c.args.self.up.least = up.0 in
    let f8 : FitsSigned w64 (pos 0 -ℤ c.args.self.up.least) = up.1 in
    simp to_z-of_z (stays_in c.args.quarter c.args.way c.args.self c.far-breadth.result small narrow path count is)
