use Rattle.std.proofs.Common.{◌≡◌, ◌≤◌, false, ℤ, pos, negsuc, ◌+ℤ◌, ◌≤ℤ◌, unsigned_abs, FitsSigned, w64, to_z, of_z, arith}
use Rattle.std.proofs.lemmas.Int.{ints, to_z-of_z}
use Rattle.std.specs.Int.Signed.{lt_z}
use Rattle.path_cones.specs.Inner.Strips.{IsFromTo}
use Rattle.path_cones.proofs.Bounds.{short_back, sum_fits}
use Rattle.path_cones.proofs.strip.Extent.with.Goals as goal

-- one more than a coordinate
next_fits : (z : ℤ) → unsigned_abs z ≤ 65536 → FitsSigned w64 (to_z w64 (of_z w64 z) +ℤ pos 1)
next_fits z h = sum_fits z (pos 1) (omega arith) (omega arith)

pub overflow_add-onward : goal.overflow_add-onward
overflow_add-onward c = next_fits c.args.onward.x c.requires.onward.x

pub overflow_add-onward-2 : goal.overflow_add-onward-2
overflow_add-onward-2 c = next_fits c.args.onward.y c.requires.onward.y

-- what the tests tell, in whole numbers
onward : (z g : ℤ) → unsigned_abs z ≤ 65536 → IsFromTo (pos 0) (pos 65536) g
    → lt_z (to_z w64 (of_z w64 (to_z w64 (of_z w64 z) +ℤ pos 1))) (to_z w64 (of_z w64 g)) ≡ false → g ≤ℤ (z +ℤ pos 1)
onward z g short in_g tested =
    let least = in_g.least in
    let most = in_g.most in
    omega (arith, ints)

in_reach : (z g : ℤ) → unsigned_abs z ≤ 65536 → IsFromTo (pos 0) (pos 65536) g → g ≤ℤ (z +ℤ pos 1) → IsFromTo (negsuc 0) (pos 65536) (to_z w64 (of_z w64 z))
in_reach z g short in_g on =
    let least = in_g.least in
    rw (short_back z short) (record { least = omega (arith, ints); most = omega (arith, ints) })

pub returns : goal.returns
returns c =
    let small = c.requires.small in
    let on_right = onward c.args.onward.x c.args.self.right.greatest c.requires.onward.x small.right.greatest c.if-onward-self.false in
    let on_up = onward c.args.onward.y c.args.self.up.greatest c.requires.onward.y small.up.greatest c.if-onward-self-2.false in
    record {
      small = record {
        across = c.with.ensures.within _ _ small.across (rw (to_z-of_z w64 c.args.across c.ranges.across) c.requires.across);
        right = c.with-2.ensures.within _ _ small.right (in_reach c.args.onward.x c.args.self.right.greatest c.requires.onward.x small.right.greatest on_right);
        up = c.with-3.ensures.within _ _ small.up (in_reach c.args.onward.y c.args.self.up.greatest c.requires.onward.y small.up.greatest on_up);
      };
      across_in = rw (to_z-of_z w64 c.args.across c.ranges.across) at c.with.ensures.takes_in;
      right = rw (short_back c.args.onward.x c.requires.onward.x) at c.with-2.ensures.takes_in;
      up = rw (short_back c.args.onward.y c.requires.onward.y) at c.with-3.ensures.takes_in;
      on_right = on_right;
      on_up = on_up;
    }
