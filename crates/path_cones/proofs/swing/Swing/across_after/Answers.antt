use Rattle.std.proofs.Common.{◌≡◌, ℕ, ◌≤◌, ℤ, pos, ◌+ℤ◌, ◌*ℤ◌, unsigned_abs, w64, to_z, of_z, arith}
use Rattle.std.proofs.lemmas.Int.{ints}
use Rattle.pt_core.proofs.Sizes.{product_most}
use Rattle.path_cones.proofs.swing.Swing.across_after.Goals as goal

natural_back : (r : ℕ) → r ≤ 2147483648 → to_z w64 r ≡ pos r
natural_back r h = omega (arith, ints)

turn_back : (z : ℤ) → unsigned_abs z ≤ 131072 → to_z w64 (of_z w64 z) ≡ z
turn_back z h = omega (arith, ints)

sum_is : (a b : ℤ) → unsigned_abs a ≤ 8589934592 → unsigned_abs b ≤ 281474976710656 → to_z w64 (of_z w64 (to_z w64 (of_z w64 a) +ℤ to_z w64 (of_z w64 b))) ≡ a +ℤ b
sum_is a b h k = omega (arith, ints)

pub returns : goal.returns
returns c =
    let small = c.requires.small in
    let turn = c.args.self.turn in
    let run : ℕ = c.args.run in
    let few = c.requires.run in
    let product = product_most (pos run) turn 2147483648 131072 (omega (arith, ints)) small.turn in
    rw (natural_back run few, turn_back turn small.turn) (sum_is c.args.self.across (pos run *ℤ turn) small.across (omega arith))
