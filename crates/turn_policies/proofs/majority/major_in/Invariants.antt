use Rattle.std.proofs.Common.{ℕ}
use Rattle.bit_image.specs.Image.{Image}
use Rattle.turn_policies.specs.Inner.Square.{IsSquare}
use Rattle.turn_policies.proofs.Majorities.{TiesBelow}
use Rattle.turn_policies.proofs.majority.major_in.Given as goal

abbrev pub invariant-loop-radius : goal.invariant-loop-radius
invariant-loop-radius l = (b : Image) (x y : ℕ) → IsSquare l.pixels b x y → TiesBelow b x y l.radius
