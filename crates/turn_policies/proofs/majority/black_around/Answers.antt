-- The ones under each mask are the black pixels of a ring.
use Rattle.std.proofs.Common.{◌≡◌, sym, ap, ◌∙◌, arith}
use Rattle.turn_policies.specs.Majority.{black_in_ring}
use Rattle.turn_policies.proofs.RingMasks.{ones_2, ones_3, ones_4}
use Rattle.turn_policies.proofs.majority.black_around.Goals as goal

pub returns-in-2 : goal.returns-in-2
returns-in-2 c = λ b x y square. ones_2 c.args.pixels b x y c.ranges.pixels.fits square ∙ ap (black_in_ring b x y) (sym c.in-2.is)

pub returns-in-3 : goal.returns-in-3
returns-in-3 c = λ b x y square. ones_3 c.args.pixels b x y c.ranges.pixels.fits square ∙ ap (black_in_ring b x y) (sym c.in-3.is)

pub returns-in_default : goal.returns-in_default
returns-in_default c = λ b x y square.
    let last : 4 ≡ c.args.radius = omega arith in
    ones_4 c.args.pixels b x y c.ranges.pixels.fits square ∙ ap (black_in_ring b x y) last
