use Rattle.bit_image.specs.Page.{image_of}
use Rattle.turn_policies.proofs.Square.{IsSquareTo}
use Rattle.turn_policies.proofs.around.inner_square.Given as goal

abbrev pub invariant-loop-j : goal.invariant-loop-j
invariant-loop-j l = IsSquareTo l.j l.pixels (image_of l.page) l.x l.y
