-- How the cross products of four vectors hang together.
use Rattle.std.proofs.Common.{◌≡◌, pos, ◌+ℤ◌, ◌*ℤ◌, ◌≤ℤ◌, arith}
use Rattle.std.proofs.lemmas.Int.{ints}
use Rattle.path_cones.specs.Cones.{cross_of}
use Rattle.path_cones.specs.declared.vector.Vector.{Vector}
use Rattle.pt_core.proofs.Terms.{Term, same_value}
use Rattle.pt_core.proofs.Terms.Term.{num, plus, less, times}

-- the cross product as a polynomial
abbrev pub cross_term : Vector → Vector → Term
cross_term a b = less (times (num a.x) (num b.y)) (times (num a.y) (num b.x))

pub four : (a b c d : Vector)
    → cross_of a b *ℤ cross_of c d +ℤ cross_of a d *ℤ cross_of b c ≡ cross_of a c *ℤ cross_of b d
four a b c d = same_value
    (plus (times (cross_term a b) (cross_term c d)) (times (cross_term a d) (cross_term b c)))
    (times (cross_term a c) (cross_term b d))
    (omega arith)

pub turned : (a b : Vector) → cross_of a b +ℤ cross_of b a ≡ pos 0
turned a b = omega (arith, ints)

pub straight_on : (a : Vector) → pos 0 ≤ℤ cross_of a a
straight_on a = omega (arith, ints)
