-- How large the numbers of a bend are.
use Rattle.std.specs.Prelude.{◌*◌, ◌≤◌, ◌^◌, unsigned_abs}
use Rattle.curve_join.specs.Vector.{GoesNoFarther, IsPlaced}
use Rattle.curve_join.specs.declared.bend.Bend.{Bend}

-- the numbers of a bend are small enough for computations in 64 and 128 bits
pub record IsWorkable (b : Bend) : Type 0 where
  pub at : IsPlaced (2 ^ 26) b.at
  pub start : IsPlaced (2 ^ 26) b.start
  pub end : IsPlaced (2 ^ 26) b.end
  pub arrives : GoesNoFarther (2 ^ 27) b.arrives
  pub leaves : GoesNoFarther (2 ^ 27) b.leaves
  pub leaves_square : b.leaves_square ≤ 2 ^ 58
  pub chord : GoesNoFarther (2 ^ 27) b.chord
  pub chord_square : b.chord_square ≤ 2 ^ 58
  pub turn : unsigned_abs b.turn ≤ 2 ^ 58
  pub area : unsigned_abs b.area ≤ 12 * 2 ^ 58
  pub bulge : unsigned_abs b.bulge ≤ 2 ^ 58
