-- If a number grows by a multiple of the divisor, its quotient grows by that multiple.
use Rattle.std.proofs.Common.{◌≡◌, ℤ, pos, ◌+ℤ◌, ◌*ℤ◌, arith}
use Rattle.std.proofs.lemmas.Int.{ints}
use Rattle.pt_core.specs.Floor.{IsFloor, floor_of}
use Rattle.pt_core.proofs.FloorDivision.{floor_is}

halves_one : (a q r move : ℤ) → IsFloor a (pos 2) q → IsFloor (a +ℤ pos 2 *ℤ move) (pos 2) r → r ≡ q +ℤ move
halves_one a q r move is moved = (let f = is.reaches in let g = is.falls_short in let h = moved.reaches in let k = moved.falls_short in omega (arith, ints))

pub half_moved : (a move : ℤ) → floor_of (a +ℤ pos 2 *ℤ move) 2 ≡ floor_of a 2 +ℤ move
half_moved a move = halves_one a (floor_of a 2) (floor_of (a +ℤ pos 2 *ℤ move) 2) move (floor_is a 2 (omega arith)) (floor_is (a +ℤ pos 2 *ℤ move) 2 (omega arith))

parts_one : (a q r move : ℤ) → IsFloor a (pos 262144) q → IsFloor (a +ℤ pos 262144 *ℤ move) (pos 262144) r → r ≡ q +ℤ move
parts_one a q r move is moved = (let f = is.reaches in let g = is.falls_short in let h = moved.reaches in let k = moved.falls_short in omega (arith, ints))

pub part_moved : (a move : ℤ) → floor_of (a +ℤ pos 262144 *ℤ move) 262144 ≡ floor_of a 262144 +ℤ move
part_moved a move = parts_one a (floor_of a 262144) (floor_of (a +ℤ pos 262144 *ℤ move) 262144) move (floor_is a 262144 (omega arith)) (floor_is (a +ℤ pos 262144 *ℤ move) 262144 (omega arith))
