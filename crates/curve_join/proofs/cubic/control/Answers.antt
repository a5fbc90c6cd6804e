use Rattle.std.proofs.Common.{◌≡◌, ℕ, ◌≤◌, ◌^◌, ℤ, pos, ◌+ℤ◌, ◌*ℤ◌, w32, w64, to_z, of_z, refl, arith}
use Rattle.std.specs.Prelude.{unsigned_abs}
use Rattle.pt_core.specs.Floor.{floor_of}
use Rattle.curve_join.proofs.Widths.{back, short_size_back, size_back}
use Rattle.curve_join.proofs.WeightedSums.{short_back, short_size}
use Rattle.curve_join.proofs.cubic.control.Goals as goal

-- a coordinate of the control point
there : (r p v : ℤ) (alpha : ℕ) → unsigned_abs r ≤ 2 ^ 29 → unsigned_abs p ≤ 2 ^ 26 → unsigned_abs v ≤ 2 ^ 27
    → r ≡ to_z w32 (of_z w32 p) +ℤ floor_of (pos alpha *ℤ to_z w64 (of_z w64 v)) 65536 → to_z w32 (of_z w32 r) ≡ p +ℤ floor_of (pos alpha *ℤ v) 65536
there r p v alpha hr hp hv e = rw (short_back r hr, e, short_back p (omega arith), back v (omega arith)) refl

pub led-requires-clause-from : goal.led-requires-clause-from
led-requires-clause-from c = short_size_back c.args.from.x (2 ^ 26) c.requires.from.x (omega arith)

pub led-requires-clause-way : goal.led-requires-clause-way
led-requires-clause-way c = size_back c.args.way.x (2 ^ 27) c.requires.way.x (omega arith)

pub led-requires-clause-alpha : goal.led-requires-clause-alpha
led-requires-clause-alpha c = c.requires.alpha

pub led-requires-2-clause-from : goal.led-requires-2-clause-from
led-requires-2-clause-from c = short_size_back c.args.from.y (2 ^ 26) c.requires.from.y (omega arith)

pub led-requires-2-clause-way : goal.led-requires-2-clause-way
led-requires-2-clause-way c = size_back c.args.way.y (2 ^ 27) c.requires.way.y (omega arith)

pub led-requires-2-clause-alpha : goal.led-requires-2-clause-alpha
led-requires-2-clause-alpha c = c.requires.alpha

pub returns-clause-x : goal.returns-clause-x
returns-clause-x c = there c.led.result c.args.from.x c.args.way.x c.args.alpha c.led.ensures.near c.requires.from.x c.requires.way.x c.led.ensures.value

pub returns-clause-y : goal.returns-clause-y
returns-clause-y c = there c.led-2.result c.args.from.y c.args.way.y c.args.alpha c.led-2.ensures.near c.requires.from.y c.requires.way.y c.led-2.ensures.value

pub returns-clause-near : goal.returns-clause-near
returns-clause-near c = record { x = short_size c.led.result c.led.ensures.near; y = short_size c.led-2.result c.led-2.ensures.near }
