-- Decimal numbers, exactly: a minus sign or none, digits, and then a point and more digits or not. Every number of JSON
-- without an exponent is one (RFC 8259, section 6); outside are exponents, plus signs, and a point with no digit on one side.
use Rattle.std.specs.Prelude.{ℕ, zero, suc, ◌+◌, ◌-◌, ◌*◌, ◌==◌, ℤ, Bool, true, false, cond, List, [], ◌∷◌, Option, Some, None, option_map}
use Rattle.std.specs.Char.{is_ascii_digit}
use Rattle.document_readings.specs.WholeNumbers.{signed}

-- a number: so many units of the last one of so many places behind the point, as 2.50 is 250 units of the second
pub record Decimal : Type 0 where
  pub units : ℤ
  pub places : ℕ

-- a position: how far to the right, and how far up
pub record Position : Type 0 where
  pub x : Decimal
  pub y : Decimal

-- what a byte of a decimal number can be
pub data DecimalByte : Type 0 where
  digit : DecimalByte
  point : DecimalByte
  minus : DecimalByte
  other : DecimalByte

-- what this byte is
abbrev pub decimal_byte : ℕ → DecimalByte
decimal_byte byte = cond (is_ascii_digit byte) digit (cond (byte == 46) point (cond (byte == 45) minus other))

-- where the text has come to: at its beginning, behind a minus, or behind digits of a value, of which so many stand
-- behind the point, if that is there
pub data DecimalState : Type 0 where
  beginning : DecimalState
  after_minus : DecimalState
  within : Bool → ℕ → Option ℕ → DecimalState

-- what a byte does
abbrev pub decimal_step : DecimalState → DecimalByte → ℕ → (DecimalState → Option Decimal) → Option Decimal
decimal_step beginning minus byte go_on = go_on after_minus
decimal_step beginning digit byte go_on = go_on (within false (0 + (byte - 48)) None)
decimal_step after_minus digit byte go_on = go_on (within true (0 + (byte - 48)) None)
decimal_step (within negative value places) digit byte go_on = go_on (within negative (10 * value + (byte - 48)) (option_map suc places))
decimal_step (within negative value None) point byte go_on = go_on (within negative value (Some 0))
decimal_step state class byte go_on = None

-- the number that has ended: at least one digit stands behind a point
abbrev pub decimal_at : DecimalState → Option Decimal
decimal_at (within negative value None) = Some (record { units = signed negative value; places = 0 })
decimal_at (within negative value (Some zero)) = None
decimal_at (within negative value (Some (suc places))) = Some (record { units = signed negative value; places = suc places })
decimal_at state = None

-- the number of a text, behind such a beginning
abbrev pub decimal_from : DecimalState → List ℕ → Option Decimal
decimal_from state [] = decimal_at state
decimal_from state (byte ∷ bytes) = decimal_step state (decimal_byte byte) byte (λ next. decimal_from next bytes)

-- the number that a text is
abbrev pub decimal_of : List ℕ → Option Decimal
decimal_of = decimal_from beginning
