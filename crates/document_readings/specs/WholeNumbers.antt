-- Whole numbers, read digit by digit.
use Rattle.std.specs.Prelude.{ℕ, ◌+◌, ◌-◌, ◌*◌, ℤ, pos, neg_ℤ, Bool, false, List, [], ◌∷◌, Option, None, Some, if◌then◌else◌, unwrap_or}
use Rattle.std.specs.Char.{is_ascii_digit}

-- what was read of a number that may go on: nothing, its sign (`true` is minus), or its sign and the value of its digits
pub data Begun : Type 0 where
  nothing : Begun
  sign : Bool → Begun
  digits : Bool → ℕ → Begun

-- a minus sign was read
abbrev pub is_minus : Begun → Bool
is_minus nothing = false
is_minus (sign minus) = minus
is_minus (digits minus value) = minus

-- the value of the digits that were read
abbrev pub value_so_far : Begun → ℕ
value_so_far nothing = 0
value_so_far (sign minus) = 0
value_so_far (digits minus value) = value

-- one digit more
abbrev pub with_digit : Begun → ℕ → Begun
with_digit begun byte = digits (is_minus begun) (10 * value_so_far begun + (byte - 48))

-- the number with this sign and this value
abbrev pub signed : Bool → ℕ → ℤ
signed minus value = if minus then neg_ℤ (pos value) else pos value

-- the number of a text that is digits alone, behind digits of this value, if there are any
abbrev pub natural_from : Option ℕ → List ℕ → Option ℕ
natural_from value [] = value
natural_from value (byte ∷ bytes) = if is_ascii_digit byte then natural_from (Some (10 * unwrap_or value 0 + (byte - 48))) bytes else None

-- the number of a text that is digits alone, at least one
abbrev pub natural_of : List ℕ → Option ℕ
natural_of text = natural_from None text
