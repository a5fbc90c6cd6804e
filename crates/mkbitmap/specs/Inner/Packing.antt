-- Pixels of a row as the bits of a byte (Netpbm's format page "pbm").
use Rattle.std.specs.Prelude.{ℕ, zero, suc, ◌+◌, ◌*◌, Bool, true, false}

-- the bit of a pixel: 1 if it is black
abbrev pub bit : Bool → ℕ
bit true = 1
bit false = 0

-- the number with `count` pixels from column x on as its binary digits
abbrev pub bits_value : (ℕ → Bool) → ℕ → ℕ → ℕ
bits_value black x zero = 0
bits_value black x (suc count) = 2 * bits_value black x count + bit (black (x + count))

-- the byte with eight pixels from column x on as its bits
unfoldable pub byte_of : (ℕ → Bool) → ℕ → ℕ
byte_of black x = bits_value black x 8
