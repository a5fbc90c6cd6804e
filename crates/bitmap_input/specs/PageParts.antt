-- The parts of a PBM, PGM or PPM page (Netpbm's format pages "pbm", "pgm" and "ppm"): whitespace, gaps
-- with comments, decimal numbers, the characters of a plain raster, and blocks of a given length.
use Rattle.std.specs.Prelude.{ℕ, zero, suc, ◌+◌, ◌-◌, ◌*◌, Bool, true, false, not, ◌&&◌, ◌||◌, List, [], ◌∷◌, length, take, drop, if◌then◌else◌, nat_eq, nat_lt, nat_le}
use Rattle.bitmap_input.specs.Cut.{Kind, Cut}
use Rattle.bitmap_input.specs.Cut.Kind.{Truncated, TooLong, BadRaster, BadHeader}
use Rattle.bitmap_input.specs.Cut.FileEnd.{Refused}
use Rattle.bitmap_input.specs.Cut.Cut.{Takes, Stops}
use Rattle.bitmap_input.specs.Cut.{◌>>=◌}

-- the greatest length of a gap, and of a run of digits
abbrev pub longest : ℕ
longest = 1048576

-- tab, line feed, vertical tab, form feed, carriage return and blank
abbrev pub is_space : ℕ → Bool
is_space b = (nat_le 9 b && nat_le b 13) || nat_eq b 32

-- a line feed or a carriage return, which ends a comment
abbrev pub ends_line : ℕ → Bool
ends_line b = nat_eq b 10 || nat_eq b 13

-- `0` to `9`
abbrev pub is_digit : ℕ → Bool
is_digit b = nat_le 48 b && nat_le b 57

-- the number is 0
abbrev pub is_zero : ℕ → Bool
is_zero zero = true
is_zero (suc n) = false

-- the list is empty
abbrev pub is_empty : List ℕ → Bool
is_empty [] = true
is_empty (b ∷ bs) = false

-- how many bytes at the beginning pass the test
abbrev pub run_length : (ℕ → Bool) → List ℕ → ℕ
run_length p [] = 0
run_length p (b ∷ bs) = if p b then suc (run_length p bs) else 0

-- how many bytes of whitespace and comments there are at the beginning, inside or outside a
-- comment; a comment goes from `#` to the end of its line
abbrev pub gap_length : Bool → List ℕ → ℕ
gap_length comment [] = 0
gap_length true (b ∷ bs) = suc (gap_length (not (ends_line b)) bs)
gap_length false (b ∷ bs) =
    if nat_eq b 35 then suc (gap_length true bs)
    else (if is_space b then suc (gap_length false bs) else 0)

-- the list ends at a byte that is required, or has another byte there
abbrev pub missing : {A : Type 0} → Kind → List ℕ → Cut A
missing kind [] = Stops true (Refused Truncated)
missing kind (b ∷ bs) = Stops false (Refused kind)

-- a run of n bytes, which more bytes could lengthen
abbrev pub run_of : ℕ → List ℕ → Cut (List ℕ)
run_of n bytes =
    if nat_lt longest n then Stops false (Refused TooLong)
    else Takes (is_empty (drop n bytes)) (take n bytes) (drop n bytes)

-- whitespace, possibly none
abbrev pub spaces : List ℕ → Cut (List ℕ)
spaces bytes = run_of (run_length is_space bytes) bytes

-- whitespace and comments, possibly none
abbrev pub gap : List ℕ → Cut (List ℕ)
gap bytes = run_of (gap_length false bytes) bytes

-- at least one byte of whitespace or comments
abbrev pub some_gap : Kind → List ℕ → Cut (List ℕ)
some_gap kind bytes = if is_zero (gap_length false bytes) then missing kind bytes else gap bytes

-- the number that digits form, if the digits before them form n
abbrev pub value : ℕ → List ℕ → ℕ
value n [] = n
value n (d ∷ ds) = value (10 * n + (d - 48)) ds

-- a decimal number
abbrev pub number : Kind → List ℕ → Cut ℕ
number kind bytes =
    if is_zero (run_length is_digit bytes) then missing kind bytes
    else (run_of (run_length is_digit bytes) bytes >>= λ digits rest. Takes false (value 0 digits) rest)

-- a decimal number after a gap of at least one byte
abbrev pub number_behind_gap : Kind → List ℕ → Cut ℕ
number_behind_gap kind bytes = some_gap kind bytes >>= λ _ rest. number kind rest

-- one byte of whitespace
abbrev pub space : List ℕ → Cut (List ℕ)
space [] = Stops true (Refused Truncated)
space (b ∷ bs) = if is_space b then Takes false (b ∷ []) bs else Stops false (Refused BadHeader)

-- the character of a pixel: `1` is black, and `0` is white
abbrev pub pixel : List ℕ → Cut Bool
pixel [] = Stops true (Refused Truncated)
pixel (b ∷ bs) =
    if nat_eq b 48 then Takes false false bs
    else (if nat_eq b 49 then Takes false true bs else Stops false (Refused BadRaster))

-- n bytes
abbrev pub block : ℕ → List ℕ → Cut (List ℕ)
block n bytes =
    if nat_lt (length bytes) n then Stops true (Refused Truncated) else Takes false (take n bytes) (drop n bytes)

-- n times the same part
abbrev pub repeated : {A : Type 0} → (List ℕ → Cut A) → ℕ → List ℕ → Cut (List A)
repeated part zero bytes = Takes false [] bytes
repeated part (suc n) bytes =
    part bytes >>= λ x rest. repeated part n rest >>= λ xs rest. Takes false (x ∷ xs) rest
