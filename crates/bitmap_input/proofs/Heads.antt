-- The numbers in the program's buffer are those of a BMP header.
use Rattle.std.proofs.Common.{◌≡◌, refl, ℕ, ◌+◌, ◌-◌, ◌*◌, ◌≤◌, ◌<◌, List, length, take, get_or, arith}
use Rattle.std.proofs.lemmas.List.{get_or-take, length-take-le}
use Rattle.bitmap_input.specs.BmpHeader.{byte_at, two_at}

-- a number of two bytes at the beginning of a buffer
pub two_of_front : (len place : ℕ) (bytes : List ℕ) → 2 ≤ place → place ≤ length (take len bytes) → len ≤ 136 → length bytes ≡ 136 →
    get_or bytes (place - 2) 0 + 256 * get_or bytes (place - 1) 0 ≡ two_at (take len bytes) place
unfolding two_at byte_at
two_of_front len place bytes some within most whole =
    let n : length (take len bytes) ≡ len = length-take-le len bytes (omega arith) in
    let at : place + 1 - 2 ≡ place - 1 = omega arith in
    let first : place - 2 < len = omega arith in
    let second : place - 1 < len = omega arith in
    rw (at, get_or-take len bytes (place - 2) 0 first, get_or-take len bytes (place - 1) 0 second) refl
