-- The pixels around a corner as one word: rows from the lowest up, and each row from the left.
use Rattle.std.specs.Prelude.{◌≡◌, ℕ, ◌+◌, ◌*◌, ◌<◌}
use Rattle.bit_image.specs.Image.{Image}
use Rattle.bit_image.specs.Words.{is_one}
use Rattle.turn_policies.specs.Majority.{behind}

-- in the square of side 8 around corner (x, y), bits 0 to 7 are the lowest row, bits 8 to 15 the next row, and so on
abbrev pub IsSquare : ℕ → Image → ℕ → ℕ → Type 0
IsSquare pixels b x y = (i j : ℕ) → i < 8 → j < 8 → is_one pixels (8 * j + i) ≡ behind b 4 (x + i) (y + j)
