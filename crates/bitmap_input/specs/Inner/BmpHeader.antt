-- The end of a BMP picture's rows, given its header.
use Rattle.std.specs.Prelude.{ℕ, ◌+◌, ◌*◌, List}
use Rattle.bitmap_input.specs.BmpHeader.{pixel_offset, height, row_length}

-- the offset of the first byte after the last row
abbrev pub rows_end : List ℕ → ℕ
rows_end head = pixel_offset head + height head * row_length head
