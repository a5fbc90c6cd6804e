use Rattle.std.proofs.Common.{arith}
use Rattle.std.proofs.lemmas.Nat.{mul-le}
use Rattle.bitmap_input.proofs.bmp.palette.read_palette.Goals as goal

pub overflow_mul-n : goal.overflow_mul-n
overflow_mul-n g c =
    omega (arith, mul-le c.args.header.now.color_bytes c.args.header.now.palette_length 4 256 c.args.header.now.three_or_four.1 c.args.header.now.few)

pub slice_bounds-palette-end : goal.slice_bounds-palette-end
slice_bounds-palette-end g c =
    omega (arith, mul-le c.args.header.now.color_bytes c.args.header.now.palette_length 4 256 c.args.header.now.three_or_four.1 c.args.header.now.few)
