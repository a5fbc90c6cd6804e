use Rattle.std.proofs.Common.{◌+◌, ◌/◌, ap, ◌∙◌, arith, rules}
use Rattle.bit_image.specs.Page.{image_of}
use Rattle.bitmap_input.specs.Inner.Raster.{with_row}
use Rattle.bitmap_input.proofs.BmpBits.{bits_shown}
use Rattle.bitmap_input.proofs.bmp.pixels.place_row.Goals as goal

pub returns-then-are_apart : goal.returns-then-are_apart
returns-then-are_apart c =
    let whole = rw c.in-One.is at c.requires.whole in
    record {
      sides = c.place_row.ensures.sides;
      pixels = rw c.in-One.is (c.place_row.ensures.pixels ∙
          ap (with_row (image_of c.args.page.now) c.args.y)
          (bits_shown c.args.ink.now.tone.level c.args.ink.now.tone.invert c.args.ink.now.table.now c.args.row.now c.args.page.now.width ((c.width.result + 7) / 8)
          (ap (λ w. (w + 7) / 8) c.width.ensures.value) (omega (arith, whole, c.width.ensures.value)) (search rules) (c.are_apart.ensures c.if-are_apart.true)));
    }
