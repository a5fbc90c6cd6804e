use Rattle.std.proofs.Common.{◌≡◌, List, Bool, length, take, arith}
use Rattle.std.proofs.lemmas.List.{length-take-le}
use Rattle.bit_image.specs.Page.{image_of}
use Rattle.bitmap_input.specs.Raw.{unpacked}
use Rattle.bitmap_input.proofs.PaintedRows.{length-unpacked}
use Rattle.bitmap_input.proofs.Rows.{bytes_placed, row_kept, row_flipped, white_past}
use Rattle.bitmap_input.proofs.raw.place_row.Goals as goal

pub returns-then-invert-clause-pixels : goal.returns-then-invert-clause-pixels
returns-then-invert-clause-pixels c =
    let page = c.args.page.now in
    let bytes : List Bool = take page.width (unpacked c.args.bytes.now) in
    let len : length bytes ≡ page.width = length-take-le page.width (unpacked c.args.bytes.now) (omega (arith, c.requires.whole, length-unpacked c.args.bytes.now)) in
    let put = bytes_placed (image_of page) (image_of c.put_bytes.new.self) c.args.y page.width c.args.bytes.now c.requires.whole
    (λ u past. white_past (image_of page) page.width page.height c.width-width.ensures.fits u c.args.y past) c.put_bytes.ensures.row c.put_bytes.ensures.rows in
    let flipped = rw c.width-width.ensures.value at c.flip_span.ensures.pixels in
    rw c.if-invert.true (row_flipped (image_of page) (image_of c.put_bytes.new.self) (image_of c.flip_span.new.self) c.args.y page.width bytes len put flipped)

pub returns-else-invert-clause-pixels : goal.returns-else-invert-clause-pixels
returns-else-invert-clause-pixels c =
    let page = c.args.page.now in
    let put = bytes_placed (image_of page) (image_of c.put_bytes.new.self) c.args.y page.width c.args.bytes.now c.requires.whole
    (λ u past. white_past (image_of page) page.width page.height c.width-width.ensures.fits u c.args.y past) c.put_bytes.ensures.row c.put_bytes.ensures.rows in
    rw c.if-invert.false (row_kept (image_of page) (image_of c.put_bytes.new.self) c.args.y (take page.width (unpacked c.args.bytes.now)) put)
