use Rattle.std.proofs.Common.{◌≡◌, ◌+◌, ◌/◌}
use Rattle.bit_image.specs.Page.{SameSides, image_of}
use Rattle.bitmap_input.specs.Inner.Shading.{black_in_bytes}
use Rattle.bitmap_input.proofs.Rows.{WordsPlaced}
use Rattle.bitmap_input.proofs.samples.place_row.Given as goal

abbrev pub invariant-loop-at : goal.invariant-loop-at
invariant-loop-at l = record {
  words : WordsPlaced (black_in_bytes l.shading l.row) l.fn.page.width l.y (image_of l.fn.page) (image_of l.page) l.at;
  sides : SameSides l.fn.page l.page;
  width : l.width ≡ l.fn.page.width;
  end : l.at-end ≡ (l.fn.page.width + 63) / 64;
}
