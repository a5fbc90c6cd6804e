use Rattle.std.proofs.Common.{◌≡◌, ◌+◌, ◌/◌}
use Rattle.bit_image.specs.Page.{SameSides, image_of}
use Rattle.bitmap_input.specs.Inner.BmpHead.{shade_by}
use Rattle.bitmap_input.proofs.Rows.{WordsPlaced}
use Rattle.bitmap_input.proofs.bmp.pixels.place_words.Given as goal

abbrev pub invariant-loop-at : goal.invariant-loop-at
invariant-loop-at l = record {
  words : WordsPlaced (shade_by l.ink l.row) l.fn.page.width l.y (image_of l.fn.page) (image_of l.page) l.at;
  sides : SameSides l.fn.page l.page;
  width : l.width ≡ l.fn.page.width;
  end : l.at-end ≡ (l.fn.page.width + 63) / 64;
}
