use Rattle.std.proofs.Common.{◌≡◌, ℕ, ◌+◌, ◌&&◌}
use Rattle.bit_image.specs.Image.{differ, within}
use Rattle.bit_image.specs.Page.{SameSides, image_of}
use Rattle.demo_pages.proofs.rectangle.Rectangle.invert.Given as goal

-- the rows below this one are inverted
abbrev pub invariant-loop-row : goal.invariant-loop-row
invariant-loop-row l = record {
  sides : SameSides l.fn.page l.page;
  pixels : (u v : ℕ) → image_of l.page u v
      ≡ differ (image_of l.fn.page u v) (within l.self.left (l.self.left + l.self.width) u && within l.self.bottom l.row v);
}
