use Rattle.std.proofs.Common.{◌≡◌, ℕ, ◌*◌}
use Rattle.bit_image.specs.Page.{SameSides, image_of}
use Rattle.demo_pages.specs.Generator.{state_after}
use Rattle.demo_pages.specs.Picture.{with_rectangles}
use Rattle.demo_pages.proofs.page.invert_rectangles.Given as goal

-- the first rectangles are inverted
abbrev pub invariant-loop-number : goal.invariant-loop-number
invariant-loop-number l = record {
  sides : SameSides l.fn.page l.page;
  pixels : (u v : ℕ) → image_of l.page u v ≡ with_rectangles l._number l.fn.generator (image_of l.fn.page) u v;
  state : l.generator ≡ state_after (4 * l._number) l.fn.generator;
}
