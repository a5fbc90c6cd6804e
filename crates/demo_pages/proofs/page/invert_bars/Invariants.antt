use Rattle.std.proofs.Common.{◌≡◌, ℕ, ◌*◌}
use Rattle.bit_image.specs.Page.{SameSides, image_of}
use Rattle.demo_pages.specs.Generator.{state_after}
use Rattle.demo_pages.specs.Picture.{with_bars}
use Rattle.demo_pages.proofs.page.invert_bars.Given as goal

-- the first bars are inverted
abbrev pub invariant-loop-number : goal.invariant-loop-number
invariant-loop-number l = record {
  sides : SameSides l.fn.page l.page;
  pixels : (u v : ℕ) → image_of l.page u v ≡ with_bars l._number l.fn.generator (image_of l.fn.page) u v;
  state : l.generator ≡ state_after (3 * l._number) l.fn.generator;
}
