use Rattle.std.proofs.Common.{◌≡◌, ℕ, ◌+◌, ◌-◌, ◌/◌, ◌&&◌}
use Rattle.bit_image.specs.Image.{differ, within}
use Rattle.bit_image.specs.Page.{SameSides, image_of}
use Rattle.demo_pages.specs.declared.bar.TheConstants.{BAR_HEIGHT}
use Rattle.demo_pages.proofs.bar.Bar.invert.Given as goal

-- the columns before this one are inverted
abbrev pub invariant-loop-column : goal.invariant-loop-column
invariant-loop-column l = record {
  sides : SameSides l.fn.page l.page;
  pixels : (u v : ℕ) → image_of l.page u v
      ≡ differ (image_of l.fn.page u v) (within l.self.left (l.self.left + l.column) u
      && within (l.self.bottom + (u - l.self.left) / l.self.run) (l.self.bottom + (u - l.self.left) / l.self.run + BAR_HEIGHT) v);
}
