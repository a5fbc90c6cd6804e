use Rattle.std.proofs.Common.{refl, ◌∙◌}
use Rattle.demo_pages.proofs.Draws.{as_many_more, no_draw, no_bar, one_bar}
use Rattle.bit_image.specs.Page.{image_of}
use Rattle.demo_pages.proofs.page.invert_bars.Goals as goal

pub loop-number-init : goal.loop-number-init
loop-number-init c = record {
  sides = record { width = refl; height = refl };
  pixels = λ u v. no_bar c.args.generator.now (image_of c.args.page.now) u v;
  state = no_draw c.args.generator.now;
}

pub loop-number-preserved : goal.loop-number-preserved
loop-number-preserved c =
    let so_far = c.loop-number.invariant in
    record {
      sides = record { width = c.invert.ensures.sides.width ∙ so_far.sides.width; height = c.invert.ensures.sides.height ∙ so_far.sides.height };
      pixels = λ u v. c.invert.ensures.pixels u v
          ∙ one_bar c.loop-number._number c.args.generator.now c.loop-number.generator (image_of c.args.page.now)
          (image_of c.loop-number.page u v) c.drawn.result u v so_far.state c.drawn.ensures.bar (so_far.pixels u v);
      state = as_many_more 3 c.loop-number._number c.args.generator.now c.loop-number.generator c.drawn.new.generator so_far.state c.drawn.ensures.state;
    }
