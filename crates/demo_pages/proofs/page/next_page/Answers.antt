use Rattle.std.proofs.Common.{ap, ◌∙◌}
use Rattle.demo_pages.specs.Generator.{state_after}
use Rattle.demo_pages.proofs.Draws.{is_picture, state_after-state_after}
use Rattle.demo_pages.proofs.page.next_page.Goals as goal

pub returns-clause-page : goal.returns-clause-page
returns-clause-page c =
    is_picture c.args.generator.now c.invert_rectangles.new.generator c.in_ok-page.page c.invert_rectangles.new.page c.invert_bars.new.page
    c.width.ensures.page
    (c.invert_bars.ensures.sides.width ∙ c.invert_rectangles.ensures.sides.width ∙ c.in_ok-page.ensures.width)
    (c.invert_bars.ensures.sides.height ∙ c.invert_rectangles.ensures.sides.height ∙ c.in_ok-page.ensures.height)
    c.in_ok-page.ensures.white c.invert_rectangles.ensures.state c.invert_rectangles.ensures.pixels c.invert_bars.ensures.pixels

pub returns-clause-state : goal.returns-clause-state
returns-clause-state c =
    c.invert_bars.ensures.state ∙ ap (state_after 12) c.invert_rectangles.ensures.state
    ∙ state_after-state_after 12 160 c.args.generator.now
