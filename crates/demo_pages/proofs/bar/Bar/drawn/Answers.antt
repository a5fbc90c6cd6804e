use Rattle.demo_pages.proofs.Draws.{no_draw, one_draw}
use Rattle.demo_pages.proofs.bar.Bar.drawn.Goals as goal

pub returns-clause-bar : goal.returns-clause-bar
returns-clause-bar c =
    let one = one_draw 0 c.args.generator.now _ _ (no_draw c.args.generator.now) c.draw-left.ensures.state in
    let two = one_draw 1 c.args.generator.now _ _ one c.draw-bottom.ensures.state in
    cc (one, two)

pub returns-clause-state : goal.returns-clause-state
returns-clause-state c =
    let one = one_draw 0 c.args.generator.now _ _ (no_draw c.args.generator.now) c.draw-left.ensures.state in
    let two = one_draw 1 c.args.generator.now _ _ one c.draw-bottom.ensures.state in
    one_draw 2 c.args.generator.now _ _ two c.draw.ensures.state
