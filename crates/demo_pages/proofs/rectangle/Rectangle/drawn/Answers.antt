use Rattle.demo_pages.proofs.Draws.{no_draw, one_draw}
use Rattle.demo_pages.proofs.rectangle.Rectangle.drawn.Goals as goal

pub returns-clause-rectangle : goal.returns-clause-rectangle
returns-clause-rectangle c =
    let one = one_draw 0 c.args.generator.now _ _ (no_draw c.args.generator.now) c.draw-left.ensures.state in
    let two = one_draw 1 c.args.generator.now _ _ one c.draw-bottom.ensures.state in
    let three = one_draw 2 c.args.generator.now _ _ two c.draw.ensures.state in
    cc (one, two, three)

pub returns-clause-state : goal.returns-clause-state
returns-clause-state c =
    let one = one_draw 0 c.args.generator.now _ _ (no_draw c.args.generator.now) c.draw-left.ensures.state in
    let two = one_draw 1 c.args.generator.now _ _ one c.draw-bottom.ensures.state in
    let three = one_draw 2 c.args.generator.now _ _ two c.draw.ensures.state in
    one_draw 3 c.args.generator.now _ _ three c.draw-2.ensures.state
