use Rattle.bitmap_input.proofs.Places.{first_of}
use Rattle.bitmap_input.proofs.buffer.Buffer.first.Goals as goal

pub returns-then-self : goal.returns-then-self
returns-then-self c =
    rw (← c.self.view_is) (first_of c.self.inside.start c.self.inside.end c.self.inside.buf.items c.index.result.now
    c.if-self.true c.self.invariant.1 c.index.ensures)
