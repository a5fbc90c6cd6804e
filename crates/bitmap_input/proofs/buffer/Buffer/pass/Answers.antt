use Rattle.bitmap_input.proofs.Places.{taken_off, some_between}
use Rattle.bitmap_input.proofs.buffer.Buffer.pass.Goals as goal

pub returns-clause-bytes : goal.returns-clause-bytes
returns-clause-bytes c =
    let some = rw (← c.self.view_is) at c.requires in
    rw (← c.self.view_is) (taken_off c.self.inside.start c.self.inside.end 1 c.self.inside.buf.items
    (some_between c.self.inside.start c.self.inside.end c.self.inside.buf.items some))
