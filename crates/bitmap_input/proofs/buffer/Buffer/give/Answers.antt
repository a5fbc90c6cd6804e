use Rattle.std.proofs.Common.{arith}
use Rattle.bitmap_input.proofs.Places.{taken_off}
use Rattle.bitmap_input.proofs.buffer.Buffer.give.Goals as goal

pub returns-clause-bytes : goal.returns-clause-bytes
returns-clause-bytes c =
    rw (← c.self.view_is) (taken_off c.self.inside.start c.self.inside.end c.min-n.result c.self.inside.buf.items
    (omega (arith, c.min-n.ensures)))
