use Rattle.std.proofs.Common.{◌≡◌, ◌++◌, ◌∙◌, None, ap, length, arith}
use Rattle.mem_outside.specs.Shelf.{open_at}
use Rattle.mem_outside.proofs.ShelfBytes.{shelf_of-begin}
use Rattle.mem_outside.proofs.shelf.Shelf.begin.Goals as goal

pub returns : goal.returns
returns c =
    let s = c.self.inside in
    let closed : open_at s.is_open s.start s.middle s.bytes.items ≡ None = rw (← c.self.view_is) at c.requires.closed in
    let start : c.len-self-inside.result ≡ length s.bytes.items = omega (arith, c.len-self-inside.ensures) in
    let at_end : c.len-self-inside-2.result ≡ length c.put.new.bytes.items = omega (arith, c.len-self-inside-2.ensures) in
    let middle : c.len-self-inside-2.result ≡ length (s.bytes.items ++ c.args.name.now) = at_end ∙ ap length c.put.ensures.items in
    rw (← c.self.view_is, c.put.ensures.items)
    (shelf_of-begin _ c.args.name.now s.room _ _ s.is_open s.start s.middle _ _ c.self.invariant.within closed start middle)
