use Rattle.std.proofs.Common.{◌≡◌, true, is_some}
use Rattle.mem_outside.specs.Shelf.{open_at}
use Rattle.mem_outside.proofs.ShelfBytes.{shelf_of-add}
use Rattle.mem_outside.proofs.shelf.Shelf.add.Goals as goal

pub returns : goal.returns
returns c =
    let s = c.self.inside in
    let opened : is_some (open_at s.is_open s.start s.middle s.bytes.items) ≡ true = rw (← c.self.view_is) at c.requires.opened in
    rw (← c.self.view_is, c.put.ensures.items)
    (shelf_of-add _ c.args.piece.now s.room _ _ s.is_open s.start s.middle c.self.invariant.within c.self.invariant.begun opened)
