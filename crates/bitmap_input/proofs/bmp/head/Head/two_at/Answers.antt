use Rattle.bitmap_input.proofs.Heads.{two_of_front}
use Rattle.bitmap_input.proofs.bmp.head.Head.two_at.Goals as goal

pub returns-clause-value : goal.returns-clause-value
returns-clause-value c =
    rw (← c.self.view_is) (two_of_front c.self.inside.len c.args.place c.self.inside.bytes c.requires.behind_magic
    (rw (← c.self.view_is) at c.requires.within) c.self.invariant c.self.told)
