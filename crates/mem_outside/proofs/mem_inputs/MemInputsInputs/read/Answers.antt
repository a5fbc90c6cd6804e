use Rattle.mem_outside.proofs.FirstFiles.{IfSome-opened_of, opened_of-on}
use Rattle.mem_outside.proofs.mem_inputs.MemInputsInputs.read.Goals as goal

pub returns-clause-ok : goal.returns-clause-ok
returns-clause-ok c =
    let s = c.self.inside in
    let opened = rw (← c.self.view_is) at c.requires in
    let given = rw c.deref-2.ensures.value at c.give-n.ensures.given in
    rw (← c.self.view_is) (
      IfSome-opened_of _ s.files.items s.is_opened s.at s.offset opened given,
      rw (opened_of-on s.files.items s.is_opened s.at s.offset c.give-n.result, c.saturating_add-self-inside.ensures),
    )
