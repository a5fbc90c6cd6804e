use Rattle.std.proofs.Common.{◌∙◌, ap, refl, arith}
use Rattle.std.proofs.lemmas.Slice.Zip.{AllZip-long}
use Rattle.page_batches.specs.Inner.Held.{is_open_held}
use Rattle.page_batches.proofs.Batching.{items_are_held, open_by, pages_held-held_by, turn_by}
use Rattle.run_output.specs.Messages.{out_of_memory}
use Rattle.page_batches.proofs.Carrying.{memory_out, only_said, unwritten_not_out}
use Rattle.page_batches.proofs.batch.Batch.carry_out.Goals as goal

-- the pages that are held are those of the batch
pub texts_of-requires-clause-few : goal.texts_of-requires-clause-few
texts_of-requires-clause-few g c =
    let all = pages_held-held_by c.self.inside.entries.items c.self.inside.pages.items c.self.invariant in
    let few = rw (← c.self.view_is) at c.requires.few in
    omega (arith, all, few)

-- no page is traced
pub returns-in_default-clause-ended : goal.returns-in_default-clause-ended
returns-in_default-clause-ended g c = λ items held. memory_out _ _ _ (record { outs = refl; opened = refl })
    c.say_out_of_memory.ensures.says

pub returns-in_default-clause-idle : goal.returns-in_default-clause-idle
returns-in_default-clause-idle g c = λ is. only_said out_of_memory _ _ (record { outs = refl; opened = refl })
    c.say_out_of_memory.ensures.says

-- there is a text for each page
pub write_entries-written-requires-clause-texts : goal.write_entries-written-requires-clause-texts
write_entries-written-requires-clause-texts g c =
    let zipped = AllZip-long _ c.self.inside.pages.items c.in-Ok.texts.items c.in-Ok.ensures.texts in
    rw (c.deref.ensures.value, c.deref-2.ensures.value) (zipped ∙ c.self.invariant)

-- the entries are in turn
pub write_entries-written-requires-clause-turn : goal.write_entries-written-requires-clause-turn
write_entries-written-requires-clause-turn g c =
    rw (c.deref.ensures.value) (turn_by c.args.plan.now.binding _ c.self.inside.entries.items c.self.inside.pages.items c.self.invariant
    (rw (← c.self.view_is) at c.requires.turn))

-- the items of what was held are those that were written
pub returns-in-Ok-written-clause-ended : goal.returns-in-Ok-written-clause-ended
returns-in-Ok-written-clause-ended g c = λ items held.
    let are = items_are_held c.args.plan.now.binding (g.J.PageJob.belongs c.args.plan.now.job.now) c.self.inside.entries.items c.self.inside.pages.items
    c.in-Ok.texts.items c.in-Ok.ensures.texts c.self.invariant in
    let same = c.held_items_are_one.ensures c.args.plan.now.binding _ items _ (rw (← c.self.view_is) at held) are in
    rw same (rw (c.deref.ensures.value, c.deref-2.ensures.value) at c.in-Ok-written.ensures.written)

-- a document is open as it has to be behind them
pub returns-in-Ok-written-clause-left : goal.returns-in-Ok-written-clause-left
returns-in-Ok-written-clause-left g c =
    let zipped = AllZip-long _ c.self.inside.pages.items c.in-Ok.texts.items c.in-Ok.ensures.texts in
    let long = zipped ∙ c.self.invariant in
    let opened = (rw (c.deref.ensures.value, c.deref-2.ensures.value) at c.in-Ok-written.ensures.written).opened in (
      rw c.clear-2.ensures.items refl,
      opened ∙ open_by c.args.plan.now.binding _ c.self.inside.entries.items c.self.inside.pages.items c.in-Ok.texts.items c.self.invariant long
          ∙ ap (is_open_held c.args.plan.now.binding (g.O.Sink.is_ready c.args.desk.now.outs.now)) c.self.view_is,
    )

-- a part of them is cut off
pub returns-clause-ended : goal.returns-clause-ended
returns-clause-ended g c = λ items held.
    let are = items_are_held c.args.plan.now.binding (g.J.PageJob.belongs c.args.plan.now.job.now) c.self.inside.entries.items c.self.inside.pages.items
    c.in-Ok.texts.items c.in-Ok.ensures.texts c.self.invariant in
    let same = c.held_items_are_one.ensures c.args.plan.now.binding _ items _ (rw (← c.self.view_is) at held) are in
    rw same (rw (c.deref.ensures.value, c.deref-2.ensures.value) at c.in-Err.ensures.written)

pub returns-in-Ok-written-clause-idle : goal.returns-in-Ok-written-clause-idle
returns-in-Ok-written-clause-idle g c = tt

pub returns-clause-idle : goal.returns-clause-idle
returns-clause-idle g c = λ is. absurd (unwritten_not_out is)

-- the desk is the same
pub returns-in-Ok-written-clause-keeps : goal.returns-in-Ok-written-clause-keeps
returns-in-Ok-written-clause-keeps g c = c.write_entries-written.ensures.keeps

pub returns-clause-keeps : goal.returns-clause-keeps
returns-clause-keeps g c = c.write_entries-written.ensures.keeps
