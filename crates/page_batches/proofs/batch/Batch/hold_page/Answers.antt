use Rattle.std.proofs.Common.{◌∙◌, refl}
use Rattle.std.proofs.lemmas.Result.{IfErr-weaker}
use Rattle.run_output.specs.Messages.{out_of_memory}
use Rattle.page_batches.proofs.Carrying.{memory_out, only_said}
use Rattle.page_batches.proofs.Counts.{few_pages, same_count, some_room}
use Rattle.page_batches.proofs.Holding.{all_held, filled, halts_by, held_or_ended, page_count-held, page_held, waits_on}
use Rattle.page_batches.proofs.Waiting.{turn_page}
use Rattle.page_batches.proofs.batch.Batch.hold_page.Goals as goal

-- no memory for the page
pub returns-in_default-clause-held : goal.returns-in_default-clause-held
returns-in_default-clause-held g c = λ first are text is. memory_out _ _ _ (record { outs = refl; opened = refl })
    c.say_out_of_memory.ensures.says

pub returns-in_default-clause-idle : goal.returns-in_default-clause-idle
returns-in_default-clause-idle g c = λ is. only_said out_of_memory _ _ (record { outs = refl; opened = refl })
    c.say_out_of_memory.ensures.says

-- the page is held
pub returns-then-count-plan-clause-held : goal.returns-then-count-plan-clause-held
returns-then-count-plan-clause-held g c =
    let is = c.in-Ok.ensures in
    λ first are text is_text. all_held _ _ _ _ _ _ (page_held _ _ _ _ _ _ _ is first are text is_text)

pub returns-then-count-plan-clause-waits : goal.returns-then-count-plan-clause-waits
returns-then-count-plan-clause-waits g c =
    let is = c.in-Ok.ensures in
    let turn = turn_page _ _ _ _ _ _ _ _ is c.requires.waits in
    record { few = rw c.count.ensures at c.if-count-plan.true; turn = turn.0; next = turn.1 }

pub carry_out-requires-clause-few : goal.carry_out-requires-clause-few
carry_out-requires-clause-few g c κs within =
    let is = c.in-Ok.ensures in
    let full = filled _ _ _ _ _ _ _ is c.count.ensures c.if-count-plan.false c.requires.waits.few in
    few_pages _ c.args.plan.now.workers full.0 c.args.plan.now.most_workers

pub carry_out-requires-clause-turn : goal.carry_out-requires-clause-turn
carry_out-requires-clause-turn g c κs within =
    let is = c.in-Ok.ensures in
    (turn_page _ _ _ _ _ _ _ _ is c.requires.waits).0

-- the batch is full: all that it holds is carried out
pub returns-clause-held : goal.returns-clause-held
returns-clause-held g c =
    let is = c.in-Ok.ensures in
    let full = filled _ _ _ _ _ _ _ is c.count.ensures c.if-count-plan.false c.requires.waits.few in
    λ first are text is_text.
    let now = page_held _ _ _ _ _ _ _ is first are text is_text in
    held_or_ended _ _ _ _ _ _ _ _ _ _ _ (c.carry_out.ensures.ended _ now) c.carry_out.ensures.left (page_count-held _ _ _ _ now ∙ full.0)

pub returns-clause-halts : goal.returns-clause-halts
returns-clause-halts g c = halts_by _ _ _ _ _ _ c.carry_out.ensures.left

pub returns-clause-full : goal.returns-clause-full
returns-clause-full g c =
    let is = c.in-Ok.ensures in
    let full = filled _ _ _ _ _ _ _ is c.count.ensures c.if-count-plan.false c.requires.waits.few in
    IfErr-weaker c.carry_out.result _ _ (λ status _ halted. full.1) (halts_by _ _ _ _ _ _ c.carry_out.ensures.left)

pub returns-then-count-plan-clause-idle : goal.returns-then-count-plan-clause-idle
returns-then-count-plan-clause-idle g c = tt

pub returns-clause-idle : goal.returns-clause-idle
returns-clause-idle g c = c.carry_out.ensures.idle

pub returns-clause-waits : goal.returns-clause-waits
returns-clause-waits g c =
    let is = c.in-Ok.ensures in
    let turn = turn_page _ _ _ _ _ _ _ _ is c.requires.waits in
    waits_on _ _ _ _ _ _ _ _ (some_room c.args.plan.now.workers c.args.plan.now.some_worker) c.carry_out.ensures.left turn.1

-- the desk is the same
pub returns-in_default-clause-keeps : goal.returns-in_default-clause-keeps
returns-in_default-clause-keeps g c = record { outs = refl; errs = refl; ready = c.say_out_of_memory.ensures.stays_ready; never_falls = same_count (g.O.Sink.faults c.args.desk.now.outs.now) }

pub returns-then-count-plan-clause-keeps : goal.returns-then-count-plan-clause-keeps
returns-then-count-plan-clause-keeps g c = record { outs = refl; errs = refl; ready = c.requires.ready; never_falls = same_count (g.O.Sink.faults c.args.desk.now.outs.now) }

pub returns-clause-keeps : goal.returns-clause-keeps
returns-clause-keeps g c = c.carry_out.ensures.keeps
