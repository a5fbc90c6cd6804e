use Rattle.std.proofs.Common.{◌≡◌, ◌∙◌, ◌∷◌, ◌*◌, ℕ, List, Err, ap, refl, subst}
use Rattle.page_batches.specs.Inner.Desks.{sinks_at}
use Rattle.run_output.specs.Made.{past_file}
use Rattle.run_output.specs.Messages.{out_of_memory}
use Rattle.run_output.specs.declared.status.Status.TheVariants as status
use Rattle.page_batches.proofs.Carrying.{only_said}
use Rattle.page_batches.proofs.Counts.{same_count, some_room}
use Rattle.page_batches.proofs.Desks.{keeps_on}
use Rattle.file_documents.specs.FileItems.{told_contents}
use Rattle.file_documents.specs.Manner.{base_by}
use Rattle.run_output.specs.Told.{source_of}
use Rattle.file_documents.specs.Outcome.{InputCount}
use Rattle.file_documents.specs.Inner.Tasks.{manner_of}
use Rattle.file_documents.proofs.Counting.{faults_from, input_by, rose_by}
use Rattle.file_documents.proofs.Differing.{ok_not_err, out_not_unwritten}
use Rattle.file_documents.proofs.Ending.{ends_at_once, ends_behind, input_count, input_of_halt, input_unopened, unopened_by, unopened_ends, IsShut}
use Rattle.file_documents.proofs.Filing.{converted_named, file_goes_on, halts_as, halts_named}
use Rattle.file_documents.proofs.Finishing.{end_named}
use Rattle.file_documents.proofs.Losing.{lose_at_start, lose_behind, lose_ended, lose_halted, lose_unopened}
use Rattle.file_documents.proofs.OpenedFile.{asks_opened, file_ends, file_halted, file_near}
use Rattle.file_documents.proofs.Passing.{pass_ended, pass_halted, pass_unopened}
use Rattle.file_documents.proofs.Reading.{contents_unopened, no_name}
use Rattle.file_documents.proofs.Standing.{standing_at, OpensFile}
use Rattle.file_documents.proofs.file.convert_file.Goals as goal

-- the file can't be opened
pub returns-in-Err-clause-converted : goal.returns-in-Err-clause-converted
returns-in-Err-clause-converted g c = λ names first are.
    let size : ℕ = 2 * c.args.task.now.plan.workers in
    let manner = manner_of g.J.PageJob c.args.task.now in
    let from = standing_at g.I.Inputs g.O.Sink g.E.Sink c.args.made.now c.args.batch.now c.args.inputs.now c.args.desk.now in
    let to = standing_at g.I.Inputs g.O.Sink g.E.Sink c.args.made.now c.args.batch.now c.open.new.self c.end_unopened.new.desk in
    let cause = unopened_by from.source.files c.args.name.now from.source.faults to.source.faults c.in-Err.field-0 (λ e. c.in-Err.ensures.absent.0 (ap Err e)) (λ e. c.in-Err.ensures.cause (ap Err e)) in
    let shut : IsShut c.args.name.now from.source to.source = record { one_more = c.in-Err.ensures.one_more; closed = c.in-Err.ensures.none_opened; cause = cause } in (
      unopened_ends manner c.requires.texts c.args.name.now from to shut c.end_unopened.result c.end_unopened.ensures.ends names first are,
      λ is. pass_unopened size (some_room c.args.task.now.plan.workers c.args.task.now.plan.some_worker) manner c.requires.texts c.args.name.now from to c.requires.going.waits.few shut
          (rw is at c.end_unopened.ensures.ends) names first are,
      λ is. lose_unopened size manner c.requires.texts c.args.name.now from to c.requires.going.waits.few shut.one_more (c.end_unopened.ensures.idle is) shut.closed names first are,
    )

pub returns-in-Err-clause-asked : goal.returns-in-Err-clause-asked
returns-in-Err-clause-asked g c = record {
  one_more = c.in-Err.ensures.one_more;
  named = rw c.in-Err.ensures.no_file (no_name (g.I.Inputs.files c.args.inputs.now) c.args.name.now);
  contents = contents_unopened (g.I.Inputs.files c.args.inputs.now) (g.I.Inputs.files c.open.new.self) c.in-Err.ensures.no_file;
}

pub returns-in-Err-clause-input : goal.returns-in-Err-clause-input
returns-in-Err-clause-input g c = input_unopened c.end_unopened.result c.end_unopened.ensures.status (g.I.Inputs.faults c.args.inputs.now) (g.I.Inputs.faults c.open.new.self)

-- memory ran out before the file's name was made
pub returns-in_default-clause-converted : goal.returns-in_default-clause-converted
returns-in_default-clause-converted g c = λ names first are.
    let size : ℕ = 2 * c.args.task.now.plan.workers in
    let manner = manner_of g.J.PageJob c.args.task.now in
    let from = standing_at g.I.Inputs g.O.Sink g.E.Sink c.args.made.now c.args.batch.now c.args.inputs.now c.args.desk.now in
    let start = source_of g.I.Inputs c.open.new.self in
    let opens : OpensFile c.args.name.now from.source start = record { file = c.in-Ok.ensures.file; there = λ lacking. ok_not_err _ _ (c.in-Ok.ensures.absent.1 lacking); one_more = c.in-Ok.ensures.one_more } in (
      ends_at_once (told_contents from.source.files) manner c.requires.texts (c.args.name.now ∷ names) c.args.made.now _ _
          (record { outs = refl; opened = refl })
          c.say_out_of_memory.ensures.says first,
      λ is. absurd (out_not_unwritten is),
      λ is. lose_at_start size manner c.requires.texts c.args.name.now from (record from { source = start; sinks = _ }) c.requires.going.waits.few opens.one_more
          (only_said out_of_memory _ _ (record { outs = refl; opened = refl }) c.say_out_of_memory.ensures.says) opens names first are,
    )

pub returns-in_default-clause-asked : goal.returns-in_default-clause-asked
returns-in_default-clause-asked g c =
    asks_opened c.args.name.now (source_of g.I.Inputs c.args.inputs.now) (source_of g.I.Inputs c.open.new.self) (source_of g.I.Inputs c.open.new.self)
    c.in-Ok.ensures.file c.in-Ok.ensures.one_more (record { openings = refl; name = refl; contents = refl })

-- the run ends within the file's pages
pub returns-in-Err-convert_pages-clause-converted : goal.returns-in-Err-convert_pages-clause-converted
returns-in-Err-convert_pages-clause-converted g c = λ names first are.
    let size : ℕ = 2 * c.args.task.now.plan.workers in
    let manner = manner_of g.J.PageJob c.args.task.now in
    let from = standing_at g.I.Inputs g.O.Sink g.E.Sink c.args.made.now c.args.batch.now c.args.inputs.now c.args.desk.now in
    let start = source_of g.I.Inputs c.open.new.self in
    let mid = standing_at g.I.Inputs g.O.Sink g.E.Sink c.args.made.now c.convert_pages.new.batch c.convert_pages.new.inputs c.convert_pages.new.desk in
    let opens : OpensFile c.args.name.now from.source start = record { file = c.in-Ok.ensures.file; there = λ lacking. ok_not_err _ _ (c.in-Ok.ensures.absent.1 lacking); one_more = c.in-Ok.ensures.one_more } in
    let stays = c.convert_pages.ensures.stays in
    let s = c.in-Err-convert_pages.status in
    let (which, ended) = c.in-Err-convert_pages.ensures.converted in
    let base : List ℕ = base_by manner c.args.name.now in
    let halts = halts_named s size manner c.deref.result.now base from start mid (c.deref.ensures ∙ c.in-Ok-base_name.ensures) ended in (
      file_halted size manner c.requires.texts c.args.name.now from start mid opens stays s which halts names first are,
      λ is. pass_halted size (some_room c.args.task.now.plan.workers c.args.task.now.plan.some_worker) manner c.requires.texts c.args.name.now from start mid opens stays
          (halts_as s status.Unwritten size manner base from start mid is halts) names first are,
      λ is. lose_halted size manner c.requires.texts c.args.name.now from start mid opens stays (halts_as s status.OutOfMemory size manner base from start mid is halts) names first are,
    )

pub returns-in-Err-convert_pages-clause-asked : goal.returns-in-Err-convert_pages-clause-asked
returns-in-Err-convert_pages-clause-asked g c =
    asks_opened c.args.name.now (source_of g.I.Inputs c.args.inputs.now) (source_of g.I.Inputs c.open.new.self) (source_of g.I.Inputs c.convert_pages.new.inputs)
    c.in-Ok.ensures.file c.in-Ok.ensures.one_more c.convert_pages.ensures.stays

pub returns-in-Err-convert_pages-clause-input : goal.returns-in-Err-convert_pages-clause-input
returns-in-Err-convert_pages-clause-input g c = input_of_halt c.in-Err-convert_pages.status c.in-Err-convert_pages.ensures.converted.0 (g.I.Inputs.faults c.args.inputs.now) (g.I.Inputs.faults c.convert_pages.new.inputs)

-- the run ends with the file's pages
pub returns-in-Err-finish-clause-converted : goal.returns-in-Err-finish-clause-converted
returns-in-Err-finish-clause-converted g c = λ names first are.
    let size : ℕ = 2 * c.args.task.now.plan.workers in
    let manner = manner_of g.J.PageJob c.args.task.now in
    let from = standing_at g.I.Inputs g.O.Sink g.E.Sink c.args.made.now c.args.batch.now c.args.inputs.now c.args.desk.now in
    let start = source_of g.I.Inputs c.open.new.self in
    let mid = standing_at g.I.Inputs g.O.Sink g.E.Sink c.args.made.now c.convert_pages.new.batch c.convert_pages.new.inputs c.convert_pages.new.desk in
    let after = sinks_at g.O.Sink g.E.Sink c.finish.new.desk in
    let opens : OpensFile c.args.name.now from.source start = record { file = c.in-Ok.ensures.file; there = λ lacking. ok_not_err _ _ (c.in-Ok.ensures.absent.1 lacking); one_more = c.in-Ok.ensures.one_more } in
    let stays = c.convert_pages.ensures.stays in
    let k = c.in-Ok-convert_pages.converted.pages in
    let end = c.in-Ok-convert_pages.converted.end in
    let base : List ℕ = base_by manner c.args.name.now in
    let converted = converted_named size manner c.deref.result.now base from start mid k end (c.deref.ensures ∙ c.in-Ok-base_name.ensures) c.in-Ok-convert_pages.ensures.converted in
    let rose = rose_by end from.source.faults mid.source.faults (faults_from end from.source.faults start.faults mid.source.faults c.in-Ok.ensures.steady c.in-Ok-convert_pages.ensures.input) in (
      file_ends size manner c.requires.texts c.args.name.now from start mid opens stays c.in-Err-finish.status k end rose converted after c.in-Err-finish.ensures.ended names first are,
      λ is. pass_ended size (some_room c.args.task.now.plan.workers c.args.task.now.plan.some_worker) manner c.requires.texts c.args.name.now from start mid opens stays k end rose converted after
          c.in-Ok-convert_pages.ensures.going.waits.few (rw is at c.in-Err-finish.ensures.ended) (c.in-Err-finish.ensures.because.unwritten is) names first are,
      λ is. lose_ended size manner c.requires.texts c.args.name.now from start mid opens stays k end converted after c.in-Ok-convert_pages.ensures.going.waits.few
          (c.in-Err-finish.ensures.idle is) names first are,
    )

pub returns-in-Err-finish-clause-asked : goal.returns-in-Err-finish-clause-asked
returns-in-Err-finish-clause-asked g c =
    asks_opened c.args.name.now (source_of g.I.Inputs c.args.inputs.now) (source_of g.I.Inputs c.open.new.self) (source_of g.I.Inputs c.convert_pages.new.inputs)
    c.in-Ok.ensures.file c.in-Ok.ensures.one_more c.convert_pages.ensures.stays

pub returns-in-Err-finish-clause-input : goal.returns-in-Err-finish-clause-input
returns-in-Err-finish-clause-input g c =
    let end = c.in-Ok-convert_pages.converted.end in
    let old = g.I.Inputs.faults c.args.inputs.now in
    let now = g.I.Inputs.faults c.convert_pages.new.inputs in
    let faults = faults_from end old (g.I.Inputs.faults c.open.new.self) now c.in-Ok.ensures.steady c.in-Ok-convert_pages.ensures.input in
    input_count c.in-Err-finish.status end old now c.in-Err-finish.ensures.because.which (input_by end old now faults)

pub returns-in-Err-finish-clause-keeps : goal.returns-in-Err-finish-clause-keeps
returns-in-Err-finish-clause-keeps g c = keeps_on g.O.Sink g.E.Sink c.args.desk.now c.convert_pages.new.desk c.finish.new.desk c.convert_pages.ensures.keeps c.finish.ensures.keeps

-- the file is read
pub returns-in-Ok-add-clause-converted : goal.returns-in-Ok-add-clause-converted
returns-in-Ok-add-clause-converted g c =
    let size : ℕ = 2 * c.args.task.now.plan.workers in
    let manner = manner_of g.J.PageJob c.args.task.now in
    let from = standing_at g.I.Inputs g.O.Sink g.E.Sink c.args.made.now c.args.batch.now c.args.inputs.now c.args.desk.now in
    let start = source_of g.I.Inputs c.open.new.self in
    let mid = standing_at g.I.Inputs g.O.Sink g.E.Sink c.args.made.now c.convert_pages.new.batch c.convert_pages.new.inputs c.convert_pages.new.desk in
    let next = standing_at g.I.Inputs g.O.Sink g.E.Sink c.add.new.self c.finish.new.batch c.convert_pages.new.inputs c.finish.new.desk in
    let opens : OpensFile c.args.name.now from.source start = record { file = c.in-Ok.ensures.file; there = λ lacking. ok_not_err _ _ (c.in-Ok.ensures.absent.1 lacking); one_more = c.in-Ok.ensures.one_more } in
    let k = c.in-Ok-convert_pages.converted.pages in
    let end = c.in-Ok-convert_pages.converted.end in
    let base : List ℕ = base_by manner c.args.name.now in
    let converted = converted_named size manner c.deref.result.now base from start mid k end (c.deref.ensures ∙ c.in-Ok-base_name.ensures) c.in-Ok-convert_pages.ensures.converted in
    let made : next.made ≡ past_file manner.binding base k from.made = rw (c.in-Ok-add.ensures.added, c.documents_in.ensures.value, c.in-Ok-base_name.ensures) refl in (
      (file_goes_on size manner c.args.name.now from start mid opens k end converted next made
          (end_named size manner c.args.name.now c.deref-2.result.now c.args.made.now end k base mid.held next.held mid.sinks next.sinks (c.deref-2.ensures ∙ c.in-Ok-base_name.ensures)
          (λ left are. c.in-Ok-finish.ensures.ended left are)) c.in-Ok-finish.ensures.because).0,
      file_near size manner c.requires.texts c.args.name.now from start mid opens c.convert_pages.ensures.stays k end converted c.in-Ok-finish.ensures.because,
    )

pub returns-in-Ok-add-clause-asked : goal.returns-in-Ok-add-clause-asked
returns-in-Ok-add-clause-asked g c =
    asks_opened c.args.name.now (source_of g.I.Inputs c.args.inputs.now) (source_of g.I.Inputs c.open.new.self) (source_of g.I.Inputs c.convert_pages.new.inputs)
    c.in-Ok.ensures.file c.in-Ok.ensures.one_more c.convert_pages.ensures.stays

pub returns-in-Ok-add-clause-input : goal.returns-in-Ok-add-clause-input
returns-in-Ok-add-clause-input g c =
    let end = c.in-Ok-convert_pages.converted.end in
    let old = g.I.Inputs.faults c.args.inputs.now in
    let now = g.I.Inputs.faults c.convert_pages.new.inputs in
    let faults = faults_from end old (g.I.Inputs.faults c.open.new.self) now c.in-Ok.ensures.steady c.in-Ok-convert_pages.ensures.input in
    subst (λ s. InputCount s old now) c.in-Ok-finish.ensures.because (input_by end old now faults)

pub returns-in-Ok-add-clause-keeps : goal.returns-in-Ok-add-clause-keeps
returns-in-Ok-add-clause-keeps g c = keeps_on g.O.Sink g.E.Sink c.args.desk.now c.convert_pages.new.desk c.finish.new.desk c.convert_pages.ensures.keeps c.finish.ensures.keeps

-- memory ran out when its documents were to be counted
pub returns-in-Err-add-clause-converted : goal.returns-in-Err-add-clause-converted
returns-in-Err-add-clause-converted g c = λ names first are.
    let size : ℕ = 2 * c.args.task.now.plan.workers in
    let manner = manner_of g.J.PageJob c.args.task.now in
    let from = standing_at g.I.Inputs g.O.Sink g.E.Sink c.args.made.now c.args.batch.now c.args.inputs.now c.args.desk.now in
    let start = source_of g.I.Inputs c.open.new.self in
    let mid = standing_at g.I.Inputs g.O.Sink g.E.Sink c.args.made.now c.convert_pages.new.batch c.convert_pages.new.inputs c.convert_pages.new.desk in
    let k = c.in-Ok-convert_pages.converted.pages in
    let end = c.in-Ok-convert_pages.converted.end in
    let base : List ℕ = base_by manner c.args.name.now in
    let converted = converted_named size manner c.deref.result.now base from start mid k end (c.deref.ensures ∙ c.in-Ok-base_name.ensures) c.in-Ok-convert_pages.ensures.converted in
    let next = standing_at g.I.Inputs g.O.Sink g.E.Sink (past_file manner.binding base k from.made) c.finish.new.batch c.convert_pages.new.inputs c.finish.new.desk in
    let opens : OpensFile c.args.name.now from.source start = record { file = c.in-Ok.ensures.file; there = λ lacking. ok_not_err _ _ (c.in-Ok.ensures.absent.1 lacking); one_more = c.in-Ok.ensures.one_more } in
    let (file, same) = file_goes_on size manner c.args.name.now from start mid opens k end converted next refl
    (end_named size manner c.args.name.now c.deref-2.result.now c.args.made.now end k base mid.held next.held mid.sinks next.sinks (c.deref-2.ensures ∙ c.in-Ok-base_name.ensures)
    (λ left are. c.in-Ok-finish.ensures.ended left are)) c.in-Ok-finish.ensures.because in (
      ends_behind size (told_contents from.source.files) manner c.requires.texts c.args.name.now from next _ file (record { outs = refl; opened = refl })
          c.say_out_of_memory-in-Err-add.ensures.says names first are,
      λ is. absurd (out_not_unwritten is),
      λ is. lose_behind size manner c.requires.texts c.args.name.now from start mid opens c.convert_pages.ensures.stays k end converted next _ file _ same
          c.in-Ok-finish.ensures.going.waits.few (only_said out_of_memory _ _ (record { outs = refl; opened = refl }) c.say_out_of_memory-in-Err-add.ensures.says) names first are,
    )

pub returns-in-Err-add-clause-asked : goal.returns-in-Err-add-clause-asked
returns-in-Err-add-clause-asked g c =
    asks_opened c.args.name.now (source_of g.I.Inputs c.args.inputs.now) (source_of g.I.Inputs c.open.new.self) (source_of g.I.Inputs c.convert_pages.new.inputs)
    c.in-Ok.ensures.file c.in-Ok.ensures.one_more c.convert_pages.ensures.stays

pub returns-in-Err-add-clause-keeps : goal.returns-in-Err-add-clause-keeps
returns-in-Err-add-clause-keeps g c =
    keeps_on g.O.Sink g.E.Sink c.args.desk.now c.finish.new.desk _ (keeps_on g.O.Sink g.E.Sink c.args.desk.now c.convert_pages.new.desk c.finish.new.desk c.convert_pages.ensures.keeps c.finish.ensures.keeps)
    (record { outs = refl; errs = refl; ready = c.say_out_of_memory-in-Err-add.ensures.stays_ready; never_falls = same_count (g.O.Sink.faults c.finish.new.desk.outs.now) })

-- a file's pages are as many as a run accepts
pub add-requires-clause-room : goal.add-requires-clause-room
add-requires-clause-room g c = c.in-Ok-convert_pages.ensures.converted.few

-- what is held waits for a further file, where the run goes on; and the desk is the same
pub end_unopened-requires-clause-going : goal.end_unopened-requires-clause-going
end_unopened-requires-clause-going g c κs within = c.requires.going

pub returns-in-Err-clause-going : goal.returns-in-Err-clause-going
returns-in-Err-clause-going g c = tt

pub returns-in-Err-clause-keeps : goal.returns-in-Err-clause-keeps
returns-in-Err-clause-keeps g c = c.end_unopened.ensures.keeps

pub returns-in_default-clause-input : goal.returns-in_default-clause-input
returns-in_default-clause-input g c = tt

pub returns-in_default-clause-going : goal.returns-in_default-clause-going
returns-in_default-clause-going g c = tt

pub returns-in_default-clause-keeps : goal.returns-in_default-clause-keeps
returns-in_default-clause-keeps g c = record { outs = refl; errs = refl; ready = c.say_out_of_memory.ensures.stays_ready; never_falls = same_count (g.O.Sink.faults c.args.desk.now.outs.now) }

pub returns-in-Err-convert_pages-clause-going : goal.returns-in-Err-convert_pages-clause-going
returns-in-Err-convert_pages-clause-going g c = tt

pub returns-in-Err-convert_pages-clause-keeps : goal.returns-in-Err-convert_pages-clause-keeps
returns-in-Err-convert_pages-clause-keeps g c = c.convert_pages.ensures.keeps

pub finish-requires-clause-going : goal.finish-requires-clause-going
finish-requires-clause-going g c κs within = c.in-Ok-convert_pages.ensures.going

pub returns-in-Err-finish-clause-going : goal.returns-in-Err-finish-clause-going
returns-in-Err-finish-clause-going g c = tt

pub returns-in-Ok-add-clause-going : goal.returns-in-Ok-add-clause-going
returns-in-Ok-add-clause-going g c = c.in-Ok-finish.ensures.going

pub returns-in-Err-add-clause-input : goal.returns-in-Err-add-clause-input
returns-in-Err-add-clause-input g c = tt

pub returns-in-Err-add-clause-going : goal.returns-in-Err-add-clause-going
returns-in-Err-add-clause-going g c = tt

pub convert_pages-requires-clause-texts : goal.convert_pages-requires-clause-texts
convert_pages-requires-clause-texts g c κs within = c.requires.texts

pub convert_pages-requires-clause-going : goal.convert_pages-requires-clause-going
convert_pages-requires-clause-going g c κs within = c.requires.going
