use Rattle.std.proofs.Common.{◌∙◌, ◌*◌, [], inl, refl, sym, arith}
use Rattle.std.proofs.lemmas.List.{take_all}
use Rattle.run_output.specs.Made.{no_past}
use Rattle.page_batches.specs.Inner.Desks.{sinks_at}
use Rattle.run_output.specs.Messages.{out_of_memory}
use Rattle.page_batches.proofs.Carrying.{only_said}
use Rattle.page_batches.proofs.Counts.{same_count, some_room}
use Rattle.page_batches.proofs.Desks.{keeps_on}
use Rattle.file_documents.specs.FileItems.{told_contents}
use Rattle.run_output.specs.Told.{source_of}
use Rattle.file_documents.specs.Inner.Tasks.{manner_of}
use Rattle.file_documents.proofs.Counting.{input_from}
use Rattle.file_documents.proofs.Differing.{done_not_out, done_not_unwritten, out_not_unwritten}
use Rattle.file_documents.proofs.Ending.{ends_at_once, halts_in, input_of_halt}
use Rattle.file_documents.proofs.Losing.{lose_none}
use Rattle.file_documents.proofs.Running.{all_done, ends_after, ends_in, loses_after, loses_in, none_begun, one_done, one_near, opens_to, passes_after, passes_in}
use Rattle.file_documents.proofs.DoneFiles.{none_done, files_run}
use Rattle.file_documents.proofs.Standing.{standing_at}
use Rattle.file_documents.proofs.files.convert_files.Goals as goal

-- no file is done yet
pub loop-name-init : goal.loop-name-init
loop-name-init g c =
    let run = files_run g.J.PageJob c.args.task.now c.args.names.now (source_of g.I.Inputs c.args.inputs.now) (sinks_at g.O.Sink g.E.Sink c.args.desk.now) in
    record {
      done = rw (c.new-made.ensures, c.new-batch.ensures) (none_done run (let most = g.met.I.Inputs.openings_counted c.args.inputs.now in omega (arith, most)));
      within = omega arith;
      going = record { waits = rw c.new-batch.ensures (record { few = some_room c.args.task.now.plan.workers c.args.task.now.plan.some_worker; turn = tt; next = c.requires.closed ∙ sym (none_begun c.args.task.now.plan.binding) }); ready = c.requires.ready };
      opened = inl (refl, refl);
      near = tt;
      contents = refl;
      keeps = record { outs = refl; errs = refl; ready = c.requires.ready; never_falls = same_count (g.O.Sink.faults c.args.desk.now.outs.now) };
    }

-- one file more is done
pub loop-name-preserved : goal.loop-name-preserved
loop-name-preserved g c =
    let run = files_run g.J.PageJob c.args.task.now c.args.names.now (source_of g.I.Inputs c.args.inputs.now) (sinks_at g.O.Sink g.E.Sink c.args.desk.now) in
    let here = standing_at g.I.Inputs g.O.Sink g.E.Sink c.loop-name.made c.loop-name.batch c.loop-name.inputs c.loop-name.desk in
    let next = standing_at g.I.Inputs g.O.Sink g.E.Sink c.convert_file-converted.new.made c.convert_file-converted.new.batch c.convert_file-converted.new.inputs c.convert_file-converted.new.desk in
    let file = rw (c.loop-name.invariant.contents, c.as_str.ensures) at c.in-Ok-converted.ensures.converted in
    let asked = rw c.as_str.ensures at c.convert_file-converted.ensures.asked in
    record {
      done = one_done run c.loop-name.name-index c.name-item.result c.loop-name-test.true c.name-item.is here c.loop-name.invariant.done next file.0 asked.one_more c.in-Ok-converted.ensures.input;
      within = omega (arith, c.loop-name-test.true);
      going = c.in-Ok-converted.ensures.going;
      opened = opens_to run c.loop-name.name-index c.name-item.result c.loop-name-test.true c.name-item.is here c.loop-name.invariant.done next.source asked;
      near = one_near run c.loop-name.name-index c.name-item.result c.loop-name-test.true c.name-item.is here c.loop-name.invariant.done next.source file.1;
      contents = asked.contents ∙ c.loop-name.invariant.contents;
      keeps = keeps_on g.O.Sink g.E.Sink c.args.desk.now c.loop-name.desk c.convert_file-converted.new.desk c.loop-name.invariant.keeps c.convert_file-converted.ensures.keeps;
    }

-- memory ran out before the first file
pub returns-in_default : goal.returns-in_default
returns-in_default g c = record {
  outcome = ends_at_once (told_contents (g.I.Inputs.files c.args.inputs.now)) (manner_of g.J.PageJob c.args.task.now) c.requires.texts c.args.names.now no_past _ _ (record { outs = refl; opened = refl })
      c.say_out_of_memory.ensures.says [];
  opened = inl (refl, refl);
  one_pass = λ is. absurd (out_not_unwritten is);
  one_batch = λ is. lose_none (2 * c.args.task.now.plan.workers) (told_contents (g.I.Inputs.files c.args.inputs.now)) (manner_of g.J.PageJob c.args.task.now) c.requires.texts c.args.names.now
      (source_of g.I.Inputs c.args.inputs.now) (source_of g.I.Inputs c.args.inputs.now) _ _ refl refl
      (only_said out_of_memory _ _ (record { outs = refl; opened = refl })
      c.say_out_of_memory.ensures.says);
  input = tt;
  keeps = record { outs = refl; errs = refl; ready = c.say_out_of_memory.ensures.stays_ready; never_falls = same_count (g.O.Sink.faults c.args.desk.now.outs.now) };
}

-- the run ends in a file
pub returns-in-Err : goal.returns-in-Err
returns-in-Err g c =
    let run = files_run g.J.PageJob c.args.task.now c.args.names.now (source_of g.I.Inputs c.args.inputs.now) (sinks_at g.O.Sink g.E.Sink c.args.desk.now) in
    let here = standing_at g.I.Inputs g.O.Sink g.E.Sink c.loop-name.made c.loop-name.batch c.loop-name.inputs c.loop-name.desk in
    let next = standing_at g.I.Inputs g.O.Sink g.E.Sink c.convert_file-converted.new.made c.convert_file-converted.new.batch c.convert_file-converted.new.inputs c.convert_file-converted.new.desk in
    let ends = rw (c.loop-name.invariant.contents, c.as_str.ensures) at c.in-Err.ensures.converted in
    let asked = rw c.as_str.ensures at c.convert_file-converted.ensures.asked in
    let done = c.loop-name.invariant.done in
    record {
      outcome = ends_in run c.loop-name.name-index c.name-item.result c.loop-name-test.true c.name-item.is here done c.in-Err.status next (λ back first are. (ends back first are).0);
      opened = opens_to run c.loop-name.name-index c.name-item.result c.loop-name-test.true c.name-item.is here done next.source asked;
      one_pass = λ is.
          passes_in run c.loop-name.name-index c.name-item.result c.loop-name-test.true c.name-item.is here done
          (some_room c.args.task.now.plan.workers c.args.task.now.plan.some_worker) next (λ back first are. (ends back first are).1 is);
      one_batch = λ is. loses_in run c.loop-name.name-index c.name-item.result c.loop-name-test.true c.name-item.is here done next (λ back first are. (ends back first are).2 is);
      input = input_from c.in-Err.status run.source.faults here.source.faults next.source.faults done.faults c.in-Err.ensures.input;
      keeps = keeps_on g.O.Sink g.E.Sink c.args.desk.now c.loop-name.desk c.convert_file-converted.new.desk c.loop-name.invariant.keeps c.convert_file-converted.ensures.keeps;
    }

-- all files are done, and what is held then is carried out
pub returns-in-Ok-carry_out : goal.returns-in-Ok-carry_out
returns-in-Ok-carry_out g c =
    let run = files_run g.J.PageJob c.args.task.now c.args.names.now (source_of g.I.Inputs c.args.inputs.now) (sinks_at g.O.Sink g.E.Sink c.args.desk.now) in
    let here = standing_at g.I.Inputs g.O.Sink g.E.Sink c.loop-name.made c.loop-name.batch c.loop-name.inputs c.loop-name.desk in
    let done = rw (take_all c.loop-name.name-index c.args.names.now c.loop-name-test.false) at c.loop-name.invariant.done in
    record {
      outcome = all_done run here done (sinks_at g.O.Sink g.E.Sink c.carry_out.new.desk) c.in-Ok-carry_out.ensures.ended
          (rw (take_all c.loop-name.name-index c.args.names.now c.loop-name-test.false) at c.loop-name.invariant.near);
      opened = c.loop-name.invariant.opened;
      one_pass = λ is. absurd (done_not_unwritten is);
      one_batch = λ is. absurd (done_not_out is);
      input = done.faults;
      keeps = keeps_on g.O.Sink g.E.Sink c.args.desk.now c.loop-name.desk c.carry_out.new.desk c.loop-name.invariant.keeps c.carry_out.ensures.keeps;
    }

-- or it isn't
pub returns : goal.returns
returns g c =
    let run = files_run g.J.PageJob c.args.task.now c.args.names.now (source_of g.I.Inputs c.args.inputs.now) (sinks_at g.O.Sink g.E.Sink c.args.desk.now) in
    let here = standing_at g.I.Inputs g.O.Sink g.E.Sink c.loop-name.made c.loop-name.batch c.loop-name.inputs c.loop-name.desk in
    let done = rw (take_all c.loop-name.name-index c.args.names.now c.loop-name-test.false) at c.loop-name.invariant.done in
    let which = halts_in c.in-Err-carry_out.status _ _ _ _ _ c.in-Err-carry_out.ensures.left in
    let after = sinks_at g.O.Sink g.E.Sink c.carry_out.new.desk in
    let few = c.loop-name.invariant.going.waits.few in
    record {
      outcome = ends_after run here done c.in-Err-carry_out.status which after c.in-Err-carry_out.ensures.ended;
      opened = c.loop-name.invariant.opened;
      one_pass = λ is. passes_after run here done (some_room c.args.task.now.plan.workers c.args.task.now.plan.some_worker) after few (rw is at c.in-Err-carry_out.ensures.ended);
      one_batch = λ is. loses_after run here done after few (c.in-Err-carry_out.ensures.idle is)
          (rw (take_all c.loop-name.name-index c.args.names.now c.loop-name-test.false) at c.loop-name.invariant.near);
      input = input_of_halt c.in-Err-carry_out.status which run.source.faults here.source.faults;
      keeps = keeps_on g.O.Sink g.E.Sink c.args.desk.now c.loop-name.desk c.carry_out.new.desk c.loop-name.invariant.keeps c.carry_out.ensures.keeps;
    }
