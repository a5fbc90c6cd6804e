use Rattle.std.proofs.Common.{◌≡◌, ◌≤◌, ◌*◌, length, take}
use Rattle.page_batches.specs.Inner.Desks.{Keeps, sinks_at}
use Rattle.file_documents.specs.FileItems.{told_contents}
use Rattle.file_documents.specs.Outcome.{LastEndsNear, OpensFirst}
use Rattle.run_output.specs.Told.{source_of}
use Rattle.file_documents.specs.Inner.Progress.{CanHold}
use Rattle.file_documents.proofs.DoneFiles.{AreDone, files_run}
use Rattle.file_documents.proofs.Standing.{standing_at}
use Rattle.file_documents.proofs.files.convert_files.Given as goal

-- the first files are done
abbrev pub invariant-loop-name : goal.invariant-loop-name
invariant-loop-name g l =
    let inputs = g.I.Inputs in
    let outs = g.O.Sink in
    let errs = g.E.Sink in
    record {
      done : AreDone (files_run g.J.PageJob l.task l.names (source_of inputs l.fn.inputs) (sinks_at outs errs l.fn.desk)) (take l.name-index l.names)
          (standing_at inputs outs errs l.made l.batch l.inputs l.desk);
      within : l.name-index ≤ length l.names;
      going : CanHold outs errs l.task.plan.binding (2 * l.task.plan.workers) 0 l.desk l.batch;
      opened : OpensFirst l.names (source_of inputs l.fn.inputs) (source_of inputs l.inputs);
      near : LastEndsNear (told_contents (inputs.files l.fn.inputs)) (take l.name-index l.names) (source_of inputs l.inputs);
      contents : told_contents (inputs.files l.inputs) ≡ told_contents (inputs.files l.fn.inputs);
      keeps : Keeps outs errs l.fn.desk l.desk;
    }
