use Rattle.std.proofs.Common.{◌≡◌, ◌≤◌, ◌*◌, ◌-◌, true}
use Rattle.bitmap_input.specs.Reading.{AtEnd}
use Rattle.page_batches.specs.Inner.Desks.{Keeps}
use Rattle.run_output.specs.Told.{source_of}
use Rattle.file_documents.specs.Inner.Progress.{CanHold, OpensNoFile}
use Rattle.file_documents.specs.Inner.Tasks.{manner_of}
use Rattle.file_documents.proofs.Converting.{IsConverted}
use Rattle.file_documents.proofs.Standing.{standing_at}
use Rattle.file_documents.proofs.pages.convert_pages.Given as goal

-- the first pages are read, and what was held and their documents are carried out or held
abbrev pub invariant-loop-pages : goal.invariant-loop-pages
invariant-loop-pages g l =
    let inputs = g.I.Inputs in
    let outs = g.O.Sink in
    let errs = g.E.Sink in
    record {
      most : l.pages ≤ l.room;
      converted : IsConverted (2 * l.task.plan.workers) (manner_of g.J.PageJob l.task) l.base (standing_at inputs outs errs l.made l.fn.batch l.fn.inputs l.fn.desk)
          (standing_at inputs outs errs l.made l.batch l.inputs l.desk) l.reader l.pages;
      going : CanHold outs errs l.task.plan.binding (2 * l.task.plan.workers) l.pages l.desk l.batch;
      opened : inputs.is_opened l.inputs ≡ true;
      at_end : l.reader.ended ≡ true → AtEnd (inputs.files l.inputs);
      stays : OpensNoFile (source_of inputs l.fn.inputs) (source_of inputs l.inputs);
      input : inputs.faults l.inputs ≡ inputs.faults l.fn.inputs;
      keeps : Keeps outs errs l.fn.desk l.desk;
    }

abbrev pub decreases-loop-pages : goal.decreases-loop-pages
decreases-loop-pages g l = l.room - l.pages
