use Rattle.std.proofs.Common.{refl}
use Rattle.run_output.specs.declared.part.Binding.TheVariants.{Apart}
use Rattle.file_documents.specs.FileItems.{Nothing}
use Rattle.file_documents.specs.Manner.{manner_by}
use Rattle.file_documents.proofs.Closing.{items_end, nothing_ends}
use Rattle.file_documents.proofs.laws.documents_are_whole.Goals as goal

pub returns : goal.returns
returns g c = λ level invert output suffix contents names past items are.
    items_end contents (manner_by level invert output suffix Apart (g.J.PageJob.belongs c.args.job.now)) refl Nothing nothing_ends names past items are
