use Rattle.file_documents.specs.Manner.{manner_by}
use Rattle.file_documents.proofs.Exists.{items_found}
use Rattle.file_documents.proofs.laws.files_have_items.Goals as goal

pub returns : goal.returns
returns g c = λ level invert output suffix binding texts contents names past.
    items_found contents (manner_by level invert output suffix binding (g.J.PageJob.belongs c.args.job.now)) texts names past
