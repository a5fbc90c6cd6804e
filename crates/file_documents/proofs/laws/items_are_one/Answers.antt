use Rattle.std.proofs.Common.{◌∙◌, sym}
use Rattle.file_documents.specs.FileItems.{Nothing}
use Rattle.file_documents.specs.Manner.{manner_by}
use Rattle.file_documents.proofs.OneItems.{one_list}
use Rattle.file_documents.proofs.laws.items_are_one.Goals as goal

-- a page has one text
pub returns : goal.returns
returns g c = λ level invert output suffix binding contents names past.
    one_list contents (manner_by level invert output suffix binding (g.J.PageJob.belongs c.args.job.now)) (g.met.J.PageJob.one_text c.args.job.now) Nothing
    (λ past one other a b. a ∙ sym b) names past
