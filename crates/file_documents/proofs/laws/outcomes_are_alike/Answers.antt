use Rattle.file_documents.specs.Manner.{manner_by}
use Rattle.file_documents.proofs.OneEnd.{outcomes_alike}
use Rattle.file_documents.proofs.laws.outcomes_are_alike.Goals as goal

-- a page has one text
pub returns : goal.returns
returns g c = λ level invert output suffix binding contents names.
    outcomes_alike (manner_by level invert output suffix binding (g.J.PageJob.belongs c.args.job.now)) (g.met.J.PageJob.one_text c.args.job.now) contents names
