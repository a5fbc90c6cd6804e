use Rattle.page_batches.proofs.Holding.{one_items}
use Rattle.page_batches.proofs.laws.held_items_are_one.Goals as goal

pub returns : goal.returns
returns g c = λ b held items others. one_items b (g.J.PageJob.belongs c.args.job.now) (g.met.J.PageJob.one_text c.args.job.now) held items others
