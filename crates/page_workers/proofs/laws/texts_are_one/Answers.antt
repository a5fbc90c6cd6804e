use Rattle.std.proofs.Common.{Vec, Global, ℕ}
use Rattle.page_workers.proofs.Back.{one_list}
use Rattle.page_workers.proofs.laws.texts_are_one.Goals as goal

pub returns : goal.returns
returns g c pages these those a b = one_list (λ (v : Vec ℕ Global). v.items) (g.J.PageJob.belongs c.args.job.now) (g.met.J.PageJob.one_text c.args.job.now) pages these those a b
