use Rattle.mkbitmap.proofs.Order.{need-rises, need-ends, need-last}
use Rattle.mkbitmap.proofs.laws.rows_need_more_and_more.Goals as goal

pub returns-clause-rises : goal.returns-clause-rises
returns-clause-rises c = need-rises

pub returns-clause-ends : goal.returns-clause-ends
returns-clause-ends c = need-ends

pub returns-clause-last : goal.returns-clause-last
returns-clause-last c = need-last
