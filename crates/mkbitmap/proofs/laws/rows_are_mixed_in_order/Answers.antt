use Rattle.mkbitmap.proofs.Order.{after-rises, after-ends}
use Rattle.mkbitmap.proofs.laws.rows_are_mixed_in_order.Goals as goal

pub returns-clause-rises : goal.returns-clause-rises
returns-clause-rises c = after-rises

pub returns-clause-ends : goal.returns-clause-ends
returns-clause-ends c = after-ends
