use Rattle.path_decompose.proofs.Rows.{closed_row_even}
use Rattle.path_decompose.proofs.laws.rows_are_even.Goals as goal

pub returns : goal.returns
returns c = closed_row_even
