use Rattle.straight_paths.specs.Inner.Tables.{count_at}
use Rattle.straight_paths.proofs.table.Table.+next.Given as goal

abbrev pub decreases-next : goal.decreases-next
decreases-next l = count_at l.self.now l.node
