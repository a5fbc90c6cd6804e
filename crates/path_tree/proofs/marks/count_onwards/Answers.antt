-- If the next start isn't before the place, none is; otherwise the starts after those passed are searched.
use Rattle.std.proofs.Common.{arith}
use Rattle.path_tree.proofs.SkippedStarts.{parted-behind, parted-here}
use Rattle.path_tree.proofs.MarkedPaths.{rest_all}
use Rattle.path_tree.proofs.marks.count_onwards.Goals as goal
use Rattle.path_tree.proofs.marks.count_onwards.Goals.{else-passed-starts-via-then-passed-starts+else-starts-passed, else-passed-starts-via-else-passed-starts}

pub returns-then-starts-passed-clause-parted : goal.returns-then-starts-passed-clause-parted
returns-then-starts-passed-clause-parted c =
    let starts = c.args.starts.now in
    let rest = rest_all c.args.passed starts in
    parted-behind starts c.args.passed c.count_below.result c.args.place c.requires.passed (rw rest at c.count_below.ensures.parted)

pub returns-else-passed-starts-clause-parted : goal.returns-else-passed-starts-clause-parted
returns-else-passed-starts-clause-parted c =
    parted-here c.args.starts.now c.args.passed c.args.place c.requires.order c.requires.passed
    (λ short. elim c.else-passed-starts.branch [
      | else-passed-starts-via-then-passed-starts+else-starts-passed w ↦ omega (arith, w.if-starts-passed.false)
      | else-passed-starts-via-else-passed-starts w ↦ absurd (omega (arith, w.if-passed-starts.false))
    ])
