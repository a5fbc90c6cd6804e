use Rattle.std.proofs.Common.{◌<◌, ◌%◌, arith}
use Rattle.straight_paths.specs.Inner.Tables.{StandsFor, LeadsToWord}
use Rattle.straight_paths.proofs.Tabling.{grows_on, if_some, spelled_longer}
use Rattle.straight_paths.proofs.table.Table.+spelled.Goals as goal

pub returns-in-Some-clause-spelled : goal.returns-in-Some-clause-spelled
returns-in-Some-clause-spelled t c =
    let mid = c.spelled.new.self in
    let new = c.next.new.self in
    let more = c.if-count-eq0.false in
    let some : 0 < c.args.count = omega arith in
    if_some c.next.result (LeadsToWord new c.in-Some.rest (c.args.digits % 4)) (λ node. StandsFor new node c.args.count c.args.digits) c.next.ensures.leads
    (λ node leads. spelled_longer mid new c.in-Some.rest node c.args.count c.args.digits some c.in-Some.ensures.spelled c.next.ensures.grows.keeps leads)

pub returns-in-Some-clause-grows : goal.returns-in-Some-clause-grows
returns-in-Some-clause-grows t c = grows_on c.args.self.now c.spelled.new.self c.next.new.self c.in-Some.ensures.grows c.next.ensures.grows
