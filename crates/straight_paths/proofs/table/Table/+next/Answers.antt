use Rattle.std.proofs.Common.{◌<◌, sym, subst, arith}
use Rattle.straight_paths.specs.Inner.Tables.{LeadsFront, LeadsToWord, count_at}
use Rattle.straight_paths.specs.declared.course.Course.{Course}
use Rattle.straight_paths.proofs.Tabling.{grows_on, tells_front}
use Rattle.straight_paths.proofs.table.Table.+next.Goals as goal

pub by_front-requires-in-Some-clause-front : goal.by_front-requires-in-Some-clause-front
by_front-requires-in-Some-clause-front t c =
    let old = c.args.self.now in
    let new = c.next.new.self in
    let next = c.in-Some.next in
    let is = c.count.ensures.value in
    let none = c.if-count-eq0.false in
    let some : 0 < count_at old c.args.node = omega arith in
    let leads = subst (λ (course : Course). LeadsToWord new course.front c.args.digit next) c.course-course.ensures c.in-Some.ensures.leads in
    subst (λ (course : Course). LeadsFront new c.args.node c.args.digit next course.last) (sym c.course-course.ensures) (record {
      known = leads.known;
      small = (c.requires.word.whole.course c.args.node c.requires.word.known).last;
      tells = tells_front old new c.args.node c.args.digit next c.requires.word.whole c.requires.word.known some c.in-Some.ensures.grows.keeps leads;
    })

pub returns-in-Some-clause-grows : goal.returns-in-Some-clause-grows
returns-in-Some-clause-grows t c = grows_on c.args.self.now c.next.new.self c.by_front-in-Some.new.self c.in-Some.ensures.grows c.by_front-in-Some.ensures.grows
