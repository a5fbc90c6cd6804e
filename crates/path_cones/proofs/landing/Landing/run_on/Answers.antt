use Rattle.std.proofs.Common.{◌-◌, arith}
use Rattle.path_cones.proofs.Landings.{landing_on, run_short}
use Rattle.path_cones.proofs.landing.Landing.run_on.Goals as goal

pub over-requires-clause-short : goal.over-requires-clause-short
over-requires-clause-short c =
    let l = c.args.self in
    let within = c.requires.landing.within in
    let later = c.requires.landing.later in
    let before = c.if-most-self.false in
    run_short c.args.track.now c.args.first c.args.most l c.requires.landing (l.next - l.steps) (omega arith) (omega arith)

pub returns-clause-landing : goal.returns-clause-landing
returns-clause-landing c =
    let before = c.if-most-self.false in
    landing_on c.args.track.now c.args.first c.args.most c.args.self c.requires.landing c.in_ok-funnel.funnel c.mirrored.result c.corner_within.result
    (omega arith) c.in_ok-funnel.ensures.run c.mirrored.ensures.of c.corner_within.ensures.later c.corner_within.ensures.corner
