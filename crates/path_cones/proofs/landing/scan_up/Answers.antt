use Rattle.std.proofs.Common.{◌≡◌, ◌-◌, min, arith}
use Rattle.path_cones.proofs.Ends.{lesser_is}
use Rattle.path_cones.proofs.Landings.{all_clear, clear_within, run_short}
use Rattle.path_cones.proofs.landing.scan_up.Goals as goal

pub over-requires-clause-short : goal.over-requires-clause-short
over-requires-clause-short c =
    let l = c.last_landing-end.result in
    let on = c.last_landing-end.ensures.landing in
    let within = on.within in
    let later = on.later in
    let at : c.min.result ≡ min l.next c.args.most = lesser_is _ _ _ c.min.ensures in
    run_short c.args.track.now c.args.first c.args.most l on (c.min.result - l.steps) (omega arith) (omega arith)

pub returns-in-Some-clause-steps : goal.returns-in-Some-clause-steps
returns-in-Some-clause-steps c =
    let l = c.last_landing-end.result in
    let at : c.min.result ≡ min l.next c.args.most = lesser_is _ _ _ c.min.ensures in
    all_clear c.args.track.now c.args.first c.args.most l c.last_landing-end.ensures.landing c.in-Some.funnel (c.min.result - l.steps) (omega arith)
    c.in-Some.ensures.run c.in-Some.ensures.held c.last_landing-end.ensures.last

pub returns-in-None-clause-steps : goal.returns-in-None-clause-steps
returns-in-None-clause-steps c =
    let l = c.last_landing-end.result in
    let at : c.min.result ≡ min l.next c.args.most = lesser_is _ _ _ c.min.ensures in
    clear_within c.args.track.now c.args.first c.args.most l c.last_landing-end.ensures.landing (c.min.result - l.steps) c.held.result (omega arith)
    c.held.ensures.fewer c.held.ensures.held c.held.ensures.no_more
