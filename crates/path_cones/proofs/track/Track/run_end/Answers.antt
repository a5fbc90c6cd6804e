use Rattle.std.proofs.Common.{◌≡◌, ◌-◌, min, rules, arith}
use Rattle.path_cones.proofs.Clear.{path_run}
use Rattle.path_cones.proofs.track.Track.run_end.Goals as goal

pub returns-clause-run : goal.returns-clause-run
returns-clause-run c =
    let later = c.corner_after.ensures.later in
    let at : c.min.result ≡ min c.corner_after.result c.args.most = search rules in
    path_run c.args.self.now c.args.first c.args.steps (c.corner_after.result - c.args.steps) (c.min.result - c.args.steps) c.corner_after.ensures.corner
    (omega arith)
