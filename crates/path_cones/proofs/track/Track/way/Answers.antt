use Rattle.std.proofs.Common.{◌+◌, sym, subst}
use Rattle.pt_core.specs.ClosedWalk.{point_at}
use Rattle.path_cones.specs.Inner.Cones.{IsShort}
use Rattle.path_cones.proofs.Bounds.{way_short}
use Rattle.path_cones.proofs.track.Track.way.Goals as goal

pub returns-clause-short : goal.returns-clause-short
returns-clause-short c =
    let on_page = c.self.invariant.on_page in
    let points = c.self.inside.laps in
    let to = c.args.first + c.args.steps in
    subst (IsShort 65535) (sym c.way.ensures) (way_short (point_at points c.args.first) (point_at points to) (on_page c.args.first) (on_page to))
