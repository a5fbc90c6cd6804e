use Rattle.std.proofs.Common.{◌+◌, ◌-◌, arith}
use Rattle.prefix_moments.proofs.Prefixes.{segment_is, whole_back}
use Rattle.prefix_moments.proofs.Rows.{segment_most}
use Rattle.prefix_moments.proofs.moments.Moments.segment_in_lap.Goals as goal

pub returns : goal.returns
returns c =
    let on_page = c.row_in_lap.ensures.on_page in
    let r = c.raw.ensures in
    let is = segment_is c.args.self.now on_page c.args.i c.args.j c.row_in_lap.result c.row_in_lap-before.result c.minus.result c.requires.onwards (omega (arith, c.requires.steps))
    c.row_in_lap.ensures.value c.row_in_lap-before.ensures.value c.minus.ensures in
    let value = whole_back c.args.self.now on_page c.args.i (c.args.j - c.args.i + 1) c.minus.result c.raw.result (omega (arith, c.requires.steps)) is r.x r.y r.xx r.xy r.yy in
    record {
      value = value;
      most = segment_most c.args.self.now on_page c.args.i (c.args.j - c.args.i + 1) c.raw.result (omega (arith, c.requires.steps)) value;
    }
