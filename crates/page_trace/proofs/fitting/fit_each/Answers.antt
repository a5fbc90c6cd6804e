use Rattle.std.proofs.Common.{◌≤◌, ◌^◌, length}
use Rattle.std.specs.List.{All}
use Rattle.std.proofs.lemmas.List.Elements.{All-push}
use Rattle.corner_smooth.specs.Corner.{IsNearWidePage}
use Rattle.page_trace.proofs.Zipping.{polygons_more, vertices_more}
use Rattle.page_trace.proofs.fitting.fit_each.Goals as goal

pub loop-path-preserved : goal.loop-path-preserved
loop-path-preserved c =
    let so_far = c.loop-path.invariant in
    let is = c.in_ok-best.ensures in
    let pushed = c.in_ok-push.ensures in
    let polygons = c.loop-path.fitted.polygons.items in
    let lists = c.loop-path.fitted.vertices.items in
    let more = c.push.new.self.polygons.items in
    let longer = c.push.new.self.vertices.items in
    let best = c.in_ok-best.best in
    let adjusted = c.in_ok-best.adjusted in
    record {
      polygons = polygons_more c.args.settings.now c.args.paths.now c.loop-path.path-index c.path-item.result c.loop-path-test.true c.path-item.is
          polygons more best so_far.polygons pushed.polygons is.polygon;
      vertices = vertices_more c.args.settings.now c.args.paths.now c.loop-path.path-index c.path-item.result c.loop-path-test.true c.path-item.is
          polygons more best so_far.polygons pushed.polygons lists longer adjusted so_far.vertices is.vertices pushed.vertices;
      near = rw pushed.vertices (All-push (All IsNearWidePage) lists adjusted so_far.near is.near);
      some = rw pushed.vertices (All-push (λ one. 2 ≤ length one) lists adjusted so_far.some is.some);
      most = rw pushed.vertices (All-push (λ one. length one ≤ 2 ^ 31) lists adjusted so_far.most is.most);
    }
