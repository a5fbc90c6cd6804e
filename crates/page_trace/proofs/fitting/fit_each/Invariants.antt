use Rattle.std.proofs.Common.{length, take, zip}
use Rattle.std.specs.List.{All, AllZip}
use Rattle.std.specs.Prelude.{◌≤◌, ◌^◌}
use Rattle.corner_smooth.specs.Corner.{IsNearWidePage}
use Rattle.page_trace.specs.Trace.{AreVerticesOf, IsPolygonOf}
use Rattle.page_trace.proofs.fitting.fit_each.Given as goal

-- the first paths have their polygons and vertices
abbrev pub invariant-loop-path : goal.invariant-loop-path
invariant-loop-path l = record {
  polygons : AllZip (IsPolygonOf l.settings) (take l.path-index l.paths) l.fitted.polygons.items;
  vertices : AllZip AreVerticesOf (zip (take l.path-index l.paths) l.fitted.polygons.items) l.fitted.vertices.items;
  near : All (All IsNearWidePage) l.fitted.vertices.items;
  some : All (λ one. 2 ≤ length one) l.fitted.vertices.items;
  most : All (λ one. length one ≤ 2 ^ 31) l.fitted.vertices.items;
}
