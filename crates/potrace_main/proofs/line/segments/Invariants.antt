use Rattle.std.proofs.Common.{◌≡◌, ◌*◌, ◌^◌, ◌≤◌, length, take, sum_by}
use Rattle.potrace_main.proofs.line.segments.Given as goal

-- so many are counted
abbrev pub invariant-loop-polygon : goal.invariant-loop-polygon
invariant-loop-polygon l = record {
  total : l.total ≡ sum_by (λ polygon. length polygon.at) (take l.polygon-index l.polygons);
  most : l.total ≤ l.polygon-index * 2 ^ 64;
}
