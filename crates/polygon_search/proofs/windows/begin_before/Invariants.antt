use Rattle.std.proofs.Common.{◌≤◌}
use Rattle.std.specs.Prelude.{slice_index}
use Rattle.polygon_search.proofs.windows.begin_before.Given as goal

-- the longest segment of the point so far reaches as far
abbrev pub invariant-loop-begin : goal.invariant-loop-begin
invariant-loop-begin l = record {
  near : l.begin ≤ l.end;
  reaches : l.reached ≤ slice_index l.segments.lasts.items l.begin;
}

abbrev pub decreases-loop-begin : goal.decreases-loop-begin
decreases-loop-begin l = l.begin
