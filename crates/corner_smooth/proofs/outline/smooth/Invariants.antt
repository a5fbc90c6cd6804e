use Rattle.std.proofs.Common.{◌≡◌, ◌+◌, ◌-◌, length, map}
use Rattle.std.specs.List.{All, range_with_len}
use Rattle.pt_core.specs.ClosedWalk.{point_at}
use Rattle.corner_smooth.specs.Corner.{HasRoundness, StaysNear, corner_piece}
use Rattle.corner_smooth.proofs.outline.smooth.Given as goal

-- the pieces so far, which are near the page and round, and the vertex before the next one
abbrev pub invariant-loop-j : goal.invariant-loop-j
invariant-loop-j l = record {
  pieces : l.list.items ≡ map (corner_piece l.alphamax l.vertices) (range_with_len 0 l.j);
  before : l.before ≡ point_at l.vertices (l.j + (length l.vertices - 1));
  near : All StaysNear l.list.items;
  round : All HasRoundness l.list.items;
}
