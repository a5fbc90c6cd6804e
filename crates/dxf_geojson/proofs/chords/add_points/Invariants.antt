use Rattle.std.proofs.Common.{◌≡◌, ◌++◌, drop}
use Rattle.dxf_geojson.specs.Chords.{points_from}
use Rattle.dxf_geojson.proofs.chords.add_points.Given as goal

-- the points that are listed, followed by the points of the pieces that are left, are all points
abbrev pub invariant-loop-piece : goal.invariant-loop-piece
invariant-loop-piece l =
    l.points.items ++ points_from l.from (drop l.piece-index l.pieces) ≡ l.fn.points.items ++ points_from l.fn.start l.pieces
