use Rattle.std.proofs.Common.{◌≡◌, ◌++◌, codes, drop, flat_map}
use Rattle.std.specs.List.{join_by}
use Rattle.dxf_geojson.specs.GeoJsonText.{position_text}
use Rattle.dxf_geojson.proofs.features.put_positions.Given as goal

-- the text that is written, followed by the text of the points that are left, is the whole text
abbrev pub invariant-loop-point : goal.invariant-loop-point
invariant-loop-point l =
    l.out.items ++ flat_map (λ p. codes "," ++ position_text p) (drop l.point-index l.more)
    ≡ l.fn.out.items ++ join_by position_text (codes ",") l.points
