use Rattle.std.proofs.Common.{◌≡◌, ◌++◌, drop, flat_map}
use Rattle.pt_core.specs.Outlines.{outline_at}
use Rattle.dxf_geojson.specs.GeoJsonText.{hole_text}
use Rattle.dxf_geojson.proofs.features.Lines.put_holes.Given as goal

-- the text that is written, followed by the text of the holes that are left, is the whole text
abbrev pub invariant-loop-hole : goal.invariant-loop-hole
invariant-loop-hole l =
    l.self.out.items ++ flat_map (λ hole. hole_text (outline_at l.outlines hole)) (drop l.hole-index l.holes)
    ≡ l.fn.self.out.items ++ flat_map (λ hole. hole_text (outline_at l.outlines hole)) l.holes
