use Rattle.std.proofs.Common.{◌≡◌, ◌++◌, codes, drop, flat_map}
use Rattle.dxf_geojson.specs.GeoJsonText.{feature_text}
use Rattle.dxf_geojson.proofs.features.Lines.put_more.Given as goal

-- the text that is written, followed by the text of the groups that are left, is the whole text
abbrev pub invariant-loop-group : goal.invariant-loop-group
invariant-loop-group l =
    l.self.out.items ++ flat_map (λ group. codes ",\n" ++ feature_text l.outlines group) (drop l.group-index l.groups)
    ≡ l.fn.self.out.items ++ flat_map (λ group. codes ",\n" ++ feature_text l.outlines group) l.groups
