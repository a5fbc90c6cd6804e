use Rattle.std.proofs.Common.{◌++◌, codes, sym}
use Rattle.pt_core.proofs.AppendedTexts.{one_more, two}
use Rattle.dxf_geojson.specs.GeoJsonText.{feature_text}
use Rattle.dxf_geojson.proofs.features.Lines.put_more.Goals as goal

pub loop-group-preserved : goal.loop-group-preserved
loop-group-preserved c =
    one_more (λ group. codes ",\n" ++ feature_text c.args.outlines.now group) c.args.groups.now c.loop-group.group-index c.loop-group.self.out.items
    c.put_feature.new.self.out.items _ c.group-item.result c.loop-group-test.true (sym c.group-item.is)
    (two _ _ _ _ _ c.in_ok-extend_from_slice.ensures.items c.in_ok-put_feature.ensures) c.loop-group.invariant
