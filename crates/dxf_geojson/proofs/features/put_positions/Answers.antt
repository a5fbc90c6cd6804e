use Rattle.std.proofs.Common.{◌++◌, codes}
use Rattle.pt_core.specs.declared.point.Point.{Point}
use Rattle.pt_core.proofs.AppendedTexts.{one_more_read}
use Rattle.dxf_geojson.specs.GeoJsonText.{position_text}
use Rattle.dxf_geojson.proofs.features.put_positions.Goals as goal

pub loop-point-preserved : goal.loop-point-preserved
loop-point-preserved c =
    one_more_read (λ (p : Point). codes "," ++ position_text p) c.in-Some.more.now c.loop-point.point-index c.loop-point.out.items c.put_next_position.new.out.items _ _
    c.loop-point-test.true c.in_ok-put_next_position.ensures c.loop-point.invariant
