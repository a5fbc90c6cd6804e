use Rattle.std.proofs.Common.{ℕ}
use Rattle.pt_core.specs.Outlines.{outline_at}
use Rattle.pt_core.proofs.AppendedTexts.{one_more_read}
use Rattle.dxf_geojson.specs.GeoJsonText.{hole_text}
use Rattle.dxf_geojson.proofs.features.Lines.put_holes.Goals as goal

pub loop-hole-preserved : goal.loop-hole-preserved
loop-hole-preserved c =
    one_more_read (λ (hole : ℕ). hole_text (outline_at c.args.outlines.now hole)) c.args.holes.now c.loop-hole.hole-index c.loop-hole.self.out.items c.put_hole.new.self.out.items _ _
    c.loop-hole-test.true (rw c.pieces_at.ensures at c.in_ok-put_hole.ensures) c.loop-hole.invariant
