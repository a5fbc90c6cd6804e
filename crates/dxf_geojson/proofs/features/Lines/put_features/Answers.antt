use Rattle.std.proofs.Common.{◌≡◌, ◌∷◌}
use Rattle.pt_core.proofs.AppendedTexts.{three}
use Rattle.dxf_geojson.proofs.features.Lines.put_features.Goals as goal

pub returns-in_ok-extend_from_slice : goal.returns-in_ok-extend_from_slice
returns-in_ok-extend_from_slice c =
    let whole : c.args.groups.now ≡ c.in-Some.first.now ∷ c.in-Some.more.now = c.in-Some.ensures.cases.0 in
    rw whole (three _ _ _ _ _ _ _ c.in_ok-put_feature.ensures c.in_ok-put_more.ensures c.in_ok-extend_from_slice.ensures.items)
