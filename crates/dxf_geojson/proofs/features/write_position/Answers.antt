use Rattle.std.proofs.Common.{◌≤◌, ◌++◌, codes, drop, length, rules, w32}
use Rattle.std.proofs.lemmas.Int.{to_z-of_z}
use Rattle.std.specs.Int.RustNames.{FitsSigned}
use Rattle.pt_core.proofs.AppendedTexts.{at_end, joined}
use Rattle.dxf_geojson.specs.DxfText.{pixels_text}
use Rattle.dxf_geojson.proofs.features.write_position.Goals as goal

pub returns-clause-written : goal.returns-clause-written
returns-clause-written c =
    let x : FitsSigned w32 c.args.at.x = search rules in
    let y : FitsSigned w32 c.args.at.y = search rules in
    let all : length c.args.text.now ≤ 64 = search rules in
    let column = pixels_text c.args.at.x in
    let row = pixels_text c.args.at.y in
    at_end (codes "[" ++ column ++ codes "," ++ row ++ codes "]") c.args.text.now _ 64 all
    (joined (codes "[" ++ column ++ codes "," ++ row) (codes "]") (drop 64 c.args.text.now) _ _ c.write_text-start.ensures.written
    (joined (codes "[" ++ column ++ codes ",") row _ _ _ (rw (to_z-of_z w32 c.args.at.y y) at c.write_pixels-start.ensures.written)
    (joined (codes "[" ++ column) (codes ",") _ _ _ c.write_text-start-2.ensures.written
    (joined (codes "[") column _ _ _ (rw (to_z-of_z w32 c.args.at.x x) at c.write_pixels-start-2.ensures.written) c.write_text.ensures.written))))
