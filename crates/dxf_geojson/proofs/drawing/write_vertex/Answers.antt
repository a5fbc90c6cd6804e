use Rattle.std.proofs.Common.{◌≤◌, ◌++◌, codes, drop, length, rules, w32}
use Rattle.std.proofs.lemmas.Int.{to_z-of_z}
use Rattle.std.specs.Int.RustNames.{FitsSigned}
use Rattle.pt_core.proofs.AppendedTexts.{at_end, joined}
use Rattle.dxf_geojson.specs.DxfText.{pixels_text}
use Rattle.dxf_geojson.proofs.drawing.write_vertex.Goals as goal

pub returns-clause-written : goal.returns-clause-written
returns-clause-written c =
    let x : FitsSigned w32 c.args.at.x = search rules in
    let y : FitsSigned w32 c.args.at.y = search rules in
    let all : length c.args.text.now ≤ 80 = search rules in
    let head = codes "0\nVERTEX\n8\n0\n10\n" in
    let column = pixels_text c.args.at.x in
    let row = pixels_text c.args.at.y in
    at_end (head ++ column ++ codes "\n20\n" ++ row ++ codes "\n") c.args.text.now _ 80 all
    (joined (head ++ column ++ codes "\n20\n" ++ row) (codes "\n") (drop 80 c.args.text.now) _ _ c.write_text-start.ensures.written
    (joined (head ++ column ++ codes "\n20\n") row _ _ _ (rw (to_z-of_z w32 c.args.at.y y) at c.write_pixels-start.ensures.written)
    (joined (head ++ column) (codes "\n20\n") _ _ _ c.write_text-start-2.ensures.written
    (joined head column _ _ _ (rw (to_z-of_z w32 c.args.at.x x) at c.write_pixels-start-2.ensures.written) c.write_text.ensures.written))))
