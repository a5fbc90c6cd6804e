use Rattle.std.proofs.Common.{◌≤◌, ◌++◌, drop, rules, length}
use Rattle.pt_core.proofs.AppendedTexts.{joined, at_end}
use Rattle.outline_pen.specs.Shapes.{line_text}
use Rattle.outline_pen.proofs.strokes.write_piece.Goals as goal

pub returns-in-Corner-clause-written : goal.returns-in-Corner-clause-written
returns-in-Corner-clause-written g c =
    let all : length c.args.text.now ≤ 256 = search rules in
    let first = line_text g.P.Pen.mark_text c.args.unit c.args.from c.in-Corner.at in
    let second = line_text g.P.Pen.mark_text c.args.unit c.in-Corner.at c.in-Corner.end in
    rw c.in-Corner.is
    (at_end (first ++ second) c.args.text.now _ 256 all (joined first second (drop 256 c.args.text.now) _ _ c.write_line-start.ensures.written c.write_line.ensures.written))
