use Rattle.std.proofs.Common.{◌≤◌, rules, length}
use Rattle.pt_core.proofs.AppendedTexts.{joined, at_end}
use Rattle.outline_pen.proofs.strokes.write_curve.Goals as goal

pub returns-clause-written : goal.returns-clause-written
returns-clause-written g c =
    let all : length c.args.text.now ≤ 256 = search rules in
    at_end _ _ _ 256 all
    (joined _ _ _ _ _ c.write_mark-start.ensures.written (joined _ _ _ _ _ c.write_step-start.ensures.written (joined _ _ _ _ _ c.write_text-start.ensures.written
    (joined _ _ _ _ _ c.write_step-start-2.ensures.written (joined _ _ _ _ _ c.write_text-start-2.ensures.written
    (joined _ _ _ _ _ c.write_step-start-3.ensures.written c.write_mark.ensures.written))))))
