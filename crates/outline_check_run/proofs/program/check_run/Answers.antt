use Rattle.std.proofs.Common.{sym, ◌∙◌, codes}
use Rattle.run_output.specs.Told.{sinks_of, source_of}
use Rattle.outline_check_run.proofs.Checked.{best_where_done}
use Rattle.outline_check_run.proofs.RightTexts.{found_right}
use Rattle.outline_check_run.proofs.program.check_run.Goals as goal

pub returns-clause-best : goal.returns-clause-best
returns-clause-best g c = λ zero text width height paths tells reads.
    best_where_done (source_of g.I.Inputs c.args.inputs.now) (source_of g.I.Inputs c.run.new.inputs) text width height paths tells reads
    (codes "outline_check") (sinks_of g.O.Sink g.E.Sink c.args.outs.now c.args.errs.now) (sinks_of g.O.Sink g.E.Sink c.run.new.outs c.run.new.errs)
    c.run.result (sym c.code.ensures ∙ zero) c.run.ensures.outcome

pub returns-clause-finds_right : goal.returns-clause-finds_right
returns-clause-finds_right g c = λ text paths right none tells few.
    (c.run.result, c.code.ensures, found_right (codes "outline_check") text paths _ c.run.result _ _ _ _ c.run.ensures none tells few right)
