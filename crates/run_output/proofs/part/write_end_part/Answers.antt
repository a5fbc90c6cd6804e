use Rattle.std.proofs.Common.{◌∙◌, ap}
use Rattle.std.specs.Prelude.{decimal}
use Rattle.run_output.proofs.CutParts.{end_cut_in}
use Rattle.run_output.proofs.part.write_end_part.Goals as goal

-- the end of the document is cut off
pub returns-in-Err-clause-cut_off : goal.returns-in-Err-clause-cut_off
returns-in-Err-clause-cut_off g c =
    end_cut_in _ _ c.args.name.now c.args.pages _ (c.as_bytes-count.ensures.value ∙ c.format.ensures.text ∙ ap decimal c.from.ensures) c.in-Err.ensures.cut_off
