use Rattle.std.proofs.Common.{◌∙◌, ◌+◌, ap}
use Rattle.std.specs.Prelude.{decimal}
use Rattle.run_output.proofs.CutParts.{page_cut_in}
use Rattle.run_output.proofs.part.write_page_together.Goals as goal

-- the page is cut off
pub returns-in-Err-clause-cut_off : goal.returns-in-Err-clause-cut_off
returns-in-Err-clause-cut_off g c =
    page_cut_in _ _ c.args.name.now c.args.before c.args.text.now _ _ _ c.requires.prolog
    (c.as_bytes-page.ensures.value ∙ c.format.ensures.text ∙ ap (λ n. decimal (n + 1)) c.from.ensures) c.requires.first c.in-Err.ensures.cut_off
