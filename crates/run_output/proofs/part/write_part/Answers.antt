use Rattle.std.proofs.Common.{map}
use Rattle.run_output.proofs.CutParts.{cut_at_end}
use Rattle.run_output.proofs.part.write_part.Goals as goal

-- all bytes were written, and only the call that ends the document failed
pub returns-in-Err-clause-cut_off : goal.returns-in-Err-clause-cut_off
returns-in-Err-clause-cut_off g c =
    cut_at_end c.args.name.now c.args.begins (map (λ piece. piece.now) c.args.pieces.now) c.args.ends _ _ _ _
    c.in-Ok.ensures.begun c.in-Ok-write_pieces.ensures.appended c.in-Err.ensures.nothing
