use Rattle.std.proofs.Common.{List, ℕ, Bor, ◌∙◌}
use Rattle.pt_core.proofs.AppendedTexts.{on_err}
use Rattle.run_output.proofs.PieceRuns.{piece_cut, piece_said}
use Rattle.run_output.proofs.pieces.write_pieces.Goals as goal

pub loop-piece-preserved : goal.loop-piece-preserved
loop-piece-preserved g c = record {
  ready = c.write_whole.ensures.stays_ready;
  so_far = piece_said (Bor (List ℕ)) (λ piece. piece.now) _ _ _ c.args.pieces.now c.loop-piece.piece-index _ c.loop-piece-test.true
      c.loop-piece.invariant.so_far c.in_ok-write_whole.ensures.appended;
  went = c.in_ok-write_whole.ensures.went ∙ c.loop-piece.invariant.went;
  steady = c.in_ok-write_whole.ensures.steady ∙ c.loop-piece.invariant.steady;
}

-- a piece is cut off
pub returns-in_err-write_whole-clause-prefix : goal.returns-in_err-write_whole-clause-prefix
returns-in_err-write_whole-clause-prefix g c =
    on_err c.from_residual.result
    (piece_cut (Bor (List ℕ)) (λ piece. piece.now) _ _ _ c.args.pieces.now c.loop-piece.piece-index _ c.loop-piece-test.true
    c.loop-piece.invariant.so_far c.in_err-write_whole.ensures.prefix)
