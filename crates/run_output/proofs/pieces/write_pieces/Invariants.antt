use Rattle.std.proofs.Common.{◌≡◌, map, take, true}
use Rattle.std.specs.List.{concat}
use Rattle.pt_core.specs.Documents.{with_bytes}
use Rattle.run_output.proofs.pieces.write_pieces.Given as goal

-- all pieces before the current one are written
abbrev pub invariant-loop-piece : goal.invariant-loop-piece
invariant-loop-piece g l =
    let sink = g.S.Sink in
    record {
      ready : sink.is_ready l.sink ≡ true;
      so_far : sink.documents l.sink ≡ with_bytes (sink.documents l.fn.sink) (concat (map (λ piece. piece.now) (take l.piece-index l.pieces)));
      went : (sink.failures l.sink).count ≡ (sink.failures l.fn.sink).count;
      steady : sink.faults l.sink ≡ sink.faults l.fn.sink;
    }
