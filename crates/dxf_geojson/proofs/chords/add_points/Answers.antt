use Rattle.std.proofs.Common.{◌≡◌, ℕ, ◌+◌, ◌<◌, List, ◌∷◌, ◌++◌, length, get_or, drop, sym, ap, ◌∙◌, suc, append_assoc, add-one, drop-cons}
use Rattle.pt_core.specs.Outlines.{end_of}
use Rattle.pt_core.specs.declared.piece.Piece.{Piece}
use Rattle.pt_core.specs.declared.point.Point.{Point}
use Rattle.dxf_geojson.specs.Chords.{piece_points, points_from}
use Rattle.dxf_geojson.proofs.chords.add_points.Goals as goal

-- after one more piece, the next one begins at its end
one_further : (pieces : List Piece) (k : ℕ) (points now text : List Point) (from end : Point) (d : Piece) → k < length pieces
    → now ≡ points ++ piece_points from (get_or pieces k d) → end ≡ end_of (get_or pieces k d)
    → points ++ points_from from (drop k pieces) ≡ text → now ++ points_from end (drop (k + 1) pieces) ≡ text
one_further pieces k points now text from end d within made goes so_far =
    let e : drop k pieces ≡ get_or pieces k d ∷ drop (suc k) pieces = drop-cons pieces k d within in
    rw (made, goes, add-one, append_assoc) (ap (λ ys. points ++ points_from from ys) (sym e) ∙ so_far)

pub loop-piece-preserved : goal.loop-piece-preserved
loop-piece-preserved c =
    one_further c.args.pieces.now c.loop-piece.piece-index c.loop-piece.points.items c.add_piece.new.points.items _ c.loop-piece.from c.end_of-from.result _
    c.loop-piece-test.true c.in_ok-add_piece.ensures c.end_of-from.ensures c.loop-piece.invariant
