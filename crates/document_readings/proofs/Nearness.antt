-- What is in reach of outlines: the ends of their pieces, and where they start.
use Rattle.std.proofs.Common.{List, [], ◌∷◌, arith}
use Rattle.std.proofs.lemmas.List.Elements.{All-head, All-tail}
use Rattle.std.specs.Prelude.{All}
use Rattle.pt_core.specs.declared.piece.Piece.{Piece}
use Rattle.pt_core.specs.declared.piece.Piece.TheVariants.{Corner, Curve}
use Rattle.pt_core.specs.declared.point.Point.{Point}
use Rattle.pt_core.specs.ClosedWalk.{origin}
use Rattle.pt_core.specs.Outlines.{end_of, start_from}
use Rattle.document_readings.specs.Places.{IsPointInReach, IsPieceInReach}

pub origin_near : IsPointInReach origin
origin_near = record { x = omega arith; y = omega arith }

pub end_near : (piece : Piece) → IsPieceInReach piece → IsPointInReach (end_of piece)
end_near (Corner at end) near = near.1
end_near (Curve first second end al) near = near.2

pub start_near : (from : Point) (pieces : List Piece) → IsPointInReach from → All IsPieceInReach pieces → IsPointInReach (start_from from pieces)
start_near from [] from_near near = from_near
start_near from (piece ∷ pieces) from_near near =
    start_near (end_of piece) pieces (end_near piece (All-head IsPieceInReach piece pieces near)) (All-tail IsPieceInReach piece pieces near)
