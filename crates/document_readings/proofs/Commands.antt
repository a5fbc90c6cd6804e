-- The commands of an outline, whose steps lead from one rounded place to the next, and what they draw.
use Rattle.std.proofs.Common.{◌≡◌, ℕ, ℤ, ◌-ℤ◌, ◌+ℤ◌, List, [], ◌∷◌, ◌++◌, flat_map, map, refl, ap, sym, ◌∙◌, append_assoc, Some, arith}
use Rattle.std.specs.Prelude.{option_and_then}
use Rattle.std.proofs.lemmas.Int.{ints}
use Rattle.std.proofs.lemmas.List.{append-nil}
use Rattle.pt_core.specs.declared.piece.Piece.{Piece}
use Rattle.pt_core.specs.declared.piece.Piece.TheVariants.{Corner, Curve}
use Rattle.pt_core.specs.declared.point.Point.{Point}
use Rattle.pt_core.specs.ClosedWalk.{origin}
use Rattle.pt_core.specs.Outlines.{end_of, start_from}
use Rattle.document_readings.specs.Drawn.{Command, Place, Segment, line_to, curve_to, Subpath, move, line, curve, close, up, down, pen_after_all, displaced, drawn, closed_subpaths}
use Rattle.document_readings.specs.Places.{rounded_place, piece_segments, outline_subpath, end_from, ComesBack}

-- how far a place lies from another
abbrev pub shift_from : Place → Place → Place
shift_from from to = record { x = to.x -ℤ from.x; y = to.y -ℤ from.y }

-- the commands of a piece
abbrev pub piece_commands : ℕ → Point → Piece → List Command
piece_commands unit from (Corner at end) = line (shift_from (rounded_place unit from) (rounded_place unit at)) ∷ line (shift_from (rounded_place unit at) (rounded_place unit end)) ∷ []
piece_commands unit from (Curve first second end al) =
    curve (shift_from (rounded_place unit from) (rounded_place unit first)) (shift_from (rounded_place unit from) (rounded_place unit second)) (shift_from (rounded_place unit from) (rounded_place unit end)) ∷ []

abbrev pub pieces_commands : ℕ → Point → List Piece → List Command
pieces_commands unit from [] = []
pieces_commands unit from (piece ∷ pieces) = piece_commands unit from piece ++ pieces_commands unit (end_of piece) pieces

-- the commands of an outline
abbrev pub outline_commands : ℕ → List Piece → List Command
outline_commands unit pieces = move (rounded_place unit (start_from origin pieces)) ∷ (pieces_commands unit (start_from origin pieces) pieces ++ close ∷ [])

-- a step from one place to another leads there
displaced_step : (a b : Place) → displaced a (shift_from a b) ≡ b
displaced_step a b =
    let x : a.x +ℤ (b.x -ℤ a.x) ≡ b.x = omega (arith, ints) in
    let y : a.y +ℤ (b.y -ℤ a.y) ≡ b.y = omega (arith, ints) in
    let F : ℤ → Place = λ z. record { x = z; y = a.y +ℤ (b.y -ℤ a.y) } in
    let G : ℤ → Place = λ z. record { x = b.x; y = z } in
    ap F x ∙ ap G y

module _ (done : List Subpath) (start : Place) where
  line_after : (segments : List Segment) (now to : Place) (commands : List Command)
      → pen_after_all (down done start segments now) (line (shift_from now to) ∷ commands) ≡ pen_after_all (down done start (segments ++ line_to to ∷ []) to) commands
  line_after segments now to commands = ap (λ p. pen_after_all (down done start (segments ++ line_to p ∷ []) p) commands) (displaced_step now to)

  curve_after : (segments : List Segment) (now first second to : Place) (commands : List Command)
      → pen_after_all (down done start segments now) (curve (shift_from now first) (shift_from now second) (shift_from now to) ∷ commands)
      ≡ pen_after_all (down done start (segments ++ curve_to first second to ∷ []) to) commands
  curve_after segments now first second to commands =
      ap (λ p. pen_after_all (down done start (segments ++ curve_to p (displaced now (shift_from now second)) (displaced now (shift_from now to)) ∷ []) (displaced now (shift_from now to))) commands) (displaced_step now first)
      ∙ ap (λ p. pen_after_all (down done start (segments ++ curve_to first p (displaced now (shift_from now to)) ∷ []) (displaced now (shift_from now to))) commands) (displaced_step now second)
      ∙ ap (λ p. pen_after_all (down done start (segments ++ curve_to first second p ∷ []) p) commands) (displaced_step now to)

  piece_after : (unit : ℕ) (segments : List Segment) (from : Point) (piece : Piece) (commands : List Command)
      → pen_after_all (down done start segments (rounded_place unit from)) (piece_commands unit from piece ++ commands)
      ≡ pen_after_all (down done start (segments ++ piece_segments unit piece) (rounded_place unit (end_of piece))) commands
  piece_after unit segments from (Corner at end) commands =
      line_after segments (rounded_place unit from) (rounded_place unit at) (line (shift_from (rounded_place unit at) (rounded_place unit end)) ∷ commands)
      ∙ line_after (segments ++ line_to (rounded_place unit at) ∷ []) (rounded_place unit at) (rounded_place unit end) commands
      ∙ ap (λ s. pen_after_all (down done start s (rounded_place unit end)) commands) (append_assoc segments (line_to (rounded_place unit at) ∷ []) (line_to (rounded_place unit end) ∷ []))
  piece_after unit segments from (Curve first second end al) commands =
      curve_after segments (rounded_place unit from) (rounded_place unit first) (rounded_place unit second) (rounded_place unit end) commands

  pieces_after : (unit : ℕ) (segments : List Segment) (from : Point) (pieces : List Piece) (commands : List Command)
      → pen_after_all (down done start segments (rounded_place unit from)) (pieces_commands unit from pieces ++ commands)
      ≡ pen_after_all (down done start (segments ++ flat_map (piece_segments unit) pieces) (rounded_place unit (start_from from pieces))) commands
  pieces_after unit segments from [] commands = ap (λ s. pen_after_all (down done start s (rounded_place unit from)) commands) (sym (append-nil segments))
  pieces_after unit segments from (piece ∷ pieces) commands =
      ap (pen_after_all (down done start segments (rounded_place unit from))) (append_assoc (piece_commands unit from piece) (pieces_commands unit (end_of piece) pieces) commands)
      ∙ piece_after unit segments from piece (pieces_commands unit (end_of piece) pieces ++ commands)
      ∙ pieces_after unit (segments ++ piece_segments unit piece) (end_of piece) pieces commands
      ∙ ap (λ s. pen_after_all (down done start s (rounded_place unit (start_from (end_of piece) pieces))) commands) (append_assoc segments (piece_segments unit piece) (flat_map (piece_segments unit) pieces))

outline_after : (unit : ℕ) (done : List Subpath) (pieces : List Piece) (commands : List Command)
    → pen_after_all (up done) (outline_commands unit pieces ++ commands) ≡ pen_after_all (up (done ++ outline_subpath unit pieces ∷ [])) commands
outline_after unit done pieces commands =
    let start = start_from origin pieces in
    ap (pen_after_all (down done (rounded_place unit start) [] (rounded_place unit start))) (append_assoc (pieces_commands unit start pieces) (close ∷ []) commands)
    ∙ pieces_after done (rounded_place unit start) unit [] start pieces (close ∷ commands)

pub outlines_after : (unit : ℕ) (done : List Subpath) (outlines : List (List Piece))
    → pen_after_all (up done) (flat_map (outline_commands unit) outlines) ≡ Some (up (done ++ map (outline_subpath unit) outlines))
outlines_after unit done [] = ap (λ d. Some (up d)) (sym (append-nil done))
outlines_after unit done (pieces ∷ outlines) =
    outline_after unit done pieces (flat_map (outline_commands unit) outlines)
    ∙ outlines_after unit (done ++ outline_subpath unit pieces ∷ []) outlines
    ∙ ap (λ d. Some (up d)) (append_assoc done (outline_subpath unit pieces ∷ []) (map (outline_subpath unit) outlines))

-- the commands of outlines draw a closed subpath for each
pub outlines_drawn : (unit : ℕ) (outlines : List (List Piece)) → drawn (flat_map (outline_commands unit) outlines) ≡ Some (map (outline_subpath unit) outlines)
outlines_drawn unit outlines = ap (option_and_then closed_subpaths) (outlines_after unit [] outlines)

-- pieces end where the last one does
ends_there : (unit : ℕ) (from : Point) (pieces : List Piece) → end_from (rounded_place unit from) (flat_map (piece_segments unit) pieces) ≡ rounded_place unit (start_from from pieces)
ends_there unit from [] = refl
ends_there unit from (Corner at end ∷ pieces) = ends_there unit end pieces
ends_there unit from (Curve first second end al ∷ pieces) = ends_there unit end pieces

pub same_start : (from : Point) (pieces : List Piece) → start_from (start_from from pieces) pieces ≡ start_from from pieces
same_start from [] = refl
same_start from (piece ∷ pieces) = refl

-- an outline comes back to its start
pub outline_comes_back : (unit : ℕ) (pieces : List Piece) → ComesBack (outline_subpath unit pieces)
outline_comes_back unit pieces = ends_there unit (start_from origin pieces) pieces ∙ ap (rounded_place unit) (same_start origin pieces)
