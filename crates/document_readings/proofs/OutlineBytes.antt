-- The bytes of the texts of outlines pass a test that digits, minus signs, spaces and a format's marks pass.
use Rattle.std.proofs.Common.{◌≡◌, ℕ, ◌^◌, ◌<◌, ◌≤◌, ℤ, ◌-ℤ◌, unsigned_abs, Bool, true, false, List, [], ◌∷◌, ◌++◌, codes, map, flat_map, refl, ap, arith, inl, inr, length}
use Rattle.std.proofs.lemmas.Bool.{cases_lt}
use Rattle.std.proofs.lemmas.List.{get_or_past}
use Rattle.std.proofs.lemmas.List.Elements.{All-head, All-tail, All-nil, All-cons, All-map}
use Rattle.std.specs.Prelude.{All, ◌&&◌}
use Rattle.std.specs.Fmt.{signed_decimal}
use Rattle.pt_base.specs.Whole.{IsDigit}
use Rattle.pt_core.specs.declared.piece.Piece.{Piece}
use Rattle.pt_core.specs.declared.piece.Piece.TheVariants.{Corner, Curve}
use Rattle.pt_core.specs.declared.point.Point.{Point}
use Rattle.pt_core.specs.declared.trace.Group.{Group}
use Rattle.pt_core.specs.declared.trace.Trace.{Trace}
use Rattle.pt_core.specs.ClosedWalk.{origin}
use Rattle.pt_core.specs.Floor.{rounded}
use Rattle.pt_core.specs.Outlines.{end_of, start_from, outline_at}
use Rattle.pt_core.specs.UnitText.{place_text, step_text}
use Rattle.outline_pen.specs.Shapes.{start_text, line_text, piece_text, pieces_text, outline_text, more_text, shape_text, group_text}
use Rattle.outline_pen.specs.declared.pen.Mark.{Mark}
use Rattle.outline_pen.specs.declared.pen.Mark.TheVariants as mark
use Rattle.document_readings.specs.Places.{IsPointInReach, IsPieceInReach, AreInReach}
use Rattle.document_readings.specs.TraceShapes.{group_outlines, one_shape, shapes_of}
use Rattle.document_readings.proofs.BytesPass.{all_pass, passes_append, signed_passes}
use Rattle.document_readings.proofs.Nearness.{end_near, start_near, origin_near}
use Rattle.document_readings.proofs.PathReading.{small_difference, rounded_small}

-- the mark stands within an outline, or between two
abbrev pub is_stroke : Mark → Bool
is_stroke mark.Shape = false
is_stroke mark.Shaped = false
is_stroke mark.Next = true
is_stroke mark.Start = true
is_stroke mark.Started = true
is_stroke mark.Line = true
is_stroke mark.Lined = true
is_stroke mark.Curve = true
is_stroke mark.Curved = true
is_stroke mark.Closed = true

module _ (test : ℕ → Bool) (of_digit : (b : ℕ) → IsDigit b → test b ≡ true) (of_minus : test 45 ≡ true) (of_space : test 32 ≡ true) (pen : Mark → List ℕ)
    (of_pen : (m : Mark) → is_stroke m ≡ true → all_pass test (pen m) ≡ true) (unit : ℕ) (few : unit ≤ 1000) where
  space_passes : all_pass test (codes " ") ≡ true
  space_passes = ap (λ t. t && true) of_space

  three_pass : (a s b : List ℕ) → all_pass test a ≡ true → all_pass test s ≡ true → all_pass test b ≡ true → all_pass test (a ++ s ++ b) ≡ true
  three_pass a s b ha hs hb = passes_append test (a ++ s) b (passes_append test a s ha hs) hb

  pair_passes : (x y : ℤ) → unsigned_abs x < 2 ^ 62 → unsigned_abs y < 2 ^ 62 → all_pass test (signed_decimal x ++ codes " " ++ signed_decimal y) ≡ true
  pair_passes x y x_small y_small =
      three_pass (signed_decimal x) (codes " ") (signed_decimal y) (signed_passes test of_digit of_minus x x_small) space_passes (signed_passes test of_digit of_minus y y_small)

  place_passes : (p : Point) → IsPointInReach p → all_pass test (place_text unit p) ≡ true
  place_passes p near =
      let x = rounded_small p.x unit near.x few in
      let y = rounded_small p.y unit near.y few in
      pair_passes (rounded p.x unit) (rounded p.y unit) (omega arith) (omega arith)

  step_passes : (from to : Point) → IsPointInReach from → IsPointInReach to → all_pass test (step_text unit from to) ≡ true
  step_passes from to from_near to_near =
      pair_passes (rounded to.x unit -ℤ rounded from.x unit) (rounded to.y unit -ℤ rounded from.y unit)
      (small_difference (rounded to.x unit) (rounded from.x unit) (rounded_small to.x unit to_near.x few) (rounded_small from.x unit from_near.x few))
      (small_difference (rounded to.y unit) (rounded from.y unit) (rounded_small to.y unit to_near.y few) (rounded_small from.y unit from_near.y few))

  line_passes : (from to : Point) → IsPointInReach from → IsPointInReach to → all_pass test (line_text pen unit from to) ≡ true
  line_passes from to from_near to_near = three_pass (pen mark.Line) (step_text unit from to) (pen mark.Lined) (of_pen mark.Line refl) (step_passes from to from_near to_near) (of_pen mark.Lined refl)

  piece_passes : (from : Point) (piece : Piece) → IsPointInReach from → IsPieceInReach piece → all_pass test (piece_text pen unit from piece) ≡ true
  piece_passes from (Corner at end) from_near near =
      passes_append test (line_text pen unit from at) (line_text pen unit at end) (line_passes from at from_near near.0) (line_passes at end near.0 near.1)
  piece_passes from (Curve first second end al) from_near near =
      let one = step_text unit from first in
      let two = step_text unit from second in
      let three = step_text unit from end in
      three_pass (pen mark.Curve ++ one ++ codes " " ++ two ++ codes " ") three (pen mark.Curved)
      (three_pass (pen mark.Curve ++ one ++ codes " ") two (codes " ")
      (three_pass (pen mark.Curve) one (codes " ") (of_pen mark.Curve refl) (step_passes from first from_near near.0) space_passes)
      (step_passes from second from_near near.1) space_passes)
      (step_passes from end from_near near.2) (of_pen mark.Curved refl)

  pieces_pass : (from : Point) (pieces : List Piece) → IsPointInReach from → All IsPieceInReach pieces → all_pass test (pieces_text pen unit from pieces) ≡ true
  pieces_pass from [] from_near near = refl
  pieces_pass from (piece ∷ pieces) from_near near =
      let here = All-head IsPieceInReach piece pieces near in
      passes_append test (piece_text pen unit from piece) (pieces_text pen unit (end_of piece) pieces) (piece_passes from piece from_near here)
      (pieces_pass (end_of piece) pieces (end_near piece here) (All-tail IsPieceInReach piece pieces near))

  pub outline_passes : (pieces : List Piece) → All IsPieceInReach pieces → all_pass test (outline_text pen unit pieces) ≡ true
  outline_passes pieces near =
      let start = start_from origin pieces in
      let start_is_near = start_near origin pieces origin_near near in
      three_pass (start_text pen unit start) (pieces_text pen unit start pieces) (pen mark.Closed)
      (three_pass (pen mark.Start) (place_text unit start) (pen mark.Started) (of_pen mark.Start refl) (place_passes start start_is_near) (of_pen mark.Started refl))
      (pieces_pass start pieces start_is_near near) (of_pen mark.Closed refl)

  pub more_pass : (outlines : List (List Piece)) → AreInReach outlines → all_pass test (more_text pen unit outlines) ≡ true
  more_pass [] near = refl
  more_pass (pieces ∷ outlines) near =
      three_pass (pen mark.Next) (outline_text pen unit pieces) (more_text pen unit outlines) (of_pen mark.Next refl) (outline_passes pieces (All-head (All IsPieceInReach) pieces outlines near))
      (more_pass outlines (All-tail (All IsPieceInReach) pieces outlines near))

  module _ (of_shape : all_pass test (pen mark.Shape) ≡ true) (of_shaped : all_pass test (pen mark.Shaped) ≡ true) where
    shape_passes : (first : List Piece) (more : List (List Piece)) → AreInReach (first ∷ more) → all_pass test (shape_text pen unit first more) ≡ true
    shape_passes first more near =
        three_pass (pen mark.Shape ++ outline_text pen unit first) (more_text pen unit more) (pen mark.Shaped)
        (passes_append test (pen mark.Shape) (outline_text pen unit first) of_shape (outline_passes first (All-head (All IsPieceInReach) first more near)))
        (more_pass more (All-tail (All IsPieceInReach) first more near)) of_shaped

    pub groups_pass : (outlines : List (List Piece)) (groups : List Group) → All AreInReach (map (group_outlines outlines) groups)
        → all_pass test (flat_map (group_text pen unit outlines) groups) ≡ true
    groups_pass outlines [] near = refl
    groups_pass outlines (group ∷ groups) near =
        let shape = group_outlines outlines group in
        let shapes = map (group_outlines outlines) groups in
        passes_append test (group_text pen unit outlines group) (flat_map (group_text pen unit outlines) groups)
        (shape_passes (outline_at outlines group.outer) (map (outline_at outlines) group.holes) (All-head AreInReach shape shapes near))
        (groups_pass outlines groups (All-tail AreInReach shape shapes near))

-- the outlines of each shape are those of the trace
outline_near : (outlines : List (List Piece)) (i : ℕ) → AreInReach outlines → All IsPieceInReach (outline_at outlines i)
outline_near outlines i near = elim (cases_lt i (length outlines)) [
  | inl h ↦ near i [] h
  | inr h ↦ rw (get_or_past outlines i [] h) (All-nil IsPieceInReach)
]

group_near : (outlines : List (List Piece)) (group : Group) → AreInReach outlines → AreInReach (group_outlines outlines group)
group_near outlines group near =
    All-cons (All IsPieceInReach) (outline_at outlines group.outer) (map (outline_at outlines) group.holes) (outline_near outlines group.outer near)
    (All-map (All IsPieceInReach) (outline_at outlines) group.holes (λ k d below. outline_near outlines _ near))

together_near : (outlines : List (List Piece)) → AreInReach outlines → All AreInReach (one_shape outlines)
together_near [] near = All-nil AreInReach
together_near (first ∷ more) near = All-cons AreInReach (first ∷ more) [] near (All-nil AreInReach)

pub shapes_near : (flat : Bool) (trace : Trace) → AreInReach trace.outlines → All AreInReach (shapes_of flat trace)
shapes_near true trace near = together_near trace.outlines near
shapes_near false trace near =
    All-map AreInReach (group_outlines trace.outlines) trace.groups (λ k d below. group_near trace.outlines _ near)
