-- How long the texts of shapes are that a pen draws, in units of which a pixel has so many.
use Rattle.std.proofs.Common.{◌≡◌, ℕ, ◌+◌, ◌*◌, ◌^◌, ◌≤◌, ℤ, pos, negsuc, ◌+ℤ◌, ◌-ℤ◌, ◌*ℤ◌, unsigned_abs, List, [], ◌∷◌, ◌++◌, All, flat_map, get_or, length, length-append, ext_get_or, map, sum_by, ap, sym, subst, ◌∙◌, arith, inl, inr}
use Rattle.std.specs.Fmt.{signed_decimal}
use Rattle.std.proofs.lemmas.Bool.{cases_lt}
use Rattle.std.proofs.lemmas.Fmt.{length_signed_le}
use Rattle.std.proofs.lemmas.Int.{ints}
use Rattle.std.proofs.lemmas.List.{get_or_past}
use Rattle.std.proofs.lemmas.List.Concat.{flat_map-cons}
use Rattle.std.proofs.lemmas.List.Elements.{All-head, All-nil, All-tail}
use Rattle.std.proofs.lemmas.List.FromFn.{get_or-map-range_with_len, length-map-range_with_len}
use Rattle.std.proofs.lemmas.List.Sums.{sum_by-cons}
use Rattle.std.specs.List.{range_with_len}
use Rattle.pt_core.specs.ClosedWalk.{origin}
use Rattle.pt_core.specs.Floor.{rounded}
use Rattle.pt_core.specs.Outlines.{end_of, outline_at, start_from}
use Rattle.pt_core.specs.UnitText.{place_text, step_text}
use Rattle.pt_core.specs.declared.path.Path.{Path}
use Rattle.pt_core.specs.declared.piece.Piece.{Piece}
use Rattle.pt_core.specs.declared.piece.Piece.TheVariants.{Corner, Curve}
use Rattle.pt_core.specs.declared.point.Point.{Point}
use Rattle.pt_core.specs.declared.trace.Group.{Group}
use Rattle.pt_core.proofs.Sizes.{product_most, quotient_most}
use Rattle.turn_policies.specs.Majority.{sum_below}
use Rattle.path_tree.specs.Groups.{groups_of}
use Rattle.outline_pen.specs.Shapes.{curve_text, flat_text, group_text, line_text, more_text, outline_text, piece_text, pieces_text}
use Rattle.outline_pen.specs.declared.pen.Mark.{Mark}
use Rattle.outline_pen.specs.declared.pen.Mark.TheVariants as mark
use Rattle.document_readings.specs.Places.{AreInReach, IsPieceInReach, IsPointInReach}
use Rattle.page_sizes.proofs.Grouped.{group_weight, groups_weigh, sum_by-first, sum_by-over}
use Rattle.page_sizes.proofs.Weights.{texts_most}

-- a place that is in reach is so in units too
rounded_small : (c : ℤ) (unit : ℕ) → unsigned_abs c ≤ 2 ^ 31 → unit ≤ 1000 → unsigned_abs (rounded c unit) ≤ 2 ^ 31
rounded_small c unit h k =
    let twice : unsigned_abs (pos 2 *ℤ c) ≤ 2 * 2 ^ 31 = product_most (pos 2) c 2 (2 ^ 31) (omega arith) h in
    let scaled : unsigned_abs ((pos 2 *ℤ c) *ℤ pos unit) ≤ 2 * 2 ^ 31 * 1000 = product_most (pos 2 *ℤ c) (pos unit) (2 * 2 ^ 31) 1000 twice (omega arith) in
    let sum : unsigned_abs ((pos 2 *ℤ c) *ℤ pos unit +ℤ pos 1024) ≤ 2 * 2 ^ 31 * 1000 + 1024 = omega (arith, ints) in
    let floor = quotient_most ((pos 2 *ℤ c) *ℤ pos unit +ℤ pos 1024) 2048 (omega arith) in
    omega arith

number_most : (z : ℤ) → unsigned_abs z ≤ 2 ^ 32 → length (signed_decimal z) ≤ 11
number_most (pos n) small = length_signed_le 10 (pos n) (omega arith) (omega arith)
number_most (negsuc n) small = length_signed_le 10 (negsuc n) (omega arith) (omega arith)

place_most : (unit : ℕ) (p : Point) → unit ≤ 1000 → IsPointInReach p → length (place_text unit p) ≤ 23
place_most unit p few near =
    let x = rounded_small p.x unit near.x few in
    let y = rounded_small p.y unit near.y few in
    let across = number_most (rounded p.x unit) (omega arith) in
    let up = number_most (rounded p.y unit) (omega arith) in
    simp length-append (omega arith)

step_most : (unit : ℕ) (from to : Point) → unit ≤ 1000 → IsPointInReach from → IsPointInReach to → length (step_text unit from to) ≤ 23
step_most unit from to few a b =
    let ax = rounded_small from.x unit a.x few in
    let ay = rounded_small from.y unit a.y few in
    let bx = rounded_small to.x unit b.x few in
    let by = rounded_small to.y unit b.y few in
    let across = number_most (rounded to.x unit -ℤ rounded from.x unit) (omega (arith, ints)) in
    let up = number_most (rounded to.y unit -ℤ rounded from.y unit) (omega (arith, ints)) in
    simp length-append (omega arith)

-- how much a pen writes around the numbers of a shape, of an outline, of a line and of a curve
pub record AreMarks (pen : Mark → List ℕ) (shape around line curve : ℕ) : Type 0 where
  pub of_shape : length (pen mark.Shape) + length (pen mark.Shaped) ≤ shape
  pub of_outline : length (pen mark.Next) + length (pen mark.Start) + length (pen mark.Started) + length (pen mark.Closed) ≤ around
  pub of_line : length (pen mark.Line) + length (pen mark.Lined) ≤ line
  pub of_curve : length (pen mark.Curve) + length (pen mark.Curved) ≤ curve

-- all outlines together, where each weighs so much beside its pieces
pub weights_at : (shape beside each : ℕ) (outlines : List (List Piece)) → sum_below (length outlines) (λ i. shape + (beside + each * length (outline_at outlines i))) ≡ each * sum_by length outlines + (shape + beside) * length outlines
weights_at shape beside each outlines =
    sym (sum_by-first (λ i. shape + (beside + each * length (outline_at outlines i))) (length outlines))
    ∙ sym (sum_by-over (λ pieces. shape + (beside + each * length pieces)) (outline_at outlines) (range_with_len 0 (length outlines)))
    ∙ ap (sum_by (λ pieces. shape + (beside + each * length pieces))) (all_places outlines)
    ∙ parted outlines
  where
    all_places : (outlines : List (List Piece)) → map (outline_at outlines) (range_with_len 0 (length outlines)) ≡ outlines
    all_places outlines =
        ext_get_or [] (map (outline_at outlines) (range_with_len 0 (length outlines))) outlines (length-map-range_with_len (outline_at outlines) 0 (length outlines))
        (λ k short. get_or-map-range_with_len (outline_at outlines) 0 (length outlines) k k [] (omega (arith, short, length-map-range_with_len (outline_at outlines) 0 (length outlines))) (omega arith))

    parted : (outlines : List (List Piece)) → sum_by (λ pieces. shape + (beside + each * length pieces)) outlines ≡ each * sum_by length outlines + (shape + beside) * length outlines
    parted [] = omega arith
    parted (pieces ∷ outlines) =
        let rest = parted outlines in
        rw (sum_by-cons (λ p. shape + (beside + each * length p)) pieces outlines, sum_by-cons length pieces outlines, rest) (grind arith)

module _ (pen : Mark → List ℕ) (unit shape around line curve each : ℕ) (few : unit ≤ 1000) (marks : AreMarks pen shape around line curve) (corner : 2 * line + 46 ≤ each) (round : curve + 71 ≤ each) where
  line_most : (from to : Point) → IsPointInReach from → IsPointInReach to → length (line_text pen unit from to) ≤ line + 23
  line_most from to a b =
      let step = simp length-append at step_most unit from to few a b in
      simp length-append (omega (arith, marks.of_line))

  curve_most : (from first second end : Point) → IsPointInReach from → IsPointInReach first → IsPointInReach second → IsPointInReach end → length (curve_text pen unit from first second end) ≤ curve + 71
  curve_most from first second end a b c d =
      let one = simp length-append at step_most unit from first few a b in
      let two = simp length-append at step_most unit from second few a c in
      let three = simp length-append at step_most unit from end few a d in
      simp length-append (omega (arith, marks.of_curve))

  piece_most : (from : Point) (piece : Piece) → IsPointInReach from → IsPieceInReach piece → length (piece_text pen unit from piece) ≤ each
  piece_most from (Corner at end) a near =
      let one = line_most from at a near.0 in
      let two = line_most at end near.0 near.1 in
      rw (length-append (line_text pen unit from at) (line_text pen unit at end)) (omega arith)
  piece_most from (Curve first second end al) a near =
      let one = curve_most from first second end a near.0 near.1 near.2 in
      omega arith

  end_near : (piece : Piece) → IsPieceInReach piece → IsPointInReach (end_of piece)
  end_near (Corner at end) near = near.1
  end_near (Curve first second end al) near = near.2

  pieces_most : (from : Point) (pieces : List Piece) → IsPointInReach from → All IsPieceInReach pieces → length (pieces_text pen unit from pieces) ≤ each * length pieces
  pieces_most from [] a near = omega arith
  pieces_most from (piece ∷ pieces) a near =
      let here = All-head IsPieceInReach piece pieces near in
      let one = piece_most from piece a here in
      let rest = pieces_most (end_of piece) pieces (end_near piece here) (All-tail IsPieceInReach piece pieces near) in
      rw (length-append (piece_text pen unit from piece) (pieces_text pen unit (end_of piece) pieces)) (grind arith)

  origin_near : IsPointInReach origin
  origin_near = record { x = omega arith; y = omega arith }

  start_near : (start : Point) (pieces : List Piece) → IsPointInReach start → All IsPieceInReach pieces → IsPointInReach (start_from start pieces)
  start_near start [] a near = a
  start_near start (piece ∷ pieces) a near = start_near (end_of piece) pieces (end_near piece (All-head IsPieceInReach piece pieces near)) (All-tail IsPieceInReach piece pieces near)

  -- an outline with what stands before a further one
  outline_most : (pieces : List Piece) → All IsPieceInReach pieces → length (pen mark.Next) + length (outline_text pen unit pieces) ≤ around + 23 + each * length pieces
  outline_most pieces near =
      let start = start_near origin pieces origin_near near in
      let place = simp length-append at place_most unit (start_from origin pieces) few start in
      let all = pieces_most (start_from origin pieces) pieces start near in
      simp length-append (omega (arith, marks.of_outline))

  near_at : (outlines : List (List Piece)) (i : ℕ) → AreInReach outlines → All IsPieceInReach (outline_at outlines i)
  near_at outlines i near = elim (cases_lt i (length outlines)) [
    | inl short ↦ near i [] short
    | inr past ↦ subst (All IsPieceInReach) (sym (get_or_past outlines i [] past)) (All-nil IsPieceInReach)
  ]

  -- further outlines of a shape
  more_most : (outlines : List (List Piece)) (holes : List ℕ) → AreInReach outlines → length (more_text pen unit (map (outline_at outlines) holes)) ≤ sum_by (λ i. around + 23 + each * length (outline_at outlines i)) holes
  more_most outlines [] near = omega arith
  more_most outlines (i ∷ holes) near =
      let here = outline_most (outline_at outlines i) (near_at outlines i near) in
      let rest = more_most outlines holes near in
      rw (
        flat_map-cons (λ pieces. pen mark.Next ++ outline_text pen unit pieces) (outline_at outlines i) (map (outline_at outlines) holes),
        length-append (pen mark.Next ++ outline_text pen unit (outline_at outlines i)) (more_text pen unit (map (outline_at outlines) holes)),
        length-append (pen mark.Next) (outline_text pen unit (outline_at outlines i)),
        sum_by-cons (λ j. around + 23 + each * length (outline_at outlines j)) i holes,
      )
      (omega arith)

  group_most : (outlines : List (List Piece)) (group : Group) → AreInReach outlines → length (group_text pen unit outlines group) ≤ group_weight shape (λ i. around + 23 + each * length (outline_at outlines i)) group
  group_most outlines group near =
      let outer = simp length-append at outline_most (outline_at outlines group.outer) (near_at outlines group.outer near) in
      let holes = more_most outlines group.holes near in
      simp length-append (omega (arith, marks.of_shape))

  -- the shapes of a page, by the pieces of all outlines
  pub groups_most : (paths : List Path) (outlines : List (List Piece)) → AreInReach outlines → length outlines ≡ length paths
      → length (flat_map (group_text pen unit outlines) (groups_of paths)) ≤ each * sum_by length outlines + (shape + (around + 23)) * length outlines
  groups_most paths outlines near same =
      let texts = texts_most (group_text pen unit outlines) (group_weight shape (λ i. around + 23 + each * length (outline_at outlines i))) (groups_of paths)
      (λ k d short. group_most outlines (get_or (groups_of paths) k d) near) in
      let weighs = groups_weigh paths shape (λ i. around + 23 + each * length (outline_at outlines i)) in
      let all = subst (λ n. sum_below n (λ i. shape + (around + 23 + each * length (outline_at outlines i))) ≡ each * sum_by length outlines + (shape + (around + 23)) * length outlines) same (weights_at shape (around + 23) each outlines) in
      omega arith

  -- the same where one shape has all outlines
  pub flat_most : (outlines : List (List Piece)) → AreInReach outlines → length (flat_text pen unit outlines) ≤ each * sum_by length outlines + (shape + (around + 23)) * length outlines
  flat_most [] near = omega arith
  flat_most (first ∷ more) near =
      let one = simp length-append at outline_most first (All-head (All IsPieceInReach) first more near) in
      let rest = all_most more (All-tail (All IsPieceInReach) first more near) in
      rw (sum_by-cons length first more, length-append (pen mark.Shape ++ outline_text pen unit first ++ more_text pen unit more) (pen mark.Shaped)) (simp length-append (grind (arith, marks.of_shape)))
    where
      all_most : (outlines : List (List Piece)) → AreInReach outlines → length (more_text pen unit outlines) ≤ each * sum_by length outlines + (around + 23) * length outlines
      all_most [] near = omega arith
      all_most (pieces ∷ outlines) near =
          let here = outline_most pieces (All-head (All IsPieceInReach) pieces outlines near) in
          let rest = all_most outlines (All-tail (All IsPieceInReach) pieces outlines near) in
          rw (
            flat_map-cons (λ p. pen mark.Next ++ outline_text pen unit p) pieces outlines,
            length-append (pen mark.Next ++ outline_text pen unit pieces) (more_text pen unit outlines),
            length-append (pen mark.Next) (outline_text pen unit pieces),
            sum_by-cons length pieces outlines,
          )
          (grind arith)
