-- How long drawings in units are, by the pieces of their outlines.
use Rattle.std.proofs.Common.{◌≡◌, ℕ, ◌+◌, ◌*◌, ◌≤◌, Bool, true, false, decimal, flat_map, length, length-append, sum_by, subst, sym, arith}
use Rattle.std.proofs.lemmas.Fmt.{length-decimal-le}
use Rattle.std.proofs.lemmas.Nat.{mul-le}
use Rattle.pt_core.specs.declared.limits.TheConstants.{LONGEST_SIDE}
use Rattle.pt_core.specs.declared.trace.Trace.{Trace}
use Rattle.path_tree.specs.Groups.{groups_of}
use Rattle.outline_pen.specs.Shapes.{group_text}
use Rattle.svg_backend.specs.SvgText.{paths_text, svg_mark, svg_text}
use Rattle.eps_backend.specs.EpsText.{drawing_text, eps_mark, eps_text, ps_page_text}
use Rattle.document_readings.specs.Places.{AreInReach}
use Rattle.page_sizes.proofs.Listed.{side_most}
use Rattle.page_sizes.proofs.Penned.{AreMarks, flat_most, groups_most}

-- a trace that can be drawn: its outlines are in reach, one for each path, and its shapes are those of its paths
pub record CanBeDrawn (trace : Trace) : Type 0 where
  pub wide : trace.width ≤ LONGEST_SIDE
  pub high : trace.height ≤ LONGEST_SIDE
  pub in_reach : AreInReach trace.outlines
  pub groups : trace.groups ≡ groups_of trace.paths
  pub each_path : length trace.outlines ≡ length trace.paths

svg_marks : AreMarks svg_mark 33 4 2 2
svg_marks = record { of_shape = omega arith; of_outline = omega arith; of_line = omega arith; of_curve = omega arith }

eps_marks : AreMarks eps_mark 7 18 9 10
eps_marks = record { of_shape = omega arith; of_outline = omega arith; of_line = omega arith; of_curve = omega arith }

paths_most : (unit : ℕ) (flat : Bool) (trace : Trace) → unit ≤ 1000 → CanBeDrawn trace → length (paths_text unit flat trace) ≤ 73 * sum_by length trace.outlines + 60 * length trace.outlines
paths_most unit true trace few can =
    let all = flat_most svg_mark unit 33 4 2 2 73 few svg_marks (omega arith) (omega arith) trace.outlines can.in_reach in
    omega arith
paths_most unit false trace few can =
    let all = groups_most svg_mark unit 33 4 2 2 73 few svg_marks (omega arith) (omega arith) trace.paths trace.outlines can.in_reach can.each_path in
    subst (λ groups. length (flat_map (group_text svg_mark unit trace.outlines) groups) ≤ 73 * sum_by length trace.outlines + 60 * length trace.outlines) (sym can.groups) (omega arith)

units_most : (side unit : ℕ) → side ≤ LONGEST_SIDE → unit ≤ 1000 → length (decimal (side * unit)) ≤ 8
units_most side unit small few =
    let most = mul-le side unit LONGEST_SIDE 1000 small few in
    length-decimal-le 8 (side * unit) (omega arith) (omega arith) (omega arith)

pub svg_most : (unit : ℕ) (flat : Bool) (trace : Trace) → unit ≤ 1000 → CanBeDrawn trace → length (svg_text unit flat trace) ≤ 73 * sum_by length trace.outlines + 60 * length trace.outlines + 249
svg_most unit flat trace few can =
    let paths = paths_most unit flat trace few can in
    let width = side_most trace.width can.wide in
    let height = side_most trace.height can.high in
    let across = units_most trace.width unit can.wide few in
    let up = units_most trace.height unit can.high few in
    simp length-append (omega arith)

pub drawing_most : (unit : ℕ) (trace : Trace) → unit ≤ 1000 → CanBeDrawn trace → length (drawing_text unit trace) ≤ 81 * sum_by length trace.outlines + 48 * length trace.outlines + 36
drawing_most unit trace few can =
    let all = groups_most eps_mark unit 7 18 9 10 81 few eps_marks (omega arith) (omega arith) trace.paths trace.outlines can.in_reach can.each_path in
    let shapes = subst (λ groups. length (flat_map (group_text eps_mark unit trace.outlines) groups) ≤ 81 * sum_by length trace.outlines + 48 * length trace.outlines) (sym can.groups) (omega arith) in
    let number = length-decimal-le 4 unit (omega arith) (omega arith) (omega arith) in
    simp length-append (omega arith)

pub eps_most : (unit : ℕ) (trace : Trace) → unit ≤ 1000 → CanBeDrawn trace → length (eps_text unit trace) ≤ 81 * sum_by length trace.outlines + 48 * length trace.outlines + 111
eps_most unit trace few can =
    let drawing = simp length-append at drawing_most unit trace few can in
    let width = side_most trace.width can.wide in
    let height = side_most trace.height can.high in
    simp length-append (omega arith)

pub ps_page_most : (unit : ℕ) (trace : Trace) → unit ≤ 1000 → CanBeDrawn trace → length (ps_page_text unit trace) ≤ 81 * sum_by length trace.outlines + 48 * length trace.outlines + 45
ps_page_most unit trace few can =
    let drawing = simp length-append at drawing_most unit trace few can in
    simp length-append (omega arith)
