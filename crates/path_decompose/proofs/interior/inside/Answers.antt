-- Each turn of the loop takes one line off those that are still to come, and the last call takes the last one.
use Rattle.std.proofs.Common.{◌∙◌, ap, sym}
use Rattle.bit_image.specs.Image.{differ}
use Rattle.boundary_edges.specs.Inside.{lines_of, is_crossed}
use Rattle.boundary_edges.proofs.Differ.{not-beq, differ-false, differ_assoc}
use Rattle.boundary_edges.proofs.Corners.{lines_to-drop, lines_to-end}
use Rattle.path_decompose.proofs.Parity.{odd_by, is_odd-count}
use Rattle.path_decompose.proofs.interior.inside.Goals as goal

pub corners-init : goal.corners-init
corners-init c =
    let crossed = is_crossed c.args.x c.args.y in
    ap (λ points. odd_by crossed (lines_of points)) (sym c.in-Some.ensures.cases.0 ∙ c.as_slice.ensures)
    ∙ sym (is_odd-count crossed (lines_of c.args.path.now.points))

pub corners-preserved : goal.corners-preserved
corners-preserved c =
    let crossed = is_crossed c.args.x c.args.y in
    let lines = lines_to-drop c.in-Some.first.now c.corners.from c.in-Some.rest.now c.corners.to-index _ c.corners-test.true in
    rw (not-beq, c.is_crossed-odd.ensures) (differ_assoc c.corners.odd _ _ ∙ ap (λ ls. differ c.corners.odd (odd_by crossed ls)) (sym lines) ∙ c.corners.invariant)

pub returns-after-corners : goal.returns-after-corners
returns-after-corners c =
    let crossed = is_crossed c.args.x c.args.y in
    let lines = lines_to-end c.in-Some.first.now c.corners.from c.in-Some.rest.now c.corners.to-index c.corners-test.false in
    rw (not-beq, c.is_crossed-odd-in-Some.ensures)
    (ap (differ c.corners.odd) (sym (differ-false _)) ∙ ap (λ ls. differ c.corners.odd (odd_by crossed ls)) (sym lines) ∙ c.corners.invariant)
