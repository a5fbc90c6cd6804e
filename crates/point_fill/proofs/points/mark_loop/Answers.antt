use Rattle.std.proofs.Common.{◌≡◌, ℕ, List, drop, sym, subst}
use Rattle.pt_base.specs.PointsText.{point_text}
use Rattle.pt_core.specs.declared.point.Point.{Point}
use Rattle.path_decompose.specs.Bounds.{IsCornerOf}
use Rattle.bit_image.specs.Page.{Page, SameSides}
use Rattle.list_reader.specs.Inner.LineEntries.{IsEntry}
use Rattle.list_reader.specs.PagePoints.{IsInPage}
use Rattle.list_reader.proofs.NoResult.{if_none}
use Rattle.point_fill.proofs.LoopPoints.{first_read, next_read, loop_read, last_is_corner, no_loop_without_first, no_loop_without_point, no_loop_by_step, no_loop_of_few, no_loop_open}
use Rattle.point_fill.proofs.UniqueReading.{corner_of}
use Rattle.point_fill.proofs.points.mark_loop.Goals as goal

-- a point on a page of these sides, and no such point
abbrev PointAt : List ℕ → Point → List ℕ → ℕ → ℕ → Type 0
PointAt bytes p rest w h = IsEntry point_text (IsInPage w h) bytes p rest

abbrev NoPoint : List ℕ → ℕ → ℕ → Type 0
NoPoint bytes w h = (p : Point) (rest : List ℕ) → PointAt bytes p rest w h → ⊥

-- a fact for the sides that the code asked for holds for the sides of the page
at_sides : (P : ℕ → ℕ → Type 0) (w h width height : ℕ) → width ≡ w → height ≡ h → P width height → P w h
at_sides P w h width height ew eh p = subst (λ k. P k h) ew (subst (λ k. P width k) eh p)

-- a fact for the sides of the old page holds for the sides of the new one
at_same : (P : ℕ → ℕ → Type 0) (old now : Page) → SameSides old now → P old.width old.height → P now.width now.height
at_same P old now same p = at_sides P now.width now.height old.width old.height (sym same.width) (sym same.height) p

pub returns-in_err-first-clause-none : goal.returns-in_err-first-clause-none
returns-in_err-first-clause-none c =
    if_none c.from_residual.result
    (no_loop_without_first c.args.text.now c.args.at c.args.page.now c.width.ensures.page.most_width c.width.ensures.page.most_height (at_sides (NoPoint (drop c.args.at c.args.text.now)) _ _ c.width.result c.height.result c.width.ensures.value c.height.ensures.value c.in_err-first.ensures.none))

pub points-init : goal.points-init
points-init c =
    first_read c.args.text.now c.args.at c.args.page.now c.width.ensures.page.most_width c.width.ensures.page.most_height c.in_ok-first.first.value c.in_ok-first.first.end
    (at_sides (PointAt (drop c.args.at c.args.text.now) c.in_ok-first.first.value (drop c.in_ok-first.first.end c.args.text.now)) _ _ c.width.result c.height.result c.width.ensures.value c.height.ensures.value c.in_ok-first.ensures.some)
    c.in_ok-first.ensures.ends.0 c.in_ok-first.ensures.ends.1

pub returns-in_err-next-clause-none : goal.returns-in_err-next-clause-none
returns-in_err-next-clause-none c =
    if_none c.from_residual-in_err-next.result
    (no_loop_without_point c.args.text.now c.args.at c.args.page.now c.width.ensures.page.most_width c.width.ensures.page.most_height c.points.invariant
    (at_sides (NoPoint (drop c.points.end c.args.text.now)) _ _ c.width.result c.height.result c.width.ensures.value c.height.ensures.value c.in_err-next.ensures.none)
    (λ there. let yes = c.has_byte.ensures.1 there in let no = c.points-test.true in absurd (cc)))

pub mark_step-requires-clause-from : goal.mark_step-requires-clause-from
mark_step-requires-clause-from c = at_same (λ w h. IsCornerOf w h c.points.last) c.args.page.now c.points.page c.points.invariant.sides (last_is_corner c.points.invariant)

pub mark_step-requires-clause-to : goal.mark_step-requires-clause-to
mark_step-requires-clause-to c =
    at_same (λ w h. IsCornerOf w h c.in_ok-next.next.value) c.args.page.now c.points.page c.points.invariant.sides
    (corner_of c.args.page.now.width c.args.page.now.height c.in_ok-next.next.value
    (at_sides (PointAt (drop c.points.end c.args.text.now) c.in_ok-next.next.value (drop c.in_ok-next.next.end c.args.text.now)) _ _ c.width.result c.height.result c.width.ensures.value c.height.ensures.value c.in_ok-next.ensures.some).inside)

pub returns-then-not-mark_step-clause-none : goal.returns-then-not-mark_step-clause-none
returns-then-not-mark_step-clause-none c =
    no_loop_by_step c.args.text.now c.args.at c.args.page.now c.width.ensures.page.most_width c.width.ensures.page.most_height c.points.invariant c.in_ok-next.next.value c.in_ok-next.next.end
    (at_sides (PointAt (drop c.points.end c.args.text.now) c.in_ok-next.next.value (drop c.in_ok-next.next.end c.args.text.now)) _ _ c.width.result c.height.result c.width.ensures.value c.height.ensures.value c.in_ok-next.ensures.some) c.if-not-mark_step.ensures.step

pub points-preserved : goal.points-preserved
points-preserved c =
    next_read c.args.text.now c.args.at c.args.page.now c.width.ensures.page.most_width c.width.ensures.page.most_height c.points.invariant
    c.mark_step.new.page c.in_ok-next.next.value c.in_ok-next.next.end
    (at_sides (PointAt (drop c.points.end c.args.text.now) c.in_ok-next.next.value (drop c.in_ok-next.next.end c.args.text.now)) _ _ c.width.result c.height.result c.width.ensures.value c.height.ensures.value c.in_ok-next.ensures.some) c.in_ok-next.ensures.ends.0 c.in_ok-next.ensures.ends.1
    (record { step = c.if-not-mark_step.ensures.step; sides = c.if-not-mark_step.ensures.sides; marked = c.if-not-mark_step.ensures.marked })

pub returns-then-not-makes_loop-clause-none : goal.returns-then-not-makes_loop-clause-none
returns-then-not-makes_loop-clause-none c =
    no_loop_of_few c.args.text.now c.args.at c.args.page.now c.width.ensures.page.most_width c.width.ensures.page.most_height c.points.invariant
    (c.has_byte.ensures.0 c.points-test.false) c.if-not-makes_loop.ensures

pub mark_step-requires-2-clause-from : goal.mark_step-requires-2-clause-from
mark_step-requires-2-clause-from c = at_same (λ w h. IsCornerOf w h c.points.last) c.args.page.now c.points.page c.points.invariant.sides (last_is_corner c.points.invariant)

pub returns-then-not-mark_step-2-clause-none : goal.returns-then-not-mark_step-2-clause-none
returns-then-not-mark_step-2-clause-none c =
    no_loop_open c.args.text.now c.args.at c.args.page.now c.width.ensures.page.most_width c.width.ensures.page.most_height c.points.invariant
    (c.has_byte.ensures.0 c.points-test.false) c.if-not-mark_step-2.ensures.step

pub returns-clause-some : goal.returns-clause-some
returns-clause-some c =
    loop_read c.args.text.now c.args.at c.args.page.now c.width.ensures.page.most_width c.width.ensures.page.most_height c.points.invariant _
    (c.has_byte.ensures.0 c.points-test.false) c.if-not-makes_loop.ensures
    (record { step = c.if-not-mark_step-2.ensures.step; sides = c.if-not-mark_step-2.ensures.sides; marked = c.if-not-mark_step-2.ensures.marked })
