-- The outlines of a page's trace are near the page.
use Rattle.std.proofs.Common.{◌≡◌, ℕ, ◌+◌, ◌-◌, ◌*◌, ◌/◌, ◌^◌, ◌<◌, ◌≤◌, ℤ, pos, negsuc, neg_ℤ, ◌+ℤ◌, ◌-ℤ◌, ◌*ℤ◌, ◌≤ℤ◌, unsigned_abs, Bool, true, false, List, [], ◌∷◌, length, drop, get_or, zip, refl, sym, ◌∙◌, subst, inl, inr, arith}
use Rattle.std.proofs.lemmas.Int.{ints}
use Rattle.std.proofs.lemmas.Bool.{cases_lt}
use Rattle.std.proofs.lemmas.Bool.Decides.{nat_tests}
use Rattle.std.proofs.lemmas.List.{get_or_past}
use Rattle.std.proofs.lemmas.List.Elements.{All-head, All-tail, All-nil, All-cons, All-map, All-take, All-drop, All-weaker}
use Rattle.std.proofs.lemmas.List.FromFn.{get_or-range_with_len, length-range_with_len}
use Rattle.std.specs.Prelude.{All, slice_index, slice_index_or, slice_range, nat_eq, if◌then◌else◌}
use Rattle.std.specs.List.{AllZip, range_with_len}
use Rattle.pt_core.specs.declared.path.Path.{Path}
use Rattle.pt_core.specs.declared.piece.Piece.{Piece}
use Rattle.pt_core.specs.declared.piece.Piece.TheVariants.{Corner, Curve}
use Rattle.pt_core.specs.declared.point.Point.{Point}
use Rattle.pt_core.specs.declared.polygon.Polygon.{Polygon}
use Rattle.pt_core.specs.declared.settings.Settings.{Settings}
use Rattle.pt_core.specs.declared.trace.Trace.{Trace}
use Rattle.pt_core.specs.ClosedWalk.{origin, point_at}
use Rattle.pt_core.specs.Floor.{floor_of}
use Rattle.pt_core.specs.OnPage.{AreOnPage, IsOnPage}
use Rattle.pt_core.specs.Outlines.{end_of}
use Rattle.pt_core.proofs.AppendedTexts.{any_default}
use Rattle.pt_core.proofs.Sizes.{product_most, quotient_most}
use Rattle.bit_image.specs.Page.{IsPage, Page}
use Rattle.vertex_adjust.specs.Vertex.{AreVertices, IsCandidate, moved}
use Rattle.vertex_adjust.specs.declared.shift.Shift.{Shift}
use Rattle.corner_smooth.specs.Corner.{IsInReach, IsNearWidePage, StaysNear, al_of, control_of, corner_piece, curve_of, is_corner, middle_of, piece_of, pieces_of, sharpness_of}
use Rattle.corner_smooth.proofs.Sharing.{part_reach}
use Rattle.least_walk.specs.LeastWalk.{Step}
use Rattle.curve_join.specs.Bends.{bend_at, bends_of}
use Rattle.curve_join.specs.Choice.{IsBestJoin, MayBeOne, run_piece}
use Rattle.curve_join.specs.Cubic.{alpha_of, cubic_of, led}
use Rattle.curve_join.specs.Join.{MayJoin, alpha_at, cubic_at, first_bend, joined_piece, last_bend, meeting_at, no_bend}
use Rattle.curve_join.specs.Outline.{Outline, outline}
use Rattle.curve_join.specs.Vector.{GoesNoFarther, IsPlaced, way_of}
use Rattle.curve_join.specs.declared.bend.Bend.{Bend}
use Rattle.curve_join.proofs.Cuts.{step_there}
use Rattle.page_trace.specs.Trace.{AreVerticesOf, IsOutlineOf, IsOutlineWith, IsTrace, tolerance_of}
use Rattle.page_trace.proofs.Exists.{paths_found}
use Rattle.page_trace.proofs.OneTrace.{one_list_of_paths}
use Rattle.document_readings.specs.Places as places
use Rattle.document_readings.specs.Places.{AreInReach, IsPieceInReach}

-- vertices
moved_near : (v : Point) (shift : Shift) → IsOnPage v → IsCandidate shift → IsNearWidePage (moved v shift)
moved_near v shift on candidate =
    let left = on.left in
    let right = on.right in
    let bottom = on.bottom in
    let top = on.top in
    let across = candidate.right in
    let up = candidate.up in
    record { x = record { low = omega (arith, ints); high = omega (arith, ints) }; y = record { low = omega (arith, ints); high = omega (arith, ints) } }

vertices_near : (points : List Point) (at : List ℕ) (vertices : List Point) → AreOnPage points → AreVertices points at vertices → All IsNearWidePage vertices
vertices_near points at vertices on are k d below =
    let within : k < length at = (let count = are.count in omega arith) in
    let is = (are.each k within).is_vertex in
    subst IsNearWidePage (sym (any_default vertices k d origin below ∙ is.is))
    (moved_near (point_at points (slice_index at k)) is.shift (on (slice_index at k)) is.least.candidate)

origin_near : IsNearWidePage origin
origin_near = record { x = record { low = omega (arith, ints); high = omega (arith, ints) }; y = record { low = omega (arith, ints); high = omega (arith, ints) } }

near_at : (vertices : List Point) (m : ℕ) → All IsNearWidePage vertices → IsNearWidePage (slice_index_or vertices m origin)
near_at vertices m near = elim (cases_lt m (length vertices)) [
  | inl h ↦ near m origin h
  | inr h ↦ rw (get_or_past vertices m origin h) origin_near
]

-- pieces
half_reach : (s : ℤ) → neg_ℤ (pos 1024) ≤ℤ s → s ≤ℤ pos 67107840 → IsInReach (floor_of s 2)
half_reach (pos n) low high = record { low = omega (arith, ints); high = omega (arith, ints) }
half_reach (negsuc n) low high = record { low = omega (arith, ints); high = omega (arith, ints) }

both_reach : (a b : ℤ) → IsInReach a → IsInReach b → IsInReach (floor_of (a +ℤ b) 2)
both_reach a b in_a in_b =
    let a_low = in_a.low in
    let a_high = in_a.high in
    let b_low = in_b.low in
    let b_high = in_b.high in
    half_reach (a +ℤ b) (omega (arith, ints)) (omega (arith, ints))

middle_near : (p q : Point) → IsNearWidePage p → IsNearWidePage q → IsNearWidePage (middle_of p q)
middle_near p q p_near q_near = record { x = both_reach p.x q.x p_near.x q_near.x; y = both_reach p.y q.y p_near.y q_near.y }

control_near : (al : ℕ) (p q : Point) → al ≤ 65536 → IsNearWidePage p → IsNearWidePage q → IsNearWidePage (control_of al p q)
control_near al p q few p_near q_near = record { x = part_reach al p.x q.x few p_near.x q_near.x; y = part_reach al p.y q.y few p_near.y q_near.y }

al_most : (before at after : Point) → al_of (sharpness_of before at after) ≤ 65536
al_most before at after = omega arith

either_near : (b : Bool) (p q : Piece) → StaysNear p → StaysNear q → StaysNear (if b then p else q)
either_near true p q p_near q_near = p_near
either_near false p q p_near q_near = q_near

piece_near : (alphamax : ℕ) (before at after : Point) → IsNearWidePage before → IsNearWidePage at → IsNearWidePage after → StaysNear (piece_of alphamax before at after)
unfolding piece_of
piece_near alphamax before at after before_near near after_near =
    let sharpness = sharpness_of before at after in
    let al = al_of sharpness in
    let few = al_most before at after in
    let middle = middle_near at after near after_near in
    either_near (is_corner alphamax sharpness) (Corner at (middle_of at after)) (curve_of al before at after) (near, middle)
    (control_near al before at few before_near near, control_near al after at few after_near near, middle)

pieces_near : (alphamax : ℕ) (vertices : List Point) → All IsNearWidePage vertices → All StaysNear (pieces_of alphamax vertices)
pieces_near alphamax vertices near =
    All-map StaysNear (corner_piece alphamax vertices) (range_with_len 0 (length vertices)) (λ k d below.
    piece_near alphamax _ _ _ (near_at vertices _ near) (near_at vertices _ near) (near_at vertices _ near))

-- places of pieces
placed : (p : Point) → IsNearWidePage p → IsPlaced (2 ^ 26) p
placed p near =
    let left = near.x.low in
    let right = near.x.high in
    let bottom = near.y.low in
    let top = near.y.high in
    record { x = omega (arith, ints); y = omega (arith, ints) }

reached : (p : Point) → IsPlaced (2 ^ 26) p → places.IsPointInReach p
reached p near = let x = near.x in let y = near.y in record { x = omega arith; y = omega arith }

piece_reached : (p : Piece) → StaysNear p → IsPieceInReach p
piece_reached (Corner at end) near = (reached at (placed at near.0), reached end (placed end near.1))
piece_reached (Curve first second end al) near = (reached first (placed first near.0), reached second (placed second near.1), reached end (placed end near.2))

end_placed : (p : Piece) → StaysNear p → IsPlaced (2 ^ 26) (end_of p)
end_placed (Corner at end) near = placed end near.1
end_placed (Curve first second end al) near = placed end near.2

stays_at : (pieces : List Piece) (m : ℕ) → All StaysNear pieces → StaysNear (slice_index_or pieces m (Corner origin origin))
stays_at pieces m near = elim (cases_lt m (length pieces)) [
  | inl h ↦ near m (Corner origin origin) h
  | inr h ↦ rw (get_or_past pieces m (Corner origin origin) h) (origin_near, origin_near)
]

-- joined pieces
record IsBounded (b : Bend) : Type 0 where
  start : IsPlaced (2 ^ 26) b.start
  end : IsPlaced (2 ^ 26) b.end

bends_bounded : (o : Outline) → All StaysNear o.pieces → All IsBounded (bends_of o)
unfolding bends_of
bends_bounded o near =
    All-map IsBounded (bend_at o) (range_with_len 0 (length o.pieces)) (λ k d below. record {
      start = end_placed _ (stays_at o.pieces _ near);
      end = end_placed _ (stays_at o.pieces _ near);
    })

led_most : (c v : ℤ) (alpha : ℕ) → alpha ≤ 131072 → unsigned_abs c ≤ 2 ^ 26 → unsigned_abs v ≤ 2 ^ 27 → unsigned_abs (c +ℤ floor_of (pos alpha *ℤ v) 65536) ≤ 2 ^ 31
led_most c v alpha few c_most v_most =
    let product = product_most (pos alpha) v 131072 (2 ^ 27) (omega arith) v_most in
    bounded c (floor_of (pos alpha *ℤ v) 65536) (unsigned_abs (pos alpha *ℤ v)) c_most product (quotient_most (pos alpha *ℤ v) 65536 (omega arith))
  where
    bounded : (c q : ℤ) (n : ℕ) → unsigned_abs c ≤ 2 ^ 26 → n ≤ 131072 * 2 ^ 27 → unsigned_abs q ≤ n / 65536 + 1 → unsigned_abs (c +ℤ q) ≤ 2 ^ 31
    bounded c q n c_most n_most q_most = omega (arith, ints)

led_reached : (p meeting : Point) (alpha : ℕ) → alpha ≤ 131072 → IsPlaced (2 ^ 26) p → GoesNoFarther (2 ^ 27) (way_of p meeting) → places.IsPointInReach (led p (way_of p meeting) (pos alpha) 65536)
led_reached p meeting alpha few near far = record {
  x = led_most p.x (meeting.x -ℤ p.x) alpha few near.x far.x;
  y = led_most p.y (meeting.y -ℤ p.y) alpha few near.y far.y;
}

alpha_most : (run : List Bend) → alpha_at run ≤ 131072
unfolding alpha_at alpha_of
alpha_most run = omega arith

first_bounded : (run : List Bend) → 2 ≤ length run → All IsBounded run → IsBounded (first_bend run)
first_bounded run some all = all 0 no_bend (omega arith)

last_bounded : (run : List Bend) → 2 ≤ length run → All IsBounded run → IsBounded (last_bend run)
last_bounded run some all = all (length run - 1) no_bend (omega arith)

joined_reached : (tol : ℕ) (run : List Bend) → MayJoin tol run → All IsBounded run → IsPieceInReach (joined_piece run)
unfolding cubic_at cubic_of
joined_reached tol run may all =
    let first = first_bounded run may.some all in
    let last = last_bounded run may.some all in
    let few = alpha_most run in (
      led_reached (first_bend run).start (meeting_at run) (alpha_at run) few first.start may.tangents.near_start,
      led_reached (last_bend run).end (meeting_at run) (alpha_at run) few last.end may.tangents.near_end,
      reached (last_bend run).end last.end,
    )

run_reached : (tol : ℕ) (pieces : List Piece) (bends : List Bend) (i j : ℕ) (single : Bool) → nat_eq j (i + 1) ≡ single → All StaysNear pieces → All IsBounded bends → MayBeOne tol bends i j
    → IsPieceInReach (if single then slice_index_or pieces i (Corner origin origin) else joined_piece (slice_range bends i j))
run_reached tol pieces bends i j true is near bounded may = piece_reached (slice_index_or pieces i (Corner origin origin)) (stays_at pieces i near)
run_reached tol pieces bends i j false is near bounded (inl e) = absurd (grind (arith, nat_tests))
run_reached tol pieces bends i j false is near bounded (inr may) =
    joined_reached tol (slice_range bends i j) may.1 (All-take IsBounded (j - i) (drop i bends) (All-drop IsBounded i bends bounded))

joins_reached : (tol : ℕ) (o : Outline) (pieces : List Piece) → All StaysNear o.pieces → IsBestJoin tol o pieces → All IsPieceInReach pieces
joins_reached tol o pieces near best =
    let bends = bends_of o in
    let bounded = bends_bounded o near in
    subst (All IsPieceInReach) (sym best.joined)
    (All-map IsPieceInReach (λ c. run_piece o.pieces bends (slice_index best.cut c) (slice_index best.cut (c + 1))) (range_with_len 0 (length best.cut - 1)) (λ k d below.
    let n = length best.cut - 1 in
    let within : k < n = omega (arith, length-range_with_len 0 n) in
    let here : k ≡ get_or (range_with_len 0 n) k d = sym (get_or-range_with_len 0 n k d within ∙ (let e : 0 + k ≡ k = omega arith in e)) in
    let i = slice_index best.cut k in
    let j = slice_index best.cut (k + 1) in
    let step : MayBeOne tol bends i j = step_there (λ (s : Step). MayBeOne tol bends s.from s.to) best.cut k (omega arith) best.least.is_walk.allowed in
    subst (λ (c : ℕ). IsPieceInReach (run_piece o.pieces bends (slice_index best.cut c) (slice_index best.cut (c + 1)))) here
    (run_reached tol o.pieces bends i j (nat_eq j (i + 1)) refl near bounded step)))

-- outlines
outline_reached : (joins : Bool) (settings : Settings) (vertices : List Point) (pieces : List Piece) → All IsNearWidePage vertices → IsOutlineWith joins settings vertices pieces → All IsPieceInReach pieces
outline_reached true settings vertices pieces near is =
    let smooth = pieces_of settings.alphamax vertices in
    subst (All IsPieceInReach) (sym is) (All-weaker StaysNear IsPieceInReach piece_reached smooth (pieces_near settings.alphamax vertices near))
outline_reached false settings vertices pieces near is =
    joins_reached (tolerance_of settings.tolerance) (outline vertices (pieces_of settings.alphamax vertices)) pieces (pieces_near settings.alphamax vertices near) is

lists_reached : (settings : Settings) (both : List (Path × Polygon)) (lists : List (List Point)) (outlines : List (List Piece)) → All (λ b. AreOnPage (b.0).points) both
    → AllZip AreVerticesOf both lists → AllZip (IsOutlineOf settings) lists outlines → AreInReach outlines
lists_reached settings both lists [] on are is = All-nil (All IsPieceInReach)
lists_reached settings [] [] (pieces ∷ outlines) on are is = absurd is
lists_reached settings [] (vertices ∷ lists) (pieces ∷ outlines) on are is = absurd are
lists_reached settings (b ∷ both) [] (pieces ∷ outlines) on are is = absurd are
lists_reached settings (b ∷ both) (vertices ∷ lists) (pieces ∷ outlines) on are is =
    let here = All-head (λ (c : Path × Polygon). AreOnPage (c.0).points) b both on in
    All-cons (All IsPieceInReach) pieces outlines
    (outline_reached settings.long_curve settings vertices pieces (vertices_near (b.0).points (b.1).at vertices here are.0) is.0)
    (lists_reached settings both lists outlines (All-tail (λ (c : Path × Polygon). AreOnPage (c.0).points) b both on) are.1 is.1)

zipped_on_page : (paths : List Path) (polygons : List Polygon) → All (λ path. AreOnPage path.points) paths → All (λ b. AreOnPage (b.0).points) (zip paths polygons)
zipped_on_page [] polygons on = All-nil (λ (b : Path × Polygon). AreOnPage (b.0).points)
zipped_on_page (path ∷ paths) [] on = All-nil (λ (b : Path × Polygon). AreOnPage (b.0).points)
zipped_on_page (path ∷ paths) (polygon ∷ polygons) on =
    All-cons (λ (b : Path × Polygon). AreOnPage (b.0).points) (path, polygon) (zip paths polygons)
    (All-head (λ (p : Path). AreOnPage p.points) path paths on)
    (zipped_on_page paths polygons (All-tail (λ (p : Path). AreOnPage p.points) path paths on))

pub trace_in_reach : (page : Page) (settings : Settings) (trace : Trace) → IsPage page → IsTrace page settings trace → AreInReach trace.outlines
trace_in_reach page settings trace is_page is =
    let found = paths_found page settings is_page in
    let same : trace.paths ≡ found.0 = one_list_of_paths page settings trace.paths found.0 is.polygons.paths found.1.are in
    let on : All (λ path. AreOnPage path.points) trace.paths = subst (All (λ (path : Path). AreOnPage path.points)) (sym same) found.1.on_page in
    lists_reached settings (zip trace.paths trace.polygons) trace.vertices trace.outlines (zipped_on_page trace.paths trace.polygons on) is.vertices is.outlines
