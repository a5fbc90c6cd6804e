-- Outlines that aren't joined lie on their page, but for half a pixel.
use Rattle.std.proofs.Common.{◌≡◌, ◌⊎◌, inl, inr, ℕ, ◌+◌, ◌*◌, ◌%◌, ◌<◌, ◌≤◌, ℤ, pos, negsuc, neg_ℤ, ◌+ℤ◌, ◌-ℤ◌, ◌*ℤ◌, ◌≤ℤ◌, ◌<ℤ◌, unsigned_abs, Bool, true, false, List, [], ◌∷◌, length, zip, sym, ◌∙◌, subst, arith}
use Rattle.std.proofs.lemmas.Int.{ints, by_lt_z}
use Rattle.std.proofs.lemmas.Bool.{cases_lt}
use Rattle.std.proofs.lemmas.List.{get_or_past}
use Rattle.std.proofs.lemmas.List.Elements.{All-head, All-tail, All-nil, All-cons, All-map, All-weaker}
use Rattle.std.proofs.Math.Nat.{mod-lt}
use Rattle.std.specs.Prelude.{All, slice_index, slice_index_or, if◌then◌else◌}
use Rattle.std.specs.List.{AllZip, range_with_len}
use Rattle.pt_core.specs.ClosedWalk.{origin, point_at}
use Rattle.pt_core.specs.Floor.{floor_of, rounded}
use Rattle.pt_core.specs.declared.path.Path.{Path}
use Rattle.pt_core.specs.declared.piece.Piece.{Piece}
use Rattle.pt_core.specs.declared.piece.Piece.TheVariants.{Corner, Curve}
use Rattle.pt_core.specs.declared.point.Point.{Point}
use Rattle.pt_core.specs.declared.polygon.Polygon.{Polygon}
use Rattle.pt_core.specs.declared.settings.Settings.{Settings}
use Rattle.pt_core.specs.declared.trace.Trace.{Trace}
use Rattle.pt_core.proofs.AppendedTexts.{any_default}
use Rattle.pt_core.proofs.FloorDivision.{floor_is}
use Rattle.pt_core.proofs.Terms.{same_value}
use Rattle.pt_core.proofs.Terms.Term.{num, plus, less, times, opposite}
use Rattle.bit_image.specs.Page.{IsPage, Page}
use Rattle.path_decompose.specs.Bounds.{IsCornerOf}
use Rattle.path_decompose.specs.Inner.Bounds.{IsPathOn}
use Rattle.path_decompose.proofs.PathOn.{page_paths_on}
use Rattle.path_cones.proofs.Signs.{product_at_least}
use Rattle.vertex_adjust.specs.Vertex.{AreVertices, IsCandidate, moved}
use Rattle.vertex_adjust.specs.declared.shift.Shift.{Shift}
use Rattle.corner_smooth.specs.Corner.{al_of, control_of, corner_piece, curve_of, is_corner, middle_of, part_of, piece_of, pieces_of, sharpness_of}
use Rattle.page_trace.specs.Trace.{AreVerticesOf, IsOutlineOf, IsOutlineWith, IsTrace}
use Rattle.page_trace.proofs.Kept.{all_kept}
use Rattle.outline_distance.specs.Pages.{IsAlmostOn, IsAlmostOnPage, OfPoints}
use Rattle.outline_distance.specs.Written.{as_written}
use Rattle.outline_distance.proofs.Means.{origin_on}
use Rattle.outline_distance.proofs.Unjoined.{outline_of_corners}
use Rattle.outline_distance.proofs.Written.{place_close}

-- ---- vertices

moved_on : (v s : ℤ) (side : ℕ) → pos 0 ≤ℤ v → v ≤ℤ pos side → unsigned_abs s ≤ 32 → IsAlmostOn 512 side (pos 1024 *ℤ v +ℤ pos 16 *ℤ s)
moved_on v s side low high small = record { low = omega (arith, ints); high = omega (arith, ints) }

vertex_on : (width height : ℕ) (v : Point) (shift : Shift) → IsCornerOf width height v → IsCandidate shift → IsAlmostOnPage 512 width height (moved v shift)
vertex_on width height v shift on candidate = record {
  x = moved_on v.x shift.right width on.from_left on.to_right candidate.right;
  y = moved_on v.y shift.up height on.from_bottom on.to_top candidate.up;
}

vertices_on : (width height : ℕ) (points : List Point) (at : List ℕ) (vertices : List Point) → 0 < length points → All (IsCornerOf width height) points
    → AreVertices points at vertices → All (IsAlmostOnPage 512 width height) vertices
vertices_on width height points at vertices some corners are k d below =
    let within : k < length at = (let count = are.count in omega arith) in
    let is = (are.each k within).is_vertex in
    let m : ℕ = slice_index at k in
    subst (IsAlmostOnPage 512 width height) (sym (any_default vertices k d origin below ∙ is.is))
    (vertex_on width height (point_at points m) is.shift (corners (m % length points) origin (mod-lt m some)) is.least.candidate)

-- ---- pieces

module _ (most side : ℕ) where
  half_on : (s : ℤ) → pos 0 ≤ℤ (s +ℤ pos (2 * most)) → s ≤ℤ pos (2 * (1024 * side + most)) → IsAlmostOn most side (floor_of s 2)
  half_on (pos n) low high = record { low = omega (arith, ints); high = omega (arith, ints) }
  half_on (negsuc n) low high = record { low = omega (arith, ints); high = omega (arith, ints) }

  middle_on : (a b : ℤ) → IsAlmostOn most side a → IsAlmostOn most side b → IsAlmostOn most side (floor_of (a +ℤ b) 2)
  middle_on a b on_a on_b =
      let a_low = on_a.low in
      let a_high = on_a.high in
      let b_low = on_b.low in
      let b_high = on_b.high in
      half_on (a +ℤ b) (omega (arith, ints)) (omega (arith, ints))

  reach_forth : (from to q : ℤ) → IsAlmostOn most side from → IsAlmostOn most side to → (pos 0 ≤ℤ q) × (q ≤ℤ (to -ℤ from)) → IsAlmostOn most side (from +ℤ q)
  reach_forth from to q f t between =
      let low = f.low in
      let high = t.high in
      record { low = omega (arith, ints); high = omega (arith, ints) }

  reach_back : (from to q : ℤ) → IsAlmostOn most side from → IsAlmostOn most side to → ((to -ℤ from) ≤ℤ q) × (q ≤ℤ pos 0) → IsAlmostOn most side (from +ℤ q)
  reach_back from to q f t between =
      let low = t.low in
      let high = f.high in
      record { low = omega (arith, ints); high = omega (arith, ints) }

-- a share of a way leads no farther than the way, and not back

rest_of : (n w : ℤ) → (pos 131072 -ℤ n) *ℤ w ≡ pos 131072 *ℤ w -ℤ n *ℤ w
rest_of n w = same_value (times (less (num (pos 131072)) (num n)) (num w)) (less (times (num (pos 131072)) (num w)) (times (num n) (num w))) (omega arith)

turned : (n w : ℤ) → n *ℤ neg_ℤ w ≡ neg_ℤ (n *ℤ w)
turned n w = same_value (times (num n) (opposite (num w))) (opposite (times (num n) (num w))) (omega arith)

turned_rest : (n w : ℤ) → (pos 131072 -ℤ n) *ℤ neg_ℤ w ≡ n *ℤ w -ℤ pos 131072 *ℤ w
turned_rest n w = same_value
    (times (less (num (pos 131072)) (num n)) (opposite (num w)))
    (less (times (num n) (num w)) (times (num (pos 131072)) (num w)))
    (omega arith)

at_least : (a b : ℤ) → a ≡ b → pos 0 ≤ℤ a → pos 0 ≤ℤ b
at_least a b e h = subst (λ (z : ℤ). pos 0 ≤ℤ z) e h

forth_by : (w z q : ℤ) → pos 0 ≤ℤ z → pos 0 ≤ℤ (pos 131072 *ℤ w -ℤ z) → (pos 131072 *ℤ q) ≤ℤ z → z <ℤ (pos 131072 *ℤ (q +ℤ pos 1))
    → (pos 0 ≤ℤ q) × (q ≤ℤ w)
forth_by w z q low high reaches falls = (omega (arith, ints), omega (arith, ints))

back_by : (w z q : ℤ) → pos 0 ≤ℤ neg_ℤ z → pos 0 ≤ℤ (z -ℤ pos 131072 *ℤ w) → (pos 131072 *ℤ q) ≤ℤ z → z <ℤ (pos 131072 *ℤ (q +ℤ pos 1))
    → (w ≤ℤ q) × (q ≤ℤ pos 0)
back_by w z q low high reaches falls = (omega (arith, ints), omega (arith, ints))

share_forth : (n : ℕ) (w : ℤ) → n ≤ 131072 → pos 0 ≤ℤ w → (pos 0 ≤ℤ floor_of (pos n *ℤ w) 131072) × (floor_of (pos n *ℤ w) 131072 ≤ℤ w)
share_forth n w few forth =
    let is = floor_is (pos n *ℤ w) 131072 (omega arith) in
    forth_by w (pos n *ℤ w) (floor_of (pos n *ℤ w) 131072)
    (product_at_least (pos n) w (omega (arith, ints)) forth)
    (at_least _ _ (rest_of (pos n) w) (product_at_least (pos 131072 -ℤ pos n) w (omega (arith, ints)) forth))
    is.reaches is.falls_short

share_back : (n : ℕ) (w : ℤ) → n ≤ 131072 → pos 0 ≤ℤ neg_ℤ w → (w ≤ℤ floor_of (pos n *ℤ w) 131072) × (floor_of (pos n *ℤ w) 131072 ≤ℤ pos 0)
share_back n w few back =
    let is = floor_is (pos n *ℤ w) 131072 (omega arith) in
    back_by w (pos n *ℤ w) (floor_of (pos n *ℤ w) 131072)
    (at_least _ _ (turned (pos n) w) (product_at_least (pos n) (neg_ℤ w) (omega (arith, ints)) back))
    (at_least _ _ (turned_rest (pos n) w) (product_at_least (pos 131072 -ℤ pos n) (neg_ℤ w) (omega (arith, ints)) back))
    is.reaches is.falls_short

goes_forth : (from to : ℤ) → from ≤ℤ to → pos 0 ≤ℤ (to -ℤ from)
goes_forth from to h = omega (arith, ints)

goes_back : (from to : ℤ) → to <ℤ from → pos 0 ≤ℤ neg_ℤ (to -ℤ from)
goes_back from to h = omega (arith, ints)

part_on : (most side al : ℕ) (from to : ℤ) → al ≤ 65536 → IsAlmostOn most side from → IsAlmostOn most side to → IsAlmostOn most side (part_of al from to)
part_on most side al from to few f t =
    by_lt_z to from
    (λ back. reach_back most side from to _ f t (share_back (65536 + al) (to -ℤ from) (omega arith) (goes_back from to back)))
    (λ forth. reach_forth most side from to _ f t (share_forth (65536 + al) (to -ℤ from) (omega arith) (goes_forth from to forth)))

module _ (most width height : ℕ) where
  joint_on : (p q : Point) → IsAlmostOnPage most width height p → IsAlmostOnPage most width height q → IsAlmostOnPage most width height (middle_of p q)
  joint_on p q on_p on_q = record { x = middle_on most width p.x q.x on_p.x on_q.x; y = middle_on most height p.y q.y on_p.y on_q.y }

  control_on : (al : ℕ) (p q : Point) → al ≤ 65536 → IsAlmostOnPage most width height p → IsAlmostOnPage most width height q → IsAlmostOnPage most width height (control_of al p q)
  control_on al p q few on_p on_q = record { x = part_on most width al p.x q.x few on_p.x on_q.x; y = part_on most height al p.y q.y few on_p.y on_q.y }

  either_on : (b : Bool) (p q : Piece) → OfPoints (IsAlmostOnPage most width height) p → OfPoints (IsAlmostOnPage most width height) q
      → OfPoints (IsAlmostOnPage most width height) (if b then p else q)
  either_on true p q on_p on_q = on_p
  either_on false p q on_p on_q = on_q

  al_most : (before at after : Point) → al_of (sharpness_of before at after) ≤ 65536
  al_most before at after = omega arith

  piece_on : (alphamax : ℕ) (before at after : Point) → IsAlmostOnPage most width height before → IsAlmostOnPage most width height at → IsAlmostOnPage most width height after
      → OfPoints (IsAlmostOnPage most width height) (piece_of alphamax before at after)
  unfolding piece_of
  piece_on alphamax before at after on_before on_at on_after =
      let sharpness = sharpness_of before at after in
      let al = al_of sharpness in
      let few = al_most before at after in
      let joint = joint_on at after on_at on_after in
      either_on (is_corner alphamax sharpness) (Corner at (middle_of at after)) (curve_of al before at after) (on_at, joint)
      (control_on al before at few on_before on_at, control_on al after at few on_after on_at, joint)

  on_at : (vertices : List Point) (m : ℕ) → All (IsAlmostOnPage most width height) vertices → IsAlmostOnPage most width height (slice_index_or vertices m origin)
  on_at vertices m on = elim (cases_lt m (length vertices)) [
    | inl h ↦ on m origin h
    | inr h ↦ rw (get_or_past vertices m origin h) (origin_on most width height)
  ]

  pieces_on : (alphamax : ℕ) (vertices : List Point) → All (IsAlmostOnPage most width height) vertices
      → All (OfPoints (IsAlmostOnPage most width height)) (pieces_of alphamax vertices)
  pieces_on alphamax vertices on =
      All-map (OfPoints (IsAlmostOnPage most width height)) (corner_piece alphamax vertices) (range_with_len 0 (length vertices)) (λ k d below.
      piece_on alphamax _ _ _ (on_at vertices _ on) (on_at vertices _ on) (on_at vertices _ on))

-- ---- outlines

-- curves aren't joined, or there are none
abbrev JoinsNothing : Settings → Type 0
JoinsNothing settings = (settings.long_curve ≡ true) ⊎ (settings.alphamax ≡ 0)

pieces_are : (long : Bool) (settings : Settings) (vertices : List Point) (pieces : List Piece) → long ≡ true → IsOutlineWith long settings vertices pieces
    → pieces ≡ pieces_of settings.alphamax vertices
pieces_are true settings vertices pieces e is = is
pieces_are false settings vertices pieces e is = absurd (let no : false ≡ true = e in cc)

outline_on : (width height : ℕ) (settings : Settings) (vertices : List Point) (pieces : List Piece) → JoinsNothing settings
    → All (IsAlmostOnPage 512 width height) vertices → IsOutlineOf settings vertices pieces → All (OfPoints (IsAlmostOnPage 512 width height)) pieces
outline_on width height settings vertices pieces (inl long) on is =
    subst (All (OfPoints (IsAlmostOnPage 512 width height))) (sym (pieces_are settings.long_curve settings vertices pieces long is))
    (pieces_on 512 width height settings.alphamax vertices on)
outline_on width height settings vertices pieces (inr flat) on is =
    subst (All (OfPoints (IsAlmostOnPage 512 width height))) (sym (outline_of_corners settings vertices pieces flat is))
    (pieces_on 512 width height 0 vertices on)

abbrev IsTraced : ℕ → ℕ → Path × Polygon → Type 0
IsTraced width height both = IsPathOn width height both.0

lists_on : (width height : ℕ) (settings : Settings) (both : List (Path × Polygon)) (lists : List (List Point)) (outlines : List (List Piece)) → JoinsNothing settings
    → All (IsTraced width height) both → AllZip AreVerticesOf both lists → AllZip (IsOutlineOf settings) lists outlines
    → All (All (OfPoints (IsAlmostOnPage 512 width height))) outlines
lists_on width height settings both lists [] none on are is = All-nil (All (OfPoints (IsAlmostOnPage 512 width height)))
lists_on width height settings [] [] (pieces ∷ outlines) none on are is = absurd is
lists_on width height settings [] (vertices ∷ lists) (pieces ∷ outlines) none on are is = absurd are
lists_on width height settings (b ∷ both) [] (pieces ∷ outlines) none on are is = absurd are
lists_on width height settings (b ∷ both) (vertices ∷ lists) (pieces ∷ outlines) none on are is =
    let here = All-head (IsTraced width height) b both on in
    let some : 0 < length (b.0).points = omega (arith, here.closed.least) in
    All-cons (All (OfPoints (IsAlmostOnPage 512 width height))) pieces outlines
    (outline_on width height settings vertices pieces none (vertices_on width height (b.0).points (b.1).at vertices some here.on_page are.0) is.0)
    (lists_on width height settings both lists outlines none (All-tail (IsTraced width height) b both on) are.1 is.1)

zipped_on : (width height : ℕ) (paths : List Path) (polygons : List Polygon) → All (IsPathOn width height) paths → All (IsTraced width height) (zip paths polygons)
zipped_on width height [] polygons on = All-nil (IsTraced width height)
zipped_on width height (path ∷ paths) [] on = All-nil (IsTraced width height)
zipped_on width height (path ∷ paths) (polygon ∷ polygons) on =
    All-cons (IsTraced width height) (path, polygon) (zip paths polygons)
    (All-head (IsPathOn width height) path paths on)
    (zipped_on width height paths polygons (All-tail (IsPathOn width height) path paths on))

pub trace_on : (page : Page) (settings : Settings) (trace : Trace) → IsPage page → IsTrace page settings trace
    → (settings.long_curve ≡ true) ⊎ (settings.alphamax ≡ 0)
    → All (All (OfPoints (IsAlmostOnPage 512 page.width page.height))) trace.outlines
trace_on page settings trace is_page is none =
    let paths = is.polygons.paths in
    let all = page_paths_on page settings.policy paths.all is_page paths.decomposed in
    let kept = all_kept settings.turd (IsPathOn page.width page.height) paths.all trace.paths paths.no_speckles all in
    lists_on page.width page.height settings (zip trace.paths trace.polygons) trace.vertices trace.outlines none
    (zipped_on page.width page.height trace.paths trace.polygons kept) is.vertices is.outlines

-- ---- as written

spread_low : (unit most : ℕ) (c : ℤ) → pos unit *ℤ (c +ℤ pos most) ≡ pos unit *ℤ c +ℤ pos (unit * most)
spread_low unit most c = same_value
    (times (num (pos unit)) (plus (num c) (num (pos most))))
    (plus (times (num (pos unit)) (num c)) (num (pos (unit * most))))
    (omega arith)

spread_high : (unit most side : ℕ) (c : ℤ) → pos unit *ℤ (pos (1024 * side + most) -ℤ c) ≡ pos (1024 * (unit * side) + unit * most) -ℤ pos unit *ℤ c
spread_high unit most side c = same_value
    (times (num (pos unit)) (less (num (pos (1024 * side + most))) (num c)))
    (less (num (pos (1024 * (unit * side) + unit * most))) (times (num (pos unit)) (num c)))
    (omega arith)

not_beyond : (c : ℤ) (n : ℕ) → c ≤ℤ pos n → pos 0 ≤ℤ (pos n -ℤ c)
not_beyond c n h = omega (arith, ints)

by_half : (y w : ℤ) (m n : ℕ) → pos 0 ≤ℤ (y +ℤ pos m) → pos 0 ≤ℤ (pos (1024 * n + m) -ℤ y) → unsigned_abs (y -ℤ w) ≤ 512 → IsAlmostOn (m + 512) n w
by_half y w m n low high close = record { low = omega (arith, ints); high = omega (arith, ints) }

written_coordinate : (unit most side : ℕ) (c w : ℤ) → IsAlmostOn most side c → unsigned_abs (pos unit *ℤ c -ℤ w) ≤ 512
    → IsAlmostOn (unit * most + 512) (unit * side) w
written_coordinate unit most side c w on close =
    by_half (pos unit *ℤ c) w (unit * most) (unit * side)
    (at_least _ _ (spread_low unit most c) (product_at_least (pos unit) (c +ℤ pos most) (omega (arith, ints)) on.low))
    (at_least _ _ (spread_high unit most side c)
    (product_at_least (pos unit) (pos (1024 * side + most) -ℤ c) (omega (arith, ints)) (not_beyond c (1024 * side + most) on.high)))
    close

pub written_on : (unit most width height : ℕ) (p : Point) → IsAlmostOnPage most width height p
    → IsAlmostOnPage (unit * most + 512) (unit * width) (unit * height) (as_written unit p)
written_on unit most width height p on =
    let close = place_close unit p in
    record {
      x = written_coordinate unit most width p.x (pos 1024 *ℤ rounded p.x unit) on.x close.x;
      y = written_coordinate unit most height p.y (pos 1024 *ℤ rounded p.y unit) on.y close.y;
    }

of_points : (P Q : Point → Type 0) → ((p : Point) → P p → Q p) → (piece : Piece) → OfPoints P piece → OfPoints Q piece
of_points P Q f (Corner at end) h = (f at h.0, f end h.1)
of_points P Q f (Curve first second end al) h = (f first h.0, f second h.1, f end h.2)

pub trace_written_on : (page : Page) (settings : Settings) (trace : Trace) (unit : ℕ) → IsPage page → IsTrace page settings trace
    → (settings.long_curve ≡ true) ⊎ (settings.alphamax ≡ 0)
    → All (All (OfPoints (λ p. IsAlmostOnPage (unit * 512 + 512) (unit * page.width) (unit * page.height) (as_written unit p)))) trace.outlines
trace_written_on page settings trace unit is_page is none =
    let P : Point → Type 0 = IsAlmostOnPage 512 page.width page.height in
    let Q : Point → Type 0 = λ p. IsAlmostOnPage (unit * 512 + 512) (unit * page.width) (unit * page.height) (as_written unit p) in
    All-weaker (All (OfPoints P)) (All (OfPoints Q))
    (λ pieces on. All-weaker (OfPoints P) (OfPoints Q) (of_points P Q (written_on unit 512 page.width page.height)) pieces on)
    trace.outlines (trace_on page settings trace is_page is none)
