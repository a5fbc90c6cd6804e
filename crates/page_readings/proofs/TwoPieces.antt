-- Each outline of a page's trace has two pieces or more.
use Rattle.std.proofs.Common.{◌≡◌, ℕ, ◌+◌, ◌-◌, ◌<◌, ◌≤◌, ℤ, pos, ◌<ℤ◌, Bool, true, false, List, [], ◌∷◌, length, zip, get_or, ap, sym, ◌∙◌, subst, inl, inr, arith}
use Rattle.std.proofs.lemmas.Int.{ints}
use Rattle.std.proofs.lemmas.List.{take_all}
use Rattle.std.proofs.lemmas.List.Elements.{All-head, All-tail, All-nil, All-cons}
use Rattle.std.proofs.lemmas.List.FromFn.{length-map-range_with_len}
use Rattle.std.specs.Prelude.{All, slice_index, slice_range}
use Rattle.std.specs.List.{AllZip}
use Rattle.pt_core.specs.declared.path.Path.{Path}
use Rattle.pt_core.specs.declared.piece.Piece.{Piece}
use Rattle.pt_core.specs.declared.point.Point.{Point}
use Rattle.pt_core.specs.declared.polygon.Polygon.{Polygon}
use Rattle.pt_core.specs.declared.settings.Settings.{Settings}
use Rattle.pt_core.specs.declared.trace.Trace.{Trace}
use Rattle.pt_core.specs.ClosedWalk.{IsClosedWalk}
use Rattle.pt_core.specs.Outlines.{end_of}
use Rattle.pt_core.proofs.Terms.{same_value}
use Rattle.pt_core.proofs.Terms.Term.{num, less, times}
use Rattle.bit_image.specs.Page.{IsPage, Page}
use Rattle.corner_smooth.specs.Corner.{corner_piece, pieces_of}
use Rattle.least_walk.specs.LeastWalk.{IsWalk, Step}
use Rattle.curve_join.specs.Bends.{bends_of}
use Rattle.curve_join.specs.Choice.{IsBestJoin, MayBeOne, run_piece}
use Rattle.curve_join.specs.Cubic.{meeting_of}
use Rattle.curve_join.specs.Join.{MayJoin, first_bend, last_bend, no_bend, sense_at, tangents_at}
use Rattle.curve_join.specs.Outline.{Outline, outline, piece_at}
use Rattle.curve_join.specs.Vector.{towards, vector_cross, way_of}
use Rattle.curve_join.specs.declared.bend.Bend.{Bend}
use Rattle.curve_join.specs.declared.sense.Sense.{Sense}
use Rattle.curve_join.specs.declared.sense.Sense.TheVariants.{Left, Right}
use Rattle.curve_join.proofs.Cuts.{bends_at, length-bends_of}
use Rattle.page_trace.specs.Trace.{AreVerticesOf, IsOutlineOf, IsOutlineWith, IsPolygonOf, IsTrace, tolerance_of}
use Rattle.page_trace.proofs.Exists.{paths_found}
use Rattle.page_trace.proofs.OneTrace.{one_list_of_paths}
use Rattle.page_trace.proofs.Segments.{two_at_least}
use Rattle.document_readings.specs.Rings.{HasTwoPieces}

-- there and back nothing is turned
back_cross : (s m : Point) → vector_cross (way_of s m) (way_of m s) ≡ pos 0
back_cross s m =
    same_value (less (times (less (num m.x) (num s.x)) (less (num s.y) (num m.y))) (times (less (num m.y) (num s.y)) (less (num s.x) (num m.x)))) (num (pos 0)) (omega arith)

none_towards : (sense : Sense) (z : ℤ) → z ≡ pos 0 → pos 0 <ℤ towards sense z → ⊥
none_towards Left z e h = omega (arith, ints)
none_towards Right z e h = omega (arith, ints)

not_beyond : (sense : Sense) (s m e : Point) → s ≡ e → pos 0 <ℤ towards sense (vector_cross (way_of s m) (way_of m e)) → ⊥
not_beyond sense s m e same beyond =
    none_towards sense (vector_cross (way_of s m) (way_of m e)) (subst (λ (q : Point). vector_cross (way_of s m) (way_of m q) ≡ pos 0) same (back_cross s m)) beyond

-- a run of all pieces would end where it starts

all_run : (o : Outline) (n : ℕ) → n ≡ length o.pieces → slice_range (bends_of o) 0 n ≡ bends_of o
all_run o n is = take_all (n - 0) (bends_of o) (let e = length-bends_of o in omega arith)

comes_round : (o : Outline) → 2 ≤ length o.pieces → (first_bend (bends_of o)).start ≡ (last_bend (bends_of o)).end
comes_round o some =
    let n = length o.pieces in
    let last : length (bends_of o) - 1 ≡ n - 1 = (let e = length-bends_of o in omega arith) in
    let same : 0 + (n - 1) ≡ n - 1 = omega arith in
    ap (λ (b : Bend). b.start) (bends_at o 0 (omega arith))
    ∙ ap (λ (k : ℕ). end_of (piece_at o.pieces k)) same
    ∙ ap (λ (b : Bend). b.end) (sym (bends_at o (n - 1) (omega arith)))
    ∙ ap (λ (k : ℕ). (get_or (bends_of o) k no_bend).end) (sym last)

no_run_of_all : (tol : ℕ) (o : Outline) → 2 ≤ length o.pieces → MayJoin tol (bends_of o) → ⊥
no_run_of_all tol o some may =
    let run = bends_of o in
    not_beyond (sense_at run) (first_bend run).start (meeting_of (sense_at run) (tangents_at run)) (last_bend run).end (comes_round o some) may.tangents.beyond

no_step_over_all : (tol : ℕ) (o : Outline) (n : ℕ) → n ≡ length o.pieces → 2 ≤ n → MayBeOne tol (bends_of o) 0 n → ⊥
no_step_over_all tol o n is some (inl e) = omega arith
no_step_over_all tol o n is some (inr may) = no_run_of_all tol o (omega arith) (subst (MayJoin tol) (all_run o n is) may.1)

-- so each cut has two runs or more
three_ends : (tol : ℕ) (o : Outline) (cut : List ℕ) → 2 ≤ length o.pieces → IsWalk (length o.pieces) (MayBeOne tol (bends_of o)) cut → 3 ≤ length cut
three_ends tol o [] some walk = let first = walk.first in absurd (let never : ⊥ = cc in never)
three_ends tol o (a ∷ []) some walk =
    let first = walk.first in
    let last = walk.last in
    let same : 0 ≡ length o.pieces = cc in
    absurd (omega arith)
three_ends tol o (a ∷ b ∷ []) some walk =
    let first = walk.first in
    let last = walk.last in
    let starts : a ≡ 0 = cc in
    let ends : b ≡ length o.pieces = cc in
    let step : MayBeOne tol (bends_of o) a b = All-head (λ (s : Step). MayBeOne tol (bends_of o) s.from s.to) (record { from = a; to = b }) [] walk.allowed in
    let whole : MayBeOne tol (bends_of o) 0 b = subst (λ (i : ℕ). MayBeOne tol (bends_of o) i b) starts step in
    absurd (no_step_over_all tol o b ends (omega arith) whole)
three_ends tol o (a ∷ b ∷ c ∷ rest) some walk = omega arith

joins_two : (tol : ℕ) (o : Outline) (pieces : List Piece) → 2 ≤ length o.pieces → IsBestJoin tol o pieces → 2 ≤ length pieces
joins_two tol o pieces some best =
    let ends = three_ends tol o best.cut some best.least.is_walk in
    let count : length pieces ≡ length best.cut - 1 =
    ap length best.joined ∙ length-map-range_with_len (λ c. run_piece o.pieces (bends_of o) (slice_index best.cut c) (slice_index best.cut (c + 1))) 0 (length best.cut - 1) in
    omega arith

outline_two : (joins : Bool) (settings : Settings) (vertices : List Point) (pieces : List Piece) → 2 ≤ length vertices → IsOutlineWith joins settings vertices pieces → 2 ≤ length pieces
outline_two true settings vertices pieces some is =
    let count : length pieces ≡ length vertices = ap length is ∙ length-map-range_with_len (corner_piece settings.alphamax vertices) 0 (length vertices) in
    omega arith
outline_two false settings vertices pieces some is =
    let count : length (pieces_of settings.alphamax vertices) ≡ length vertices = length-map-range_with_len (corner_piece settings.alphamax vertices) 0 (length vertices) in
    joins_two (tolerance_of settings.tolerance) (outline vertices (pieces_of settings.alphamax vertices)) pieces (omega arith) is

-- and all outlines of a trace
lists_two : (settings : Settings) (both : List (Path × Polygon)) (lists : List (List Point)) (outlines : List (List Piece)) → All (λ (b : Path × Polygon). 2 ≤ length (b.1).at) both
    → AllZip AreVerticesOf both lists → AllZip (IsOutlineOf settings) lists outlines → All HasTwoPieces outlines
lists_two settings both lists [] on are is = All-nil HasTwoPieces
lists_two settings [] [] (pieces ∷ outlines) on are is = absurd is
lists_two settings [] (vertices ∷ lists) (pieces ∷ outlines) on are is = absurd are
lists_two settings (b ∷ both) [] (pieces ∷ outlines) on are is = absurd are
lists_two settings (b ∷ both) (vertices ∷ lists) (pieces ∷ outlines) on are is =
    let here = All-head (λ (c : Path × Polygon). 2 ≤ length (c.1).at) b both on in
    let count = (are.0).count in
    let some : 2 ≤ length vertices = omega arith in
    All-cons HasTwoPieces pieces outlines (outline_two settings.long_curve settings vertices pieces some is.0)
    (lists_two settings both lists outlines (All-tail (λ (c : Path × Polygon). 2 ≤ length (c.1).at) b both on) are.1 is.1)

polygons_two : (settings : Settings) (paths : List Path) (polygons : List Polygon) → All (λ (path : Path). IsClosedWalk path.points) paths → AllZip (IsPolygonOf settings) paths polygons
    → All (λ (b : Path × Polygon). 2 ≤ length (b.1).at) (zip paths polygons)
polygons_two settings [] polygons closed are = All-nil (λ (b : Path × Polygon). 2 ≤ length (b.1).at)
polygons_two settings (path ∷ paths) [] closed are = All-nil (λ (b : Path × Polygon). 2 ≤ length (b.1).at)
polygons_two settings (path ∷ paths) (polygon ∷ polygons) closed are =
    let walk = All-head (λ (p : Path). IsClosedWalk p.points) path paths closed in
    let some : 0 < length path.points = omega (arith, walk.least) in
    All-cons (λ (b : Path × Polygon). 2 ≤ length (b.1).at) (path, polygon) (zip paths polygons) (two_at_least settings.cyclic path polygon some are.0)
    (polygons_two settings paths polygons (All-tail (λ (p : Path). IsClosedWalk p.points) path paths closed) are.1)

pub trace_has_two_pieces : (page : Page) (settings : Settings) (trace : Trace) → IsPage page → IsTrace page settings trace → All HasTwoPieces trace.outlines
trace_has_two_pieces page settings trace is_page is =
    let found = paths_found page settings is_page in
    let same : trace.paths ≡ found.0 = one_list_of_paths page settings trace.paths found.0 is.polygons.paths found.1.are in
    let closed : All (λ (path : Path). IsClosedWalk path.points) trace.paths = subst (All (λ (path : Path). IsClosedWalk path.points)) (sym same) found.1.closed in
    lists_two settings (zip trace.paths trace.polygons) trace.vertices trace.outlines (polygons_two settings trace.paths trace.polygons closed is.polygons.polygons) is.vertices is.outlines
