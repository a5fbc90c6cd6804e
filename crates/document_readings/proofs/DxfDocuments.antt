-- A drawing interchange file is read as its trace's polylines.
use Rattle.std.proofs.Common.{◌≡◌, ℕ, zero, suc, ◌-◌, ◌/◌, ◌%◌, ◌^◌, ◌<◌, ℤ, pos, negsuc, unsigned_abs, true, false, List, [], ◌∷◌, ◌++◌, codes, flat_map, map, take, drop, length, refl, ap, sym, ◌∙◌, append_assoc, Some, arith}
use Rattle.std.proofs.lemmas.List.{append-nil}
use Rattle.std.proofs.lemmas.List.Elements.{All-head, All-tail, All-nil, All-cons, All-append}
use Rattle.std.proofs.lemmas.List.Splits.{slice_split_at}
use Rattle.std.specs.Prelude.{decimal, All, option_map, option_and_then, ◌==◌}
use Rattle.pt_core.specs.declared.piece.Piece.{Piece}
use Rattle.pt_core.specs.declared.piece.Piece.TheVariants.{Corner, Curve}
use Rattle.pt_core.specs.declared.point.Point.{Point}
use Rattle.pt_core.specs.declared.trace.Trace.{Trace}
use Rattle.pt_core.specs.FixedText.{minus_text, digit, decimals_text, fixed_text}
use Rattle.pt_core.specs.ClosedWalk.{origin}
use Rattle.pt_core.specs.Floor.{rounded}
use Rattle.pt_core.specs.Outlines.{start_from}
use Rattle.dxf_geojson.specs.Chords.{chord_points, curve_point, curve_points, points_from}
use Rattle.dxf_geojson.specs.DxfText.{pixels_text, vertex_text, all_but_last, polyline_text, dxf_text}
use Rattle.document_readings.specs.Decimals.{Position, decimal_of}
use Rattle.document_readings.specs.DxfReading.{DxfGroup, section, end_of_section, end_of_file, polyline, vertex, end_of_sequence, name, layer, vertices_follow, flags, across, upwards, dxf_groups, Polyline, beginning, among, heading, within, dxf_steps, polylines_by, dxf_polylines}
use Rattle.document_readings.specs.TextLines.{text_lines}
use Rattle.document_readings.specs.Places.{AreInReach, IsPieceInReach}
use Rattle.document_readings.specs.Rings.{HasTwoPieces, position_of, polyline_of}
use Rattle.document_readings.proofs.Chords.{IsRoundable, chords_within, thousandths_small}
use Rattle.document_readings.proofs.Lines.{IsNoLineFeed, digit_in_line, number_in_line}
use Rattle.document_readings.proofs.Thousandths.{thousandths_read}

-- no line ends within a number
small_digit : (n : ℕ) → n < 10 → IsNoLineFeed (digit n)
small_digit n small = digit_in_line (digit n) (omega arith, omega arith)

minus_in_line : (t : ℤ) → All IsNoLineFeed (minus_text t)
minus_in_line (pos n) = All-nil IsNoLineFeed
minus_in_line (negsuc n) = All-cons IsNoLineFeed 45 [] refl (All-nil IsNoLineFeed)

thousandths_in_line : (t : ℤ) → unsigned_abs t < 2 ^ 62 → All IsNoLineFeed (fixed_text t)
thousandths_in_line t small =
    let m = unsigned_abs t % 1000 in
    let whole = decimal (unsigned_abs t / 1000) in
    All-append IsNoLineFeed (minus_text t ++ whole) (decimals_text m)
    (All-append IsNoLineFeed (minus_text t) whole (minus_in_line t) (number_in_line (unsigned_abs t / 1000) (omega arith)))
    (All-cons IsNoLineFeed 46 (digit (m / 100) ∷ digit (m / 10 % 10) ∷ digit (m % 10) ∷ []) refl
    (All-cons IsNoLineFeed (digit (m / 100)) (digit (m / 10 % 10) ∷ digit (m % 10) ∷ []) (small_digit (m / 100) (omega arith))
    (All-cons IsNoLineFeed (digit (m / 10 % 10)) (digit (m % 10) ∷ []) (small_digit (m / 10 % 10) (omega arith))
    (All-cons IsNoLineFeed (digit (m % 10)) [] (small_digit (m % 10) (omega arith)) (All-nil IsNoLineFeed)))))

-- the groups of a vertex
abbrev vertex_groups : Point → List DxfGroup
vertex_groups p =
    vertex ∷ layer ∷ across (Some (record { units = rounded p.x 1000; places = 3 })) ∷ upwards (Some (record { units = rounded p.y 1000; places = 3 })) ∷ []

vertex_bytes : (x y rest : List ℕ) → (codes "0\nVERTEX\n8\n0\n10\n" ++ x ++ codes "\n20\n" ++ y ++ codes "\n") ++ rest ≡ codes "0\nVERTEX\n8\n0\n10\n" ++ (x ++ 10 ∷ (codes "20\n" ++ (y ++ 10 ∷ rest)))
vertex_bytes x y rest = simp append_assoc

vertex_read : (p : Point) (rest : List ℕ) (groups : List DxfGroup) → IsRoundable p → dxf_groups (text_lines rest) ≡ Some groups → dxf_groups (text_lines (vertex_text p ++ rest)) ≡ Some (vertex_groups p ++ groups)
vertex_read p rest groups near reads =
    let x = pixels_text p.x in
    let y = pixels_text p.y in
    let x_small = thousandths_small p.x near.x in
    let y_small = thousandths_small p.y near.y in
    let second : text_lines (y ++ 10 ∷ rest) ≡ y ∷ text_lines rest = slice_split_at (λ b. b == 10) y 10 rest (thousandths_in_line (rounded p.y 1000) y_small) refl in
    let first : text_lines (x ++ 10 ∷ (codes "20\n" ++ (y ++ 10 ∷ rest))) ≡ x ∷ codes "20" ∷ y ∷ text_lines rest =
    slice_split_at (λ b. b == 10) x 10 (codes "20\n" ++ (y ++ 10 ∷ rest)) (thousandths_in_line (rounded p.x 1000) x_small) refl
    ∙ ap (λ lines. x ∷ codes "20" ∷ lines) second in
    ap (λ t. dxf_groups (text_lines t)) (vertex_bytes x y rest)
    ∙ ap (λ lines. dxf_groups (codes "0" ∷ codes "VERTEX" ∷ codes "8" ∷ codes "0" ∷ codes "10" ∷ lines)) first
    ∙ ap (λ d. option_map (λ gs. vertex ∷ gs) (option_map (λ gs. layer ∷ gs) (option_map (λ gs. across d ∷ gs) (option_map (λ gs. upwards (decimal_of y) ∷ gs) (dxf_groups (text_lines rest)))))) (thousandths_read (rounded p.x 1000) x_small)
    ∙ ap (λ d. option_map (λ gs. vertex ∷ gs) (option_map (λ gs. layer ∷ gs) (option_map (λ gs. across (Some (record { units = rounded p.x 1000; places = 3 })) ∷ gs) (option_map (λ gs. upwards d ∷ gs) (dxf_groups (text_lines rest)))))) (thousandths_read (rounded p.y 1000) y_small)
    ∙ ap (λ o. option_map (λ gs. vertex ∷ gs) (option_map (λ gs. layer ∷ gs) (option_map (λ gs. across (Some (record { units = rounded p.x 1000; places = 3 })) ∷ gs) (option_map (λ gs. upwards (Some (record { units = rounded p.y 1000; places = 3 })) ∷ gs) o)))) reads

vertices_read : (points : List Point) (rest : List ℕ) (groups : List DxfGroup) → All IsRoundable points → dxf_groups (text_lines rest) ≡ Some groups
    → dxf_groups (text_lines (flat_map vertex_text points ++ rest)) ≡ Some (flat_map vertex_groups points ++ groups)
vertices_read [] rest groups near reads = reads
vertices_read (p ∷ points) rest groups near reads =
    ap (λ t. dxf_groups (text_lines t)) (append_assoc (vertex_text p) (flat_map vertex_text points) rest)
    ∙ vertex_read p (flat_map vertex_text points ++ rest) (flat_map vertex_groups points ++ groups) (All-head IsRoundable p points near)
    (vertices_read points rest groups (All-tail IsRoundable p points near) reads)

-- the groups of a polyline
abbrev polyline_groups : List Piece → List DxfGroup
polyline_groups pieces = polyline ∷ layer ∷ vertices_follow ∷ flags true ∷ (flat_map vertex_groups (all_but_last (chord_points pieces)) ++ end_of_sequence ∷ [])

front_all : {A : Type 0} (P : A → Type 0) (n : ℕ) (xs : List A) → All P xs → All P (take n xs)
front_all P zero xs all = All-nil P
front_all P (suc n) [] all = All-nil P
front_all P (suc n) (x ∷ xs) all = All-cons P x (take n xs) (All-head P x xs all) (front_all P n xs (All-tail P x xs all))

polyline_bytes : (vertices rest : List ℕ) → (codes "0\nPOLYLINE\n8\n0\n66\n1\n70\n1\n" ++ vertices ++ codes "0\nSEQEND\n") ++ rest ≡ codes "0\nPOLYLINE\n8\n0\n66\n1\n70\n1\n" ++ (vertices ++ (codes "0\nSEQEND\n" ++ rest))
polyline_bytes vertices rest = simp append_assoc

polyline_read : (pieces : List Piece) (rest : List ℕ) (groups : List DxfGroup) → All IsPieceInReach pieces → dxf_groups (text_lines rest) ≡ Some groups
    → dxf_groups (text_lines (polyline_text pieces ++ rest)) ≡ Some (polyline_groups pieces ++ groups)
polyline_read pieces rest groups near reads =
    let points = all_but_last (chord_points pieces) in
    let vertices = flat_map vertex_text points in
    let behind : dxf_groups (text_lines (codes "0\nSEQEND\n" ++ rest)) ≡ Some (end_of_sequence ∷ groups) = ap (option_map (λ gs. end_of_sequence ∷ gs)) reads in
    ap (λ t. dxf_groups (text_lines t)) (polyline_bytes vertices rest)
    ∙ ap (λ o. option_map (λ gs. polyline ∷ gs) (option_map (λ gs. layer ∷ gs) (option_map (λ gs. vertices_follow ∷ gs) (option_map (λ gs. flags true ∷ gs) o))))
    (vertices_read points (codes "0\nSEQEND\n" ++ rest) (end_of_sequence ∷ groups) (front_all IsRoundable (length (chord_points pieces) - 1) (chord_points pieces) (chords_within pieces near)) behind)
    ∙ ap (λ gs. Some (polyline ∷ layer ∷ vertices_follow ∷ flags true ∷ gs)) (sym (append_assoc (flat_map vertex_groups points) (end_of_sequence ∷ []) groups))

polylines_read : (outlines : List (List Piece)) (rest : List ℕ) (groups : List DxfGroup) → AreInReach outlines → dxf_groups (text_lines rest) ≡ Some groups
    → dxf_groups (text_lines (flat_map polyline_text outlines ++ rest)) ≡ Some (flat_map polyline_groups outlines ++ groups)
polylines_read [] rest groups near reads = reads
polylines_read (pieces ∷ outlines) rest groups near reads =
    ap (λ t. dxf_groups (text_lines t)) (append_assoc (polyline_text pieces) (flat_map polyline_text outlines) rest)
    ∙ polyline_read pieces (flat_map polyline_text outlines ++ rest) (flat_map polyline_groups outlines ++ groups) (All-head (All IsPieceInReach) pieces outlines near)
    (polylines_read outlines rest groups (All-tail (All IsPieceInReach) pieces outlines near) reads)
    ∙ ap Some (sym (append_assoc (polyline_groups pieces) (flat_map polyline_groups outlines) groups))

-- what they draw
within_steps : (done : List Polyline) (vertices : List Position) (p : Point) (points : List Point) (groups : List DxfGroup)
    → dxf_steps (within done true vertices true false (Some (record { units = rounded p.x 1000; places = 3 })) (Some (record { units = rounded p.y 1000; places = 3 }))) (flat_map vertex_groups points ++ end_of_sequence ∷ groups)
    ≡ dxf_steps (among (done ++ record { closed = true; vertices = vertices ++ map position_of (p ∷ points) } ∷ [])) groups
within_steps done vertices p [] groups = refl
within_steps done vertices p (q ∷ points) groups =
    within_steps done (vertices ++ position_of p ∷ []) q points groups
    ∙ ap (λ vs. dxf_steps (among (done ++ record { closed = true; vertices = vs } ∷ [])) groups) (append_assoc vertices (position_of p ∷ []) (map position_of (q ∷ points)))

vertices_steps : (done : List Polyline) (p : Point) (points : List Point) (groups : List DxfGroup)
    → dxf_steps (heading done true true (Some true)) (flat_map vertex_groups (p ∷ points) ++ end_of_sequence ∷ groups) ≡ dxf_steps (among (done ++ record { closed = true; vertices = map position_of (p ∷ points) } ∷ [])) groups
vertices_steps done p points groups = within_steps done [] p points groups

-- an outline has a vertex at least
two_chords : (pieces : List Piece) → HasTwoPieces pieces → (p : Point) × (q : Point) × (points : List Point) × (chord_points pieces ≡ p ∷ q ∷ points)
two_chords [] two = absurd (omega arith)
two_chords (Corner at end ∷ pieces) two = (start_from origin (Corner at end ∷ pieces), at, end ∷ points_from end pieces, refl)
two_chords (Curve first second end al ∷ pieces) two =
    let start = start_from origin (Curve first second end al ∷ pieces) in
    (start, curve_point start first second end 1, drop 1 (curve_points start first second end) ++ points_from end pieces, refl)

but_last : (p q : Point) (points : List Point) → all_but_last (p ∷ q ∷ points) ≡ p ∷ take (length points) (q ∷ points)
but_last p q points = let e : length (p ∷ q ∷ points) - 1 ≡ suc (length points) = omega arith in ap (λ n. take n (p ∷ q ∷ points)) e

polyline_steps : (done : List Polyline) (pieces : List Piece) (groups : List DxfGroup) → HasTwoPieces pieces
    → dxf_steps (among done) (polyline_groups pieces ++ groups) ≡ dxf_steps (among (done ++ polyline_of pieces ∷ [])) groups
polyline_steps done pieces groups two =
    let points = all_but_last (chord_points pieces) in
    let some = two_chords pieces two in
    let p = some.0 in
    let more = take (length some.2) (some.1 ∷ some.2) in
    let same : points ≡ p ∷ more = ap all_but_last some.3 ∙ but_last p some.1 some.2 in
    ap (dxf_steps (heading done true true (Some true))) (append_assoc (flat_map vertex_groups points) (end_of_sequence ∷ []) groups)
    ∙ ap (λ ps. dxf_steps (heading done true true (Some true)) (flat_map vertex_groups ps ++ end_of_sequence ∷ groups)) same
    ∙ vertices_steps done p more groups
    ∙ ap (λ ps. dxf_steps (among (done ++ record { closed = true; vertices = map position_of ps } ∷ [])) groups) (sym same)

polylines_steps : (done : List Polyline) (outlines : List (List Piece)) (groups : List DxfGroup) → All HasTwoPieces outlines
    → dxf_steps (among done) (flat_map polyline_groups outlines ++ groups) ≡ dxf_steps (among (done ++ map polyline_of outlines)) groups
polylines_steps done [] groups two = ap (λ d. dxf_steps (among d) groups) (sym (append-nil done))
polylines_steps done (pieces ∷ outlines) groups two =
    ap (dxf_steps (among done)) (append_assoc (polyline_groups pieces) (flat_map polyline_groups outlines) groups)
    ∙ polyline_steps done pieces (flat_map polyline_groups outlines ++ groups) (All-head HasTwoPieces pieces outlines two)
    ∙ polylines_steps (done ++ polyline_of pieces ∷ []) outlines groups (All-tail HasTwoPieces pieces outlines two)
    ∙ ap (λ d. dxf_steps (among d) groups) (append_assoc done (polyline_of pieces ∷ []) (map polyline_of outlines))

-- the whole file
pub polylines_of_text : (trace : Trace) → AreInReach trace.outlines → All HasTwoPieces trace.outlines → dxf_polylines (dxf_text trace) ≡ Some (map polyline_of trace.outlines)
polylines_of_text trace near two =
    let polylines = flat_map polyline_text trace.outlines in
    let tail = codes "0\nENDSEC\n0\nEOF\n" in
    let tail_groups = end_of_section ∷ end_of_file ∷ [] in
    let read : dxf_groups (text_lines (codes "0\nSECTION\n2\nENTITIES\n" ++ (polylines ++ tail))) ≡ Some (section ∷ name (codes "ENTITIES") ∷ (flat_map polyline_groups trace.outlines ++ tail_groups)) =
    ap (λ o. option_map (λ gs. section ∷ gs) (option_map (λ gs. name (codes "ENTITIES") ∷ gs) o)) (polylines_read trace.outlines tail tail_groups near refl) in
    ap dxf_polylines (append_assoc (codes "0\nSECTION\n2\nENTITIES\n") polylines tail)
    ∙ ap (λ o. option_and_then polylines_by (option_and_then (dxf_steps beginning) o)) read
    ∙ ap (option_and_then polylines_by) (polylines_steps [] trace.outlines tail_groups two)
