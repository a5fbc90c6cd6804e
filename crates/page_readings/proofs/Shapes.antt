-- Each outline of a page's shapes has two pieces or more: shapes have outlines of the trace alone.
use Rattle.std.proofs.Common.{◌≡◌, ℕ, suc, ◌+◌, ◌<◌, List, [], ◌∷◌, length, map, zip, get_or, refl, sym, ap, ◌∙◌, subst, arith}
use Rattle.std.proofs.lemmas.List.Elements.{All-cons, All-filter, All-map, All-weaker}
use Rattle.std.proofs.lemmas.List.FromFn.{get_or-range_with_len, length-range_with_len}
use Rattle.std.specs.Prelude.{All, is_none}
use Rattle.std.specs.List.{AllZip, range_with_len}
use Rattle.pt_core.specs.declared.path.Path.{Path}
use Rattle.pt_core.specs.declared.piece.Piece.{Piece}
use Rattle.pt_core.specs.declared.settings.Settings.{Settings}
use Rattle.pt_core.specs.declared.trace.Group.{Group}
use Rattle.pt_core.specs.declared.trace.Trace.{Trace}
use Rattle.pt_core.specs.Outlines.{outline_at}
use Rattle.bit_image.specs.Page.{IsPage, Page}
use Rattle.path_tree.specs.Groups.{group_at, groups_of, holder_of, is_number}
use Rattle.page_trace.specs.Trace.{AreVerticesOf, IsOutlineOf, IsPolygonOf, IsTrace}
use Rattle.document_readings.specs.Rings.{HasTwoPieces, HaveTwoPieces}
use Rattle.document_readings.specs.TraceShapes.{group_outlines}
use Rattle.page_readings.proofs.TwoPieces.{trace_has_two_pieces}

-- the numbers of a shape's paths are below the number of paths
record IsAmong (n : ℕ) (group : Group) : Type 0 where
  outer : group.outer < n
  holes : All (λ hole. hole < n) group.holes

below_all : (n : ℕ) → All (λ i. i < n) (range_with_len 0 n)
below_all n k d below =
    let within : k < n = omega (arith, length-range_with_len 0 n) in
    let here : get_or (range_with_len 0 n) k d ≡ 0 + k = get_or-range_with_len 0 n k d within in
    omega arith

group_among : (paths : List Path) (j : ℕ) → j < length paths → IsAmong (length paths) (group_at paths j)
group_among paths j below = record {
  outer = below;
  holes = All-filter (λ i. is_number j (holder_of paths i)) (λ i. i < length paths) (range_with_len 0 (length paths)) (below_all (length paths));
}

groups_among : (paths : List Path) → All (IsAmong (length paths)) (groups_of paths)
groups_among paths =
    All-filter (λ group. is_none (holder_of paths group.outer)) (IsAmong (length paths)) (map (group_at paths) (range_with_len 0 (length paths)))
    (All-map (IsAmong (length paths)) (group_at paths) (range_with_len 0 (length paths))
    (All-weaker (λ i. i < length paths) (λ i. IsAmong (length paths) (group_at paths i)) (group_among paths) (range_with_len 0 (length paths)) (below_all (length paths))))

-- as many outlines as paths
as_many : {A B : Type 0} (R : A → B → Type 0) (xs : List A) (ys : List B) → AllZip R xs ys → length xs ≡ length ys
as_many R [] [] all = refl
as_many R [] (y ∷ ys) all = absurd all
as_many R (x ∷ xs) [] all = absurd all
as_many R (x ∷ xs) (y ∷ ys) all = ap suc (as_many R xs ys all.1)

zipped : {A B : Type 0} (xs : List A) (ys : List B) → length xs ≡ length ys → length (zip xs ys) ≡ length xs
zipped [] ys same = refl
zipped (x ∷ xs) [] same = absurd (omega arith)
zipped (x ∷ xs) (y ∷ ys) same = ap suc (zipped xs ys (omega arith))

as_many_outlines : (page : Page) (settings : Settings) (trace : Trace) → IsTrace page settings trace → length trace.paths ≡ length trace.outlines
as_many_outlines page settings trace is =
    sym (zipped trace.paths trace.polygons (as_many (IsPolygonOf settings) trace.paths trace.polygons is.polygons.polygons))
    ∙ as_many AreVerticesOf (zip trace.paths trace.polygons) trace.vertices is.vertices
    ∙ as_many (IsOutlineOf settings) trace.vertices trace.outlines is.outlines

-- so the outlines of shapes are those of the trace
group_has_two : (outlines : List (List Piece)) (group : Group) → All HasTwoPieces outlines → IsAmong (length outlines) group → All HasTwoPieces (group_outlines outlines group)
group_has_two outlines group two among =
    All-cons HasTwoPieces (outline_at outlines group.outer) (map (outline_at outlines) group.holes) (two group.outer [] among.outer)
    (All-map HasTwoPieces (outline_at outlines) group.holes
    (All-weaker (λ hole. hole < length outlines) (λ hole. HasTwoPieces (outline_at outlines hole)) (λ hole below. two hole [] below) group.holes among.holes))

pub shapes_have_two_pieces : (page : Page) (settings : Settings) (trace : Trace) → IsPage page → IsTrace page settings trace → HaveTwoPieces trace
shapes_have_two_pieces page settings trace is_page is =
    let two = trace_has_two_pieces page settings trace is_page is in
    let among : All (IsAmong (length trace.outlines)) trace.groups =
    subst (λ (gs : List Group). All (IsAmong (length trace.outlines)) gs) (sym is.groups)
    (subst (λ (n : ℕ). All (IsAmong n) (groups_of trace.paths)) (as_many_outlines page settings trace is) (groups_among trace.paths)) in
    All-weaker (IsAmong (length trace.outlines)) (λ group. All HasTwoPieces (group_outlines trace.outlines group)) (λ group. group_has_two trace.outlines group two) trace.groups among
