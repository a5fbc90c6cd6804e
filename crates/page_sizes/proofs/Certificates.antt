-- How long the texts of polygons and of certificates are.
use Rattle.std.proofs.Common.{◌≡◌, ℕ, ◌+◌, ◌*◌, ◌^◌, ◌≤◌, ◌<◌, Bool, true, false, List, [], ◌∷◌, ◌++◌, All, codes, decimal, flat_map, get_or, length, length-append, sum_by, zip, ap, subst, arith}
use Rattle.std.specs.List.{AllZip}
use Rattle.std.proofs.lemmas.Fmt.{length-decimal-le}
use Rattle.std.proofs.lemmas.List.{get_or_default}
use Rattle.std.proofs.lemmas.List.Concat.{flat_map-cons}
use Rattle.std.proofs.lemmas.List.Elements.{All-head, All-tail}
use Rattle.std.proofs.lemmas.List.Sums.{sum_by-cons, sum_by-le}
use Rattle.pt_core.specs.ClosedWalk.{IsClosedWalk}
use Rattle.pt_core.specs.declared.limits.TheConstants.{LONGEST_SIDE}
use Rattle.pt_core.specs.declared.path.Path.{Path}
use Rattle.pt_core.specs.declared.point.Point.{Point}
use Rattle.pt_core.specs.declared.polygon.Polygon.{Polygon}
use Rattle.pt_core.specs.declared.settings.Settings.{Settings}
use Rattle.pt_core.specs.declared.trace.Trace.{Trace}
use Rattle.pt_base.specs.PointsText.{point_text}
use Rattle.pt_base.specs.PolygonsText.{index_text, polygon_text, polygons_text}
use Rattle.least_walk.specs.LeastWalk.{Step, steps_from}
use Rattle.straight_paths.specs.Straight.{IsPossible}
use Rattle.polygon_search.specs.Polygon.{penalty_of}
use Rattle.polygon_search.specs.Inner.OnePenalty.{penalty_is}
use Rattle.polygon_search.proofs.Small.{possible_most, total_most}
use Rattle.polygon_search.proofs.Vertices.{vertices_below}
use Rattle.cyclic_optimal.specs.Cyclic.{IsCyclicPolygon, round_penalty}
use Rattle.outline_check.specs.Certificate.{AreRightLabels}
use Rattle.outline_check.specs.Labels.{label_at, no_label}
use Rattle.outline_check.specs.Printed.{AreCertified, IsPrinted}
use Rattle.outline_check.specs.ProofsText.{Certified, certified_text, label_text, proofs_text, word_line}
use Rattle.outline_check.specs.Texts.{IsShortLabel}
use Rattle.outline_check.specs.declared.label.Label.{Label}
use Rattle.outline_check.proofs.Short.{short}
use Rattle.page_trace.specs.Trace.{IsPolygonOf, IsPolygonWith}
use Rattle.page_trace.proofs.Segments.{few_at_most}
use Rattle.page_sizes.specs.Edges.{point_count, side_count}
use Rattle.page_sizes.proofs.Listed.{AreSmallPaths, IsSmallPath, count_text_most, few_paths, points_most, side_most, sign_one}
use Rattle.page_sizes.proofs.Weights.{texts_most}

-- each index is one of the path's points
indices_small : (cyclic : Bool) (path : Path) (polygon : Polygon) → IsPolygonWith cyclic path polygon → IsClosedWalk path.points → All (λ i. i < 2 ^ 31) polygon.at
indices_small true path polygon is closed = λ k d short. omega (arith, is.best.is_polygon.within k d short, closed.most)
indices_small false path polygon is closed = λ k d short. omega (arith, vertices_below path.points polygon.at is.best.is_walk k d short, closed.most)

indices_most : (at : List ℕ) → All (λ i. i < 2 ^ 31) at → length (flat_map index_text at) ≤ 11 * length at
indices_most at small =
    let texts = texts_most index_text (λ i. 11) at (λ k d short. let digits = count_text_most (get_or at k d) (omega (arith, small k d short)) in simp length-append (omega arith)) in
    omega (arith, sum_by-le (λ i. 11) 11 at (λ k d short. omega arith))

-- the penalties of a cyclic polygon's segments from a point on
steps_cost : (points : List Point) → IsClosedWalk points → (from end : ℕ) (others : List ℕ) → All (λ (s : Step). IsPossible points s.from s.to) (steps_from from (others ++ end ∷ []))
    → sum_by (λ (s : Step). penalty_of points s.from s.to) (steps_from from (others ++ end ∷ [])) + 256 * from ≤ 256 * end
steps_cost points walk from end [] possible =
    let step : Step = record { from = from; to = end } in
    let segment = All-head (λ (s : Step). IsPossible points s.from s.to) step [] possible in
    let rises = segment.rises in
    omega (arith, possible_most points from end (penalty_of points from end) walk segment (penalty_is points from end))
steps_cost points walk from end (next ∷ others) possible =
    let step : Step = record { from = from; to = next } in
    let rest : List Step = steps_from next (others ++ end ∷ []) in
    let segment = All-head (λ (s : Step). IsPossible points s.from s.to) step rest possible in
    let rises = segment.rises in
    let so_far = steps_cost points walk next end others (All-tail (λ (s : Step). IsPossible points s.from s.to) step rest possible) in
    let both : sum_by (λ (s : Step). penalty_of points s.from s.to) (steps_from from ((next ∷ others) ++ end ∷ []))
    ≡ penalty_of points from next + sum_by (λ (s : Step). penalty_of points s.from s.to) rest =
    sum_by-cons (λ (s : Step). penalty_of points s.from s.to) step rest in
    omega (arith, possible_most points from next (penalty_of points from next) walk segment (penalty_is points from next), so_far)

round_most : (points : List Point) (at : List ℕ) → IsClosedWalk points → IsCyclicPolygon points at → round_penalty points at ≤ 256 * length points
round_most points [] walk polygon = omega arith
round_most points (first ∷ others) walk polygon =
    omega (arith, steps_cost points walk first (first + length points) others polygon.possible)

cost_most : (cyclic : Bool) (path : Path) (polygon : Polygon) → IsPolygonWith cyclic path polygon → IsClosedWalk path.points → polygon.cost ≤ 256 * length path.points
cost_most true path polygon is closed = omega (arith, is.cost, round_most path.points polygon.at closed is.best.is_polygon)
cost_most false path polygon is closed = omega (arith, is.cost, total_most path.points polygon.at closed is.best.is_walk)

polygon_most : (width height : ℕ) (cyclic : Bool) (path : Path) (polygon : Polygon) → IsPolygonWith cyclic path polygon → IsClosedWalk path.points → IsSmallPath width height path
    → length (polygon_text (path, polygon)) ≤ 24 * length path.points
polygon_most width height cyclic path polygon is closed small =
    let few = few_at_most cyclic path polygon is in
    let indices = indices_most polygon.at (indices_small cyclic path polygon is closed) in
    let area = count_text_most path.area (omega (arith, small.area)) in
    let points = count_text_most (length path.points) (omega (arith, closed.most)) in
    let segments = count_text_most (length polygon.at) (omega (arith, few, closed.most)) in
    let cost : length (decimal polygon.cost) ≤ 12 = length-decimal-le 12 polygon.cost (omega arith) (omega (arith, cost_most cyclic path polygon is closed, closed.most)) (omega (arith, cost_most cyclic path polygon is closed, closed.most)) in
    simp length-append (omega (arith, sign_one path.sign, small.least))

polygons_most : (width height : ℕ) (settings : Settings) (paths : List Path) (polygons : List Polygon) → AllZip (IsPolygonOf settings) paths polygons → All (λ (p : Path). IsClosedWalk p.points) paths → All (IsSmallPath width height) paths
    → length (flat_map polygon_text (zip paths polygons)) ≤ 24 * point_count paths
polygons_most width height settings [] polygons are closed small = omega arith
polygons_most width height settings (path ∷ paths) [] are closed small = absurd are
polygons_most width height settings (path ∷ paths) (polygon ∷ polygons) are closed small =
    let here = polygon_most width height settings.cyclic path polygon are.0 (All-head (λ (p : Path). IsClosedWalk p.points) path paths closed) (All-head (IsSmallPath width height) path paths small) in
    let rest = polygons_most width height settings paths polygons are.1 (All-tail (λ (p : Path). IsClosedWalk p.points) path paths closed) (All-tail (IsSmallPath width height) path paths small) in
    let sums : point_count (path ∷ paths) ≡ length path.points + point_count paths = sum_by-cons (λ (p : Path). length p.points) path paths in
    let texts = ap length (flat_map-cons polygon_text (path, polygon) (zip paths polygons)) in
    omega (arith, length-append (polygon_text (path, polygon)) (flat_map polygon_text (zip paths polygons)))

-- what lists of a trace ask of it: its sides are those of a page, and its paths are closed walks on that
pub record CanBeListed (settings : Settings) (trace : Trace) : Type 0 where
  pub wide : trace.width ≤ LONGEST_SIDE
  pub high : trace.height ≤ LONGEST_SIDE
  pub closed : All (λ (p : Path). IsClosedWalk p.points) trace.paths
  pub small : AreSmallPaths trace.width trace.height trace.paths
  pub polygons : AllZip (IsPolygonOf settings) trace.paths trace.polygons

pub polygons_text_most : (settings : Settings) (trace : Trace) → CanBeListed settings trace → length (polygons_text trace) ≤ 24 * side_count trace.width trace.height + 32
polygons_text_most settings trace can =
    let lines = polygons_most trace.width trace.height settings trace.paths trace.polygons can.polygons can.closed can.small.each in
    let width = side_most trace.width can.wide in
    let height = side_most trace.height can.high in
    let count = count_text_most (length trace.paths) (omega (arith, few_paths trace.width trace.height trace.paths can.wide can.high can.small)) in
    let few = can.small.together in
    let front = codes "polygons " ++ decimal trace.width ++ codes " " ++ decimal trace.height ++ codes " " ++ decimal (length trace.paths) ++ codes "\n" in
    let head : length front ≤ 32 = simp length-append (omega arith) in
    rw (length-append front (flat_map polygon_text (zip trace.paths trace.polygons))) (omega arith)

label_most : (l : Label) → IsShortLabel l → length (label_text l) ≤ 32
label_most l short =
    let count : length (decimal l.count) ≤ 10 = length-decimal-le 10 l.count (omega arith) (omega (arith, short.count)) (omega (arith, short.count)) in
    let cost : length (decimal l.cost) ≤ 20 = length-decimal-le 20 l.cost (omega arith) (omega (arith, short.cost)) (omega (arith, short.cost)) in
    simp length-append (omega arith)

labels_most : (labels : List Label) → ((k : ℕ) → k < length labels → IsShortLabel (label_at labels k)) → length (flat_map label_text labels) ≤ 32 * length labels
labels_most labels short =
    let texts = texts_most label_text (λ l. 32) labels (λ k d below. label_most (get_or labels k d) (subst IsShortLabel (get_or_default labels k no_label d below) (short k below))) in
    omega (arith, sum_by-le (λ l. 32) 32 labels (λ k d below. omega arith))

line_most : {A : Type 0} (word : List ℕ) (text : A → List ℕ) (values : List A) → length (word_line word text values) ≤ length word + length (flat_map text values) + 1
line_most word text values =
    rw (length-append word (flat_map text values ++ codes "\n"), length-append (flat_map text values) (codes "\n")) (omega arith)

certificate_most : (width height : ℕ) (cyclic : Bool) (path : Path) (polygon : Polygon) (c : Certified) → width ≤ LONGEST_SIDE → height ≤ LONGEST_SIDE → IsPolygonWith cyclic path polygon → IsClosedWalk path.points → IsSmallPath width height path
    → c.points ≡ path.points → c.at ≡ polygon.at → AreRightLabels path.points c.labels → length (certified_text c) ≤ 67 * length path.points
certificate_most width height cyclic path polygon c wide high is closed small points at right =
    let few = few_at_most cyclic path polygon is in
    let all = points_most width height path.points wide high small.corners in
    let indices = indices_most polygon.at (indices_small cyclic path polygon is closed) in
    let labels = labels_most c.labels (short path.points closed c.labels right) in
    let one = line_most (codes "path") point_text path.points in
    let two = line_most (codes "at") index_text polygon.at in
    let three = line_most (codes "labels") label_text c.labels in
    let places = right.places in
    rw (
      points,
      at,
      length-append (word_line (codes "path") point_text path.points) (word_line (codes "at") index_text polygon.at ++ word_line (codes "labels") label_text c.labels),
      length-append (word_line (codes "at") index_text polygon.at) (word_line (codes "labels") label_text c.labels),
    )
    (omega (arith, small.least))

certificates_most : (width height : ℕ) (settings : Settings) (paths : List Path) (polygons : List Polygon) (cs : List Certified) → width ≤ LONGEST_SIDE → height ≤ LONGEST_SIDE → AllZip (IsPolygonOf settings) paths polygons
    → All (λ (p : Path). IsClosedWalk p.points) paths → All (IsSmallPath width height) paths → AreCertified paths polygons cs → (length cs ≡ length paths) × (length (flat_map certified_text cs) ≤ 67 * point_count paths)
certificates_most width height settings [] [] [] wide high are closed small certified = (omega arith, omega arith)
certificates_most width height settings [] [] (c ∷ cs) wide high are closed small certified = absurd certified
certificates_most width height settings [] (polygon ∷ polygons) cs wide high are closed small certified = absurd are
certificates_most width height settings (path ∷ paths) [] cs wide high are closed small certified = absurd are
certificates_most width height settings (path ∷ paths) (polygon ∷ polygons) [] wide high are closed small certified = absurd certified
certificates_most width height settings (path ∷ paths) (polygon ∷ polygons) (c ∷ cs) wide high are closed small certified =
    let here = certificate_most width height settings.cyclic path polygon c wide high are.0 (All-head (λ (p : Path). IsClosedWalk p.points) path paths closed) (All-head (IsSmallPath width height) path paths small) certified.0 certified.1 certified.2 in
    let rest = certificates_most width height settings paths polygons cs wide high are.1 (All-tail (λ (p : Path). IsClosedWalk p.points) path paths closed) (All-tail (IsSmallPath width height) path paths small) certified.3 in
    let sums : point_count (path ∷ paths) ≡ length path.points + point_count paths = sum_by-cons (λ (p : Path). length p.points) path paths in
    let texts = ap length (flat_map-cons certified_text c cs) in
    (omega (arith, rest.0), omega (arith, rest.1, length-append (certified_text c) (flat_map certified_text cs)))

pub certificates_text_most : (settings : Settings) (trace : Trace) (text : List ℕ) → CanBeListed settings trace → IsPrinted trace text → length text ≤ 67 * side_count trace.width trace.height + 30
certificates_text_most settings trace text can printed =
    let all = certificates_most trace.width trace.height settings trace.paths trace.polygons printed.paths can.wide can.high can.polygons can.closed can.small.each printed.certified in
    let same = all.0 in
    let lines = all.1 in
    let width = side_most trace.width can.wide in
    let height = side_most trace.height can.high in
    let count = count_text_most (length printed.paths) (omega (arith, few_paths trace.width trace.height trace.paths can.wide can.high can.small)) in
    let few = can.small.together in
    let is = ap length printed.is in
    let whole = proofs_length trace.width trace.height printed.paths in
    omega arith
  where
    proofs_length : (w h : ℕ) (paths : List Certified) → length (proofs_text w h paths) ≡ 10 + length (decimal w) + length (decimal h) + length (decimal (length paths)) + length (flat_map certified_text paths)
    proofs_length w h paths =
        rw (
          length-append (codes "proofs ") (decimal w ++ (codes " " ++ (decimal h ++ (codes " " ++ (decimal (length paths) ++ (codes "\n" ++ flat_map certified_text paths)))))),
          length-append (decimal w) (codes " " ++ (decimal h ++ (codes " " ++ (decimal (length paths) ++ (codes "\n" ++ flat_map certified_text paths))))),
          length-append (codes " ") (decimal h ++ (codes " " ++ (decimal (length paths) ++ (codes "\n" ++ flat_map certified_text paths)))),
          length-append (decimal h) (codes " " ++ (decimal (length paths) ++ (codes "\n" ++ flat_map certified_text paths))),
          length-append (codes " ") (decimal (length paths) ++ (codes "\n" ++ flat_map certified_text paths)),
          length-append (decimal (length paths)) (codes "\n" ++ flat_map certified_text paths),
          length-append (codes "\n") (flat_map certified_text paths),
        )
        (omega arith)
