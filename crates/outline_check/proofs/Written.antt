-- The text that is written of a trace: there is one, and it is right where the polygons are best.
use Rattle.std.proofs.Common.{◌≡◌, ℕ, ◌<◌, ◌≤◌, ◌^◌, List, [], ◌∷◌, length, refl, ap, sym, ◌∙◌, subst, arith}
use Rattle.std.proofs.lemmas.List.{get_or_default}
use Rattle.std.proofs.lemmas.List.Elements.{All-nil, All-cons, All-head, All-tail}
use Rattle.std.specs.List.{All, AllZip}
use Rattle.pt_core.specs.ClosedWalk.{IsClosedWalk}
use Rattle.pt_core.specs.declared.limits.TheConstants.{LONGEST_SIDE}
use Rattle.pt_core.specs.declared.path.Path.{Path}
use Rattle.pt_core.specs.declared.point.Point.{Point}
use Rattle.pt_core.specs.declared.polygon.Polygon.{Polygon}
use Rattle.pt_core.specs.declared.trace.Trace.{Trace}
use Rattle.polygon_search.specs.Polygon.{IsBestPolygon}
use Rattle.polygon_search.proofs.Vertices.{some_vertices, vertices_below}
use Rattle.outline_check.specs.declared.label.Label.{Label}
use Rattle.outline_check.specs.declared.verdict.Verdict.TheVariants.{Right}
use Rattle.outline_check.specs.Certificate.{AreRightLabels}
use Rattle.outline_check.specs.Labels.{no_label}
use Rattle.outline_check.specs.Printed.{AreCertified, IsPrinted}
use Rattle.outline_check.specs.ProofsText.{Certified, proofs_text}
use Rattle.list_reader.specs.PagePoints.{IsInPage}
use Rattle.outline_check.specs.Texts.{AreInRanges, IsShortLabel}
use Rattle.outline_check.specs.Verdicts.{IsGood, IsVerdict}
use Rattle.outline_check.proofs.Exists.{certificate_found, labels_found, one_list}
use Rattle.outline_check.proofs.Short.{short}

certified_same : (c d : Certified) → c.points ≡ d.points → c.at ≡ d.at → c.labels ≡ d.labels → c ≡ d
certified_same c d points at labels =
    ap (λ v. record c { points = v }) points ∙ ap (λ v. record c { points = d.points; at = v }) at ∙ ap (λ v. record d { labels = v }) labels

-- the paths have one list of certificates
certified_one : (ps : List Path) (qs : List Polygon) (cs ds : List Certified) → AreCertified ps qs cs → AreCertified ps qs ds → cs ≡ ds
certified_one [] [] [] [] a b = refl
certified_one [] [] [] (d ∷ ds) a b = absurd b
certified_one [] [] (c ∷ cs) ds a b = absurd a
certified_one [] (q ∷ qs) [] ds a b = absurd a
certified_one [] (q ∷ qs) (c ∷ cs) ds a b = absurd a
certified_one (p ∷ ps) [] [] ds a b = absurd a
certified_one (p ∷ ps) [] (c ∷ cs) ds a b = absurd a
certified_one (p ∷ ps) (q ∷ qs) [] ds a b = absurd a
certified_one (p ∷ ps) (q ∷ qs) (c ∷ cs) [] a b = absurd b
certified_one (p ∷ ps) (q ∷ qs) (c ∷ cs) (d ∷ ds) a b =
    let first = certified_same c d (a.0 ∙ sym b.0) (a.1 ∙ sym b.1) (one_list p.points c.labels d.labels a.2 b.2) in
    ap (λ x. x ∷ cs) first ∙ ap (λ xs. d ∷ xs) (certified_one ps qs cs ds a.3 b.3)

pub one_text : (trace : Trace) (text other : List ℕ) → IsPrinted trace text → IsPrinted trace other → text ≡ other
one_text trace text other this that =
    this.is
    ∙ ap (proofs_text trace.width trace.height) (certified_one trace.paths trace.polygons this.paths that.paths this.certified that.certified)
    ∙ sym that.is

-- closed walks have certificates
certified_found : (ps : List Path) (qs : List Polygon) → length qs ≡ length ps → All (λ (p : Path). IsClosedWalk p.points) ps → (cs : List Certified) × AreCertified ps qs cs
certified_found [] [] same closed = ([], tt)
certified_found [] (q ∷ qs) same closed = absurd (omega arith)
certified_found (p ∷ ps) [] same closed = absurd (omega arith)
certified_found (p ∷ ps) (q ∷ qs) same closed =
    let labels = labels_found p.points (All-head (λ (p : Path). IsClosedWalk p.points) p ps closed) in
    let rest = certified_found ps qs (omega arith) (All-tail (λ (p : Path). IsClosedWalk p.points) p ps closed) in
    (record { points = p.points; at = q.at; labels = labels.0 } ∷ rest.0, (refl, refl, labels.1, rest.1))

pub text_found : (trace : Trace) → length trace.polygons ≡ length trace.paths → All (λ (p : Path). IsClosedWalk p.points) trace.paths
    → (text : List ℕ) × IsPrinted trace text
text_found trace same closed =
    let found = certified_found trace.paths trace.polygons same closed in
    (proofs_text trace.width trace.height found.0, record { paths = found.0; certified = found.1; is = refl })

module _ (width height : ℕ) where
  -- a best polygon with its right labels
  good_here : (points : List Point) (at : List ℕ) (labels : List Label) → IsClosedWalk points → All (IsInPage width height) points
      → IsBestPolygon points at → AreRightLabels points labels
      → AreInRanges width height (record { points = points; at = at; labels = labels }) × IsGood (record { points = points; at = at; labels = labels })
  good_here points at labels closed inside is_best right =
      let vertices = vertices_below points at is_best.is_walk in
      let some = some_vertices points at closed is_best.is_walk in (
        record {
          some_point = omega (arith, closed.least);
          points = inside;
          some_index = omega arith;
          at = λ k d below. omega (arith, vertices k d below, closed.most);
          some_label = omega (arith, right.places);
          labels = λ k d below. subst IsShortLabel (sym (get_or_default labels k d no_label below)) (short points closed labels right k below);
        },
        record { closed = closed; certificate = certificate_found points at labels closed right is_best },
      )

  all_good : (ps : List Path) (qs : List Polygon) (cs : List Certified) → All (λ (p : Path). IsClosedWalk p.points) ps
      → All (λ (p : Path). All (IsInPage width height) p.points) ps → AllZip (λ (p : Path) (q : Polygon). IsBestPolygon p.points q.at) ps qs
      → AreCertified ps qs cs → All (AreInRanges width height) cs × All IsGood cs × (length cs ≡ length ps)
  all_good [] [] [] closed inside is_best h = (All-nil (AreInRanges width height), All-nil IsGood, refl)
  all_good [] [] (c ∷ cs) closed inside is_best h = absurd h
  all_good [] (q ∷ qs) cs closed inside is_best h = absurd is_best
  all_good (p ∷ ps) [] cs closed inside is_best h = absurd is_best
  all_good (p ∷ ps) (q ∷ qs) [] closed inside is_best h = absurd h
  all_good (p ∷ ps) (q ∷ qs) (c ∷ cs) closed inside is_best h =
      let here : Certified = record { points = p.points; at = q.at; labels = c.labels } in
      let same : here ≡ c = certified_same here c (sym h.0) (sym h.1) refl in
      let good = good_here p.points q.at c.labels (All-head (λ (p : Path). IsClosedWalk p.points) p ps closed)
      (All-head (λ (p : Path). All (IsInPage width height) p.points) p ps inside) is_best.0 h.2 in
      let rest = all_good ps qs cs (All-tail (λ (p : Path). IsClosedWalk p.points) p ps closed)
      (All-tail (λ (p : Path). All (IsInPage width height) p.points) p ps inside) is_best.1 h.3 in (
        All-cons (AreInRanges width height) c cs (subst (AreInRanges width height) same good.0) rest.0,
        All-cons IsGood c cs (subst IsGood same good.1) rest.1,
        omega (arith, rest.2),
      )

-- what is written of best polygons is right
pub right_text : (trace : Trace) (text : List ℕ) → 1 ≤ trace.width → trace.width ≤ LONGEST_SIDE → 1 ≤ trace.height → trace.height ≤ LONGEST_SIDE
    → length trace.paths < 2 ^ 32 → All (λ (p : Path). IsClosedWalk p.points) trace.paths
    → All (λ (p : Path). All (IsInPage trace.width trace.height) p.points) trace.paths
    → AllZip (λ (p : Path) (q : Polygon). IsBestPolygon p.points q.at) trace.paths trace.polygons
    → IsPrinted trace text → IsVerdict text (Right (length trace.paths))
right_text trace text some_width wide some_height high few closed inside is_best printed =
    let good = all_good trace.width trace.height trace.paths trace.polygons printed.paths closed inside is_best printed.certified in (
      trace.width,
      trace.height,
      printed.paths,
      record {
        is = printed.is;
        some_width = some_width;
        wide = wide;
        some_height = some_height;
        high = high;
        few = omega (arith, good.2);
        in_range = good.0;
      },
      good.1,
      good.2,
    )
