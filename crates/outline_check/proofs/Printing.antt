-- Paths that are written one after another.
use Rattle.std.proofs.Common.{◌≡◌, ℕ, ◌+◌, ◌<◌, ◌≤◌, List, [], ◌∷◌, ◌++◌, length, take, get_or, refl, ap, sym, ◌∙◌, subst, append_assoc, flat_map, arith}
use Rattle.std.proofs.lemmas.Grind.{flat_map-append}
use Rattle.std.proofs.lemmas.List.{append-nil, take_more, take_all}
use Rattle.pt_core.specs.declared.path.Path.{Path}
use Rattle.pt_core.specs.declared.polygon.Polygon.{Polygon}
use Rattle.pt_core.specs.declared.trace.Trace.{Trace}
use Rattle.outline_check.specs.declared.label.Label.{Label}
use Rattle.outline_check.specs.Certificate.{AreRightLabels}
use Rattle.outline_check.specs.Inner.Printed.{proofs_head, IsPrintedPath}
use Rattle.outline_check.specs.Printed.{IsPrinted, AreCertified}
use Rattle.outline_check.specs.ProofsText.{Certified, certified_text}

-- one more path
certified_more : (ps : List Path) (qs : List Polygon) (cs : List Certified) (path : Path) (polygon : Polygon) (labels : List Label)
    → AreRightLabels path.points labels → AreCertified ps qs cs
    → AreCertified (ps ++ path ∷ []) (qs ++ polygon ∷ []) (cs ++ record { points = path.points; at = polygon.at; labels = labels } ∷ [])
certified_more [] [] [] path polygon labels right h = (refl, refl, right, tt)
certified_more [] [] (c ∷ cs) path polygon labels right h = absurd h
certified_more [] (q ∷ qs) [] path polygon labels right h = absurd h
certified_more [] (q ∷ qs) (c ∷ cs) path polygon labels right h = absurd h
certified_more (p ∷ ps) [] [] path polygon labels right h = absurd h
certified_more (p ∷ ps) [] (c ∷ cs) path polygon labels right h = absurd h
certified_more (p ∷ ps) (q ∷ qs) [] path polygon labels right h = absurd h
certified_more (p ∷ ps) (q ∷ qs) (c ∷ cs) path polygon labels right h =
    (h.0, h.1, h.2, certified_more ps qs cs path polygon labels right h.3)

-- there are as many
certified_count : (ps : List Path) (qs : List Polygon) (cs : List Certified) → AreCertified ps qs cs → length cs ≡ length ps
certified_count [] [] [] h = refl
certified_count [] [] (c ∷ cs) h = absurd h
certified_count [] (q ∷ qs) [] h = absurd h
certified_count [] (q ∷ qs) (c ∷ cs) h = absurd h
certified_count (p ∷ ps) [] [] h = absurd h
certified_count (p ∷ ps) [] (c ∷ cs) h = absurd h
certified_count (p ∷ ps) (q ∷ qs) [] h = absurd h
certified_count (p ∷ ps) (q ∷ qs) (c ∷ cs) h = omega (arith, certified_count ps qs cs h.3)

-- the first k paths were written
pub record IsPrinting (trace : Trace) (k : ℕ) (out : List ℕ) : Type 0 where
  pub paths : List Certified
  pub certified : AreCertified (take k trace.paths) (take k trace.polygons) paths
  pub is : out ≡ proofs_head trace.width trace.height (length trace.paths) ++ flat_map certified_text paths

pub printing_none : (trace : Trace) (none_yet out : List ℕ) → none_yet ≡ [] → out ≡ none_yet ++ proofs_head trace.width trace.height (length trace.paths) → IsPrinting trace 0 out
printing_none trace none_yet out empty is = record {
  paths = [];
  certified = tt;
  is = is ∙ ap (λ l. l ++ proofs_head trace.width trace.height (length trace.paths)) empty ∙ sym (append-nil (proofs_head trace.width trace.height (length trace.paths)));
}

pub printing_more : (trace : Trace) (k : ℕ) (out now : List ℕ) (path : Path) (polygon : Polygon) → k < length trace.paths → k < length trace.polygons
    → get_or trace.paths k path ≡ path → get_or trace.polygons k polygon ≡ polygon
    → IsPrinting trace k out → IsPrintedPath path.points polygon.at out now → IsPrinting trace (k + 1) now
printing_more trace k out now path polygon inside also is_path is_polygon so_far printed =
    let c : Certified = record { points = path.points; at = polygon.at; labels = printed.labels } in
    let ps : take (k + 1) trace.paths ≡ take k trace.paths ++ path ∷ [] = take_more trace.paths k path inside ∙ ap (λ p. take k trace.paths ++ p ∷ []) is_path in
    let qs : take (k + 1) trace.polygons ≡ take k trace.polygons ++ polygon ∷ [] = take_more trace.polygons k polygon also ∙ ap (λ q. take k trace.polygons ++ q ∷ []) is_polygon in
    let P : List Path → Type 0 = λ l. AreCertified l (take (k + 1) trace.polygons) (so_far.paths ++ c ∷ []) in
    let Q : List Polygon → Type 0 = λ l. AreCertified (take k trace.paths ++ path ∷ []) l (so_far.paths ++ c ∷ []) in
    record {
      paths = so_far.paths ++ c ∷ [];
      certified = subst P (sym ps) (subst Q (sym qs) (certified_more (take k trace.paths) (take k trace.polygons) so_far.paths path polygon printed.labels printed.right so_far.certified));
      is = printed.is ∙ ap (λ l. l ++ certified_text c) so_far.is
          ∙ append_assoc (proofs_head trace.width trace.height (length trace.paths)) (flat_map certified_text so_far.paths) (certified_text c)
          ∙ ap (λ l. proofs_head trace.width trace.height (length trace.paths) ++ l)
          (sym (flat_map-append certified_text so_far.paths (c ∷ []) ∙ ap (λ l. flat_map certified_text so_far.paths ++ l) (append-nil (certified_text c))));
    }

pub printing_all : (trace : Trace) (k : ℕ) (out : List ℕ) → length trace.paths ≤ k → length trace.polygons ≤ k → IsPrinting trace k out → IsPrinted trace out
printing_all trace k out past also so_far =
    let ps = take_all k trace.paths past in
    let qs = take_all k trace.polygons also in
    let P : List Path → Type 0 = λ l. AreCertified l (take k trace.polygons) so_far.paths in
    let Q : List Polygon → Type 0 = λ l. AreCertified trace.paths l so_far.paths in
    let all = subst Q qs (subst P ps so_far.certified) in
    let len = certified_count trace.paths trace.polygons so_far.paths all in
    record {
      paths = so_far.paths;
      certified = all;
      is = so_far.is ∙ ap (λ n. proofs_head trace.width trace.height n ++ flat_map certified_text so_far.paths) (sym len) ∙ simp append_assoc;
    }
