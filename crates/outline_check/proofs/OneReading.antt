-- A text is the certificates' text of one page at most.
use Rattle.std.proofs.Common.{◌≡◌, ℕ, List, [], ◌++◌, length, sym, ◌∙◌, subst, codes, flat_map, arith}
use Rattle.std.proofs.lemmas.List.{append-nil}
use Rattle.std.specs.List.{All}
use Rattle.polygon_search.specs.Polygon.{IsSegment, IsBestPolygon, penalty_of}
use Rattle.outline_check.specs.ProofsText.{Certified, certified_text}
use Rattle.outline_check.specs.Texts.{AreInRanges, IsProofs}
use Rattle.outline_check.specs.Verdicts.{IsVerdict}
use Rattle.outline_check.specs.declared.verdict.Verdict.TheVariants.{Right}
use Rattle.outline_check.proofs.Best.{best}
use Rattle.outline_check.proofs.Exists.{segment_goes_up}
use Rattle.list_reader.proofs.ListParts.{one_list_of_parts}
use Rattle.list_reader.proofs.SidesLines.{one_sides}
use Rattle.outline_check.proofs.GroupReading.{head_of, one_group}

pub one_reading : (text : List ℕ) (w h w' h' : ℕ) (ps qs : List Certified) → IsProofs text w h ps → IsProofs text w' h' qs → (w ≡ w') × (h ≡ h') × (ps ≡ qs)
one_reading text w h w' h' ps qs a b =
    let one = one_sides (codes "proofs ") text w h (length ps) (flat_map certified_text ps) w' h' (length qs) (flat_map certified_text qs) (head_of text w h ps a) (head_of text w' h' qs b) in
    let wide = a.wide in
    let high = a.high in
    let P : ℕ → Type 0 = λ n. All (AreInRanges n h') qs in
    let Q : ℕ → Type 0 = λ n. All (AreInRanges w n) qs in
    let inside = subst Q (sym one.1) (subst P (sym one.0) b.in_range) in
    let text_ps : flat_map certified_text ps ≡ flat_map certified_text ps ++ [] = sym (append-nil (flat_map certified_text ps)) in
    let text_qs : flat_map certified_text ps ≡ flat_map certified_text qs ++ [] = one.3 ∙ sym (append-nil (flat_map certified_text qs)) in
    (one.0, one.1, one_list_of_parts Certified certified_text (AreInRanges w h) (one_group w h (omega arith) (omega arith)) (flat_map certified_text ps) ps qs [] [] text_ps text_qs a.in_range inside one.2)

-- where all paths are good, all polygons are best
pub best_polygons : (text : List ℕ) (n w h : ℕ) (paths : List Certified) → IsVerdict text (Right n) → IsProofs text w h paths
    → All (λ c. IsBestPolygon c.points c.at) paths
best_polygons text n w h paths (x, y, others, proofs, good, len) is =
    let same = (one_reading text w h x y paths others is proofs).2 in
    subst (All (λ (c : Certified). IsBestPolygon c.points c.at)) (sym same) (λ k d below.
    let certificate = (good k d below).certificate in
    (best _ (IsSegment _) (penalty_of _) (segment_goes_up _) _ certificate.right _ certificate.leads).0)
