-- The text that a page's certificates are written as.
use Rattle.std.specs.Prelude.{◌≡◌, ℕ, List, [], ◌∷◌}
use Rattle.pt_core.specs.declared.trace.Trace.{Trace}
use Rattle.pt_core.specs.declared.path.Path.{Path}
use Rattle.pt_core.specs.declared.polygon.Polygon.{Polygon}
use Rattle.outline_check.specs.Certificate.{AreRightLabels}
use Rattle.outline_check.specs.ProofsText.{Certified, proofs_text}

-- the paths with their polygons and their right labels
abbrev pub AreCertified : List Path → List Polygon → List Certified → Type 0
AreCertified [] [] [] = Unit {0}
AreCertified (path ∷ paths) (polygon ∷ polygons) (c ∷ rest) =
    (c.points ≡ path.points) × (c.at ≡ polygon.at) × AreRightLabels path.points c.labels × AreCertified paths polygons rest
AreCertified _ _ _ = ⊥

-- the text is that of all paths
pub record IsPrinted (trace : Trace) (text : List ℕ) : Type 0 where
  pub paths : List Certified
  pub certified : AreCertified trace.paths trace.polygons paths
  pub is : text ≡ proofs_text trace.width trace.height paths
