-- The first line of a certificates' text, and the lines of a path.
use Rattle.std.specs.Prelude.{◌≡◌, ℕ, List, ◌++◌, codes, decimal}
use Rattle.pt_core.specs.declared.point.Point.{Point}
use Rattle.outline_check.specs.declared.label.Label.{Label}
use Rattle.outline_check.specs.Certificate.{AreRightLabels}
use Rattle.outline_check.specs.ProofsText.{certified_text}

-- the first line
abbrev pub proofs_head : ℕ → ℕ → ℕ → List ℕ
proofs_head width height count =
    codes "proofs " ++ (decimal width ++ (codes " " ++ (decimal height ++ (codes " " ++ (decimal count ++ codes "\n")))))

-- a path with its polygon and its right labels was appended
pub record IsPrintedPath (points : List Point) (at before after : List ℕ) : Type 0 where
  pub labels : List Label
  pub right : AreRightLabels points labels
  pub is : after ≡ before ++ certified_text (record { points = points; at = at; labels = labels })
