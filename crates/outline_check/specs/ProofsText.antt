-- The text of a page's certificates.
use Rattle.std.specs.Prelude.{ℕ, List, ◌++◌, length, codes, decimal, flat_map}
use Rattle.pt_core.specs.declared.point.Point.{Point}
use Rattle.pt_base.specs.PointsText.{point_text}
use Rattle.pt_base.specs.PolygonsText.{index_text}
use Rattle.outline_check.specs.declared.label.Label.{Label}

-- a path with its certificate
pub record Certified : Type 0 where
  pub points : List Point
  pub at : List ℕ
  pub labels : List Label

-- a space, and then the count and the cost with a colon between
abbrev pub label_text : Label → List ℕ
label_text l = codes " " ++ decimal l.count ++ codes ":" ++ decimal l.cost

-- a line: a word, and then the texts of values
abbrev pub word_line : {A : Type 0} → List ℕ → (A → List ℕ) → List A → List ℕ
word_line word text values = word ++ (flat_map text values ++ codes "\n")

-- three lines: the points, the indices of the polygon's vertices among them, and the labels
abbrev pub certified_text : Certified → List ℕ
certified_text c =
    word_line (codes "path") point_text c.points
    ++ (word_line (codes "at") index_text c.at ++ word_line (codes "labels") label_text c.labels)

-- a first line with the page's sides and the number of paths, and then three lines for each path
abbrev pub proofs_text : ℕ → ℕ → List Certified → List ℕ
proofs_text width height paths =
    codes "proofs " ++ (decimal width ++ (codes " " ++ (decimal height ++ (codes " " ++ (decimal (length paths) ++ (codes "\n"
    ++ flat_map certified_text paths))))))
