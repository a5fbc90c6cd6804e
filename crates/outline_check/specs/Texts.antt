-- Which texts are certificates' texts: those of numbers in their ranges.
use Rattle.std.specs.Prelude.{◌≡◌, ℕ, ◌<◌, ◌≤◌, ◌^◌, List, All, length}
use Rattle.pt_core.specs.declared.limits.TheConstants.{LONGEST_SIDE}
use Rattle.list_reader.specs.PagePoints.{IsInPage, IsIndex}
use Rattle.outline_check.specs.declared.label.Label.{Label}
use Rattle.outline_check.specs.ProofsText.{Certified, proofs_text}

-- a label's count fits 32 bits, and its cost 64
pub record IsShortLabel (l : Label) : Type 0 where
  pub count : l.count < 2 ^ 32
  pub cost : l.cost < 2 ^ 64

-- each line has an entry, and each entry is in its range
pub record AreInRanges (width height : ℕ) (c : Certified) : Type 0 where
  pub some_point : 1 ≤ length c.points
  pub points : All (IsInPage width height) c.points
  pub some_index : 1 ≤ length c.at
  pub at : All IsIndex c.at
  pub some_label : 1 ≤ length c.labels
  pub labels : All IsShortLabel c.labels

-- the text tells of a page with these sides, and of these paths with their certificates
pub record IsProofs (text : List ℕ) (width height : ℕ) (paths : List Certified) : Type 0 where
  pub is : text ≡ proofs_text width height paths
  pub some_width : 1 ≤ width
  pub wide : width ≤ LONGEST_SIDE
  pub some_height : 1 ≤ height
  pub high : height ≤ LONGEST_SIDE
  pub few : length paths < 2 ^ 32
  pub in_range : All (AreInRanges width height) paths
