-- The bounding box of an Encapsulated PostScript file (Encapsulated PostScript File Format, version 3.0: the two comments
-- that each such file has). Covered are files whose first line is the version, and whose second one is the box, in whole
-- numbers without a sign, with one space before each. Outside are a box further down, or left to the end, and carriage
-- returns.
use Rattle.std.specs.Prelude.{ℕ, ◌&&◌, nat_le, if◌then◌else◌, List, [], ◌∷◌, codes, Option, Some, None, bytes_eq}
use Rattle.document_readings.specs.WholeNumbers.{natural_of}
use Rattle.document_readings.specs.TextLines.{spaced_words, text_lines}

-- the lower left corner and the upper right one, in points
pub record EpsBox : Type 0 where
  pub left : ℕ
  pub bottom : ℕ
  pub right : ℕ
  pub top : ℕ

-- four numbers, of which none on the right or at the top is less than the one on the left or at the bottom
abbrev pub box_by : Option ℕ → Option ℕ → Option ℕ → Option ℕ → Option EpsBox
box_by (Some left) (Some bottom) (Some right) (Some top) =
    if nat_le left right && nat_le bottom top then Some (record { left = left; bottom = bottom; right = right; top = top }) else None
box_by left bottom right top = None

-- the box of the words of a line
abbrev pub box_in : List (List ℕ) → Option EpsBox
box_in (first ∷ left ∷ bottom ∷ right ∷ top ∷ []) =
    if bytes_eq first (codes "%%BoundingBox:") then box_by (natural_of left) (natural_of bottom) (natural_of right) (natural_of top) else None
box_in words = None

-- the box of the first two lines
abbrev pub box_of_lines : List (List ℕ) → Option EpsBox
box_of_lines (first ∷ second ∷ lines) = if bytes_eq first (codes "%!PS-Adobe-3.0 EPSF-3.0") then box_in (spaced_words second) else None
box_of_lines lines = None

-- the bounding box of a file
abbrev pub eps_box : List ℕ → Option EpsBox
eps_box text = box_of_lines (text_lines text)
