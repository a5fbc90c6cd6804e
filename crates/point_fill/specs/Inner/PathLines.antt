-- The lines of paths in a points text.
use Rattle.std.specs.Prelude.{◌≡◌, ℕ, List, ◌∷◌, ◌++◌, length, drop, flat_map, All}
use Rattle.list_reader.specs.Inner.TextParts.{IsPart}
use Rattle.pt_base.specs.PointsText.{point_text, path_text}
use Rattle.pt_core.specs.declared.path.Path.{Path}
use Rattle.pt_core.specs.declared.point.Point.{Point}
use Rattle.point_fill.specs.PointsFile.{IsLoop, IsToldPath}

-- the bytes begin with the points of a loop and the end of the line, followed by `rest`
pub record IsLoopLine (width height : ℕ) (bytes : List ℕ) (points : List Point) (rest : List ℕ) : Type 0 where
  pub is : bytes ≡ flat_map point_text points ++ 10 ∷ rest
  pub loop : IsLoop width height points

-- the bytes begin with the line of a path, followed by `rest`
abbrev pub IsPathLine : ℕ → ℕ → List ℕ → Path → List ℕ → Type 0
IsPathLine width height = IsPart path_text (IsToldPath width height)

-- these `count` paths are all that is left of the text, from index `at` on
pub record ArePathsAt (text : List ℕ) (at count width height : ℕ) (paths : List Path) : Type 0 where
  pub count_is : length paths ≡ count
  pub told : All (IsToldPath width height) paths
  pub spelled : drop at text ≡ flat_map path_text paths
