-- Outlines that are known of paths, and are taken for their copies.
use Rattle.std.specs.Prelude.{◌≡◌, ℤ, Contains, List, map}
use Rattle.pt_core.specs.declared.path.Path.{Path}
use Rattle.pt_core.specs.declared.piece.Piece.{Piece}
use Rattle.pt_core.specs.declared.point.Point.{Point}
use Rattle.pt_core.specs.declared.settings.Settings.{Settings}
use Rattle.path_copies.specs.declared.known.KnownPath.{KnownPath}
use Rattle.outline_copies.specs.Moved.{AreMoved, in_units, piece_moved_by}
use Rattle.page_trace.specs.Inner.Drawing.{IsOutlineAlong}

-- what was found are the pieces of the outline along a path of these points
pub record HasOutline (settings : Settings) (known : KnownPath (List Piece)) : Type 0 where
  pub path : Path
  pub points : path.points ≡ known.points
  pub along : IsOutlineAlong settings path known.found

-- the pieces are those of a known path, moved by as much as these points
pub record AreOfKnown (all : List (KnownPath (List Piece))) (points : List Point) (pieces : List Piece) : Type 0 where
  pub known : KnownPath (List Piece)
  pub right : ℤ
  pub up : ℤ
  pub among : Contains all known
  pub are_moved : AreMoved right up known.points points
  pub is : pieces ≡ map (piece_moved_by (in_units right) (in_units up)) known.found
