-- What is taken away of the edges along a closed walk's lines, corner by corner. The words that hold edges stand in blocks.
use Rattle.std.specs.Prelude.{◌≡◌, ◌^◌, ℕ, ◌+◌, ◌<◌, Bool, not, ◌&&◌, nat_lt, List, All, drop, slice_index_or, count_by}
use Rattle.pt_core.specs.ClosedWalk.{origin, IsClosedWalk}
use Rattle.pt_core.specs.declared.point.Point.{Point}
use Rattle.boundary_edges.specs.GridEdges.{GridEdge}
use Rattle.boundary_edges.specs.Inside.{lines_of, lines_to}
use Rattle.boundary_edges.specs.Inner.Blocks.{spread, AreBlocks}
use Rattle.boundary_edges.specs.Inner.BoundaryBits.{has_edge, is_along, FitsStrips}

-- words of this number, in strips of so many rows, have room for the edges of a closed walk's corners
pub record AreWordsFor (points : List Point) (rows size : ℕ) : Type 0 where
  pub few : rows < 2 ^ 16
  pub closed : IsClosedWalk points
  pub room : All (FitsStrips rows size) points

-- corner i of a walk
abbrev pub corner_of : List Point → ℕ → Point
corner_of points i = slice_index_or points i origin

-- the lines of a closed walk from its corner i on
abbrev pub lines_from : List Point → ℕ → List GridEdge
lines_from points i = lines_to (corner_of points 0) (corner_of points i) (drop (i + 1) points)

-- the edge of a kind in a column and a row lies along one of the lines
abbrev pub is_along_any : List GridEdge → ℕ → ℕ → ℕ → Bool
is_along_any lines k x y = nat_lt 0 (count_by (is_along k x y) lines)

-- of the edges that these words of blocks hold, those that pass a test are taken away, and no others
pub record AreTakenBy (rows : ℕ) (starts : List ℕ) (test : ℕ → ℕ → ℕ → Bool) (old new : List ℕ) : Type 0 where
  pub blocks : AreBlocks starts new
  pub edges : (k u v : ℕ) → k < 2 → has_edge rows (spread starts new) k u v ≡ has_edge rows (spread starts old) k u v && not (test k u v)

-- The edges along a closed walk's lines up to its corner j are taken away. Others are left, except those along the lines that
-- follow, of which nothing is said.
pub record AreLinesTaken (rows : ℕ) (starts : List ℕ) (points : List Point) (j : ℕ) (old new : List ℕ) : Type 0 where
  pub blocks : AreBlocks starts new
  pub edges : (k u v : ℕ) → k < 2
      → has_edge rows (spread starts new) k u v && not (is_along_any (lines_from points j) k u v)
      ≡ has_edge rows (spread starts old) k u v && not (is_along_any (lines_of points) k u v)
