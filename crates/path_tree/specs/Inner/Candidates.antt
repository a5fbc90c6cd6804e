-- Starts that may lie inside a path, given the path's bounds.
use Rattle.std.specs.Prelude.{ℕ, ◌≤◌, ◌/◌, ◌%◌, Bool, ◌&&◌, nat_abs, nat_le, nat_lt, List}
use Rattle.pt_core.specs.declared.point.Point.{Point}
use Rattle.path_decompose.specs.Inside.{inside}
use Rattle.path_tree.specs.declared.bounds.Bounds.{Bounds}
use Rattle.path_tree.specs.declared.starts.PathStart.{PathStart}
use Rattle.path_tree.specs.declared.starts.TheConstants.{ROW}

-- the bounds are rows of corners of a page
pub record IsPageBounds (bounds : Bounds) : Type 0 where
  pub bottom : bounds.bottom ≤ 32767
  pub top : bounds.top ≤ 32767

-- the point lies within the bounds
pub record IsInBounds (bounds : Bounds) (p : Point) : Type 0 where
  pub left : bounds.left ≤ nat_abs p.x
  pub right : nat_abs p.x ≤ bounds.right
  pub bottom : bounds.bottom ≤ nat_abs p.y
  pub top : nat_abs p.y ≤ bounds.top

-- the start belongs to a path after path `number`, and its column lies within the bounds
abbrev pub is_candidate : ℕ → Bounds → PathStart → Bool
is_candidate number bounds start = nat_lt number start.path && (nat_le bounds.left (start.place % ROW) && nat_lt (start.place % ROW) bounds.right)

-- the start belongs to a path after path `number`, and it lies inside the path with these points
abbrev pub is_held : ℕ → List Point → PathStart → Bool
is_held number points start = nat_lt number start.path && inside points (start.place % ROW) (start.place / ROW)
