-- What is noted down of a walk: the corners where its edges begin, and the columns of the upright lines that it goes up and down.
use Rattle.std.specs.Prelude.{◌≡◌, Bool, true, false, ℕ, ◌+◌, ◌<◌, List, ◌++◌, map, sum_by, All}
use Rattle.turn_policies.specs.declared.heading.Dir.{Dir}
use Rattle.turn_policies.specs.declared.heading.Dir.TheVariants.{North, East, South, West}
use Rattle.turn_policies.specs.declared.edge.Edge.{Edge}
use Rattle.path_decompose.specs.declared.trail.Trail.{Trail}
use Rattle.path_decompose.specs.Walk.{start_of, IsTrail}

-- the column x of a step that goes up
abbrev pub column_if_up : ℕ → Dir → ℕ
column_if_up x North = x
column_if_up x East = 0
column_if_up x South = 0
column_if_up x West = 0

-- and of one that goes down
abbrev pub column_if_down : ℕ → Dir → ℕ
column_if_down x North = 0
column_if_down x East = 0
column_if_down x South = x
column_if_down x West = 0

-- the column of an edge that goes up
abbrev pub column_up : Edge → ℕ
column_up e = column_if_up e.x e.heading

-- the column of an edge that goes down
abbrev pub column_down : Edge → ℕ
column_down e = column_if_down e.x e.heading

-- a heading is up or down, and not along a row
abbrev pub is_upright : Dir → Bool
is_upright North = true
is_upright East = false
is_upright South = true
is_upright West = false

-- the edge that leaves corner (x, y) with a heading
abbrev pub edge_from : ℕ → ℕ → Dir → Edge
edge_from x y d = record { x = x; y = y; heading = d }

-- both sums of a trail are below a number
pub record AreSumsBelow (most : ℕ) (trail : Trail) : Type 0 where
  pub up : trail.up < most
  pub down : trail.down < most

-- these edges are noted down on a trail, which so becomes the new one
pub record AreNoted (old new : Trail) (edges : List Edge) : Type 0 where
  pub points : new.points.items ≡ old.points.items ++ map start_of edges
  pub up : new.up ≡ old.up + sum_by column_up edges
  pub down : new.down ≡ old.down + sum_by column_down edges

-- A walk by `step` goes from an edge to another one through edges with one heading. They are noted down, and the other one isn't.
pub record IsStraightRun (step : Edge → Edge) (from after : Edge) (old new : Trail) : Type 0 where
  pub edges : List Edge
  pub straight : All (λ e. e.heading ≡ from.heading) edges
  pub trail : IsTrail step from edges after
  pub noted : AreNoted old new edges
