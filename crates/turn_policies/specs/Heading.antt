-- The four directions along the unit grid, and the corner that a step in each direction leads to.
use Rattle.std.specs.Prelude.{ℕ, suc, pred}
use Rattle.turn_policies.specs.declared.heading.Dir.{Dir}
use Rattle.turn_policies.specs.declared.heading.Dir.TheVariants.{North, East, South, West}

-- a quarter turn to the left
abbrev pub left_of : Dir → Dir
left_of North = West
left_of East = North
left_of South = East
left_of West = South

-- a quarter turn to the right
abbrev pub right_of : Dir → Dir
right_of North = East
right_of East = South
right_of South = West
right_of West = North

-- half a turn
abbrev pub opposite_of : Dir → Dir
opposite_of North = South
opposite_of East = West
opposite_of South = North
opposite_of West = East

-- the column of the corner that a step from column x leads to
abbrev pub end_x : ℕ → Dir → ℕ
end_x x North = x
end_x x East = suc x
end_x x South = x
end_x x West = pred x

-- the row of the corner that a step from row y leads to
abbrev pub end_y : ℕ → Dir → ℕ
end_y y North = suc y
end_y y East = y
end_y y South = pred y
end_y y West = y
