-- Boundary edges: unit edges with black on the left and white on the right (Selinger, "Potrace",
-- 2003, section 2.1.1).
use Rattle.std.specs.Prelude.{◌≡◌, ℕ, suc, Bool, true, false}
use Rattle.bit_image.specs.Image.{Image, south_west}
use Rattle.turn_policies.specs.declared.heading.Dir.{Dir}
use Rattle.turn_policies.specs.declared.heading.Dir.TheVariants.{North, East, South, West}
use Rattle.turn_policies.specs.declared.edge.Edge.{Edge}

-- the pixel on the left of the edge that leaves corner (x, y) in a direction, if `c` gives the
-- pixel left of and below each corner
abbrev pub left_pixel : (ℕ → ℕ → Bool) → ℕ → ℕ → Dir → Bool
left_pixel c x y North = c x (suc y)
left_pixel c x y East = c (suc x) (suc y)
left_pixel c x y South = c (suc x) y
left_pixel c x y West = c x y

-- the pixel on the right of the edge that leaves corner (x, y) in a direction
abbrev pub right_pixel : (ℕ → ℕ → Bool) → ℕ → ℕ → Dir → Bool
right_pixel c x y North = c (suc x) (suc y)
right_pixel c x y East = c (suc x) y
right_pixel c x y South = c x y
right_pixel c x y West = c x (suc y)

-- the edge has black on its left and white on its right
pub record IsBoundary (b : Image) (e : Edge) : Type 0 where
  pub black_left : left_pixel (south_west b) e.x e.y e.heading ≡ true
  pub white_right : right_pixel (south_west b) e.x e.y e.heading ≡ false
