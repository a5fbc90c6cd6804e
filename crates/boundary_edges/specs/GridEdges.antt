-- Unit edges of the grid without a direction, each between two pixels (Selinger, "Potrace", 2003,
-- section 2.1.1).
use Rattle.std.specs.Prelude.{ℕ, suc, Bool, false, ◌&&◌, nat_eq}
use Rattle.bit_image.specs.Image.{Image, south_west, differ}

-- `upright x y` is the left side of pixel (x, y), and `level x y` is its lower side
pub data GridEdge : Type 0 where
  upright level : ℕ → ℕ → GridEdge

-- the two are one line
abbrev pub same_line : GridEdge → GridEdge → Bool
same_line (upright x y) (upright u v) = nat_eq x u && nat_eq y v
same_line (level x y) (level u v) = nat_eq x u && nat_eq y v
same_line (upright x y) (level u v) = false
same_line (level x y) (upright u v) = false

-- the line has a black pixel on one of its sides and a white one on the other
abbrev pub is_edge : Image → GridEdge → Bool
is_edge b (upright x y) = differ (south_west b x (suc y)) (south_west b (suc x) (suc y))
is_edge b (level x y) = differ (south_west b (suc x) y) (south_west b (suc x) (suc y))

-- the line is upright, in row y
abbrev pub is_in_row : ℕ → GridEdge → Bool
is_in_row y (upright u v) = nat_eq v y
is_in_row y (level u v) = false
