-- How many sides of pixels a page has, and how many of them lie between a black and a white pixel.
use Rattle.std.specs.Prelude.{ℕ, suc, ◌+◌, ◌*◌, List, sum_by, length}
use Rattle.pt_core.specs.declared.path.Path.{Path}
use Rattle.bit_image.specs.Image.{Image}
use Rattle.turn_policies.specs.Majority.{count_below, sum_below}
use Rattle.path_decompose.specs.GridEdges.{upright, level, is_edge}

-- the points of the paths together
abbrev pub point_count : List Path → ℕ
point_count paths = sum_by (λ path. length path.points) paths

-- the upright sides of a page's pixels that lie between black and white, and the level ones
abbrev pub edge_count : Image → ℕ → ℕ → ℕ
edge_count b width height =
    sum_below height (λ y. count_below (suc width) (λ x. is_edge b (upright x y)))
    + sum_below (suc height) (λ y. count_below width (λ x. is_edge b (level x y)))

-- all sides of a page's pixels, where two neighbours share one
abbrev pub side_count : ℕ → ℕ → ℕ
side_count width height = height * (width + 1) + (height + 1) * width
