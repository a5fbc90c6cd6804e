-- The pixels inside a path, by the even-odd rule of vector graphics (Selinger, "Potrace", 2003, section
-- 2.1.1). The rule looks along the row to the left and not along any ray, and an edge at column x
-- counts, since it is the pixel's own left side.
use Rattle.std.specs.Prelude.{ℕ, ◌%◌, min, Bool, false, cond, nat_eq, nat_abs, List, [], ◌∷◌, count_by}
use Rattle.pt_core.specs.declared.point.Point.{Point}
use Rattle.bit_image.specs.Image.{Image, is_from}
use Rattle.turn_policies.specs.Majority.{count_below, sum_below}
use Rattle.boundary_edges.specs.GridEdges.{GridEdge, upright, level}

-- the line between corners (x, y) and (u, v), which are one step apart
abbrev pub line_at : ℕ → ℕ → ℕ → ℕ → GridEdge
line_at x y u v = cond (nat_eq x u) (upright x (min y v)) (level (min x u) y)

-- the line between two points that are one step apart (no path has a coordinate below 0)
abbrev pub line_between : Point → Point → GridEdge
line_between p q = line_at (nat_abs p.x) (nat_abs p.y) (nat_abs q.x) (nat_abs q.y)

-- the lines from each point to the next, and from the last one to `end`
abbrev pub lines_to : Point → Point → List Point → List GridEdge
lines_to end p [] = line_between p end ∷ []
lines_to end p (q ∷ qs) = line_between p q ∷ lines_to end q qs

-- the lines of a path: from each point to the next, and from the last one back to the first
abbrev pub lines_of : List Point → List GridEdge
lines_of [] = []
lines_of (p ∷ ps) = lines_to p p ps

-- on the way along row y from the left into pixel (x, y) the line is crossed
abbrev pub is_crossed : ℕ → ℕ → GridEdge → Bool
is_crossed x y (upright u v) = is_from u v x y
is_crossed x y (level u v) = false

-- the number is odd
abbrev pub is_odd : ℕ → Bool
is_odd n = nat_eq (n % 2) 1

-- the pixels inside a path of these points: those into which an odd number of its lines is crossed
abbrev pub inside : List Point → Image
inside points x y = is_odd (count_by (is_crossed x y) (lines_of points))

-- how many pixels of the first columns and the first rows are black
abbrev pub black_count : Image → ℕ → ℕ → ℕ
black_count b width height = sum_below height (λ y. count_below width (λ x. b x y))
