-- The end of a boundary edge: it lies on the page, with black on the left of the edge that leads there and white on its right.
use Rattle.std.proofs.Common.{◌≡◌, ◌≤◌, ◌<◌, ℕ, zero, suc, pred, true, false, ◌+◌, ◌-◌, ap, sym, subst, ◌∙◌, arith}
use Rattle.std.proofs.lemmas.Bool.{false≢true}
use Rattle.bit_image.specs.Image.{Image, south_west}
use Rattle.turn_policies.specs.Boundary.{left_pixel, right_pixel}
use Rattle.turn_policies.specs.Heading.{end_x, end_y, opposite_of}
use Rattle.turn_policies.specs.declared.edge.Edge.{Edge}
use Rattle.turn_policies.specs.declared.heading.Dir.{Dir}
use Rattle.turn_policies.specs.declared.heading.Dir.TheVariants.{North, East, South, West}
use Rattle.path_decompose.specs.Inner.Trail.{edge_from}

pub black_at_end : (b : Image) (x y : ℕ) (d : Dir) → left_pixel (south_west b) x y d ≡ true
    → right_pixel (south_west b) (end_x x d) (end_y y d) (opposite_of d) ≡ true
black_at_end b x y North black = black
black_at_end b x y East black = black
black_at_end b x zero South black = absurd (false≢true black)
black_at_end b x (suc y) South black = black
black_at_end b zero y West black = absurd (false≢true black)
black_at_end b (suc x) y West black = black

pub white_at_end : (b : Image) (x y : ℕ) (d : Dir) → left_pixel (south_west b) x y d ≡ true → right_pixel (south_west b) x y d ≡ false
    → left_pixel (south_west b) (end_x x d) (end_y y d) (opposite_of d) ≡ false
white_at_end b x y North black white = white
white_at_end b x y East black white = white
white_at_end b x zero South black white = absurd (false≢true black)
white_at_end b x (suc y) South black white = white
white_at_end b zero y West black white = absurd (false≢true black)
white_at_end b (suc x) y West black white = white

-- the edge straight ahead, by the heading
pub ahead_is : (e : Edge) (d : Dir) (x y : ℕ) → e.heading ≡ d → x ≡ end_x e.x d → y ≡ end_y e.y d
    → edge_from x y e.heading ≡ edge_from (end_x e.x e.heading) (end_y e.y e.heading) e.heading
ahead_is e d x y is column row =
    ap (λ n. edge_from n y e.heading) (column ∙ ap (end_x e.x) (sym is)) ∙ ap (λ n. edge_from (end_x e.x e.heading) n e.heading) (row ∙ ap (end_y e.y) (sym is))
