-- A boundary edge and its end lie on the page.
use Rattle.std.proofs.Common.{◌≡◌, ℕ, zero, suc, ◌≤◌, true, arith}
use Rattle.std.proofs.lemmas.Bool.{false≢true}
use Rattle.bit_image.specs.Image.{Image, Fits, south_west}
use Rattle.turn_policies.specs.declared.heading.Dir.{Dir}
use Rattle.turn_policies.specs.declared.heading.Dir.TheVariants.{North, East, South, West}
use Rattle.turn_policies.specs.declared.edge.Edge.{Edge}
use Rattle.turn_policies.specs.Heading.{end_x, end_y}
use Rattle.turn_policies.specs.Boundary.{left_pixel, IsBoundary}

-- an edge and its end lie on a page of this width and height, and no coordinate falls below 0
pub record IsEdgeOnPage (w h x y : ℕ) (d : Dir) : Type 0 where
  pub x_in : x ≤ w
  pub y_in : y ≤ h
  pub end_x_in : end_x x d ≤ w
  pub end_y_in : end_y y d ≤ h
  pub west : d ≡ West → 1 ≤ x
  pub south : d ≡ South → 1 ≤ y

-- if the pixel left of and below a corner is black, the corner lies on the page and not on its left or lower
-- side
south_west-in : (b : Image) (w h x y : ℕ) → Fits b w h → south_west b x y ≡ true → (1 ≤ x) × (x ≤ w) × (1 ≤ y) × (y ≤ h)
south_west-in b w h zero y fits e = absurd (false≢true e)
south_west-in b w h (suc x) zero fits e = absurd (false≢true e)
south_west-in b w h (suc x) (suc y) fits e =
    let f = fits x y e in (omega arith, omega (arith, f.0), omega arith, omega (arith, f.1))

on_page : (b : Image) (w h x y : ℕ) (d : Dir) → Fits b w h → left_pixel (south_west b) x y d ≡ true → IsEdgeOnPage w h x y d
on_page b w h x y North fits e =
    let f = south_west-in b w h x (suc y) fits e in
    record { x_in = f.1; y_in = omega arith; end_x_in = f.1; end_y_in = f.3; west = λ k. cc; south = λ k. cc }
on_page b w h x y East fits e =
    let f = south_west-in b w h (suc x) (suc y) fits e in
    record { x_in = omega arith; y_in = omega arith; end_x_in = f.1; end_y_in = omega arith; west = λ k. cc; south = λ k. cc }
on_page b w h x zero South fits e = let f = south_west-in b w h (suc x) zero fits e in absurd (omega (arith, f.2))
on_page b w h x (suc y) South fits e =
    let f = south_west-in b w h (suc x) (suc y) fits e in
    record { x_in = omega arith; y_in = f.3; end_x_in = omega arith; end_y_in = omega arith; west = λ k. cc; south = λ k. omega arith }
on_page b w h zero y West fits e = absurd (false≢true e)
on_page b w h (suc x) y West fits e =
    let f = south_west-in b w h (suc x) y fits e in
    record { x_in = f.1; y_in = f.3; end_x_in = omega arith; end_y_in = f.3; west = λ k. omega arith; south = λ k. cc }

-- a boundary edge lies on the page
pub IsEdgeOnPage-boundary : (b : Image) (w h : ℕ) (e : Edge) → Fits b w h → IsBoundary b e → IsEdgeOnPage w h e.x e.y e.heading
IsEdgeOnPage-boundary b w h e fits edge = on_page b w h e.x e.y e.heading fits edge.black_left
