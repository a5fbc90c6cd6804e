-- The edge that follows a boundary edge is a boundary edge, and it doesn't go back.
use Rattle.std.proofs.Common.{◌≡◌, ◌≢◌, ℕ, zero, suc, Bool, true, false, refl, ap, sym, ◌∙◌}
use Rattle.std.proofs.lemmas.Bool.{false≢true}
use Rattle.pt_core.specs.declared.path.Sign.{Sign}
use Rattle.pt_core.specs.declared.policy.Policy.{Policy}
use Rattle.bit_image.specs.Image.{Image, south_west}
use Rattle.turn_policies.specs.declared.heading.Dir.{Dir}
use Rattle.turn_policies.specs.declared.heading.Dir.TheVariants.{North, East, South, West}
use Rattle.turn_policies.specs.declared.edge.Edge.{Edge}
use Rattle.turn_policies.specs.Heading.{left_of, right_of, opposite_of, end_x, end_y}
use Rattle.turn_policies.specs.Boundary.{left_pixel, right_pixel, IsBoundary}
use Rattle.turn_policies.specs.Majority.{major}
use Rattle.turn_policies.specs.Turn.{goes_right, turn_of, turn, next}

-- the pixel on the left of the edge that arrives at a corner
abbrev pub left_behind : (ℕ → ℕ → Bool) → ℕ → ℕ → Dir → Bool
left_behind c x y North = c x y
left_behind c x y East = c x (suc y)
left_behind c x y South = c (suc x) (suc y)
left_behind c x y West = c (suc x) y

-- the pixel on the right of the edge that arrives at a corner
abbrev pub right_behind : (ℕ → ℕ → Bool) → ℕ → ℕ → Dir → Bool
right_behind c x y North = c (suc x) y
right_behind c x y East = c x y
right_behind c x y South = c x (suc y)
right_behind c x y West = c (suc x) (suc y)

-- the edges to the left, right and ahead share pixels with the edge that arrives at a corner
pub left_pixel-left_of : (c : ℕ → ℕ → Bool) (x y : ℕ) (d : Dir) → left_pixel c x y (left_of d) ≡ left_behind c x y d
left_pixel-left_of c x y North = refl
left_pixel-left_of c x y East = refl
left_pixel-left_of c x y South = refl
left_pixel-left_of c x y West = refl

pub right_pixel-left_of : (c : ℕ → ℕ → Bool) (x y : ℕ) (d : Dir) → right_pixel c x y (left_of d) ≡ left_pixel c x y d
right_pixel-left_of c x y North = refl
right_pixel-left_of c x y East = refl
right_pixel-left_of c x y South = refl
right_pixel-left_of c x y West = refl

pub left_pixel-right_of : (c : ℕ → ℕ → Bool) (x y : ℕ) (d : Dir) → left_pixel c x y (right_of d) ≡ right_pixel c x y d
left_pixel-right_of c x y North = refl
left_pixel-right_of c x y East = refl
left_pixel-right_of c x y South = refl
left_pixel-right_of c x y West = refl

pub right_pixel-right_of : (c : ℕ → ℕ → Bool) (x y : ℕ) (d : Dir) → right_pixel c x y (right_of d) ≡ right_behind c x y d
right_pixel-right_of c x y North = refl
right_pixel-right_of c x y East = refl
right_pixel-right_of c x y South = refl
right_pixel-right_of c x y West = refl

-- no pixel outside the page is black, so a boundary edge's left pixel is the same seen from its end
pub left_behind-end : (b : Image) (x y : ℕ) (d : Dir) → left_pixel (south_west b) x y d ≡ true
    → left_behind (south_west b) (end_x x d) (end_y y d) d ≡ left_pixel (south_west b) x y d
left_behind-end b x y North h = refl
left_behind-end b x y East h = refl
left_behind-end b x zero South h = absurd (false≢true h)
left_behind-end b x (suc y) South h = refl
left_behind-end b zero y West h = absurd (false≢true h)
left_behind-end b (suc x) y West h = refl

pub right_behind-end : (b : Image) (x y : ℕ) (d : Dir) → left_pixel (south_west b) x y d ≡ true
    → right_behind (south_west b) (end_x x d) (end_y y d) d ≡ right_pixel (south_west b) x y d
right_behind-end b x y North h = refl
right_behind-end b x y East h = refl
right_behind-end b x zero South h = absurd (false≢true h)
right_behind-end b x (suc y) South h = refl
right_behind-end b zero y West h = absurd (false≢true h)
right_behind-end b (suc x) y West h = refl

-- after a turn the left pixel is black, for each line of the table
pub left_pixel-turn_of : (c : ℕ → ℕ → Bool) (x y : ℕ) (l r g : Bool) (d : Dir) → left_pixel c x y d ≡ l → right_pixel c x y d ≡ r
    → left_behind c x y d ≡ true → left_pixel c x y (turn_of l r g d) ≡ true
left_pixel-turn_of c x y false true true d el er h = left_pixel-right_of c x y d ∙ er
left_pixel-turn_of c x y false true false d el er h = left_pixel-left_of c x y d ∙ h
left_pixel-turn_of c x y true true g d el er h = left_pixel-right_of c x y d ∙ er
left_pixel-turn_of c x y false false g d el er h = left_pixel-left_of c x y d ∙ h
left_pixel-turn_of c x y true false g d el er h = el

-- after a turn the right pixel is white, for each line of the table
pub right_pixel-turn_of : (c : ℕ → ℕ → Bool) (x y : ℕ) (l r g : Bool) (d : Dir) → left_pixel c x y d ≡ l → right_pixel c x y d ≡ r
    → right_behind c x y d ≡ false → right_pixel c x y (turn_of l r g d) ≡ false
right_pixel-turn_of c x y false true true d el er h = right_pixel-right_of c x y d ∙ h
right_pixel-turn_of c x y false true false d el er h = right_pixel-left_of c x y d ∙ el
right_pixel-turn_of c x y true true g d el er h = right_pixel-right_of c x y d ∙ h
right_pixel-turn_of c x y false false g d el er h = right_pixel-left_of c x y d ∙ el
right_pixel-turn_of c x y true false g d el er h = er

-- the edge that follows a boundary edge is a boundary edge
pub next_boundary : (b : Image) (policy : Policy) (sign : Sign) (e : Edge) → IsBoundary b e → IsBoundary b (next b policy sign e)
next_boundary b policy sign e h =
    let x : ℕ = end_x e.x e.heading in
    let y : ℕ = end_y e.y e.heading in
    let right : Bool = goes_right policy sign (major b x y) in
    record {
      black_left =
          left_pixel-turn_of (south_west b) x y _ _ right e.heading refl refl
          (left_behind-end b e.x e.y e.heading h.black_left ∙ h.black_left);
      white_right =
          right_pixel-turn_of (south_west b) x y _ _ right e.heading refl refl
          (right_behind-end b e.x e.y e.heading h.black_left ∙ h.white_right);
    }

left_of≢opposite_of : (d : Dir) → left_of d ≢ opposite_of d
left_of≢opposite_of North e = cc
left_of≢opposite_of East e = cc
left_of≢opposite_of South e = cc
left_of≢opposite_of West e = cc

right_of≢opposite_of : (d : Dir) → right_of d ≢ opposite_of d
right_of≢opposite_of North e = cc
right_of≢opposite_of East e = cc
right_of≢opposite_of South e = cc
right_of≢opposite_of West e = cc

same≢opposite_of : (d : Dir) → d ≢ opposite_of d
same≢opposite_of North e = cc
same≢opposite_of East e = cc
same≢opposite_of South e = cc
same≢opposite_of West e = cc

-- no turn goes back
pub onwards : (l r right : Bool) (d : Dir) → turn_of l r right d ≢ opposite_of d
onwards false true true d = right_of≢opposite_of d
onwards false true false d = left_of≢opposite_of d
onwards true true right d = right_of≢opposite_of d
onwards false false right d = left_of≢opposite_of d
onwards true false right d = same≢opposite_of d

-- the edge that leaves an edge's end in the direction of the turn is the next one
pub next_is : (b : Image) (policy : Policy) (sign : Sign) (e n : Edge) (d : Dir) (x y : ℕ) → e.heading ≡ d → x ≡ end_x e.x d → y ≡ end_y e.y d
    → n.x ≡ x → n.y ≡ y → n.heading ≡ turn b policy sign x y d → n ≡ next b policy sign e
next_is b policy sign e n d x y is column row nx ny nh =
    let made : ℕ → ℕ → Dir → Edge = λ u v h. record { x = u; y = v; heading = h } in
    let u : x ≡ end_x e.x e.heading = column ∙ ap (end_x e.x) (sym is) in
    let v : y ≡ end_y e.y e.heading = row ∙ ap (end_y e.y) (sym is) in
    let h : n.heading ≡ turn b policy sign (end_x e.x e.heading) (end_y e.y e.heading) e.heading =
    nh ∙ ap (turn b policy sign x y) (sym is) ∙ ap (λ k. turn b policy sign k y e.heading) u ∙ ap (λ k. turn b policy sign (end_x e.x e.heading) k e.heading) v in
    ap (λ k. made k n.y n.heading) (nx ∙ u) ∙ ap (λ k. made (end_x e.x e.heading) k n.heading) (ny ∙ v) ∙ ap (made (end_x e.x e.heading) (end_y e.y e.heading)) h
