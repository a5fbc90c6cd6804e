-- Each boundary edge follows exactly one boundary edge: the table of turns, read backwards.
use Rattle.std.proofs.Common.{◌≡◌, ℕ, zero, suc, Bool, true, false, cond, refl, sym, ◌∙◌, ap}
use Rattle.std.proofs.lemmas.Bool.{false≢true}
use Rattle.pt_core.specs.declared.path.Sign.{Sign}
use Rattle.pt_core.specs.declared.policy.Policy.{Policy}
use Rattle.bit_image.specs.Image.{Image, south_west}
use Rattle.turn_policies.specs.declared.heading.Dir.{Dir}
use Rattle.turn_policies.specs.declared.heading.Dir.TheVariants.{North, East, South, West}
use Rattle.turn_policies.specs.declared.edge.Edge.{Edge}
use Rattle.turn_policies.specs.Heading.{left_of, right_of, opposite_of, end_x, end_y}
use Rattle.turn_policies.specs.Boundary.{left_pixel, right_pixel, IsBoundary}
use Rattle.turn_policies.specs.Majority.{major}
use Rattle.turn_policies.specs.Turn.{goes_right, turn_of, turn, next}
use Rattle.turn_policies.proofs.TurnedEdges.{left_behind, right_behind, left_pixel-left_of, right_pixel-left_of, left_pixel-right_of, right_pixel-right_of, left_behind-end, right_behind-end}

pub left_behind-left_of : (c : ℕ → ℕ → Bool) (x y : ℕ) (d : Dir) → left_behind c x y (left_of d) ≡ right_behind c x y d
left_behind-left_of c x y North = refl
left_behind-left_of c x y East = refl
left_behind-left_of c x y South = refl
left_behind-left_of c x y West = refl

pub right_behind-left_of : (c : ℕ → ℕ → Bool) (x y : ℕ) (d : Dir) → right_behind c x y (left_of d) ≡ right_pixel c x y d
right_behind-left_of c x y North = refl
right_behind-left_of c x y East = refl
right_behind-left_of c x y South = refl
right_behind-left_of c x y West = refl

pub left_behind-right_of : (c : ℕ → ℕ → Bool) (x y : ℕ) (d : Dir) → left_behind c x y (right_of d) ≡ left_pixel c x y d
left_behind-right_of c x y North = refl
left_behind-right_of c x y East = refl
left_behind-right_of c x y South = refl
left_behind-right_of c x y West = refl

pub right_behind-right_of : (c : ℕ → ℕ → Bool) (x y : ℕ) (d : Dir) → right_behind c x y (right_of d) ≡ left_behind c x y d
right_behind-right_of c x y North = refl
right_behind-right_of c x y East = refl
right_behind-right_of c x y South = refl
right_behind-right_of c x y West = refl

pub left_of-right_of : (d : Dir) → left_of (right_of d) ≡ d
left_of-right_of North = refl
left_of-right_of East = refl
left_of-right_of South = refl
left_of-right_of West = refl

pub right_of-left_of : (d : Dir) → right_of (left_of d) ≡ d
right_of-left_of North = refl
right_of-left_of East = refl
right_of-left_of South = refl
right_of-left_of West = refl

-- the heading of the previous edge, given the colours of the pixels that it leaves on its left and right
abbrev pub came_from : Bool → Bool → Bool → Dir → Dir
came_from true false right d = d
came_from true true right d = left_of d
came_from false false right d = right_of d
came_from false true right d = cond right (left_of d) (right_of d)

-- the edge that arrives at a corner with this heading
abbrev pub edge_to : ℕ → ℕ → Dir → Edge
edge_to x y d = record { x = end_x x (opposite_of d); y = end_y y (opposite_of d); heading = d }

-- the previous edge of a path
abbrev pub previous : Image → Policy → Sign → Edge → Edge
previous b policy sign e =
    edge_to e.x e.y
    (came_from (left_behind (south_west b) e.x e.y e.heading) (right_behind (south_west b) e.x e.y e.heading)
    (goes_right policy sign (major b e.x e.y)) e.heading)

came_from-at : (l l' r r' right : Bool) (d : Dir) → l ≡ l' → r ≡ r' → came_from l r right d ≡ came_from l' r' right d
came_from-at l l' r r' right d p q = ap (λ v. came_from v r right d) p ∙ ap (λ v. came_from l' v right d) q

pub came_from-turn_of : (c : ℕ → ℕ → Bool) (x y : ℕ) (l r right : Bool) (d : Dir) → left_pixel c x y d ≡ l → right_pixel c x y d ≡ r
    → left_behind c x y d ≡ true → right_behind c x y d ≡ false
    → came_from (left_behind c x y (turn_of l r right d)) (right_behind c x y (turn_of l r right d)) right (turn_of l r right d) ≡ d
came_from-turn_of c x y false true true d el er hl hr =
    came_from-at _ false _ true true (right_of d) (left_behind-right_of c x y d ∙ el) (right_behind-right_of c x y d ∙ hl) ∙ left_of-right_of d
came_from-turn_of c x y false true false d el er hl hr =
    came_from-at _ false _ true false (left_of d) (left_behind-left_of c x y d ∙ hr) (right_behind-left_of c x y d ∙ er) ∙ right_of-left_of d
came_from-turn_of c x y true true right d el er hl hr =
    came_from-at _ true _ true right (right_of d) (left_behind-right_of c x y d ∙ el) (right_behind-right_of c x y d ∙ hl) ∙ left_of-right_of d
came_from-turn_of c x y false false right d el er hl hr =
    came_from-at _ false _ false right (left_of d) (left_behind-left_of c x y d ∙ hr) (right_behind-left_of c x y d ∙ er) ∙ right_of-left_of d
came_from-turn_of c x y true false right d el er hl hr = came_from-at _ true _ false right d hl hr

-- a step back from the end of a boundary edge leads to its start
pub back_x : (b : Image) (x y : ℕ) (d : Dir) → left_pixel (south_west b) x y d ≡ true → end_x (end_x x d) (opposite_of d) ≡ x
back_x b x y North h = refl
back_x b x y East h = refl
back_x b x y South h = refl
back_x b zero y West h = absurd (false≢true h)
back_x b (suc x) y West h = refl

pub back_y : (b : Image) (x y : ℕ) (d : Dir) → left_pixel (south_west b) x y d ≡ true → end_y (end_y y d) (opposite_of d) ≡ y
back_y b x y North h = refl
back_y b x y East h = refl
back_y b x zero South h = absurd (false≢true h)
back_y b x (suc y) South h = refl
back_y b x y West h = refl

-- the edge that arrives at the end of an edge, with the same heading, is that edge
pub edge_to-end : (b : Image) (e : Edge) → left_pixel (south_west b) e.x e.y e.heading ≡ true
    → edge_to (end_x e.x e.heading) (end_y e.y e.heading) e.heading ≡ e
edge_to-end b e h =
    ap (λ u. record { x = u; y = end_y (end_y e.y e.heading) (opposite_of e.heading); heading = e.heading }) (back_x b e.x e.y e.heading h)
    ∙ ap (λ v. record { x = e.x; y = v; heading = e.heading }) (back_y b e.x e.y e.heading h)

-- the edge before the next one is the edge itself
pub previous-next : (b : Image) (policy : Policy) (sign : Sign) (e : Edge) → IsBoundary b e → previous b policy sign (next b policy sign e) ≡ e
previous-next b policy sign e h =
    let x : ℕ = end_x e.x e.heading in
    let y : ℕ = end_y e.y e.heading in
    ap (edge_to x y)
    (came_from-turn_of (south_west b) x y _ _ (goes_right policy sign (major b x y)) e.heading refl refl
    (left_behind-end b e.x e.y e.heading h.black_left ∙ h.black_left)
    (right_behind-end b e.x e.y e.heading h.black_left ∙ h.white_right))
    ∙ edge_to-end b e h.black_left

-- two boundary edges with the same next edge are equal
pub next_once : (b : Image) (policy : Policy) (sign : Sign) (d e : Edge) → IsBoundary b d → IsBoundary b e → next b policy sign d ≡ next b policy sign e → d ≡ e
next_once b policy sign d e hd he same =
    sym (previous-next b policy sign d hd) ∙ ap (previous b policy sign) same ∙ previous-next b policy sign e he

-- the pixel on the left of an edge that arrives at a corner, seen from the corner and from the edge's start
pub left_pixel-edge_to : (b : Image) (x y : ℕ) (d : Dir) → left_behind (south_west b) x y d ≡ true
    → left_pixel (south_west b) (end_x x (opposite_of d)) (end_y y (opposite_of d)) d ≡ left_behind (south_west b) x y d
left_pixel-edge_to b zero y North h = absurd (false≢true h)
left_pixel-edge_to b (suc x) zero North h = absurd (false≢true h)
left_pixel-edge_to b (suc x) (suc y) North h = refl
left_pixel-edge_to b zero y East h = absurd (false≢true h)
left_pixel-edge_to b (suc x) y East h = refl
left_pixel-edge_to b x y South h = refl
left_pixel-edge_to b x y West h = refl

pub right_pixel-edge_to : (b : Image) (x y : ℕ) (d : Dir) → left_behind (south_west b) x y d ≡ true
    → right_pixel (south_west b) (end_x x (opposite_of d)) (end_y y (opposite_of d)) d ≡ right_behind (south_west b) x y d
right_pixel-edge_to b zero y North h = absurd (false≢true h)
right_pixel-edge_to b (suc x) zero North h = absurd (false≢true h)
right_pixel-edge_to b (suc x) (suc y) North h = refl
right_pixel-edge_to b zero y East h = absurd (false≢true h)
right_pixel-edge_to b (suc x) y East h = refl
right_pixel-edge_to b x y South h = refl
right_pixel-edge_to b x y West h = refl

-- the pixels beside the previous edge, for each line of the table
left_behind-came_from : (c : ℕ → ℕ → Bool) (x y : ℕ) (l r right : Bool) (d : Dir) → left_behind c x y d ≡ l → right_behind c x y d ≡ r → left_pixel c x y d ≡ true
    → left_behind c x y (came_from l r right d) ≡ true
left_behind-came_from c x y true false right d el er h = el
left_behind-came_from c x y true true right d el er h = left_behind-left_of c x y d ∙ er
left_behind-came_from c x y false false right d el er h = left_behind-right_of c x y d ∙ h
left_behind-came_from c x y false true true d el er h = left_behind-left_of c x y d ∙ er
left_behind-came_from c x y false true false d el er h = left_behind-right_of c x y d ∙ h

right_behind-came_from : (c : ℕ → ℕ → Bool) (x y : ℕ) (l r right : Bool) (d : Dir) → left_behind c x y d ≡ l → right_behind c x y d ≡ r → right_pixel c x y d ≡ false
    → right_behind c x y (came_from l r right d) ≡ false
right_behind-came_from c x y true false right d el er h = er
right_behind-came_from c x y true true right d el er h = right_behind-left_of c x y d ∙ h
right_behind-came_from c x y false false right d el er h = right_behind-right_of c x y d ∙ el
right_behind-came_from c x y false true true d el er h = right_behind-left_of c x y d ∙ h
right_behind-came_from c x y false true false d el er h = right_behind-right_of c x y d ∙ el

turn_of-at : (l l' r r' right : Bool) (d : Dir) → l ≡ l' → r ≡ r' → turn_of l r right d ≡ turn_of l' r' right d
turn_of-at l l' r r' right d p q = ap (λ v. turn_of v r right d) p ∙ ap (λ v. turn_of l' v right d) q

-- the table of turns takes the previous edge's heading to this edge's heading
turn_of-came_from : (c : ℕ → ℕ → Bool) (x y : ℕ) (l r right : Bool) (d : Dir) → left_behind c x y d ≡ l → right_behind c x y d ≡ r
    → left_pixel c x y d ≡ true → right_pixel c x y d ≡ false
    → turn_of (left_pixel c x y (came_from l r right d)) (right_pixel c x y (came_from l r right d)) right (came_from l r right d) ≡ d
turn_of-came_from c x y true false right d el er hl hr = turn_of-at _ true _ false right d hl hr
turn_of-came_from c x y true true right d el er hl hr =
    turn_of-at _ true _ true right (left_of d) (left_pixel-left_of c x y d ∙ el) (right_pixel-left_of c x y d ∙ hl) ∙ right_of-left_of d
turn_of-came_from c x y false false right d el er hl hr =
    turn_of-at _ false _ false right (right_of d) (left_pixel-right_of c x y d ∙ hr) (right_pixel-right_of c x y d ∙ er) ∙ left_of-right_of d
turn_of-came_from c x y false true true d el er hl hr =
    turn_of-at _ false _ true true (left_of d) (left_pixel-left_of c x y d ∙ el) (right_pixel-left_of c x y d ∙ hl) ∙ right_of-left_of d
turn_of-came_from c x y false true false d el er hl hr =
    turn_of-at _ false _ true false (right_of d) (left_pixel-right_of c x y d ∙ hr) (right_pixel-right_of c x y d ∙ er) ∙ left_of-right_of d

-- the edge before a boundary edge is a boundary edge
pub previous_boundary : (b : Image) (policy : Policy) (sign : Sign) (e : Edge) → IsBoundary b e → IsBoundary b (previous b policy sign e)
previous_boundary b policy sign e h =
    let d : Dir = (previous b policy sign e).heading in
    let right : Bool = goes_right policy sign (major b e.x e.y) in
    let black : left_behind (south_west b) e.x e.y d ≡ true = left_behind-came_from (south_west b) e.x e.y _ _ right e.heading refl refl h.black_left in
    record {
      black_left = left_pixel-edge_to b e.x e.y d black ∙ black;
      white_right = right_pixel-edge_to b e.x e.y d black ∙ right_behind-came_from (south_west b) e.x e.y _ _ right e.heading refl refl h.white_right;
    }

end_x-edge_to : (b : Image) (x y : ℕ) (d : Dir) → left_behind (south_west b) x y d ≡ true → end_x (end_x x (opposite_of d)) d ≡ x
end_x-edge_to b x y North h = refl
end_x-edge_to b zero y East h = absurd (false≢true h)
end_x-edge_to b (suc x) y East h = refl
end_x-edge_to b x y South h = refl
end_x-edge_to b x y West h = refl

end_y-edge_to : (b : Image) (x y : ℕ) (d : Dir) → left_behind (south_west b) x y d ≡ true → end_y (end_y y (opposite_of d)) d ≡ y
end_y-edge_to b zero y North h = absurd (false≢true h)
end_y-edge_to b (suc x) zero North h = absurd (false≢true h)
end_y-edge_to b (suc x) (suc y) North h = refl
end_y-edge_to b x y East h = refl
end_y-edge_to b x y South h = refl
end_y-edge_to b x y West h = refl

-- the edge after the previous one is the edge itself
pub next-previous : (b : Image) (policy : Policy) (sign : Sign) (e : Edge) → IsBoundary b e → next b policy sign (previous b policy sign e) ≡ e
next-previous b policy sign e h =
    let d : Dir = (previous b policy sign e).heading in
    let right : Bool = goes_right policy sign (major b e.x e.y) in
    let black : left_behind (south_west b) e.x e.y d ≡ true = left_behind-came_from (south_west b) e.x e.y _ _ right e.heading refl refl h.black_left in
    let y : ℕ = end_y (end_y e.y (opposite_of d)) d in
    ap (λ u. record { x = u; y = y; heading = turn b policy sign u y d }) (end_x-edge_to b e.x e.y d black)
    ∙ ap (λ v. record { x = e.x; y = v; heading = turn b policy sign e.x v d }) (end_y-edge_to b e.x e.y d black)
    ∙ ap (λ w. record { x = e.x; y = e.y; heading = w })
    (turn_of-came_from (south_west b) e.x e.y _ _ right e.heading refl refl h.black_left h.white_right)
