-- Which way a path turns at a corner (Selinger, "Potrace", 2003, sections 2.1.1 and 2.1.2; the
-- potrace manual page, option "turnpolicy").
use Rattle.std.specs.Prelude.{ℕ, Bool, true, false, not, cond}
use Rattle.pt_core.specs.declared.path.Sign.{Sign}
use Rattle.pt_core.specs.declared.path.Sign.TheVariants.{Plus, Minus}
use Rattle.pt_core.specs.declared.policy.Policy.{Policy}
use Rattle.pt_core.specs.declared.policy.Policy.TheVariants.{Left, Right, Black, White, Majority, Minority}
use Rattle.bit_image.specs.Image.{Image, south_west}
use Rattle.turn_policies.specs.declared.heading.Dir.{Dir}
use Rattle.turn_policies.specs.declared.edge.Edge.{Edge}
use Rattle.turn_policies.specs.Heading.{left_of, right_of, end_x, end_y}
use Rattle.turn_policies.specs.Boundary.{left_pixel, right_pixel}
use Rattle.turn_policies.specs.Majority.{major}

-- whether a policy turns right if the pixels ahead leave a choice, given the path's sign and
-- whether black is the majority
abbrev pub goes_right : Policy → Sign → Bool → Bool
goes_right Left sign black_is_more = false
goes_right Right sign black_is_more = true
goes_right Black Plus black_is_more = true
goes_right Black Minus black_is_more = false
goes_right White Plus black_is_more = false
goes_right White Minus black_is_more = true
goes_right Majority sign black_is_more = black_is_more
goes_right Minority sign black_is_more = not black_is_more

-- the turn that the pixels ahead on the left and on the right and the policy's choice give
abbrev pub turn_of : Bool → Bool → Bool → Dir → Dir
turn_of false true right heading = cond right (right_of heading) (left_of heading)
turn_of true true right heading = right_of heading
turn_of false false right heading = left_of heading
turn_of true false right heading = heading

-- the direction in which a path that arrives at corner (x, y) goes on
abbrev pub turn : Image → Policy → Sign → ℕ → ℕ → Dir → Dir
turn b policy sign x y heading =
    turn_of (left_pixel (south_west b) x y heading) (right_pixel (south_west b) x y heading)
    (goes_right policy sign (major b x y)) heading

-- the edge that follows an edge of a path
abbrev pub next : Image → Policy → Sign → Edge → Edge
next b policy sign e = record {
  x = end_x e.x e.heading;
  y = end_y e.y e.heading;
  heading = turn b policy sign (end_x e.x e.heading) (end_y e.y e.heading) e.heading;
}
