-- The definitions, checked on small pictures.
use Rattle.std.proofs.Common.{◌≡◌, true, false, cond, ◌&&◌, nat_lt, nat_le, [], ◌∷◌, refl}
use Rattle.pt_core.specs.declared.path.Sign.TheVariants.{Plus, Minus}
use Rattle.pt_core.specs.declared.policy.Policy.{Policy}
use Rattle.pt_core.specs.declared.policy.Policy.TheVariants.{Left, Right, Black, White, Majority, Minority}
use Rattle.bit_image.specs.Image.{Image, with_pixel}
use Rattle.bit_image.specs.Page.{Page, image_of}
use Rattle.turn_policies.specs.declared.heading.Dir.TheVariants.{North, East, South}
use Rattle.turn_policies.specs.declared.edge.Edge.{Edge}
use Rattle.turn_policies.specs.Boundary.{IsBoundary}
use Rattle.turn_policies.specs.Majority.{black_in_ring, white_in_ring, major}
use Rattle.turn_policies.specs.Turn.{turn, next}

-- #.
-- .#
diagonal : Page
diagonal = record { width = 2; height = 2; rows = (false ∷ true ∷ []) ∷ (true ∷ false ∷ []) ∷ [] }

-- going up or down through the middle, only the left pixel ahead is black: straight on
straight_up : turn (image_of diagonal) Left Plus 1 1 North ≡ North
unfolding diagonal image_of
straight_up = refl

straight_down : turn (image_of diagonal) Right Plus 1 1 South ≡ South
unfolding diagonal image_of
straight_down = refl

-- ##
-- ..
bar : Page
bar = record { width = 2; height = 2; rows = (false ∷ false ∷ []) ∷ (true ∷ true ∷ []) ∷ [] }

-- black ahead on both sides: right, whatever the policy
black_ahead : turn (image_of bar) Left Plus 1 1 North ≡ East
unfolding bar image_of
black_ahead = refl

-- white ahead on both sides: left
white_ahead : turn (image_of bar) Right Plus 1 1 South ≡ East
unfolding bar image_of
white_ahead = refl

-- going right through the middle of the diagonal, white is ahead on the left and black on the right
by_left : turn (image_of diagonal) Left Plus 1 1 East ≡ North
unfolding diagonal image_of
by_left = refl

by_right : turn (image_of diagonal) Right Plus 1 1 East ≡ South
unfolding diagonal image_of
by_right = refl

by_black : turn (image_of diagonal) Black Plus 1 1 East ≡ South
unfolding diagonal image_of
by_black = refl

by_black_in_a_hole : turn (image_of diagonal) Black Minus 1 1 East ≡ North
unfolding diagonal image_of
by_black_in_a_hole = refl

by_white : turn (image_of diagonal) White Plus 1 1 East ≡ North
unfolding diagonal image_of
by_white = refl

by_white_in_a_hole : turn (image_of diagonal) White Minus 1 1 East ≡ South
unfolding diagonal image_of
by_white_in_a_hole = refl

-- the twelve pixels of the first ring lie around the page and are white
by_majority : turn (image_of diagonal) Majority Plus 1 1 East ≡ North
unfolding diagonal image_of major black_in_ring white_in_ring
by_majority = refl

by_minority : turn (image_of diagonal) Minority Plus 1 1 East ≡ South
unfolding diagonal image_of major black_in_ring white_in_ring
by_minority = refl

-- the left side of the upper pixel, downwards
first_edge : Edge
first_edge = record { x = 0; y = 2; heading = South }

is_boundary : IsBoundary (image_of diagonal) first_edge
unfolding diagonal image_of first_edge
is_boundary = record { black_left = refl; white_right = refl }

-- the edge after four steps
after_four : Policy → Edge → Edge
after_four policy e =
    next (image_of diagonal) policy Plus
    (next (image_of diagonal) policy Plus (next (image_of diagonal) policy Plus (next (image_of diagonal) policy Plus e)))

-- with turns to the left, the four sides of the upper pixel are a path
around_one : after_four Left first_edge ≡ first_edge
unfolding diagonal image_of first_edge after_four
around_one = refl

-- with turns to the right, the path also goes around the lower pixel
half_around_both : after_four Right first_edge ≡ record { x = 2; y = 0; heading = North }
unfolding diagonal image_of first_edge after_four
half_around_both = refl

around_both : after_four Right (after_four Right first_edge) ≡ first_edge
unfolding diagonal image_of first_edge after_four
around_both = refl

-- ####....
-- ####....
-- ####....
-- ####....
-- ....####
-- ....####
-- ....####
-- ....####
quarters : Image
quarters x y = cond (nat_lt y 4) (nat_le 4 x && nat_lt x 8) (nat_lt x 4 && nat_lt y 8)

-- all three rings around the middle tie
ring_2 : black_in_ring quarters 4 4 2 ≡ 6
unfolding quarters black_in_ring
ring_2 = refl

ring_2_white : white_in_ring quarters 4 4 2 ≡ 6
unfolding quarters white_in_ring
ring_2_white = refl

ring_3 : black_in_ring quarters 4 4 3 ≡ 10
unfolding quarters black_in_ring
ring_3 = refl

ring_3_white : white_in_ring quarters 4 4 3 ≡ 10
unfolding quarters white_in_ring
ring_3_white = refl

ring_4 : black_in_ring quarters 4 4 4 ≡ 14
unfolding quarters black_in_ring
ring_4 = refl

ring_4_white : white_in_ring quarters 4 4 4 ≡ 14
unfolding quarters white_in_ring
ring_4_white = refl

-- black isn't the majority after three ties
tie : major quarters 4 4 ≡ false
unfolding quarters black_in_ring white_in_ring major
tie = refl

majority_at_a_tie : turn quarters Majority Plus 4 4 East ≡ North
unfolding quarters black_in_ring white_in_ring major
majority_at_a_tie = refl

minority_at_a_tie : turn quarters Minority Plus 4 4 East ≡ South
unfolding quarters black_in_ring white_in_ring major
minority_at_a_tie = refl

-- one more black pixel in ring 4, 3 or 2 decides
by_ring_4 : major (with_pixel quarters 0 0 true) 4 4 ≡ true
unfolding quarters black_in_ring white_in_ring major
by_ring_4 = refl

by_ring_3 : major (with_pixel quarters 1 2 true) 4 4 ≡ true
unfolding quarters black_in_ring white_in_ring major
by_ring_3 = refl

by_ring_2 : major (with_pixel quarters 2 3 true) 4 4 ≡ true
unfolding quarters black_in_ring white_in_ring major
by_ring_2 = refl

-- an inner ring decides before an outer one
inner_ring_first : major (with_pixel (with_pixel quarters 0 0 true) 1 6 false) 4 4 ≡ false
unfolding quarters black_in_ring white_in_ring major
inner_ring_first = refl
