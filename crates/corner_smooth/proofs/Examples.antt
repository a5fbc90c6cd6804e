-- The definitions on squares, and on a line that leads there and back.
use Rattle.std.proofs.Common.{◌≡◌, ℕ, pos, negsuc, List, [], ◌∷◌, refl}
use Rattle.pt_core.specs.declared.piece.Piece.TheVariants.{Corner, Curve}
use Rattle.pt_core.specs.declared.point.Point.{Point}
use Rattle.corner_smooth.specs.Corner.{al_of, corner_piece, middle_of, piece_of, pieces_of, sharpness_of}

abbrev place : ℕ → ℕ → Point
place x y = record { x = pos x; y = pos y }

-- 0 -- 3
-- |    |     a square of this side, in units
-- 1 -- 2
abbrev square : ℕ → List Point
square side = place 0 side ∷ place 0 0 ∷ place side 0 ∷ place side side ∷ []

-- five pixels: 4/3 times 1 - 2/5 is 0.8
at_five_pixels : sharpness_of (place 0 5120) (place 0 0) (place 5120 0) ≡ record { numerator = 62914560; denominator = 78643200 }
at_five_pixels = refl

-- which is 52428.8 / 65536
in_its_unit : al_of (sharpness_of (place 0 5120) (place 0 0) (place 5120 0)) ≡ 52428
in_its_unit = refl

-- the square of one pixel reaches beyond the middles of a pixel's sides
at_one_pixel : sharpness_of (place 0 1024) (place 0 0) (place 1024 0) ≡ record { numerator = 0; denominator = 1 }
at_one_pixel = refl

-- as sharp as 1, and that much is asked for
four_corners : pieces_of 1000000 (square 8192)
    ≡ Corner (place 0 8192) (place 0 4096) ∷ Corner (place 0 0) (place 4096 0)
    ∷ Corner (place 8192 0) (place 8192 4096) ∷ Corner (place 8192 8192) (place 4096 8192) ∷ []
unfolding piece_of
four_corners = refl

-- a little more is asked for
no_corner : corner_piece 1000001 (square 8192) 1 ≡ Curve (place 0 0) (place 0 0) (place 4096 0) 65536
unfolding piece_of
no_corner = refl

-- the controls of a pixel's curves lie 0.775 of the way to the vertex, rounded down
first_curve : corner_piece 1000000 (square 1024) 0 ≡ Curve (place 230 1024) (place 0 793) (place 0 512) 36045
unfolding piece_of
first_curve = refl

-- there and back
turned_round : corner_piece 1333333 (place 0 1 ∷ place 2048 0 ∷ []) 1 ≡ Corner (place 2048 0) (place 1024 0)
unfolding piece_of
turned_round = refl

-- half of -1023 is -511.5
below_the_page : middle_of (record { x = negsuc 510; y = negsuc 511 }) (record { x = negsuc 511; y = negsuc 511 })
    ≡ record { x = negsuc 511; y = negsuc 511 }
below_the_page = refl
