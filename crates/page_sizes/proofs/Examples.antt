-- Pages of two by two pixels.
use Rattle.std.proofs.Common.{◌≡◌, true, false, [], ◌∷◌, refl}
use Rattle.bit_image.specs.Image.{white}
use Rattle.bit_image.specs.Page.{Page, image_of}
use Rattle.page_sizes.specs.Edges.{edge_count, side_count}

-- #.
-- .#
abbrev diagonal : Page
diagonal = record { width = 2; height = 2; rows = (false ∷ true ∷ []) ∷ (true ∷ false ∷ []) ∷ [] }

-- ##
-- ##
abbrev full : Page
full = record { width = 2; height = 2; rows = (true ∷ true ∷ []) ∷ (true ∷ true ∷ []) ∷ [] }

sides : side_count 2 2 ≡ 12
sides = refl

none : edge_count white 2 2 ≡ 0
none = refl

-- each pixel has four
corners : edge_count (image_of diagonal) 2 2 ≡ 8
unfolding image_of
corners = refl

rim : edge_count (image_of full) 2 2 ≡ 8
unfolding image_of
rim = refl
