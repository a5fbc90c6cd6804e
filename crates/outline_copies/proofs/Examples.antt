-- The definitions, computed for small pictures.
use Rattle.std.proofs.Common.{◌≡◌, pos, negsuc, List, [], ◌∷◌, refl, arith}
use Rattle.pt_core.specs.declared.piece.Piece.TheVariants.{Corner}
use Rattle.pt_core.specs.declared.point.Point.{Point}
use Rattle.outline_copies.specs.Moved.{AreMoved, in_units, piece_moved_by}
use Rattle.outline_copies.proofs.Lists.{moved_at}

-- the corners of the page's first pixel
abbrev pixel : List Point
pixel = record { x = pos 0; y = pos 0 } ∷ record { x = pos 1; y = pos 0 } ∷ record { x = pos 1; y = pos 1 } ∷ record { x = pos 0; y = pos 1 } ∷ []

-- the corners of the pixel three columns further right and two rows further up
abbrev other : List Point
other = record { x = pos 3; y = pos 2 } ∷ record { x = pos 4; y = pos 2 } ∷ record { x = pos 4; y = pos 3 } ∷ record { x = pos 3; y = pos 3 } ∷ []

farther : AreMoved (pos 3) (pos 2) pixel other
farther = record { count = refl; each = λ k. moved_at (pos 3) (pos 2) pixel k (omega arith) }

-- a corner, moved one pixel to the left
to_the_left : piece_moved_by (in_units (negsuc 0)) (pos 0) (Corner (record { x = pos 1536; y = pos 0 }) (record { x = pos 1024; y = pos 512 }))
    ≡ Corner (record { x = pos 512; y = pos 0 }) (record { x = pos 0; y = pos 512 })
to_the_left = refl
