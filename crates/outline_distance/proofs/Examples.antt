-- The definitions on small pictures.
use Rattle.std.proofs.Common.{◌≡◌, pos, negsuc, refl, arith}
use Rattle.std.proofs.lemmas.Int.{ints}
use Rattle.outline_distance.specs.Pages.{IsAlmostOnPage}
use Rattle.outline_distance.specs.Written.{as_written}

-- half of a tenth of a pixel is 51.2 units: what is less is rounded to 0
rounded_off : as_written 10 (record { x = pos 51; y = negsuc 50 }) ≡ record { x = pos 0; y = pos 0 }
rounded_off = refl

-- and what is more is rounded to a whole tenth
rounded_on : as_written 10 (record { x = pos 52; y = negsuc 51 }) ≡ record { x = pos 1024; y = negsuc 1023 }
rounded_on = refl

-- a place half a pixel right of a page of 2 by 1 pixels, and half a pixel below it
beside_a_corner : IsAlmostOnPage 512 2 1 (record { x = pos 2560; y = negsuc 511 })
beside_a_corner = record { x = record { low = omega (arith, ints); high = omega (arith, ints) }; y = record { low = omega (arith, ints); high = omega (arith, ints) } }
