-- A pixel is black if its brightness is at most the level (the potrace manual page, option
-- --blacklevel). Both sides of `brightness / full white ≤ level / 1000000` are multiplied out.
use Rattle.std.specs.Prelude.{ℕ, ◌+◌, ◌*◌, Bool, nat_le}

-- a gray sample v is black at a level of k6 millionths, if `maxval` is white
abbrev pub is_gray_black : ℕ → ℕ → ℕ → Bool
is_gray_black k6 v maxval = nat_le (v * 1000000) (k6 * maxval)

-- the colour of r, g and b is black by its mean at a level of k6 millionths, if `maxval` is white
-- for each of them
abbrev pub is_color_black : ℕ → ℕ → ℕ → ℕ → ℕ → Bool
is_color_black k6 r g b maxval = nat_le ((r + g + b) * 1000000) (k6 * 3 * maxval)
