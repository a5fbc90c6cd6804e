-- The larger page. Its pixels lie between the centres of four pixels of the page, and the reliefs of these are mixed by
-- distance.
use Rattle.std.specs.Prelude.{ℕ, ◌+◌, ◌-◌, ◌*◌, ◌/◌, ◌%◌, min, ℤ, pos, negsuc, ◌+ℤ◌, ◌-ℤ◌, ◌*ℤ◌, Bool, int_le}
use Rattle.pt_core.specs.Floor.{floor_of}
use Rattle.mkbitmap.specs.Box.{Gray}
use Rattle.mkbitmap.specs.Relief.{relief_of, raised_of}

-- how far the centre of column (or row) X of the larger page is right of the centre of the page's column 0, in units of
-- 1/(2 times) pixel of the page
abbrev pub centre_of : ℕ → ℕ → ℤ
centre_of times X = pos (2 * X + 1) -ℤ pos times

-- the page's last column with a centre that isn't further right
abbrev pub centre_before : ℕ → ℕ → ℤ
centre_before times X = floor_of (centre_of times X) (2 * times)

-- how far the centre of column X is right of the centre of that column
abbrev pub behind_of : ℕ → ℕ → ℤ
behind_of times X = centre_of times X -ℤ pos (2 * times) *ℤ centre_before times X

-- the number below `count` that is nearest to this integer
abbrev pub clamped : ℕ → ℤ → ℕ
clamped count (pos k) = min k (count - 1)
clamped count (negsuc k) = 0

-- the relief at a place that may be off the page: that of the nearest pixel
abbrev pub relief_near : Gray → ℕ → ℤ → ℤ → ℤ
relief_near page radius x y = relief_of page radius (clamped page.width x) (clamped page.height y)

-- the mixed reliefs of the four pixels around the centre of a pixel of the larger page, in units of 1/256 of a sample,
-- times the square of `2 * times`
abbrev pub mixed : Gray → ℕ → ℕ → ℕ → ℕ → ℤ
mixed page radius times X Y =
    let x0 : ℤ = centre_before times X in
    let y0 : ℤ = centre_before times Y in
    let fx : ℤ = behind_of times X in
    let fy : ℤ = behind_of times Y in
    let all : ℤ = pos (2 * times) in
    ((((all -ℤ fx) *ℤ (all -ℤ fy)) *ℤ relief_near page radius x0 y0
    +ℤ (fx *ℤ (all -ℤ fy)) *ℤ relief_near page radius (x0 +ℤ pos 1) y0)
    +ℤ ((all -ℤ fx) *ℤ fy) *ℤ relief_near page radius x0 (y0 +ℤ pos 1))
    +ℤ (fx *ℤ fy) *ℤ relief_near page radius (x0 +ℤ pos 1) (y0 +ℤ pos 1)

-- a pixel of the larger page is black: its mixture is at most this level, in millionths of white
abbrev pub is_black : Gray → ℕ → ℕ → ℕ → ℕ → ℕ → Bool
is_black page radius times level X Y =
    int_le (mixed page radius times X Y *ℤ pos 1000000) (pos (level * page.maxval * 1024 * times * times))

-- the last row of the page that row Y of the larger page depends on
abbrev pub need : ℕ → ℕ → ℕ → ℕ → ℕ
need height radius times Y = clamped height (centre_before times Y +ℤ pos (1 + radius))

-- These definitions again, in numbers that aren't negative.

-- the first column with a centre that is further right, or the page's width
abbrev pub after_of : ℕ → ℕ → ℕ
after_of times X = (2 * X + 1 + times) / (2 * times)

-- how far the centre of column X is right of the centre before that one
abbrev pub distance_behind : ℕ → ℕ → ℕ
distance_behind times X = (2 * X + 1 + times) % (2 * times)

-- the number before this one, or `count - 1` if that is less
abbrev pub before_within : ℕ → ℕ → ℕ
before_within count u = min (u - 1) (count - 1)

-- two reliefs mixed; the weight of the second one is `part` of `all`
abbrev pub mix : ℕ → ℕ → ℕ → ℕ → ℕ
mix all part a b = (all - part) * a + part * b

-- the raised reliefs in column x of the page, above and below the centres of row Y, mixed
abbrev pub mixed_column : Gray → ℕ → ℕ → ℕ → ℕ → ℕ
mixed_column page radius times Y x =
    mix (2 * times) (distance_behind times Y) (raised_of page radius x (before_within page.height (after_of times Y)))
    (raised_of page radius x (before_within page.height (after_of times Y + 1)))

-- the raised reliefs of the four pixels around the centre of a pixel of the larger page, mixed
abbrev pub mixed_raised : Gray → ℕ → ℕ → ℕ → ℕ → ℕ
mixed_raised page radius times X Y =
    mix (2 * times) (distance_behind times X) (mixed_column page radius times Y (before_within page.width (after_of times X)))
    (mixed_column page radius times Y (before_within page.width (after_of times X + 1)))

-- the greatest mixture of raised reliefs at which a pixel is black
abbrev pub dark_limit : ℕ → ℕ → ℕ → ℕ
dark_limit maxval times level = (1024 * level + 512000000) * (maxval * (times * times)) / 1000000
