-- Raised reliefs are reliefs plus half of white, and are never negative.
use Rattle.std.proofs.Common.{◌≡◌, ℕ, ◌+◌, ◌-◌, ◌*◌, ◌/◌, ◌%◌, ◌<◌, ◌≤◌, min, Bool, true, false, arith, sym, ap, ◌∙◌, ℤ, pos, negsuc, ◌+ℤ◌, ◌-ℤ◌, ◌*ℤ◌, inl, inr}
use Rattle.std.specs.Prelude.{if◌then◌else◌, nat_eq, nat_le}
use Rattle.std.proofs.lemmas.Int.{ints}
use Rattle.std.proofs.lemmas.Nat.{div-mul-add, div-add-mod', mod_below, mul-le}
use Rattle.std.proofs.lemmas.Bool.{cases_lt}
use Rattle.pt_core.specs.Floor.{floor_of}
use Rattle.mkbitmap.specs.Box.{Gray, box_from, box_end, box_count, box_area, column_sum, box_sum}
use Rattle.mkbitmap.specs.Relief.{relief_by, relief_of, raised_by, raised_of}
use Rattle.mkbitmap.specs.Enlarged.{centre_of, centre_before, behind_of, clamped, relief_near, mixed, is_black, after_of, distance_behind, before_within, mixed_raised, dark_limit, need}
use Rattle.mkbitmap.proofs.Mixtures.{times_less, mixture, mixed_by, black_by}
use Rattle.mkbitmap.proofs.BoxSums.{sum-most}

-- adding a multiple of the divisor adds to the quotient
more_div : (m b k : ℕ) → 0 < b → (m + b * k) / b ≡ m / b + k
more_div m b k some =
    let p : m / b * b + m % b ≡ m = div-add-mod' m b in
    let e : m + b * k ≡ (m / b + k) * b + m % b = omega (arith, p) in
    ap (λ n. n / b) e ∙ div-mul-add (m / b + k) b (m % b) (mod_below m b some)

-- the quotient of what a number lacks to a multiple of the divisor, less one
less_div : (m b k : ℕ) → 0 < b → m < b * k → (b * k - 1 - m) / b + (m / b + 1) ≡ k
less_div m b k some below =
    let p : m / b * b + m % b ≡ m = div-add-mod' m b in
    let r : m % b < b = mod_below m b some in
    elim (cases_lt (m / b) k) [
      | inl less ↦
          let kd : k ≡ m / b + 1 + (k - (m / b + 1)) = omega (arith, less) in
          let bk : b * k ≡ b * (m / b + 1 + (k - (m / b + 1))) = ap (λ n. b * n) kd in
          let e : b * k - 1 - m ≡ (k - (m / b + 1)) * b + (b - 1 - m % b) = omega (arith, bk, p, r) in
          let q : (b * k - 1 - m) / b ≡ k - (m / b + 1) = ap (λ n. n / b) e ∙ div-mul-add (k - (m / b + 1)) b (b - 1 - m % b) (omega (arith, r)) in
          omega (arith, q, kd)
      | inr more ↦
          let high : k * b ≤ m / b * b = mul-le k b (m / b) b more (omega arith) in
          omega (arith, high, p, below)
    ]

-- adding a multiple of the divisor adds to the quotient, for integers and rounding down
pub floor_more : (a : ℤ) (b k : ℕ) → 0 < b → floor_of (a +ℤ pos (b * k)) b ≡ floor_of a b +ℤ pos k
floor_more (pos m) b k some =
    let e : pos m +ℤ pos (b * k) ≡ pos (m + b * k) = omega (arith, ints) in
    let q : (m + b * k) / b ≡ m / b + k = more_div m b k some in
    ap (λ z. floor_of z b) e ∙ omega (arith, ints, q)
floor_more (negsuc m) b k some =
    elim (cases_lt m (b * k)) [
      | inl below ↦
          let e : negsuc m +ℤ pos (b * k) ≡ pos (b * k - 1 - m) = omega (arith, ints) in
          let q : (b * k - 1 - m) / b + (m / b + 1) ≡ k = less_div m b k some below in
          ap (λ z. floor_of z b) e ∙ omega (arith, ints, q)
      | inr above ↦
          let e : negsuc m +ℤ pos (b * k) ≡ negsuc (m - b * k) = omega (arith, ints) in
          let d : (m - b * k) + b * k ≡ m = omega arith in
          let q : m / b ≡ (m - b * k) / b + k = ap (λ n. n / b) (sym d) ∙ more_div (m - b * k) b k some in
          ap (λ z. floor_of z b) e ∙ omega (arith, ints, q)
    ]

-- a quotient stays the same if both numbers are doubled
half : (x a : ℕ) → 0 < a → 2 * x / (2 * a) ≡ x / a
half x a some =
    let p : x / a * a + x % a ≡ x = div-add-mod' x a in
    let r : x % a < a = mod_below x a some in
    let e : 2 * x ≡ x / a * (2 * a) + 2 * (x % a) = omega (arith, p) in
    ap (λ n. n / (2 * a)) e ∙ div-mul-add (x / a) (2 * a) (2 * (x % a)) (omega (arith, r))

raised_by-is : (sample sum area maxval : ℕ) → 0 < area → sum ≤ area * maxval
    → relief_by sample sum area maxval +ℤ pos (128 * maxval) ≡ pos (raised_by sample sum area maxval)
raised_by-is sample sum area maxval some most =
    let a : ℤ = pos 256 *ℤ ((pos (2 * area * sample) -ℤ pos (2 * sum)) +ℤ pos (area * maxval)) in
    let more : floor_of (a +ℤ pos (2 * area * (128 * maxval))) (2 * area) ≡ floor_of a (2 * area) +ℤ pos (128 * maxval)
    = floor_more a (2 * area) (128 * maxval) (omega arith) in
    let n : a +ℤ pos (2 * area * (128 * maxval)) ≡ pos (2 * (256 * (area * (sample + maxval) - sum))) = omega (arith, ints) in
    sym more ∙ ap (λ z. floor_of z (2 * area)) n ∙ ap pos (half (256 * (area * (sample + maxval) - sum)) area some)

-- a box's sum is at most its area times white
box_sum-most : (page : Gray) (radius x y : ℕ) → ((a b : ℕ) → page.sample a b ≤ page.maxval) → box_sum page radius x y ≤ box_area page radius x y * page.maxval
box_sum-most page radius x y bright =
    let column : (a : ℕ) → column_sum page radius y a ≤ box_count radius page.height y * page.maxval
    = λ a. sum-most (page.sample a) page.maxval (box_from radius y) (box_end radius page.height y) (bright a) in
    let all : box_sum page radius x y ≤ box_count radius page.width x * (box_count radius page.height y * page.maxval)
    = sum-most (column_sum page radius y) (box_count radius page.height y * page.maxval) (box_from radius x) (box_end radius page.width x) column in
    omega (arith, all)

area_some : (page : Gray) (radius x y : ℕ) → x < page.width → y < page.height → 0 < box_area page radius x y
area_some page radius x y in_row in_page =
    let one : 1 * 1 ≤ box_count radius page.width x * box_count radius page.height y = mul-le 1 1 _ _ (omega arith) (omega arith) in
    omega (arith, one)

either : (t : Bool) (sample sum area maxval : ℕ) → 0 < area → sum ≤ area * maxval
    → (if t then pos (256 * sample) else relief_by sample sum area maxval) +ℤ pos (128 * maxval)
    ≡ pos (if t then 256 * sample + 128 * maxval else raised_by sample sum area maxval)
either true sample sum area maxval some most = omega (arith, ints)
either false sample sum area maxval some most = raised_by-is sample sum area maxval some most

-- a raised relief is the relief plus half of white
pub raised_of-is : (page : Gray) (radius x y : ℕ) → ((a b : ℕ) → page.sample a b ≤ page.maxval) → x < page.width → y < page.height
    → relief_of page radius x y +ℤ pos (128 * page.maxval) ≡ pos (raised_of page radius x y)
raised_of-is page radius x y bright in_row in_page =
    either (nat_eq radius 0) (page.sample x y) (box_sum page radius x y) (box_area page radius x y) page.maxval
    (area_some page radius x y in_row in_page) (box_sum-most page radius x y bright)

-- the place of a pixel of the larger page, in natural numbers
pub before-is : (times X : ℕ) → 1 ≤ times → centre_before times X +ℤ pos 1 ≡ pos (after_of times X)
before-is times X some =
    let more : floor_of (centre_of times X +ℤ pos (2 * times * 1)) (2 * times) ≡ centre_before times X +ℤ pos 1
    = floor_more (centre_of times X) (2 * times) 1 (omega arith) in
    let n : centre_of times X +ℤ pos (2 * times * 1) ≡ pos (2 * X + 1 + times) = omega (arith, ints) in
    sym more ∙ ap (λ z. floor_of z (2 * times)) n

pub behind-is : (times X : ℕ) → 1 ≤ times → behind_of times X ≡ pos (distance_behind times X)
behind-is times X some =
    let u : centre_before times X ≡ pos (after_of times X) -ℤ pos 1 = omega (arith, ints, before-is times X some) in
    let p : after_of times X * (2 * times) + distance_behind times X ≡ 2 * X + 1 + times = div-add-mod' (2 * X + 1 + times) (2 * times) in
    ap (λ z. centre_of times X -ℤ pos (2 * times) *ℤ z) u ∙ ap (λ z. centre_of times X -ℤ z) (times_less (2 * times) (after_of times X)) ∙ omega (arith, ints, p)

pub clamped-before : (count u : ℕ) (z : ℤ) → z +ℤ pos 1 ≡ pos u → clamped count z ≡ before_within count u
clamped-before count u (pos k) e = let n : k + 1 ≡ u = omega (arith, ints, e) in omega (arith, n)
clamped-before count u (negsuc k) e = let n : u ≡ 0 = omega (arith, ints, e) in omega (arith, n)

pub clamped-after : (count u : ℕ) (z : ℤ) → z +ℤ pos 1 ≡ pos u → clamped count (z +ℤ pos 1) ≡ before_within count (u + 1)
clamped-after count u z e = ap (clamped count) e ∙ omega arith

-- the raised relief of the nearest pixel
near-is : (page : Gray) (radius u v : ℕ) (x y : ℤ) → ((a b : ℕ) → page.sample a b ≤ page.maxval) → 1 ≤ page.width → 1 ≤ page.height
    → clamped page.width x ≡ before_within page.width u → clamped page.height y ≡ before_within page.height v
    → relief_near page radius x y ≡ pos (raised_of page radius (before_within page.width u) (before_within page.height v)) -ℤ pos (128 * page.maxval)
near-is page radius u v x y bright wide high at_x at_y =
    let here : relief_near page radius x y ≡ relief_of page radius (before_within page.width u) (before_within page.height v)
    = ap (λ a. relief_of page radius a (clamped page.height y)) at_x ∙ ap (λ b. relief_of page radius (before_within page.width u) b) at_y in
    let is : relief_of page radius (before_within page.width u) (before_within page.height v) +ℤ pos (128 * page.maxval)
    ≡ pos (raised_of page radius (before_within page.width u) (before_within page.height v))
    = raised_of-is page radius (before_within page.width u) (before_within page.height v) bright (omega (arith, wide)) (omega (arith, high)) in
    here ∙ omega (arith, ints, is)

pub mixed-is : (page : Gray) (radius t X Y : ℕ) → ((a b : ℕ) → page.sample a b ≤ page.maxval) → 1 ≤ page.width → 1 ≤ page.height → 1 ≤ t
    → mixed page radius t X Y +ℤ pos (128 * page.maxval * (2 * t) * (2 * t)) ≡ pos (mixed_raised page radius t X Y)
mixed-is page radius t X Y bright wide high some =
    let p : distance_behind t X < 2 * t = mod_below (2 * X + 1 + t) (2 * t) (omega arith) in
    let q : distance_behind t Y < 2 * t = mod_below (2 * Y + 1 + t) (2 * t) (omega arith) in
    let x0 : clamped page.width (centre_before t X) ≡ before_within page.width (after_of t X) = clamped-before page.width (after_of t X) (centre_before t X) (before-is t X some) in
    let x1 : clamped page.width (centre_before t X +ℤ pos 1) ≡ before_within page.width (after_of t X + 1) = clamped-after page.width (after_of t X) (centre_before t X) (before-is t X some) in
    let y0 : clamped page.height (centre_before t Y) ≡ before_within page.height (after_of t Y) = clamped-before page.height (after_of t Y) (centre_before t Y) (before-is t Y some) in
    let y1 : clamped page.height (centre_before t Y +ℤ pos 1) ≡ before_within page.height (after_of t Y + 1) = clamped-after page.height (after_of t Y) (centre_before t Y) (before-is t Y some) in
    let fx : behind_of t X ≡ pos (distance_behind t X) = behind-is t X some in
    let fy : behind_of t Y ≡ pos (distance_behind t Y) = behind-is t Y some in
    let gx : pos (2 * t) -ℤ behind_of t X ≡ pos (2 * t - distance_behind t X) = omega (arith, ints, fx, p) in
    let gy : pos (2 * t) -ℤ behind_of t Y ≡ pos (2 * t - distance_behind t Y) = omega (arith, ints, fy, q) in
    let a = near-is page radius (after_of t X) (after_of t Y) (centre_before t X) (centre_before t Y) bright wide high x0 y0 in
    let b = near-is page radius (after_of t X + 1) (after_of t Y) (centre_before t X +ℤ pos 1) (centre_before t Y) bright wide high x1 y0 in
    let c = near-is page radius (after_of t X) (after_of t Y + 1) (centre_before t X) (centre_before t Y +ℤ pos 1) bright wide high x0 y1 in
    let d = near-is page radius (after_of t X + 1) (after_of t Y + 1) (centre_before t X +ℤ pos 1) (centre_before t Y +ℤ pos 1) bright wide high x1 y1 in
    let whole = mixed_by (2 * t - distance_behind t X) (distance_behind t X) (2 * t - distance_behind t Y) (distance_behind t Y)
    (raised_of page radius (before_within page.width (after_of t X)) (before_within page.height (after_of t Y)))
    (raised_of page radius (before_within page.width (after_of t X + 1)) (before_within page.height (after_of t Y)))
    (raised_of page radius (before_within page.width (after_of t X)) (before_within page.height (after_of t Y + 1)))
    (raised_of page radius (before_within page.width (after_of t X + 1)) (before_within page.height (after_of t Y + 1))) (128 * page.maxval) in
    let px : 2 * t - distance_behind t X + distance_behind t X ≡ 2 * t = omega (arith, p) in
    let py : 2 * t - distance_behind t Y + distance_behind t Y ≡ 2 * t = omega (arith, q) in
    let k : 128 * page.maxval * (2 * t - distance_behind t X + distance_behind t X) * (2 * t - distance_behind t Y + distance_behind t Y) ≡ 128 * page.maxval * (2 * t) * (2 * t)
    = λ i. 128 * page.maxval * px i * py i in
    let all : mixed page radius t X Y
    ≡ mixture (pos (2 * t - distance_behind t X)) (pos (distance_behind t X)) (pos (2 * t - distance_behind t Y)) (pos (distance_behind t Y))
    (pos (raised_of page radius (before_within page.width (after_of t X)) (before_within page.height (after_of t Y))) -ℤ pos (128 * page.maxval))
    (pos (raised_of page radius (before_within page.width (after_of t X + 1)) (before_within page.height (after_of t Y))) -ℤ pos (128 * page.maxval))
    (pos (raised_of page radius (before_within page.width (after_of t X)) (before_within page.height (after_of t Y + 1))) -ℤ pos (128 * page.maxval))
    (pos (raised_of page radius (before_within page.width (after_of t X + 1)) (before_within page.height (after_of t Y + 1))) -ℤ pos (128 * page.maxval))
    = λ i. mixture (gx i) (fx i) (gy i) (fy i) (a i) (b i) (c i) (d i) in
    ap (λ z. z +ℤ pos (128 * page.maxval * (2 * t) * (2 * t))) all
    ∙ ap (λ n. mixture (pos (2 * t - distance_behind t X)) (pos (distance_behind t X)) (pos (2 * t - distance_behind t Y)) (pos (distance_behind t Y))
    (pos (raised_of page radius (before_within page.width (after_of t X)) (before_within page.height (after_of t Y))) -ℤ pos (128 * page.maxval))
    (pos (raised_of page radius (before_within page.width (after_of t X + 1)) (before_within page.height (after_of t Y))) -ℤ pos (128 * page.maxval))
    (pos (raised_of page radius (before_within page.width (after_of t X)) (before_within page.height (after_of t Y + 1))) -ℤ pos (128 * page.maxval))
    (pos (raised_of page radius (before_within page.width (after_of t X + 1)) (before_within page.height (after_of t Y + 1))) -ℤ pos (128 * page.maxval)) +ℤ pos n) (sym k)
    ∙ whole

-- a pixel is black exactly if its mixture of raised reliefs is within the limit
pub black-is : (page : Gray) (radius t level X Y : ℕ) → ((a b : ℕ) → page.sample a b ≤ page.maxval) → 1 ≤ page.width → 1 ≤ page.height → 1 ≤ t
    → is_black page radius t level X Y ≡ nat_le (mixed_raised page radius t X Y) (dark_limit page.maxval t level)
black-is page radius t level X Y bright wide high some =
    let d : level * page.maxval * 1024 * t * t + 128 * page.maxval * (2 * t) * (2 * t) * 1000000 ≡ (1024 * level + 512000000) * (page.maxval * (t * t)) = omega arith in
    black_by (mixed page radius t X Y) (128 * page.maxval * (2 * t) * (2 * t)) (mixed_raised page radius t X Y) (level * page.maxval * 1024 * t * t)
    (mixed-is page radius t X Y bright wide high some)
    ∙ ap (λ n. nat_le (mixed_raised page radius t X Y) (n / 1000000)) d

-- the needed rows are the ones of the boxes around the second row
pub need-is : (height radius t Y : ℕ) → 1 ≤ t → 1 ≤ height → need height radius t Y + 1 ≡ min height (after_of t Y + radius + 1)
need-is height radius t Y some rows =
    let u : centre_before t Y +ℤ pos (1 + radius) ≡ pos (after_of t Y + radius) = omega (arith, ints, before-is t Y some) in
    ap (λ z. clamped height z + 1) u ∙ omega arith
