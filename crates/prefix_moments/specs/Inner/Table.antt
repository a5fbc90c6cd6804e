-- What a path's table of sums holds.
use Rattle.std.specs.Prelude.{◌≡◌, ℕ, ◌+◌, ◌-◌, ◌*◌, ◌/◌, ◌%◌, ◌<◌, ◌≤◌, ◌^◌, ℤ, pos, ◌+ℤ◌, ◌-ℤ◌, ◌*ℤ◌, List, length, slice_index_or, unsigned_abs}
use Rattle.pt_core.specs.declared.point.Point.{Point}
use Rattle.pt_core.specs.ClosedWalk.{point_at}
use Rattle.pt_core.specs.declared.limits.TheConstants.{LONGEST_SIDE}
use Rattle.pt_core.specs.OnPage.{AreOnPage}
use Rattle.prefix_moments.specs.Sums.{sum_of}
use Rattle.prefix_moments.specs.declared.sums.Sums.{Sums}
use Rattle.prefix_moments.specs.declared.prefix.Prefix.{Prefix}
use Rattle.prefix_moments.specs.declared.raw.RawSums.{RawSums}

-- the sums over the first `count` of a run of points
abbrev pub raw_of : (ℕ → Point) → ℕ → RawSums
raw_of at count = record {
  x = sum_of (λ k. (at k).x) count;
  y = sum_of (λ k. (at k).y) count;
  xx = sum_of (λ k. (at k).x *ℤ (at k).x) count;
  xy = sum_of (λ k. (at k).x *ℤ (at k).y) count;
  yy = sum_of (λ k. (at k).y *ℤ (at k).y) count;
}

-- the sums are at most what `count` points of a page give
pub record IsRawOf (count : ℕ) (r : RawSums) : Type 0 where
  pub x : unsigned_abs r.x ≤ count * LONGEST_SIDE
  pub y : unsigned_abs r.y ≤ count * LONGEST_SIDE
  pub xx : unsigned_abs r.xx ≤ count * (LONGEST_SIDE * LONGEST_SIDE)
  pub xy : unsigned_abs r.xy ≤ count * (LONGEST_SIDE * LONGEST_SIDE)
  pub yy : unsigned_abs r.yy ≤ count * (LONGEST_SIDE * LONGEST_SIDE)

-- the sums over no points
abbrev pub no_prefix : Prefix
no_prefix = record { x = 0; y = 0; xx = 0; xy = 0; yy = 0 }

-- as much of some sums as a row has: of coordinates modulo 2^32, of squares and products modulo 2^64
abbrev pub kept_of : RawSums → Prefix
kept_of r = record {
  x = unsigned_abs r.x % 2 ^ 32;
  y = unsigned_abs r.y % 2 ^ 32;
  xx = unsigned_abs r.xx % 2 ^ 64;
  xy = unsigned_abs r.xy % 2 ^ 64;
  yy = unsigned_abs r.yy % 2 ^ 64;
}

-- the row of the first `count` points of a path
abbrev pub prefix_of : List Point → ℕ → Prefix
prefix_of points count = kept_of (raw_of (point_at points) count)

-- the sums over two runs of points
abbrev pub both_of : Prefix → Prefix → Prefix
both_of p q = record {
  x = (p.x + q.x) % 2 ^ 32;
  y = (p.y + q.y) % 2 ^ 32;
  xx = (p.xx + q.xx) % 2 ^ 64;
  xy = (p.xy + q.xy) % 2 ^ 64;
  yy = (p.yy + q.yy) % 2 ^ 64;
}

-- the sums over a run of points without those over its first ones
abbrev pub less_of : Prefix → Prefix → Prefix
less_of p q = record {
  x = (p.x + (2 ^ 32 - q.x)) % 2 ^ 32;
  y = (p.y + (2 ^ 32 - q.y)) % 2 ^ 32;
  xx = (p.xx + (2 ^ 64 - q.xx)) % 2 ^ 64;
  xy = (p.xy + (2 ^ 64 - q.xy)) % 2 ^ 64;
  yy = (p.yy + (2 ^ 64 - q.yy)) % 2 ^ 64;
}

-- the sums of offsets from (x, y), for `count` points
abbrev pub offsets_of : RawSums → ℕ → ℤ → ℤ → Sums
offsets_of r count x y = record {
  count = count;
  x = r.x -ℤ pos count *ℤ x;
  y = r.y -ℤ pos count *ℤ y;
  xx = (r.xx -ℤ x *ℤ r.x) -ℤ x *ℤ (r.x -ℤ pos count *ℤ x);
  xy = (r.xy -ℤ x *ℤ r.y) -ℤ y *ℤ (r.x -ℤ pos count *ℤ x);
  yy = (r.yy -ℤ y *ℤ r.y) -ℤ y *ℤ (r.y -ℤ pos count *ℤ y);
}

-- the sums without the number of points
abbrev pub without_count : Sums → RawSums
without_count s = record { x = s.x; y = s.y; xx = s.xx; xy = s.xy; yy = s.yy }

-- the sums of a segment's offsets with one point more, which becomes the first: it lies at (x, y) from the one that was
abbrev pub with_first_of : Sums → ℤ → ℤ → Sums
with_first_of s x y =
    let moved = offsets_of (without_count s) s.count x y in
    record { count = s.count + 1; x = moved.x; y = moved.y; xx = moved.xx; xy = moved.xy; yy = moved.yy }

-- the sum of the squared cross products of some offsets with one offset, by the sums of their
-- squares and products
abbrev pub spread_by : ℤ → ℤ → ℤ → ℤ → ℤ → ℤ
spread_by xx xy yy right above = ((above *ℤ above) *ℤ xx -ℤ pos 2 *ℤ ((right *ℤ above) *ℤ xy)) +ℤ (right *ℤ right) *ℤ yy

-- the sum of the squared differences between some points' cross products with one offset and a number, by the sums of
-- these points' coordinates
abbrev pub spread_from : RawSums → ℤ → ℤ → ℤ → ℤ → ℤ
spread_from r count right above number =
    ((above *ℤ (above *ℤ r.xx -ℤ (right *ℤ r.xy) *ℤ pos 2)) +ℤ (right *ℤ right) *ℤ r.yy)
    +ℤ number *ℤ (count *ℤ number -ℤ (above *ℤ r.x -ℤ right *ℤ r.y) *ℤ pos 2)

-- row number m has the sums over the first m * 2 ^ shift points, for one lap round the path
pub record IsTable (points : List Point) (shift : ℕ) (rows : List Prefix) : Type 0 where
  pub some : 0 < length points
  pub few : length points ≤ 2 ^ 31
  pub on_page : AreOnPage points
  pub low : shift < 32
  pub lap : length rows ≡ length points / 2 ^ shift + 1
  pub each : (m : ℕ) → m * 2 ^ shift ≤ length points → slice_index_or rows m no_prefix ≡ prefix_of points (m * 2 ^ shift)
