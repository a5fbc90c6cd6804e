-- Sums over the points of a segment, and the segment's penalty (Selinger, "Potrace", 2003, sections
-- 2.2.1 and 2.2.3). The points are numbered round the path: after the last one comes the first again.
use Rattle.std.specs.Prelude.{ℕ, zero, suc, ◌+◌, ◌-◌, ◌*◌, ◌/◌, ℤ, pos, ◌+ℤ◌, ◌-ℤ◌, ◌*ℤ◌, unsigned_abs, List}
use Rattle.pt_core.specs.declared.point.Point.{Point}
use Rattle.pt_core.specs.ClosedWalk.{point_at}
use Rattle.pt_core.specs.Root.{IsRoot}
use Rattle.prefix_moments.specs.declared.sums.Sums.{Sums}

-- f(0) + f(1) + .., which are `count` numbers
abbrev pub sum_of : (ℕ → ℤ) → ℕ → ℤ
sum_of f zero = pos 0
sum_of f (suc count) = sum_of f count +ℤ f count

-- the sum of f(k) for all k from i to j
abbrev pub sum_over : ℕ → ℕ → (ℕ → ℤ) → ℤ
sum_over i j f = sum_of (λ d. f (i + d)) (j - i + 1)

-- how many columns point number k lies to the right of point number i
abbrev pub rightward_of : List Point → ℕ → ℕ → ℤ
rightward_of points i k = (point_at points k).x -ℤ (point_at points i).x

-- how many rows point number k lies above point number i
abbrev pub above_of : List Point → ℕ → ℕ → ℤ
above_of points i k = (point_at points k).y -ℤ (point_at points i).y

-- the number of points from number i to number j, and the sums of their offsets from number i, of
-- the offsets' squares and of their products
abbrev pub sums_of : List Point → ℕ → ℕ → Sums
sums_of points i j = record {
  count = j - i + 1;
  x = sum_over i j (λ k. rightward_of points i k);
  y = sum_over i j (λ k. above_of points i k);
  xx = sum_over i j (λ k. rightward_of points i k *ℤ rightward_of points i k);
  xy = sum_over i j (λ k. rightward_of points i k *ℤ above_of points i k);
  yy = sum_over i j (λ k. above_of points i k *ℤ above_of points i k);
}

-- the cross product of the offsets of points number k and j from point number i: the distance of
-- point number k from the line through the other two, times the length between these
abbrev pub chord_cross_of : List Point → ℕ → ℕ → ℕ → ℤ
chord_cross_of points i j k = rightward_of points i k *ℤ above_of points i j -ℤ above_of points i k *ℤ rightward_of points i j

-- the sum of the squared cross products of the points from number i to number j
abbrev pub spread_of : List Point → ℕ → ℕ → ℤ
spread_of points i j = sum_over i j (λ k. chord_cross_of points i j k *ℤ chord_cross_of points i j k)

-- the penalty is the root of the mean squared cross product, in units of 1/256, rounded down
abbrev pub IsPenalty : List Point → ℕ → ℕ → ℕ → Type 0
IsPenalty points i j penalty = IsRoot (65536 * unsigned_abs (spread_of points i j) / (j - i + 1)) penalty
