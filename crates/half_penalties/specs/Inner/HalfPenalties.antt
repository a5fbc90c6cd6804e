-- What the two halves of a segment add to its penalty at least. A segment from point number i to number j is cut behind
-- its point number `middle`: the first half goes from i to there, the other one from the next point to j.
use Rattle.std.specs.Prelude.{◌≡◌, ℕ, ◌+◌, ◌-◌, ◌*◌, ℤ, pos, ◌+ℤ◌, ◌-ℤ◌, ◌*ℤ◌, ◌≤ℤ◌, unsigned_abs, List}
use Rattle.pt_core.specs.declared.point.Point.{Point}
use Rattle.prefix_moments.specs.Sums.{sum_over, rightward_of, above_of}

-- it tells one of the two diagonals: 1 the one that rises to the right, -1 the one that falls
abbrev pub IsSlant : ℤ → Type 0
IsSlant slant = unsigned_abs slant ≡ 1

-- how far an offset goes along a diagonal, in steps along rows and columns
abbrev pub along_of : ℤ → ℤ → ℤ → ℤ
along_of slant right above = right +ℤ slant *ℤ above

-- each step of the path from point number i to number j brings it on along the diagonal, or each brings it back: the
-- path takes but two of the four directions
abbrev pub GoesOneWay : List Point → ℤ → ℕ → ℕ → Type 0
GoesOneWay points slant i j = unsigned_abs (along_of slant (rightward_of points i j) (above_of points i j)) ≡ j - i

-- the cross product of point number k's offset from point number o with the offset (right, above)
abbrev pub cross_from : List Point → ℕ → ℕ → ℤ → ℤ → ℤ
cross_from points o k right above = rightward_of points o k *ℤ above -ℤ above_of points o k *ℤ right

-- the sum of the squares of these, for the points from number lo to number hi
abbrev pub crosses_of : List Point → ℕ → ℕ → ℕ → ℤ → ℤ → ℤ
crosses_of points o lo hi right above = sum_over lo hi (λ k. cross_from points o k right above *ℤ cross_from points o k right above)

-- whatever chord (right, above) a segment that begins or ends at point number o may have: bound^2 times the square of how
-- far the chord goes along the diagonal is at most 65536 * weight times the sum of the squared cross products
abbrev pub IsHalfBound : List Point → ℤ → ℕ → ℕ → ℕ → ℕ → ℕ → Type 0
IsHalfBound points slant o lo hi weight bound =
    (right above : ℤ) → (pos (bound * bound) *ℤ (along_of slant right above *ℤ along_of slant right above))
    ≤ℤ (pos (65536 * weight) *ℤ crosses_of points o lo hi right above)

-- so much the first half adds to the penalty of each segment from point number i at least
abbrev pub IsBoundBefore : List Point → ℤ → ℕ → ℕ → ℕ → Type 0
IsBoundBefore points slant middle i bound = IsHalfBound points slant i i middle (middle - i) bound

-- and so much the other half to that of each segment to point number j
abbrev pub IsBoundBehind : List Point → ℤ → ℕ → ℕ → ℕ → Type 0
IsBoundBehind points slant middle j bound = IsHalfBound points slant j (middle + 1) j (j - middle - 1) bound
