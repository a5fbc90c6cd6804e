-- What the search for the least cyclic polygon knows of ways round a path.
use Rattle.std.specs.Prelude.{◌≡◌, ℕ, ◌+◌, ◌-◌, ◌*◌, ◌<◌, ◌≤◌, ◌^◌, All, cond, nat_lt, List, ◌∷◌, ◌++◌, get_or, length, map, slice_index}
use Rattle.std.specs.Ordering.{nat_cmp}
use Rattle.std.specs.Cmp.Lexicographic.{slice_cmp}
use Rattle.std.specs.declared.cmp.Ordering.TheVariants.{Less}
use Rattle.pt_core.specs.declared.point.Point.{Point}
use Rattle.straight_paths.specs.Straight.{IsPossible}
use Rattle.least_walk.specs.LeastWalk.{total_cost}
use Rattle.least_walk.specs.Inner.Suffix.{IsFewestFrom, WalksOn}
use Rattle.polygon_search.specs.Polygon.{penalty_of}
use Rattle.cyclic_optimal.specs.declared.fronts.Front.{Front}
use Rattle.cyclic_optimal.specs.declared.fronts.Onward.{Onward}
use Rattle.cyclic_optimal.specs.declared.round.Best.{Best}
use Rattle.cyclic_optimal.specs.declared.fronts.TheConstants.{MOST, NONE}

-- the longest possible segment from point i leads to point `last`
pub record IsLongest (points : List Point) (i last : ℕ) : Type 0 where
  pub reached : IsPossible points i last
  pub farthest : (j : ℕ) → IsPossible points i j → j ≤ last

-- the number in the first lap of point i, in the first lap or in the second
pub record IsInLap (size i from : ℕ) : Type 0 where
  pub in_first : i < size → from ≡ i
  pub in_second : size ≤ i → from + size ≡ i

-- where the segment from point i to point j leads past the path's end, how far past it
abbrev pub past : ℕ → ℕ → ℕ → ℕ
past size i j = cond (nat_lt i size) (j - size) 0

-- what a segment counts: its penalty, and in the last 32 bits where it leads past the path's end
unfoldable pub worth_of : List Point → ℕ → ℕ → ℕ
worth_of points i j = penalty_of points i j * 2 ^ 32 + past (length points) i j

-- the least that a way of so many segments from point i to `end` counts, or `NONE` where there is no such way
pub record IsLeastBy (points : List Point) (end count i least : ℕ) : Type 0 where
  pub bound : (r : List ℕ) → WalksOn end (IsPossible points) i r → length r ≡ count → least ≤ total_cost (worth_of points) (i ∷ r)
  pub some : least < NONE → (r : List ℕ) × WalksOn end (IsPossible points) i r × (length r ≡ count)
      × (total_cost (worth_of points) (i ∷ r) ≡ least)

-- a front has this of each of its points, and from a point below it there is no such way
pub record IsFrontOf (points : List Point) (front : Front) : Type 0 where
  pub each : (i : ℕ) → front.low ≤ i → i < front.low + length front.least.items
      → IsLeastBy points front.end front.left i (slice_index front.least.items (i - front.low))
  pub below : (i : ℕ) (r : List ℕ) → i < front.low → WalksOn front.end (IsPossible points) i r → length r ≡ front.left → ⊥

-- a front has the first points of another one, and each of these counts as much more or less than there
pub record IsMoved (front other : Front) : Type 0 where
  pub left : front.left ≡ other.left
  pub low : front.low ≡ other.low
  pub some : 1 ≤ length front.least.items
  pub most : length front.least.items ≤ length other.least.items
  pub each : (k : ℕ) → k < length front.least.items → (slice_index front.least.items k < MOST) × (slice_index other.least.items k < MOST)
      × (slice_index front.least.items k + slice_index other.least.items 0 ≡ slice_index other.least.items k + slice_index front.least.items 0)

-- what the first points count more and less than this; or `NONE`, where this is too much
pub record IsMovedTo (more less least moved : ℕ) : Type 0 where
  pub told : least < 2 * MOST → less ≤ least + more → moved + less ≡ least + more
  pub none : 2 * MOST ≤ least → moved ≡ NONE

-- the same of the ways from point i whose first segment leads to below `to`
pub record IsLeastVia (points : List Point) (end count i to least : ℕ) : Type 0 where
  pub bound : (j : ℕ) (r : List ℕ) → j < to → IsPossible points i j → WalksOn end (IsPossible points) j r → length r ≡ count
      → least ≤ total_cost (worth_of points) (i ∷ j ∷ r)
  pub some : least < NONE → (r : List ℕ) × WalksOn end (IsPossible points) i r × (length r ≡ count + 1)
      × (total_cost (worth_of points) (i ∷ r) ≡ least)

-- the farthest points after no segment, after one, and so on up to `end`, from the first of them
pub record AreTops (points : List Point) (start end count : ℕ) (tops : List ℕ) : Type 0 where
  pub size : length tops ≡ count + 1
  pub first : slice_index tops 0 ≡ start
  pub within : (c : ℕ) → c ≤ count → slice_index tops c ≤ end
  pub before : (c : ℕ) → c < count → slice_index tops c < end
  pub onwards : (c i j : ℕ) → c < count → i ≤ slice_index tops c → IsPossible points i j → j ≤ end
      → j ≤ slice_index tops (c + 1)

-- a front to one end from whose points so many segments are left, up to point `top` or beyond
pub record IsFrontAt (points : List Point) (end top left : ℕ) (front : Front) : Type 0 where
  pub is : IsFrontOf points front
  pub ends : front.end ≡ end
  pub count : front.left ≡ left
  pub above : top < front.low + length front.least.items
  pub few : front.low + length front.least.items ≤ 2 ^ 33

-- the fronts of all ways from a point to `end`, by how many segments are left: each goes up to the farthest point
pub record AreFrontsOf (points : List Point) (start end : ℕ) (fronts : List Front) : Type 0 where
  pub some : 1 ≤ length fronts
  pub tops : List ℕ
  pub are : AreTops points start end (length fronts - 1) tops
  pub fewest : IsFewestFrom end (IsPossible points) start (length fronts - 1)
  pub each : (left : ℕ) (d : Front) → left < length fronts
      → IsFrontAt points end (slice_index tops (length fronts - 1 - left)) left (get_or fronts left d)

-- of the ways of so many segments from point i to `end` that count so much it is the lowest list
pub record IsFirstWay (points : List Point) (end count i worth : ℕ) (way : List ℕ) : Type 0 where
  pub goes : WalksOn end (IsPossible points) i way
  pub counted : length way ≡ count
  pub costs : total_cost (worth_of points) (i ∷ way) ≡ worth
  pub lowest : (r : List ℕ) → WalksOn end (IsPossible points) i r → length r ≡ count → total_cost (worth_of points) (i ∷ r) ≡ worth
      → ¬ (slice_cmp nat_cmp r way ≡ Less)

-- the shortest segment from point i by which such a way begins, and what it counts from there
pub record IsFirstOnward (points : List Point) (end left i rest : ℕ) (onward : Onward) : Type 0 where
  pub possible : IsPossible points i onward.next
  pub least : IsLeastBy points end left onward.next onward.least
  pub sum : worth_of points i onward.next + onward.least ≡ rest
  pub before : (j : ℕ) (r : List ℕ) → j < onward.next → IsPossible points i j → WalksOn end (IsPossible points) j r → length r ≡ left
      → rest < total_cost (worth_of points) (i ∷ j ∷ r)

-- the number in the first lap of a point in the first lap or in the second
abbrev pub lap_of : ℕ → ℕ → ℕ
lap_of size j = cond (nat_lt j size) j (j - size)

-- a way's points as a list that begins with the first one past the path's end
pub record IsListOf (size : ℕ) (way at : List ℕ) : Type 0 where
  pub before : List ℕ
  pub behind : List ℕ
  pub is : way ≡ before ++ map (λ k. k + size) behind
  pub early : All (λ k. k < size) before
  pub list : at ≡ behind ++ before

-- some way once round from point s has these numbers and this list; none has fewer segments, or as many and counts less,
-- or ties in both and is a lower list
pub record IsBestFrom (points : List Point) (s : ℕ) (best : Best) : Type 0 where
  pub way : List ℕ
  pub goes : WalksOn (s + length points) (IsPossible points) s way
  pub count : length way ≡ best.count
  pub worth : total_cost (worth_of points) (s ∷ way) ≡ best.worth
  pub list : IsListOf (length points) way best.at.items
  pub fewest : (r : List ℕ) → WalksOn (s + length points) (IsPossible points) s r → best.count ≤ length r
  pub least : (r : List ℕ) → WalksOn (s + length points) (IsPossible points) s r → length r ≡ best.count
      → best.worth ≤ total_cost (worth_of points) (s ∷ r)
  pub lowest : (r at : List ℕ) → WalksOn (s + length points) (IsPossible points) s r → length r ≡ best.count
      → total_cost (worth_of points) (s ∷ r) ≡ best.worth → IsListOf (length points) r at
      → ¬ (slice_cmp nat_cmp at best.at.items ≡ Less)

-- the same over all points from `low` to before `high`
pub record IsBestAmong (points : List Point) (low high : ℕ) (best : Best) : Type 0 where
  pub start : ℕ
  pub above : low ≤ start
  pub under : start < high
  pub way : List ℕ
  pub goes : WalksOn (start + length points) (IsPossible points) start way
  pub count : length way ≡ best.count
  pub worth : total_cost (worth_of points) (start ∷ way) ≡ best.worth
  pub list : IsListOf (length points) way best.at.items
  pub fewest : (s : ℕ) (r : List ℕ) → low ≤ s → s < high → WalksOn (s + length points) (IsPossible points) s r
      → best.count ≤ length r
  pub least : (s : ℕ) (r : List ℕ) → low ≤ s → s < high → WalksOn (s + length points) (IsPossible points) s r
      → length r ≡ best.count → best.worth ≤ total_cost (worth_of points) (s ∷ r)
  pub lowest : (s : ℕ) (r at : List ℕ) → low ≤ s → s < high → WalksOn (s + length points) (IsPossible points) s r
      → length r ≡ best.count → total_cost (worth_of points) (s ∷ r) ≡ best.worth → IsListOf (length points) r at
      → ¬ (slice_cmp nat_cmp at best.at.items ≡ Less)
