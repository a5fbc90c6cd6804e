-- The total under a penalty.
use Rattle.std.proofs.Common.{◌≡◌, ℕ, ◌+◌, ◌*◌, ◌/◌, ◌<◌, ◌≤◌, ◌^◌, ℤ, pos, ◌-ℤ◌, ◌≤ℤ◌, List, w32, w64, to_z, of_z, sym, ap, ◌∙◌, subst, inl, inr, arith}
use Rattle.std.proofs.Math.Nat.{le-div_iff_mul-le}
use Rattle.std.proofs.lemmas.Bool.{cases_lt}
use Rattle.std.proofs.lemmas.Int.{ints, to_z-of_z}
use Rattle.std.proofs.lemmas.Nat.{div_below, mul-le}
use Rattle.std.specs.Prelude.{unsigned_abs}
use Rattle.std.specs.Int.RustNames.{FitsSigned}
use mir.Syntax.{w128}
use Rattle.pt_core.specs.declared.point.Point.{Point}
use Rattle.pt_core.specs.ClosedWalk.{point_at}
use Rattle.pt_core.specs.Root.{IsRoot}
use Rattle.pt_core.specs.declared.limits.TheConstants.{LONGEST_SIDE}
use Rattle.prefix_moments.specs.declared.sums.Sums.{Sums}
use Rattle.pt_core.specs.OnPage.{IsOnPage}
use Rattle.prefix_moments.specs.Sums.{sums_of, spread_of, rightward_of, above_of}
use Rattle.prefix_moments.specs.Inner.Table.{spread_by}
use Rattle.pt_core.proofs.Roots.{root_below}
use Rattle.pt_core.proofs.Sizes.{back, long_back}
use Rattle.prefix_moments.proofs.Rows.{total_is, spread_at_least}

between_is : (r a b : ℤ) → pos 0 ≤ℤ a → a ≤ℤ pos LONGEST_SIDE → pos 0 ≤ℤ b → b ≤ℤ pos LONGEST_SIDE
    → r ≡ to_z w32 (of_z w32 b) -ℤ to_z w32 (of_z w32 a) → r ≡ b -ℤ a
between_is r a b al ah bl bh e = omega (arith, ints)

-- how far the last point of a segment lies from the first
pub right_is : (points : List Point) (i j : ℕ) (first last : Point) (right : ℤ) → IsOnPage first → IsOnPage last
    → first ≡ point_at points i → last ≡ point_at points j → right ≡ to_z w32 (of_z w32 last.x) -ℤ to_z w32 (of_z w32 first.x) → right ≡ rightward_of points i j
right_is points i j first last right pf pl ef el er =
    between_is right first.x last.x pf.left pf.right pl.left pl.right er
    ∙ ap (λ v. v.x -ℤ first.x) el ∙ ap (λ v. (point_at points j).x -ℤ v.x) ef

pub above_is : (points : List Point) (i j : ℕ) (first last : Point) (above : ℤ) → IsOnPage first → IsOnPage last
    → first ≡ point_at points i → last ≡ point_at points j → above ≡ to_z w32 (of_z w32 last.y) -ℤ to_z w32 (of_z w32 first.y) → above ≡ above_of points i j
above_is points i j first last above pf pl ef el ea =
    between_is above first.y last.y pf.bottom pf.top pl.bottom pl.top ea
    ∙ ap (λ v. v.y -ℤ first.y) el ∙ ap (λ v. (point_at points j).y -ℤ v.y) ef

-- what a call of `spread` on a segment's sums gives
pub total_from : (points : List Point) (i j : ℕ) (s : Sums) (first last : Point) (right above t : ℤ)
    → IsOnPage first → IsOnPage last → first ≡ point_at points i → last ≡ point_at points j → s ≡ sums_of points i j
    → FitsSigned w64 s.xx → FitsSigned w64 s.xy → FitsSigned w64 s.yy → unsigned_abs right ≤ LONGEST_SIDE → unsigned_abs above ≤ LONGEST_SIDE
    → right ≡ to_z w32 (of_z w32 last.x) -ℤ to_z w32 (of_z w32 first.x) → above ≡ to_z w32 (of_z w32 last.y) -ℤ to_z w32 (of_z w32 first.y)
    → t ≡ spread_by (to_z w64 (of_z w64 s.xx)) (to_z w64 (of_z w64 s.xy)) (to_z w64 (of_z w64 s.yy)) (to_z w64 (of_z w64 right)) (to_z w64 (of_z w64 above))
    → t ≡ spread_of points i j
total_from points i j s first last right above t pf pl ef el es fxx fxy fyy hr ha er ea et =
    total_is points i j s right above t es
    (right_is points i j first last right pf pl ef el er) (above_is points i j first last above pf pl ef el ea)
    (rw (to_z-of_z w64 s.xx fxx, to_z-of_z w64 s.xy fxy, to_z-of_z w64 s.yy fyy, back right (omega arith), back above (omega arith)) at et)

-- the total isn't below zero
pub total_at_least : (points : List Point) (i j : ℕ) (t : ℤ) → t ≡ spread_of points i j → pos 0 ≤ℤ t
total_at_least points i j t e =
    let P : ℤ → Type 0 = λ v. pos 0 ≤ℤ v in
    subst P (sym e) (spread_at_least points i j)

-- the total's value in its type
pub total_back : (t s : ℤ) → t ≡ s → unsigned_abs t < 2 ^ 110 → unsigned_abs (to_z w128 (of_z w128 t)) ≡ unsigned_abs s
total_back t s e most = ap unsigned_abs (long_back t (omega arith) ∙ e)

-- a root reaches a limit where the limit's square is reached by the mean
pub limit_reached : (total count limit root : ℕ) → 0 < count → limit * limit * count ≤ total → IsRoot (total / count) root → limit ≤ root
limit_reached total count limit root some reached is =
    let mean : limit * limit ≤ total / count = (le-div_iff_mul-le some).1 reached in
    elim (cases_lt root limit) [
      | inl below ↦
          let next : root + 1 ≤ limit = omega arith in
          absurd (omega (arith, is.falls_short, mul-le (root + 1) (root + 1) limit limit next next))
      | inr at_least ↦ at_least
    ]

-- and is below it where it isn't
pub limit_missed : (total count limit root : ℕ) → 0 < count → ¬ (limit * limit * count ≤ total) → IsRoot (total / count) root → root < limit
limit_missed total count limit root some missed is =
    root_below (total / count) root limit is (div_below total count (limit * limit) some (omega arith))
