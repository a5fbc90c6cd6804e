-- Two paths are compared point by point.
use Rattle.std.proofs.Common.{◌≡◌, ℕ, Bool, true, false, ◌&&◌, ◌<◌, ◌%◌, ℤ, ◌-ℤ◌, List, length, refl, ap, sym, ◌∙◌, arith}
use Rattle.std.proofs.lemmas.Int.{ints}
use Rattle.std.proofs.Math.Nat.{mod-lt}
use Rattle.std.specs.Prelude.{slice_index_or}
use Rattle.pt_core.specs.declared.point.Point.{Point}
use Rattle.pt_core.specs.ClosedWalk.{origin, point_at}
use Rattle.prefix_moments.proofs.Rows.{listed}
use Rattle.path_copies.specs.Copy.{IsCopy}

-- point number m of the one path lies as far from that of the other as the first points from one another
pub record IsAsFar (points other : List Point) (m : ℕ) : Type 0 where
  pub right : (slice_index_or other m origin).x -ℤ (slice_index_or points m origin).x ≡ (slice_index_or other 0 origin).x -ℤ (slice_index_or points 0 origin).x
  pub above : (slice_index_or other m origin).y -ℤ (slice_index_or points m origin).y ≡ (slice_index_or other 0 origin).y -ℤ (slice_index_or points 0 origin).y

-- what is as far from one number as another is
aside : (p q o r away : ℤ) → o -ℤ p ≡ away → r -ℤ q ≡ away → p -ℤ q ≡ o -ℤ r
aside p q o r away first second = omega (arith, ints)

module _ (points other : List Point) (count : length points ≡ length other) (some : 0 < length points)
    (far : (m : ℕ) → m < length points → IsAsFar points other m) where
  -- all points of two closed lists, as far as the lists themselves
  far_at : (k : ℕ) → IsAsFar points other (k % length points)
  far_at k = far (k % length points) (mod-lt k some)

  abbrev right : ℤ
  right = (slice_index_or other 0 origin).x -ℤ (slice_index_or points 0 origin).x

  abbrev above : ℤ
  above = (slice_index_or other 0 origin).y -ℤ (slice_index_or points 0 origin).y

  other_at : (k : ℕ) → slice_index_or other (k % length points) origin ≡ point_at other k
  other_at k = ap (λ n. slice_index_or other (k % n) origin) count

  right_at : (k : ℕ) → (point_at other k).x -ℤ (point_at points k).x ≡ right
  right_at k = ap (λ (p : Point). p.x -ℤ (point_at points k).x) (sym (other_at k)) ∙ (far_at k).right

  above_at : (k : ℕ) → (point_at other k).y -ℤ (point_at points k).y ≡ above
  above_at k = ap (λ (p : Point). p.y -ℤ (point_at points k).y) (sym (other_at k)) ∙ (far_at k).above

  pub copy_from_far : IsCopy points other
  copy_from_far = record {
    count = count;
    right = λ k. aside (point_at points k).x (point_at points 0).x (point_at other k).x (point_at other 0).x right (right_at k) (right_at 0);
    above = λ k. aside (point_at points k).y (point_at points 0).y (point_at other k).y (point_at other 0).y above (above_at k) (above_at 0);
  }

-- where both hold
pub both_true : (a b : Bool) → a ≡ true → b ≡ true → (a && b) ≡ true
both_true true true is also = refl
both_true true false is also = absurd (cc also)
both_true false b is also = absurd (cc is)

-- the other way round
across : (p q o r : ℤ) → p -ℤ q ≡ o -ℤ r → o -ℤ p ≡ r -ℤ q
across p q o r same = omega (arith, ints)

module _ (points other : List Point) (copy : IsCopy points other) (m : ℕ) (below : m < length points) where
  here : (k : ℕ) → k < length points → slice_index_or points k origin ≡ point_at points k
  here k inside = listed points points k refl inside

  there : (k : ℕ) → k < length points → slice_index_or other k origin ≡ point_at other k
  there k inside = listed other other k refl (omega (arith, copy.count))

  pub far_of_copy : IsAsFar points other m
  far_of_copy =
      let first : 0 < length points = omega arith in
      record {
        right = rw (here m below, here 0 first, there m below, there 0 first)
            (across (point_at points m).x (point_at points 0).x (point_at other m).x (point_at other 0).x (copy.right m));
        above = rw (here m below, here 0 first, there m below, there 0 first)
            (across (point_at points m).y (point_at points 0).y (point_at other m).y (point_at other 0).y (copy.above m));
      }
