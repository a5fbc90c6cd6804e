-- Paths none of whose steps goes back in a quarter: those that go as far into it as they have steps.
use Rattle.std.proofs.Common.{◌≡◌, ℕ, zero, suc, ◌+◌, ◌-◌, ◌<◌, ◌≤◌, ◌^◌, ◌⊎◌, inl, inr, ℤ, pos, negsuc, neg_ℤ, List, ◌+ℤ◌, ◌-ℤ◌, ◌*ℤ◌, ◌≤ℤ◌, refl, sym, ap, ◌∙◌, subst, arith}
use Rattle.std.proofs.lemmas.Int.{ints}
use Rattle.std.proofs.lemmas.Bool.{cases_lt}
use Rattle.pt_core.specs.ClosedWalk.{IsClosedWalk, IsNextTo, IsUnitStep, point_at}
use Rattle.pt_core.specs.declared.point.Point.{Point}
use Rattle.path_cones.specs.Inner.Strips.{AreInSpan, IsExtent, IsFromTo, IsOnward, IsSpan, across_at, right_at, up_at}
use Rattle.path_cones.specs.Inner.Wedges.{IsQuarter, IsSign}
use Rattle.path_cones.specs.declared.quarter.Quarter.{Quarter}
use Rattle.path_cones.specs.declared.strip.Span.{Span}
use Rattle.path_cones.specs.declared.vector.Vector.{Vector}
use Rattle.path_cones.specs.Corners.{step_from}
use Rattle.path_cones.specs.Straight.{east, north, path_from}
use Rattle.path_cones.specs.Inner.Cones.{IsShort}
use Rattle.path_cones.specs.Inner.Stairs.{AreStairs, stairs_of}
use Rattle.path_cones.specs.Inner.Tails.{way_along}
use Rattle.path_cones.proofs.Bounds.{same_vector}
use Rattle.path_cones.proofs.Breadths.{turned}
use Rattle.path_cones.proofs.Quarters.{sign_most}
use Rattle.path_cones.proofs.Stepping.{part_start}
use Rattle.pt_core.proofs.Terms.{same_value}
use Rattle.pt_core.proofs.Terms.Term.{num, less, times}

-- two numbers that differ by one do so by a sign, too
next_by : (a p q o : ℤ) → IsSign a → IsNextTo p q → IsNextTo (a *ℤ (p -ℤ o)) (a *ℤ (q -ℤ o))
next_by a p q o (inl e) (inl h) =
    let P : ℤ → Type 0 = λ z. IsNextTo (z *ℤ (p -ℤ o)) (z *ℤ (q -ℤ o)) in
    subst P (sym e) (inl (omega (arith, ints)))
next_by a p q o (inl e) (inr h) =
    let P : ℤ → Type 0 = λ z. IsNextTo (z *ℤ (p -ℤ o)) (z *ℤ (q -ℤ o)) in
    subst P (sym e) (inr (omega (arith, ints)))
next_by a p q o (inr e) (inl h) =
    let P : ℤ → Type 0 = λ z. IsNextTo (z *ℤ (p -ℤ o)) (z *ℤ (q -ℤ o)) in
    subst P (sym e) (inr (omega (arith, ints)))
next_by a p q o (inr e) (inr h) =
    let P : ℤ → Type 0 = λ z. IsNextTo (z *ℤ (p -ℤ o)) (z *ℤ (q -ℤ o)) in
    subst P (sym e) (inl (omega (arith, ints)))

-- of two numbers one stays and the other one goes up or down by one
abbrev Steps : ℤ → ℤ → ℤ → ℤ → Type 0
Steps r u r' u' = ((u ≡ u') × IsNextTo r r') ⊎ ((r ≡ r') × IsNextTo u u')

sum_steps : (r u r' u' : ℤ) → Steps r u r' u' → (r' +ℤ u') ≤ℤ (r +ℤ u +ℤ pos 1)
sum_steps r u r' u' (inl (same, inl h)) = omega (arith, ints)
sum_steps r u r' u' (inl (same, inr h)) = omega (arith, ints)
sum_steps r u r' u' (inr (same, inl h)) = omega (arith, ints)
sum_steps r u r' u' (inr (same, inr h)) = omega (arith, ints)

both_rise : (r u r' u' : ℤ) → Steps r u r' u' → (r +ℤ u +ℤ pos 1) ≤ℤ (r' +ℤ u') → (r ≤ℤ r') × (u ≤ℤ u')
both_rise r u r' u' (inl (same, inl h)) l = (omega (arith, ints), omega (arith, ints))
both_rise r u r' u' (inl (same, inr h)) l = absurd (omega (arith, ints))
both_rise r u r' u' (inr (same, inl h)) l = (omega (arith, ints), omega (arith, ints))
both_rise r u r' u' (inr (same, inr h)) l = absurd (omega (arith, ints))

module _ (f : ℕ → ℤ) (count : ℕ) (step : (k : ℕ) → k < count → f k ≤ℤ f (suc k)) where
  rising : (j k : ℕ) → j ≤ k → k ≤ count → f j ≤ℤ f k
  rising j zero a b = let e : j ≡ 0 = omega arith in rw e (omega (arith, ints))
  rising j (suc k) a b = elim (cases_lt k j) [
    | inl same ↦ let e : j ≡ suc k = omega arith in rw e (omega (arith, ints))
    | inr before ↦
        let h = rising j k before (omega arith) in
        let m = step k (omega arith) in
        omega (arith, ints)
  ]

  onward : IsOnward f count
  onward j k a b = let h = rising j k a b in omega (arith, ints)

  pub in_span : (least greatest : ℤ) → f 0 ≡ pos 0 → least ≡ pos 0 → greatest ≡ f count → (k : ℕ) → k ≤ count → IsFromTo least greatest (f k)
  in_span least greatest start low high k h =
      let a = rising 0 k (omega arith) h in
      let b = rising k count h (omega arith) in
      record { least = omega (arith, ints); most = omega (arith, ints) }

-- a span of small numbers
order : {low high z : ℤ} → IsFromTo low high z → low ≤ℤ high
order is =
    let a = is.least in
    let b = is.most in
    omega (arith, ints)

bounds : (span : Span) → span.least ≡ pos 0 → span.least ≤ℤ span.greatest → span.greatest ≤ℤ pos 65536 → IsSpan (negsuc 0) (pos 65536) span
bounds span low some most = record {
  least = record { least = omega (arith, ints); most = omega (arith, ints) };
  greatest = record { least = omega (arith, ints); most = most };
}

-- two numbers of which at each step one stays and the other one goes up or down by one
module _ (r u : ℕ → ℤ) (right_start : r 0 ≡ pos 0) (up_start : u 0 ≡ pos 0) (steps : (k : ℕ) → Steps (r k) (u k) (r (suc k)) (u (suc k))) where
  no_farther : (k d : ℕ) → (r (k + d) +ℤ u (k + d)) ≤ℤ (r k +ℤ u k +ℤ pos d)
  no_farther k zero = let e : k + 0 ≡ k = omega arith in rw e (omega (arith, ints))
  no_farther k (suc d) =
      let e : k + suc d ≡ suc (k + d) = omega arith in
      let h = no_farther k d in
      let m = sum_steps _ _ _ _ (steps (k + d)) in
      rw e (omega (arith, ints))

  module _ (count : ℕ) (full : (r count +ℤ u count) ≡ pos count) where
    full_at : (k : ℕ) → k ≤ count → (r k +ℤ u k) ≡ pos k
    full_at k h =
        let e : k + (count - k) ≡ count = omega arith in
        let z : 0 + k ≡ k = omega arith in
        let Q : ℕ → Type 0 = λ n. (r n +ℤ u n) ≤ℤ (r 0 +ℤ u 0 +ℤ pos k) in
        let before = subst Q z (no_farther 0 k) in
        let P : ℕ → Type 0 = λ n. (r n +ℤ u n) ≤ℤ (r k +ℤ u k +ℤ pos (count - k)) in
        let after = subst P e (no_farther k (count - k)) in
        omega (arith, ints)

    rises : (k : ℕ) → k < count → (r k ≤ℤ r (suc k)) × (u k ≤ℤ u (suc k))
    rises k h =
        let here = full_at k (omega arith) in
        let there = full_at (suc k) (omega arith) in
        both_rise _ _ _ _ (steps k) (omega (arith, ints))

-- a step's coordinate in the turned quarter
step_part : (q o a b : ℤ) → q *ℤ (b -ℤ o) -ℤ q *ℤ (a -ℤ o) ≡ q *ℤ (b -ℤ a)
step_part q o a b = same_value
    (less (times (num q) (less (num b) (num o))) (times (num q) (less (num a) (num o))))
    (times (num q) (less (num b) (num a)))
    (omega arith)

pub unsigned : (s z : ℤ) → IsSign s → s *ℤ (s *ℤ z) ≡ z
unsigned s z (inl e) = let P : ℤ → Type 0 = λ t. t *ℤ (t *ℤ z) ≡ z in subst P (sym e) (omega (arith, ints))
unsigned s z (inr e) = let P : ℤ → Type 0 = λ t. t *ℤ (t *ℤ z) ≡ z in subst P (sym e) (omega (arith, ints))

-- a step in the turned quarter
pub step_seen : (q : Quarter) (path : ℕ → Point) (k : ℕ) → step_from (stairs_of q path) k ≡ turned q (step_from path k)
step_seen q path k = same_vector _ _ _ _
    (step_part q.right (path 0).x (path k).x (path (suc k)).x)
    (step_part q.up (path 0).y (path k).y (path (suc k)).y)

-- turned twice, a quarter is as it was
pub twice : (q : Quarter) (a : Vector) → IsQuarter q → turned q (turned q a) ≡ a
twice q a signs = same_vector _ _ _ _ (unsigned q.right a.x signs.right) (unsigned q.up a.y signs.up)

unturned : (q : Quarter) → IsQuarter q → (a b : Vector) → turned q a ≡ turned q b → a ≡ b
unturned q signs a b e = sym (twice q a signs) ∙ ap (turned q) e ∙ twice q b signs

module _ (quarter : Quarter) (path : ℕ → Point) (signs : IsQuarter quarter) (walk : (k : ℕ) → IsUnitStep (path k) (path (suc k))) where
  steps : (k : ℕ) → Steps (right_at quarter path k) (up_at quarter path k) (right_at quarter path (suc k)) (up_at quarter path (suc k))
  steps k = elim (walk k) [
    | inl row ↦ inl (ap (λ (y : ℤ). quarter.up *ℤ (y -ℤ (path 0).y)) row.0, next_by quarter.right (path k).x (path (suc k)).x (path 0).x signs.right row.1)
    | inr column ↦ inr (ap (λ (x : ℤ). quarter.right *ℤ (x -ℤ (path 0).x)) column.0, next_by quarter.up (path k).y (path (suc k)).y (path 0).y signs.up column.1)
  ]

  module _ (count : ℕ) (full : (right_at quarter path count +ℤ up_at quarter path count) ≡ pos count) where
    climbs : (k : ℕ) → k < count → (right_at quarter path k ≤ℤ right_at quarter path (suc k)) × (up_at quarter path k ≤ℤ up_at quarter path (suc k))
    climbs = rises (right_at quarter path) (up_at quarter path) (part_start quarter.right (path 0).x) (part_start quarter.up (path 0).y) steps count full

    step_up : (k : ℕ) → k < count → (step_from (stairs_of quarter path) k ≡ east) ⊎ (step_from (stairs_of quarter path) k ≡ north)
    step_up k h =
        let to_right = (climbs k h).0 in
        let to_up = (climbs k h).1 in
        elim (steps k) [
          | inl row ↦ elim row.1 [
            | inl e ↦ let same = row.0 in inl (same_vector _ _ _ _ (omega (arith, ints)) (omega (arith, ints)))
            | inr e ↦ absurd (omega (arith, ints))
          ]
          | inr column ↦ elim column.1 [
            | inl e ↦ let same = column.0 in inr (same_vector _ _ _ _ (omega (arith, ints)) (omega (arith, ints)))
            | inr e ↦ absurd (omega (arith, ints))
          ]
        ]

    way_short : (f : ℕ → ℤ) → f 0 ≡ pos 0 → ((k : ℕ) → k < count → f k ≤ℤ f (suc k)) → f count ≤ℤ pos 65535
        → (k : ℕ) → k ≤ count → IsFromTo (pos 0) (pos 65535) (f k -ℤ f 0)
    way_short f start rise most k h =
        let is = in_span f count rise (pos 0) (f count) start refl refl k h in
        let a = is.least in
        let b = is.most in
        record { least = omega (arith, ints); most = omega (arith, ints) }

    pub stairs_up : IsShort 65535 (way_along path count) → AreStairs path count (stairs_of quarter path)
    stairs_up short =
        let x = sign_most quarter.right (way_along path count).x 65535 signs.right short.x in
        let y = sign_most quarter.up (way_along path count).y 65535 signs.up short.y in
        record {
          steps = step_up;
          turns = λ i j a b. (
            λ e. step_seen quarter path i ∙ ap (turned quarter) e ∙ sym (step_seen quarter path j),
            λ e. unturned quarter signs (step_from path i) (step_from path j) (sym (step_seen quarter path i) ∙ e ∙ step_seen quarter path j),
          );
          short = λ k h. record {
            x = way_short (right_at quarter path) (part_start quarter.right (path 0).x) (λ j l. (climbs j l).0) (omega (arith, ints)) k h;
            y = way_short (up_at quarter path) (part_start quarter.up (path 0).y) (λ j l. (climbs j l).1) (omega (arith, ints)) k h;
          };
        }

  -- how far such a path goes to each side
  pub stairs_extent : (count : ℕ) → (right_at quarter path count +ℤ up_at quarter path count) ≡ pos count
      → (way : Vector) (across right up : Span) → IsSpan (neg_ℤ (pos (2 ^ 34))) (pos (2 ^ 34)) across → AreInSpan across (across_at way path) count
      → right.least ≡ pos 0 → right.greatest ≡ right_at quarter path count → right.greatest ≤ℤ pos 65536
      → up.least ≡ pos 0 → up.greatest ≡ up_at quarter path count → up.greatest ≤ℤ pos 65536
      → IsExtent quarter way path count (record { across = across; right = right; up = up })
  stairs_extent count full way across right up small is right_low right_high right_most up_low up_high up_most =
      let right_start = part_start quarter.right (path 0).x in
      let up_start = part_start quarter.up (path 0).y in
      let climbs = rises (right_at quarter path) (up_at quarter path) right_start up_start steps count full in
      let by_right = λ (k : ℕ) (h : k < count). (climbs k h).0 in
      let by_up = λ (k : ℕ) (h : k < count). (climbs k h).1 in
      let in_right = in_span (right_at quarter path) count by_right right.least right.greatest right_start right_low right_high in
      let in_up = in_span (up_at quarter path) count by_up up.least up.greatest up_start up_low up_high in
      record {
        small = record {
          across = small;
          right = bounds right right_low (order (in_right 0 (omega arith))) right_most;
          up = bounds up up_low (order (in_up 0 (omega arith))) up_most;
        };
        across = is;
        right = in_right;
        up = in_up;
        on_right = onward (right_at quarter path) count by_right;
        on_up = onward (up_at quarter path) count by_up;
      }

-- a closed walk goes by unit steps from each of its points
pub walk_unit : (points : List Point) (first : ℕ) → IsClosedWalk points → (k : ℕ) → IsUnitStep (path_from points first k) (path_from points first (suc k))
walk_unit points first walk k =
    let e : suc (k + first) ≡ suc k + first = omega arith in
    let P : ℕ → Type 0 = λ n. IsUnitStep (point_at points (k + first)) (point_at points n) in
    subst P e (walk.steps (k + first))
