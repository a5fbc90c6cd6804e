-- Swings of a path that takes two kinds of steps alone.
use Rattle.std.proofs.Common.{◌≡◌, ◌⊎◌, inl, inr, ℕ, ◌+◌, ◌-◌, ◌<◌, ◌≤◌, ℤ, pos, negsuc, ◌+ℤ◌, ◌-ℤ◌, ◌*ℤ◌, unsigned_abs, w64, to_z, of_z, List, sym, ◌∙◌, ap, subst, arith}
use Rattle.std.proofs.lemmas.Int.{ints}
use Rattle.pt_core.proofs.Sizes.{product_most}
use Rattle.pt_core.proofs.Terms.{same_value}
use Rattle.pt_core.proofs.Terms.Term.{num, plus, less, times}
use Rattle.pt_core.specs.ClosedWalk.{point_at}
use Rattle.pt_core.specs.declared.point.Point.{Point}
use Rattle.path_cones.specs.Cones.{cross_of}
use Rattle.path_cones.specs.Corners.{step_from, IsNextCorner}
use Rattle.path_cones.specs.Straight.{east, north, path_from, vector_of}
use Rattle.path_cones.specs.Inner.Cones.{IsShort}
use Rattle.path_cones.specs.Inner.Corners.{GoesStraight}
use Rattle.path_cones.specs.Inner.Funnels.{IsForward}
use Rattle.path_cones.specs.Inner.Stairs.{AreStairs, stairs_of}
use Rattle.path_cones.specs.Inner.Strips.{IsSway, across_at}
use Rattle.path_cones.specs.Inner.Swings.{IsSmallSwing, IsSwing, SwaysOn}
use Rattle.path_cones.specs.Inner.Tails.{way_along}
use Rattle.path_cones.specs.Inner.Wedges.{IsQuarter}
use Rattle.path_cones.specs.declared.quarter.Quarter.{Quarter}
use Rattle.path_cones.specs.declared.swing.Swing.{Swing}
use Rattle.path_cones.specs.declared.trial.Sway.{Sway}
use Rattle.path_cones.specs.declared.vector.Vector.{Vector}
use Rattle.path_cones.proofs.Bounds.{crossed, same_vector}
use Rattle.path_cones.proofs.Breadths.{turned}
use Rattle.path_cones.proofs.Clear.{path_run}
use Rattle.path_cones.proofs.Landings.{first_step, step_here, way_seen}
use Rattle.path_cones.proofs.Quarters.{sign_most, sign_small}
use Rattle.path_cones.proofs.Running.{along_x, along_y}
use Rattle.path_cones.proofs.Stairs.{step_seen, twice, unsigned}

-- how far across the way a run goes
across_part : (wx wy x y ox oy u v d : ℤ)
    → wx *ℤ (y +ℤ d *ℤ v -ℤ oy) -ℤ wy *ℤ (x +ℤ d *ℤ u -ℤ ox) ≡ (wx *ℤ (y -ℤ oy) -ℤ wy *ℤ (x -ℤ ox)) +ℤ d *ℤ (wx *ℤ v -ℤ wy *ℤ u)
across_part wx wy x y ox oy u v d = same_value
    (less (times (num wx) (less (plus (num y) (times (num d) (num v))) (num oy))) (times (num wy) (less (plus (num x) (times (num d) (num u))) (num ox))))
    (plus (less (times (num wx) (less (num y) (num oy))) (times (num wy) (less (num x) (num ox))))
    (times (num d) (less (times (num wx) (num v)) (times (num wy) (num u)))))
    (omega arith)

pub unit_cross : (way unit : Vector) → IsShort 65535 way → IsShort 1 unit → unsigned_abs (cross_of way unit) ≤ 131072
unit_cross way unit short small =
    let p = product_most way.x unit.y 65535 1 short.x small.y in
    let q = product_most way.y unit.x 65535 1 short.y small.x in
    omega (arith, ints)

small_back : (z : ℤ) → unsigned_abs z ≤ 131072 → to_z w64 (of_z w64 z) ≡ z
small_back z h = omega (arith, ints)

-- such a number is passed as it is
pub across_back : (z : ℤ) → unsigned_abs z ≤ 8589934592 → to_z w64 (of_z w64 z) ≡ z
across_back z h = omega (arith, ints)

module _ (points : List Point) (first most : ℕ) (s : Swing) (on : IsSwing points first most s) where
  abbrev path : ℕ → Point
  path = path_from points first

  straight : (d : ℕ) → d ≤ s.next - s.steps → GoesStraight path s.steps d
  straight d h = path_run points first s.steps (s.next - s.steps) d on.corner h

  across_on : (d : ℕ) → d ≤ s.next - s.steps → across_at s.way path (s.steps + d) ≡ s.across +ℤ pos d *ℤ s.turn
  across_on d h =
      let ex = along_x path s.steps d (straight d h) d (omega arith) in
      let ey = along_y path s.steps d (straight d h) d (omega arith) in
      let is : across_at s.way path (s.steps + d) ≡ across_at s.way path s.steps +ℤ pos d *ℤ cross_of s.way (step_from path s.steps) =
      rw (ex, ey) (across_part s.way.x s.way.y (path s.steps).x (path s.steps).y (path 0).x (path 0).y (step_from path s.steps).x (step_from path s.steps).y (pos d)) in
      is ∙ ap (λ (v : Vector). across_at s.way path s.steps +ℤ pos d *ℤ cross_of s.way v) on.now
      ∙ ap (λ (z : ℤ). z +ℤ pos d *ℤ cross_of s.way on.ahead) (sym on.across)
      ∙ ap (λ (z : ℤ). s.across +ℤ pos d *ℤ z) (sym on.turn)

  pub small_swing : IsSmallSwing s
  small_swing =
      let within = on.within in
      record {
        across = crossed s.way (way_along path s.steps) s.across on.short (on.near s.steps (omega arith)) on.across;
        turn = rw on.turn (unit_cross s.way on.ahead on.short on.ahead_unit);
      }

  pub turn_back : to_z w64 (of_z w64 s.turn) ≡ s.turn
  turn_back = let small = small_swing.turn in omega (arith, ints)

  pub other_back : to_z w64 (of_z w64 s.other) ≡ s.other
  other_back =
      let small : unsigned_abs s.other ≤ 131072 = rw on.other (unit_cross s.way on.after on.short on.after_unit) in
      omega (arith, ints)

  across_is : (across : ℤ) (end : ℕ) → s.steps ≤ end → end ≤ s.next → across ≡ s.across +ℤ pos (end - s.steps) *ℤ s.turn → across ≡ across_at s.way path end
  across_is across end h k is =
      let e : s.steps + (end - s.steps) ≡ end = omega arith in
      let P : ℕ → Type 0 = λ n. across_at s.way path n ≡ s.across +ℤ pos (end - s.steps) *ℤ s.turn in
      is ∙ sym (subst P e (across_on (end - s.steps) (omega arith)))

  pub across_small : (across : ℤ) (end : ℕ) → s.steps ≤ end → end ≤ s.next → end ≤ most
      → across ≡ s.across +ℤ pos (end - s.steps) *ℤ s.turn → unsigned_abs across ≤ 8589934592
  across_small across end h k l is = crossed s.way (way_along path end) across on.short (on.near end l) (across_is across end h k is)

  -- the sway up to a point of the run ahead
  pub sway_to : (across : ℤ) (end : ℕ) (new : Sway) → s.steps ≤ end → end ≤ s.next → end ≤ most
      → across ≡ s.across +ℤ pos (end - s.steps) *ℤ s.turn → SwaysOn s.sway across end new → IsSway s.way path end new
  sway_to across end new h k l is sways =
      let at = across_is across end h k is in
      sways s.way path s.steps h (straight (end - s.steps) (omega arith)) (across_small across end h k l is) at on.sway

  turns_after : s.next < most → step_from path s.next ≡ on.after
  turns_after h =
      let later = on.later in
      let d : ℕ = s.next - s.steps in
      let before : ℕ = s.steps + (d - 1) in
      elim (on.steps s.next h) [
        | inl e ↦
            let same : step_from path before ≡ step_from path s.next = straight d (omega arith) (d - 1) (omega arith) ∙ on.now ∙ sym e in
            let a : first + s.steps + (d - 1) ≡ first + before = omega arith in
            let b : first + s.steps + d ≡ first + s.next = omega arith in
            absurd (on.corner.turns (ap (step_from (point_at points)) a ∙ sym (step_here points first before) ∙ same ∙ step_here points first s.next ∙ ap (step_from (point_at points)) (sym b)))
        | inr turn ↦ turn
      ]

  pub swing_on : (across : ℤ) (next : ℕ) (sway : Sway) → s.next < most → across ≡ s.across +ℤ pos (s.next - s.steps) *ℤ s.turn → SwaysOn s.sway across s.next sway
      → s.next < next → IsNextCorner points (first + s.next) (next - s.next)
      → IsSwing points first most (record { way = s.way; steps = s.next; next = next; across = across; turn = s.other; other = s.turn; sway = sway })
  swing_on across next sway h is sways more corner =
      let later = on.later in
      record {
        within = h;
        few = on.few;
        later = more;
        corner = corner;
        short = on.short;
        near = on.near;
        sway = sway_to across s.next sway (omega arith) (omega arith) (omega arith) is sways;
        across = across_is across s.next (omega arith) (omega arith) is;
        ahead = on.after;
        after = on.ahead;
        ahead_unit = on.after_unit;
        after_unit = on.ahead_unit;
        now = turns_after h;
        steps = λ k l. elim (on.steps k l) [ inl e ↦ inr e | inr e ↦ inl e ];
        turn = on.other;
        other = on.turn;
      }

-- ---- at the path's start

abbrev pub row_step : Quarter → Vector
row_step q = record { x = q.right; y = pos 0 }

abbrev pub column_step : Quarter → Vector
column_step q = record { x = pos 0; y = q.up }

pub row_unit : (q : Quarter) → IsQuarter q → IsShort 1 (row_step q)
row_unit q signs = record { x = sign_small q.right signs.right; y = omega arith }

pub column_unit : (q : Quarter) → IsQuarter q → IsShort 1 (column_step q)
column_unit q signs = record { x = omega arith; y = sign_small q.up signs.up }

-- how far a unit step goes across the way is passed as it is
pub unit_passed : (way unit : Vector) (r : ℤ) → r ≡ cross_of way unit → IsShort 65535 way → IsShort 1 unit → to_z w64 (of_z w64 r) ≡ cross_of way unit
unit_passed way unit r is short small = small_back r (rw is (unit_cross way unit short small)) ∙ is

no_zero : (z : ℤ) → z ≡ pos 1 → z ≡ pos 0 → ⊥
no_zero z e f = absurd (omega (arith, ints))

no_other : (z : ℤ) → z ≡ negsuc 0 → z ≡ pos 0 → ⊥
no_other z e f = absurd (omega (arith, ints))

module _ (points : List Point) (first most : ℕ) (q : Quarter) (signs : IsQuarter q)
    (are : AreStairs (path_from points first) most (stairs_of q (path_from points first))) where
  pub steps_seen : (k : ℕ) → k < most → (step_from (path_from points first) k ≡ row_step q) ⊎ (step_from (path_from points first) k ≡ column_step q)
  steps_seen k h =
      let step : Vector = step_from (path_from points first) k in
      let back = λ (to : Vector) (e : step_from (stairs_of q (path_from points first)) k ≡ to).
      sym (twice q step signs) ∙ ap (turned q) (sym (step_seen q (path_from points first) k) ∙ e) in
      elim (are.steps k h) [
        | inl e ↦ inl (back east e ∙ same_vector _ _ _ _ (omega (arith, ints)) (omega (arith, ints)))
        | inr e ↦ inr (back north e ∙ same_vector _ _ _ _ (omega (arith, ints)) (omega (arith, ints)))
      ]

  pub near_short : (k : ℕ) → k ≤ most → IsShort 65535 (way_along (path_from points first) k)
  near_short k h =
      let way : Vector = way_along (path_from points first) k in
      let forward = subst (IsForward 65535) (way_seen q (path_from points first) k) (are.short k h) in
      let x_least = forward.x.least in
      let x_most = forward.x.most in
      let y_least = forward.y.least in
      let y_most = forward.y.most in
      let P : ℤ → Type 0 = λ z. unsigned_abs z ≤ 65535 in
      record {
        x = subst P (unsigned q.right way.x signs.right) (sign_most q.right (q.right *ℤ way.x) 65535 signs.right (omega (arith, ints)));
        y = subst P (unsigned q.up way.y signs.up) (sign_most q.up (q.up *ℤ way.y) 65535 signs.up (omega (arith, ints)));
      }

  module _ (some : 1 ≤ most) (step : Vector) (step_is : step ≡ vector_of (point_at points first) (point_at points (first + 1))) where
    first_x : step.x ≡ (step_from (path_from points first) 0).x
    first_x = ap (λ (v : Vector). v.x) (sym (first_step points first step step_is))

    pub first_row : (step.x ≡ pos 0 → ⊥) → step_from (path_from points first) 0 ≡ row_step q
    first_row goes = elim (steps_seen 0 some) [
      | inl e ↦ e
      | inr e ↦ absurd (goes (first_x ∙ ap (λ (v : Vector). v.x) e))
    ]

    pub first_column : step.x ≡ pos 0 → step_from (path_from points first) 0 ≡ column_step q
    first_column none = elim (steps_seen 0 some) [
      | inl e ↦
          let x : q.right ≡ pos 0 = sym (first_x ∙ ap (λ (v : Vector). v.x) e) ∙ none in
          absurd (elim signs.right [ inl f ↦ no_zero q.right f x | inr f ↦ no_other q.right f x ])
      | inr e ↦ e
    ]
