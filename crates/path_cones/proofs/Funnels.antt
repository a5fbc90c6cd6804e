-- A funnel after a run to the right.
use Rattle.std.proofs.Common.{◌≡◌, inl, inr, ℕ, zero, suc, ◌+◌, ◌-◌, ◌<◌, ◌≤◌, ℤ, pos, ◌+ℤ◌, ◌-ℤ◌, ◌*ℤ◌, neg_ℤ, ◌≤ℤ◌, ◌<ℤ◌, refl, sym, ◌∙◌, ap, subst, arith}
use Rattle.std.proofs.lemmas.Int.{ints}
use Rattle.std.proofs.lemmas.Bool.{cases_lt}
use Rattle.pt_core.proofs.Terms.{same_value}
use Rattle.pt_core.proofs.Terms.Term.{num, plus, less, times}
use Rattle.pt_core.specs.declared.point.Point.{Point}
use Rattle.path_cones.specs.Cones.{cross_of}
use Rattle.path_cones.specs.Straight.{IsNear}
use Rattle.path_cones.specs.Inner.Cones.{IsClear}
use Rattle.path_cones.specs.Inner.Funnels.{GoesRight, IsForward, IsFunnel, IsFunnelOf, IsInFunnel, IsOnWay, IsRunOn, IsSide}
use Rattle.path_cones.specs.Inner.Tails.{way_along}
use Rattle.path_cones.specs.declared.funnel.Funnel.{Funnel}
use Rattle.path_cones.specs.declared.vector.Vector.{Vector}
use Rattle.path_cones.proofs.Along.{near_most}
use Rattle.path_cones.proofs.Bounds.{same_vector}
use Rattle.path_cones.proofs.Breadths.{near_by_cross}
use Rattle.path_cones.proofs.Narrowing.{first_factor}
use Rattle.path_cones.proofs.Signs.{product_at_least}
use Rattle.path_cones.proofs.Turning.{cross_term}

-- ---- near, by the cross product

on_near : (m e : Vector) → IsOnWay e → IsNear m e → (cross_of m e ≤ℤ (e.x +ℤ e.y)) × ((pos 0 -ℤ (e.x +ℤ e.y)) ≤ℤ cross_of m e)
on_near m e on near =
    let most = near_most m e near in
    let x = on.x in
    let y = on.y in
    (omega (arith, ints), omega (arith, ints))

-- ---- what lies to the left of what lies to the left

three : (a b c : Vector) → (a.x +ℤ a.y) *ℤ cross_of b c +ℤ (c.x +ℤ c.y) *ℤ cross_of a b ≡ cross_of a c *ℤ (b.x +ℤ b.y)
three a b c = same_value
    (plus (times (plus (num a.x) (num a.y)) (cross_term b c)) (times (plus (num c.x) (num c.y)) (cross_term a b)))
    (times (cross_term a c) (plus (num b.x) (num b.y)))
    (omega arith)

on_left : (a b c : Vector) → pos 0 ≤ℤ (a.x +ℤ a.y) → pos 0 <ℤ (b.x +ℤ b.y) → pos 0 ≤ℤ (c.x +ℤ c.y)
    → pos 0 ≤ℤ cross_of a b → pos 0 ≤ℤ cross_of b c → pos 0 ≤ℤ cross_of a c
on_left a b c a_on b_on c_on h k =
    first_factor (cross_of a c) (b.x +ℤ b.y) (a.x +ℤ a.y) (cross_of b c) (c.x +ℤ c.y) (cross_of a b) (three a b c) b_on a_on k c_on h

-- ---- the points of a run

module _ (path : ℕ → Point) (s r : ℕ) (right : GoesRight path s r) (o : Vector) (at : o ≡ way_along path s) where
  pub way_on : (t : ℕ) → t ≤ r → way_along path (s + t) ≡ record { x = o.x +ℤ pos t; y = o.y }
  way_on zero h =
      let e : s ≡ s + 0 = omega arith in
      let x = ap (λ (v : Vector). v.x) at in
      let y = ap (λ (v : Vector). v.y) at in
      let P : ℕ → Type 0 = λ k. way_along path k ≡ record { x = o.x +ℤ pos 0; y = o.y } in
      subst P e (same_vector _ _ _ _ (omega (arith, ints)) (omega (arith, ints)))
  way_on (suc t) h =
      let before = way_on t (omega arith) in
      let x = ap (λ (v : Vector). v.x) before in
      let y = ap (λ (v : Vector). v.y) before in
      let step = right t (omega arith) in
      let step_x = ap (λ (v : Vector). v.x) step in
      let step_y = ap (λ (v : Vector). v.y) step in
      let e : suc (s + t) ≡ s + suc t = omega arith in
      let P : ℕ → Type 0 = λ k. way_along path k ≡ record { x = o.x +ℤ pos (suc t); y = o.y } in
      subst P e (same_vector _ _ _ _ (omega (arith, ints)) (omega (arith, ints)))

times_more : (t d : ℕ) (z : ℤ) → pos (t + d) *ℤ z ≡ pos t *ℤ z +ℤ pos d *ℤ z
times_more t d z = same_value (times (num (pos (t + d))) (num z)) (plus (times (num (pos t)) (num z)) (times (num (pos d)) (num z))) (omega arith)

times_most : (t u : ℕ) (z : ℤ) → t ≤ u → pos 0 ≤ℤ z → (pos t *ℤ z) ≤ℤ (pos u *ℤ z)
times_most t u z h k =
    let e : t + (u - t) ≡ u = omega arith in
    let P : ℕ → Type 0 = λ n. pos n *ℤ z ≡ pos t *ℤ z +ℤ pos (u - t) *ℤ z in
    let is = subst P e (times_more t (u - t) z) in
    let more = product_at_least (pos (u - t)) z (omega (arith, ints)) k in
    omega (arith, ints)

above_part : (b w : Vector) (t : ℤ) → b.x *ℤ w.y -ℤ b.y *ℤ (w.x +ℤ t) ≡ cross_of b w -ℤ t *ℤ b.y
above_part b w t = same_value
    (less (times (num b.x) (num w.y)) (times (num b.y) (plus (num w.x) (num t))))
    (less (cross_term b w) (times (num t) (num b.y)))
    (omega arith)

below_part : (b w : Vector) (t : ℤ) → (w.x +ℤ t) *ℤ b.y -ℤ w.y *ℤ b.x ≡ cross_of w b +ℤ t *ℤ b.y
below_part b w t = same_value
    (less (times (plus (num w.x) (num t)) (num b.y)) (times (num w.y) (num b.x)))
    (plus (cross_term w b) (times (num t) (num b.y)))
    (omega arith)

-- the corner of the square around a way that is farthest to the left, seen from others
own_part : (w o : Vector) → cross_of w (record { x = o.x -ℤ pos 1; y = o.y +ℤ pos 1 }) ≡ cross_of w o +ℤ (w.x +ℤ w.y)
own_part w o = same_value
    (less (times (num w.x) (plus (num o.y) (num (pos 1)))) (times (num w.y) (less (num o.x) (num (pos 1)))))
    (plus (cross_term w o) (plus (num w.x) (num w.y)))
    (omega arith)

turned_back : (a b : Vector) → cross_of a b ≡ neg_ℤ (cross_of b a)
turned_back a b = omega (arith, ints)

-- the way after t steps to the right
abbrev pub way_at : Vector → ℕ → Vector
way_at way t = record { x = way.x +ℤ pos t; y = way.y }

-- the steep border that a way's end itself makes
abbrev pub own_of : Vector → Vector
own_of way = record { x = way.x -ℤ pos 1; y = way.y +ℤ pos 1 }

module _ (f : Funnel) (n : IsFunnel f) where
  pub above_at : (t : ℕ) → cross_of f.flat (way_at f.way t) ≡ f.above -ℤ pos t *ℤ f.flat.y
  above_at t = above_part f.flat f.way (pos t) ∙ ap (λ (z : ℤ). z -ℤ pos t *ℤ f.flat.y) (sym n.above_is)

  pub below_at : (t : ℕ) → cross_of (way_at f.way t) f.steep ≡ f.below +ℤ pos t *ℤ f.steep.y
  below_at t = below_part f.steep f.way (pos t) ∙ ap (λ (z : ℤ). z +ℤ pos t *ℤ f.steep.y) (sym n.below_is)

  module _ (r : ℕ) (held : (pos r *ℤ f.flat.y) ≤ℤ f.above) where
    pub in_funnel : (t : ℕ) → t ≤ r → IsInFunnel f.flat f.steep (way_at f.way t)
    in_funnel t h =
        let above = above_at t in
        let below = below_at t in
        let most = times_most t r f.flat.y h n.flat.forward.y.least in
        let more = product_at_least (pos t) f.steep.y (omega (arith, ints)) n.steep.forward.y.least in
        let now = n.below in
        record { above = omega (arith, ints); below = omega (arith, ints) }

    pub on_way : (t : ℕ) → 1 ≤ t → IsOnWay (way_at f.way t)
    on_way t some =
        let x = n.way.x.least in
        let y = n.way.y.least in
        record { x = omega (arith, ints); y = omega (arith, ints); goes = omega (arith, ints) }

    module _ (path : ℕ → Point) (s : ℕ) (right : GoesRight path s r) (of : IsFunnelOf path s f) where
      near_before : (t : ℕ) → 1 ≤ t → t ≤ r → (j : ℕ) → 1 ≤ j → j ≤ s → IsNear (way_along path j) (way_at f.way t)
      near_before t some h = (of.holds (way_at f.way t) (on_way t some)).0 (in_funnel t h)

      -- the start itself, or the last point before the run, is near what all of them are
      start_near : (s' : ℕ) → s' ≡ s → (way : Vector) → IsOnWay way → ((j : ℕ) → 1 ≤ j → j ≤ s → IsNear (way_along path j) way)
          → (pos 0 -ℤ (way.x +ℤ way.y)) ≤ℤ cross_of f.way way
      start_near zero e way on near =
          let at : f.way ≡ way_along path 0 = subst (λ (k : ℕ). f.way ≡ way_along path k) (sym e) of.way in
          let x : f.way.x ≡ pos 0 = let a = ap (λ (v : Vector). v.x) at in omega (arith, ints) in
          let y : f.way.y ≡ pos 0 = let a = ap (λ (v : Vector). v.y) at in omega (arith, ints) in
          let goes = on.goes in
          rw (x, y) (omega (arith, ints))
      start_near (suc s') e way on near =
          let last : IsNear (way_along path s) way = near s (omega arith) (omega arith) in
          let P : Vector → Type 0 = λ v. (pos 0 -ℤ (way.x +ℤ way.y)) ≤ℤ cross_of v way in
          subst P (sym of.way) (on_near (way_along path s) way on last).1

      near_within : (i t : ℕ) → i < t → t ≤ r → IsNear (way_at f.way i) (way_at f.way t)
      near_within i t order h =
          let on = on_way t (omega arith) in
          let x = n.way.x.least in
          let y = n.way.y.least in
          let start = start_near s refl (way_at f.way t) on (near_before t (omega arith) h) in
          let from = above_part f.way f.way (pos t) in
          let back = above_part (way_at f.way i) f.way (pos t) in
          let ahead = below_part f.way f.way (pos i) in
          let few = times_most i t f.way.y (omega arith) y in
          let none = product_at_least (pos i) f.way.y (omega (arith, ints)) y in
          near_by_cross (way_at f.way i) (way_at f.way t) (omega (arith, ints)) on.goes (omega (arith, ints)) (omega (arith, ints))

      at_run : (k : ℕ) → s < k → k ≤ s + r → way_along path k ≡ way_at f.way (k - s)
      at_run k a b =
          let e : s + (k - s) ≡ k = omega arith in
          let P : ℕ → Type 0 = λ i. way_along path i ≡ way_at f.way (k - s) in
          subst P e (way_on path s r right f.way of.way (k - s) (omega arith))

      pub clear_on : IsClear path (s + r)
      clear_on j k a b c = elim (cases_lt s k) [
        | inr old ↦ of.clear j k a b old
        | inl new ↦ elim (cases_lt s j) [
          | inr before ↦
              let P : Vector → Type 0 = λ v. IsNear (way_along path j) v in
              subst P (sym (at_run k new c)) (near_before (k - s) (omega arith) (omega arith) j a before)
          | inl late ↦
              let P : Vector → Vector → Type 0 = λ u v. IsNear u v in
              let here = sym (at_run j late (omega arith)) in
              let there = sym (at_run k new c) in
              subst (λ (u : Vector). IsNear u (way_along path k)) here (subst (λ (v : Vector). IsNear (way_at f.way (j - s)) v) there
              (near_within (j - s) (k - s) (omega arith) (omega arith)))
        ]
      ]

      -- a point of the run is near what holds its end's own corner and the start of the run
      near_point : (way : Vector) → IsOnWay way → ((j : ℕ) → 1 ≤ j → j ≤ s → IsNear (way_along path j) way)
          → pos 0 ≤ℤ cross_of way (own_of (way_at f.way r)) → (t : ℕ) → t ≤ r → IsNear (way_at f.way t) way
      near_point way on near own t h =
          let x = n.way.x.least in
          let y = n.way.y.least in
          let start = start_near s refl way on near in
          let corner = own_part way (way_at f.way r) in
          let back = turned_back way (way_at f.way r) in
          let end = below_part way f.way (pos r) in
          let here = below_part way f.way (pos t) in
          let few = times_most t r way.y h on.y in
          let some = product_at_least (pos t) way.y (omega (arith, ints)) on.y in
          near_by_cross (way_at f.way t) way (omega (arith, ints)) on.goes (omega (arith, ints)) (omega (arith, ints))

      end_own : (way : Vector) → IsOnWay way → IsNear (way_at f.way r) way → pos 0 ≤ℤ cross_of way (own_of (way_at f.way r))
      end_own way on near =
          let corner = own_part way (way_at f.way r) in
          let back = turned_back way (way_at f.way r) in
          let most = (on_near (way_at f.way r) way on near).0 in
          omega (arith, ints)

      module _ (steep : Vector)
          (to_old : (way : Vector) → IsOnWay way → pos 0 ≤ℤ cross_of way steep → pos 0 ≤ℤ cross_of way f.steep)
          (to_own : (way : Vector) → IsOnWay way → pos 0 ≤ℤ cross_of way steep → pos 0 ≤ℤ cross_of way (own_of (way_at f.way r)))
          (from_both : (way : Vector) → pos 0 ≤ℤ cross_of way f.steep → pos 0 ≤ℤ cross_of way (own_of (way_at f.way r)) → pos 0 ≤ℤ cross_of way steep)
          (some : 1 ≤ r) where
        holds_all : (way : Vector) → IsOnWay way → IsInFunnel f.flat steep way → (j : ℕ) → 1 ≤ j → j ≤ s + r → IsNear (way_along path j) way
        holds_all way on h j a b =
            let old = (of.holds way on).0 (record { above = h.above; below = to_old way on h.below }) in
            elim (cases_lt s j) [
              | inr before ↦ old j a before
              | inl late ↦ subst (λ (v : Vector). IsNear v way) (sym (at_run j late b)) (near_point way on old (to_own way on h.below) (j - s) (omega arith))
            ]

        holds_back : (way : Vector) → IsOnWay way → ((j : ℕ) → 1 ≤ j → j ≤ s + r → IsNear (way_along path j) way) → IsInFunnel f.flat steep way
        holds_back way on near =
            let old = (of.holds way on).1 (λ j a b. near j a (omega arith)) in
            let end = subst (λ (v : Vector). IsNear v way) (way_on path s r right f.way of.way r (omega arith)) (near (s + r) (omega arith) (omega arith)) in
            record { above = old.above; below = from_both way old.below (end_own way on end) }

        pub funnel_on : (new : Funnel) → IsFunnel new → new.way ≡ way_at f.way r → new.flat ≡ f.flat → new.steep ≡ steep → IsFunnelOf path (s + r) new
        funnel_on new numbers way_is flat_is steep_is = record {
          numbers = numbers;
          way = way_is ∙ sym (way_on path s r right f.way of.way r (omega arith));
          holds = λ way on. rw (flat_is, steep_is) (holds_all way on, holds_back way on);
          clear = clear_on;
        }

-- ---- the two funnels that a run may end in

module _ (f : Funnel) (n : IsFunnel f) (r : ℕ) (some : 1 ≤ r) (short : (f.way.x +ℤ pos r) ≤ℤ pos 65535) (held : (pos r *ℤ f.flat.y) ≤ℤ f.above) where
  run_way : IsForward 65535 (way_at f.way r)
  run_way =
      let x = n.way.x.least in
      record { x = record { least = omega (arith, ints); most = short }; y = n.way.y }

  run_above : pos 0 ≤ℤ (f.above -ℤ pos r *ℤ f.flat.y)
  run_above = omega (arith, ints)

  run_below : pos 0 ≤ℤ (f.below +ℤ pos r *ℤ f.steep.y)
  run_below =
      let now = n.below in
      let more = product_at_least (pos r) f.steep.y (omega (arith, ints)) n.steep.forward.y.least in
      omega (arith, ints)

  -- how the steep border stands to the corner of the run's end
  own_steep : cross_of (own_of (way_at f.way r)) f.steep ≡ (f.below +ℤ pos r *ℤ f.steep.y) -ℤ (f.steep.x +ℤ f.steep.y)
  own_steep =
      let corner = own_part f.steep (way_at f.way r) in
      let back = turned_back f.steep (way_at f.way r) in
      let other = turned_back (own_of (way_at f.way r)) f.steep in
      let below = below_at f n r in
      omega (arith, ints)

  abbrev pub kept : Funnel
  kept = record {
    way = way_at f.way r;
    flat = f.flat;
    steep = f.steep;
    above = f.above -ℤ pos r *ℤ f.flat.y;
    below = f.below +ℤ pos r *ℤ f.steep.y;
  }

  abbrev pub narrowed : Funnel
  narrowed = record {
    way = way_at f.way r;
    flat = f.flat;
    steep = own_of (way_at f.way r);
    above = f.above -ℤ pos r *ℤ f.flat.y;
    below = f.way.x +ℤ pos r +ℤ f.way.y;
  }

  own_goes : pos 0 <ℤ ((own_of (way_at f.way r)).x +ℤ (own_of (way_at f.way r)).y)
  own_goes =
      let x = n.way.x.least in
      let y = n.way.y.least in
      omega (arith, ints)

  sum_least : (way : Vector) → IsOnWay way → pos 0 ≤ℤ (way.x +ℤ way.y)
  sum_least way on = let goes = on.goes in omega (arith, ints)

  side_least : (way : Vector) → IsSide way → pos 0 ≤ℤ (way.x +ℤ way.y)
  side_least way side = let goes = side.goes in omega (arith, ints)

  pub kept_on : (f.below +ℤ pos r *ℤ f.steep.y) <ℤ (f.steep.x +ℤ f.steep.y) → IsRunOn f r kept
  kept_on below =
      let numbers : IsFunnel kept = record {
        way = run_way;
        flat = n.flat;
        steep = n.steep;
        left = n.left;
        above_is = sym (above_at f n r);
        above = run_above;
        below_is = sym (below_at f n r);
        below = run_below;
      } in
      let back = turned_back f.steep (own_of (way_at f.way r)) in
      let is = own_steep in
      let before : pos 0 ≤ℤ cross_of f.steep (own_of (way_at f.way r)) = omega (arith, ints) in
      record {
        numbers = numbers;
        of = λ path steps right of. funnel_on f n r held path steps right of f.steep
            (λ way on h. h)
            (λ way on h. on_left way f.steep (own_of (way_at f.way r)) (sum_least way on) n.steep.goes (let goes = own_goes in omega (arith, ints)) h before)
            (λ way h k. h)
            some kept numbers refl refl refl;
      }

  pub narrowed_on : (f.steep.x +ℤ f.steep.y) ≤ℤ (f.below +ℤ pos r *ℤ f.steep.y) → IsRunOn f r narrowed
  narrowed_on below =
      let x = n.way.x.least in
      let y = n.way.y.least in
      let y_most = n.way.y.most in
      let flat_goes = n.flat.goes in
      let corner = own_part f.flat (way_at f.way r) in
      let self = own_part (way_at f.way r) (way_at f.way r) in
      let above = above_at f n r in
      let held_above = run_above in
      let is = own_steep in
      let numbers : IsFunnel narrowed = record {
        way = run_way;
        flat = n.flat;
        steep = record {
          forward = record {
            x = record { least = omega (arith, ints); most = omega (arith, ints) };
            y = record { least = omega (arith, ints); most = omega (arith, ints) };
          };
          goes = own_goes;
        };
        left = omega (arith, ints);
        above_is = sym above;
        above = held_above;
        below_is = omega (arith, ints);
        below = omega (arith, ints);
      } in
      let after : pos 0 ≤ℤ cross_of (own_of (way_at f.way r)) f.steep = omega (arith, ints) in
      record {
        numbers = numbers;
        of = λ path steps right of. funnel_on f n r held path steps right of (own_of (way_at f.way r))
            (λ way on h. on_left way (own_of (way_at f.way r)) f.steep (sum_least way on) own_goes (side_least f.steep n.steep) h after)
            (λ way on h. h)
            (λ way h k. k)
            some narrowed numbers refl refl refl;
      }
