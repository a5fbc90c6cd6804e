-- The cone of the points so far, and the straight run that comes next: its last point speaks for those between.
use Rattle.std.proofs.Common.{◌≡◌, ◌↔◌, inl, inr, ℕ, zero, suc, ◌+◌, ◌-◌, ◌<◌, ◌≤◌, ℤ, pos, ◌+ℤ◌, ◌-ℤ◌, ◌*ℤ◌, refl, ap, subst, arith}
use Rattle.std.proofs.lemmas.Int.{ints}
use Rattle.std.proofs.lemmas.Bool.{cases_lt}
use Rattle.pt_core.specs.declared.point.Point.{Point}
use Rattle.path_cones.specs.Straight.{vector_of, IsNear}
use Rattle.path_cones.specs.Inner.Cones.{HoldsNear, HoldsWay, IsClear}
use Rattle.path_cones.specs.Corners.{step_from}
use Rattle.path_cones.specs.Inner.Corners.{GoesStraight}
use Rattle.path_cones.specs.declared.vector.Vector.{Vector}
use Rattle.path_cones.specs.declared.cone.Cone.{Cone}
use Rattle.path_cones.proofs.Mixing.{IsMix, IsMixed, near_end_between, near_middle_between}
use Rattle.path_cones.proofs.Nearness.{small_is_near}
use Rattle.pt_core.proofs.Terms.{same_value}
use Rattle.pt_core.proofs.Terms.Term.{num, plus, less, times}

-- ---- the points of a run

one_more_step : (t : ℕ) (a z next u : ℤ) → z ≡ a +ℤ pos t *ℤ u → next -ℤ z ≡ u → next ≡ a +ℤ pos (suc t) *ℤ u
one_more_step t a z next u is step =
    let e : pos (suc t) *ℤ u ≡ u +ℤ pos t *ℤ u = same_value (times (num (pos (suc t))) (num u)) (plus (num u) (times (num (pos t)) (num u))) (omega arith) in
    omega (arith, ints)

-- one coordinate of a run, from another point
mix_along : (l m : ℕ) (o a u b c : ℤ) → b ≡ a +ℤ pos (l + m) *ℤ u → c ≡ a +ℤ pos m *ℤ u
    → IsMix l m (a -ℤ o) (b -ℤ o) (c -ℤ o)
mix_along l m o a u b c f g =
    let P : ℤ → ℤ → Type 0 = λ y z. IsMix l m (a -ℤ o) (y -ℤ o) (z -ℤ o) in
    let is : P (a +ℤ pos (l + m) *ℤ u) (a +ℤ pos m *ℤ u) = same_value
    (times (num (pos (l + m))) (less (plus (num a) (times (num (pos m)) (num u))) (num o)))
    (plus (times (num (pos l)) (less (num a) (num o)))
    (times (num (pos m)) (less (plus (num a) (times (num (pos (l + m))) (num u))) (num o))))
    (omega arith) in
    rw (f, g) is

module _ (path : ℕ → Point) (s r : ℕ) (run : GoesStraight path s r) where
  pub along_x : (t : ℕ) → t ≤ r → (path (s + t)).x ≡ (path s).x +ℤ pos t *ℤ (step_from path s).x
  along_x zero h =
      let e : s + 0 ≡ s = omega arith in
      let f : (path (s + 0)).x ≡ (path s).x = ap (λ k. (path k).x) e in
      omega (arith, ints)
  along_x (suc t) h =
      let e : suc (s + t) ≡ s + suc t = omega arith in
      let P : ℕ → Type 0 = λ k. (path k).x ≡ (path s).x +ℤ pos (suc t) *ℤ (step_from path s).x in
      subst P e (one_more_step t (path s).x (path (s + t)).x (path (suc (s + t))).x (step_from path s).x
      (along_x t (omega arith)) (ap (λ (o : Vector). o.x) (run t (omega arith))))

  pub along_y : (t : ℕ) → t ≤ r → (path (s + t)).y ≡ (path s).y +ℤ pos t *ℤ (step_from path s).y
  along_y zero h =
      let e : s + 0 ≡ s = omega arith in
      let f : (path (s + 0)).y ≡ (path s).y = ap (λ k. (path k).y) e in
      omega (arith, ints)
  along_y (suc t) h =
      let e : suc (s + t) ≡ s + suc t = omega arith in
      let P : ℕ → Type 0 = λ k. (path k).y ≡ (path s).y +ℤ pos (suc t) *ℤ (step_from path s).y in
      subst P e (one_more_step t (path s).y (path (s + t)).y (path (suc (s + t))).y (step_from path s).y
      (along_y t (omega arith)) (ap (λ (o : Vector). o.y) (run t (omega arith))))

  -- the points of a run lie between its ends, seen from anywhere
  pub run_mixed : (o : Point) (l m : ℕ) → 1 ≤ l + m → l + m ≤ r
      → IsMixed l m (vector_of o (path s)) (vector_of o (path (s + (l + m)))) (vector_of o (path (s + m)))
  run_mixed o l m some h = record {
    some = some;
    x = mix_along l m o.x (path s).x (step_from path s).x _ _ (along_x (l + m) h) (along_x m (omega arith));
    y = mix_along l m o.y (path s).y (step_from path s).y _ _ (along_y (l + m) h) (along_y m (omega arith));
  }

  -- the same by the indices of the three points
  pub run_between : (o : Point) (j k : ℕ) → s ≤ j → j ≤ k → s < k → k ≤ s + r
      → IsMixed (k - j) (j - s) (vector_of o (path s)) (vector_of o (path k)) (vector_of o (path j))
  run_between o j k a b some h =
      let e : s + (k - j + (j - s)) ≡ k = omega arith in
      let f : s + (j - s) ≡ j = omega arith in
      let P : ℕ → Type 0 = λ i. IsMixed (k - j) (j - s) (vector_of o (path s)) (vector_of o (path i)) (vector_of o (path j)) in
      let Q : ℕ → Type 0 = λ i. IsMixed (k - j) (j - s) (vector_of o (path s)) (vector_of o (path (s + (k - j + (j - s))))) (vector_of o (path i)) in
      subst P e (subst Q f (run_mixed o (k - j) (j - s) (omega arith) (omega arith)))

-- ---- near and clear along a run

pub near_self : (d : Vector) → IsNear d d
near_self d = record {
  p = 1;
  q = 1;
  positive = omega arith;
  in_x = record { low = omega (arith, ints); high = omega (arith, ints) };
  in_y = record { low = omega (arith, ints); high = omega (arith, ints) };
}

pub start_is_near : (o : Point) (e : Vector) → IsNear (vector_of o o) e
start_is_near o e = small_is_near (vector_of o o) e (record { x = omega (arith, ints); y = omega (arith, ints) })

module _ (path : ℕ → Point) (s : ℕ) (cone : Cone) (holds : HoldsNear path s cone) where
  -- the point where the run begins is near each half-line of the cone
  begin_near : (s' : ℕ) → s' ≡ s → (other : Vector) → HoldsWay cone other → IsNear (vector_of (path 0) (path s')) other
  begin_near zero e other held = start_is_near (path 0) other
  begin_near (suc s') e other held = holds.all_near other held (suc s') (omega arith) (omega arith)

  module _ (r : ℕ) (run : GoesStraight path s r) (some : 1 ≤ r) (clear : IsClear path s)
      (held : HoldsWay cone (vector_of (path 0) (path (s + r)))) where
    -- a point up to the run, and one of the run
    before_run : (j k : ℕ) → 1 ≤ j → j ≤ s → s < k → k ≤ s + r → IsNear (vector_of (path 0) (path j)) (vector_of (path 0) (path k))
    before_run j k a b c d =
        let near_begin : IsNear (vector_of (path 0) (path j)) (vector_of (path 0) (path s)) =
        elim (cases_lt j s) [
          | inl h ↦ clear j s a h (omega arith)
          | inr h ↦
              let e : j ≡ s = omega arith in
              subst (λ (i : ℕ). IsNear (vector_of (path 0) (path j)) (vector_of (path 0) (path i))) e (near_self (vector_of (path 0) (path j)))
        ] in
        near_end_between (s + r - k) (k - s) _ _ _ _ (run_between path s r run (path 0) k (s + r) (omega arith) d (omega arith) (omega arith))
        near_begin (holds.all_near _ held j a b)

    begin_to : (s' k : ℕ) → s' ≡ s → s < k → k ≤ s + r → IsNear (vector_of (path 0) (path s')) (vector_of (path 0) (path k))
    begin_to zero k e a b = start_is_near (path 0) (vector_of (path 0) (path k))
    begin_to (suc s') k e a b = before_run (suc s') k (omega arith) (omega arith) a b

    -- where the cone holds the run's last point, all its points are in each other's cones
    pub run_clear : IsClear path (s + r)
    run_clear = λ j k h l m. elim (cases_lt s k) [
      | inr old ↦ clear j k h l old
      | inl new ↦ elim (cases_lt s j) [
        | inr before ↦ before_run j k h before new m
        | inl on ↦ near_middle_between (k - j) (j - s) _ _ _ _
            (run_between path s r run (path 0) j k (omega arith) (omega arith) new m)
            (begin_to s k refl new m) (near_self (vector_of (path 0) (path k)))
      ]
    ]

  -- and its last point's cone is that of them all
  pub run_holds : (r : ℕ) → GoesStraight path s r → 1 ≤ r → (new : Cone)
      → ((other : Vector) → HoldsWay new other ↔ (HoldsWay cone other × IsNear (vector_of (path 0) (path (s + r))) other))
      → HoldsNear path (s + r) new
  run_holds r run some new both = record {
    all_near = λ other h j l m.
        let two = (both other).0 h in
        elim (cases_lt s j) [
          | inr before ↦ holds.all_near other two.0 j l before
          | inl on ↦ near_middle_between (s + r - j) (j - s) _ _ _ _
              (run_between path s r run (path 0) j (s + r) (omega arith) m (omega arith) (omega arith))
              (begin_near s refl other two.0) two.1
        ];
    all_held = λ other h. (both other).1 (
      holds.all_held other (λ j l m. h j l (omega arith)),
      h (s + r) (omega arith) (omega arith),
    );
  }

  -- where the cone doesn't hold a later point, nothing from there on is clear
  pub run_ends : (last : ℕ) → s ≤ last → ¬ HoldsWay cone (vector_of (path 0) (path (suc last))) → (c : ℕ) → IsClear path c → c ≤ last
  run_ends last later out c clear = elim (cases_lt last c) [
    | inl more ↦ absurd (out (holds.all_held _ (λ j l m. clear j (suc last) l (omega arith) (omega arith))))
    | inr within ↦ within
  ]
