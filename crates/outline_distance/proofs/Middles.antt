-- Near the middle of a segment there is a point of the path.
use Rattle.std.proofs.Common.{◌≡◌, ◌⊎◌, inl, inr, ℕ, suc, ◌-◌, ◌≤◌, ℤ, pos, neg_ℤ, ◌+ℤ◌, ◌-ℤ◌, ◌*ℤ◌, ◌≤ℤ◌, List, sym, ap, subst, arith}
use Rattle.std.proofs.lemmas.Int.{ints}
use Rattle.std.specs.Prelude.{unsigned_abs}
use Rattle.pt_core.specs.ClosedWalk.{IsClosedWalk, point_at}
use Rattle.pt_core.specs.declared.point.Point.{Point}
use Rattle.straight_paths.specs.Straight.{IsPossible, StaysWithin}
use Rattle.outline_distance.proofs.Levels.{passed, compared}
use Rattle.outline_distance.proofs.Segments.{half_line}
use Rattle.outline_distance.proofs.Ways.{turned, opposite_within}
use Rattle.outline_distance.proofs.Halves.{IsRoundedHalf, IsNearBoth, half, across, swapped, swapped_half, flat, not_below, above_zero}

-- ---- two coordinates that rise from i to j

pub record HasMiddle (f g : ℕ → ℤ) (i j : ℕ) : Type 0 where
  pub at : ℕ
  pub after : i ≤ at
  pub before : at ≤ j
  pub in_x : unsigned_abs (pos 2 *ℤ f at -ℤ (f i +ℤ f j)) ≤ 2
  pub in_y : unsigned_abs (pos 2 *ℤ g at -ℤ (g i +ℤ g j)) ≤ 2

half_near : (u v x h : ℤ) → IsRoundedHalf (v -ℤ u) h → x ≡ u +ℤ h → unsigned_abs (pos 2 *ℤ x -ℤ (u +ℤ v)) ≤ 2
half_near u v x h half is = let l = half.low in let k = half.high in omega (arith, ints)

flat_near : (u v x : ℤ) → u ≡ v → unsigned_abs (x -ℤ u) ≤ 1 → unsigned_abs (pos 2 *ℤ x -ℤ (u +ℤ v)) ≤ 2
flat_near u v x is h = omega (arith, ints)

moved_near : (u v x : ℤ) → unsigned_abs (pos 2 *ℤ (x -ℤ u) -ℤ (v -ℤ u)) ≤ 2 → unsigned_abs (pos 2 *ℤ x -ℤ (u +ℤ v)) ≤ 2
moved_near u v x h = omega (arith, ints)

no_rise : (u v : ℤ) → u ≡ v → v -ℤ u ≡ pos 0
no_rise u v e = omega (arith, ints)

sum_half : (u v x y u' v' h : ℤ) → IsRoundedHalf ((u' -ℤ u) +ℤ (v' -ℤ v)) h → x +ℤ y ≡ (u +ℤ v) +ℤ h
    → IsRoundedHalf ((u' -ℤ u) +ℤ (v' -ℤ v)) ((x -ℤ u) +ℤ (y -ℤ v))
sum_half u v x y u' v' h half is =
    let l = half.low in let k = half.high in let m = half.least in let n = half.most in
    record { low = omega (arith, ints); high = omega (arith, ints); least = omega (arith, ints); most = omega (arith, ints) }

module _ (f g : ℕ → ℤ) (i j : ℕ) (h : i ≤ j) (step_x : (k : ℕ) → f (suc k) ≤ℤ (f k +ℤ pos 1)) (step_y : (k : ℕ) → g (suc k) ≤ℤ (g k +ℤ pos 1))
    (step : (k : ℕ) → (f (suc k) +ℤ g (suc k)) ≤ℤ ((f k +ℤ g k) +ℤ pos 1))
    (near : (k : ℕ) → i ≤ k → k ≤ j → IsNearBoth (f j -ℤ f i) (g j -ℤ g i) (f k -ℤ f i) (g k -ℤ g i))
    (rises_x : f i ≤ℤ f j) (rises_y : g i ≤ℤ g j) where
  flat_y : g i ≡ g j → HasMiddle f g i j
  flat_y is =
      let c = half (f j -ℤ f i) (omega (arith, ints)) in
      let least = c.1.least in
      let most = c.1.most in
      let m = passed f (f i +ℤ c.0) step_x (j - i) i j (omega arith) (omega (arith, ints)) (omega (arith, ints)) in
      let n = near m.at m.after m.before in
      record {
        at = m.at;
        after = m.after;
        before = m.before;
        in_x = half_near (f i) (f j) (f m.at) c.0 c.1 m.is;
        in_y = flat_near (g i) (g j) (g m.at) is (flat n.p n.q (g j -ℤ g i) (g m.at -ℤ g i) n.positive (no_rise (g i) (g j) is) n.in_y);
      }

  flat_x : f i ≡ f j → HasMiddle f g i j
  flat_x is =
      let c = half (g j -ℤ g i) (omega (arith, ints)) in
      let least = c.1.least in
      let most = c.1.most in
      let m = passed g (g i +ℤ c.0) step_y (j - i) i j (omega arith) (omega (arith, ints)) (omega (arith, ints)) in
      let n = near m.at m.after m.before in
      record {
        at = m.at;
        after = m.after;
        before = m.before;
        in_x = flat_near (f i) (f j) (f m.at) is (flat n.p n.q (f j -ℤ f i) (f m.at -ℤ f i) n.positive (no_rise (f i) (f j) is) n.in_x);
        in_y = half_near (g i) (g j) (g m.at) c.0 c.1 m.is;
      }

  slanted : (f i +ℤ pos 1) ≤ℤ f j → (g i +ℤ pos 1) ≤ℤ g j → HasMiddle f g i j
  slanted more_x more_y =
      let c = half ((f j -ℤ f i) +ℤ (g j -ℤ g i)) (omega (arith, ints)) in
      let least = c.1.least in
      let most = c.1.most in
      let m = passed (λ k. f k +ℤ g k) ((f i +ℤ g i) +ℤ c.0) step (j - i) i j (omega arith) (omega (arith, ints)) (omega (arith, ints)) in
      let n = near m.at m.after m.before in
      let both = sum_half (f i) (g i) (f m.at) (g m.at) (f j) (g j) c.0 c.1 m.is in
      record {
        at = m.at;
        after = m.after;
        before = m.before;
        in_x = moved_near (f i) (f j) (f m.at)
            (across (f j -ℤ f i) (g j -ℤ g i) (f m.at -ℤ f i) (g m.at -ℤ g i) (not_below (f i) (f j) rises_x) (above_zero (g i) (g j) more_y) n both);
        in_y = moved_near (g i) (g j) (g m.at)
            (across (g j -ℤ g i) (f j -ℤ f i) (g m.at -ℤ g i) (f m.at -ℤ f i) (not_below (g i) (g j) rises_y) (above_zero (f i) (f j) more_x)
            (swapped (f j -ℤ f i) (g j -ℤ g i) (f m.at -ℤ f i) (g m.at -ℤ g i) n) (swapped_half (f j -ℤ f i) (g j -ℤ g i) (f m.at -ℤ f i) (g m.at -ℤ g i) both));
      }

  pub middle : HasMiddle f g i j
  middle = elim (compared (f i) (f j)) [
    | inl same ↦ flat_x same
    | inr other ↦ elim other [
      | inr falls ↦ absurd (omega (arith, ints))
      | inl more_x ↦ elim (compared (g i) (g j)) [
        | inl same ↦ flat_y same
        | inr other ↦ elim other [
          | inr falls ↦ absurd (omega (arith, ints))
          | inl more_y ↦ slanted more_x more_y
        ]
      ]
    ]
  ]

-- ---- any two coordinates

pub near_turned_x : (f g : ℕ → ℤ) (i j k : ℕ) → IsNearBoth (f j -ℤ f i) (g j -ℤ g i) (f k -ℤ f i) (g k -ℤ g i)
    → IsNearBoth (neg_ℤ (f j) -ℤ neg_ℤ (f i)) (g j -ℤ g i) (neg_ℤ (f k) -ℤ neg_ℤ (f i)) (g k -ℤ g i)
near_turned_x f g i j k near = record {
  p = near.p;
  q = near.q;
  positive = near.positive;
  in_x = subst (StaysWithin near.q) (sym (turned (pos near.p) (pos near.q) (f i) (f k) (f j))) (opposite_within near.q _ near.in_x);
  in_y = near.in_y;
}

pub near_turned_y : (f g : ℕ → ℤ) (i j k : ℕ) → IsNearBoth (f j -ℤ f i) (g j -ℤ g i) (f k -ℤ f i) (g k -ℤ g i)
    → IsNearBoth (f j -ℤ f i) (neg_ℤ (g j) -ℤ neg_ℤ (g i)) (f k -ℤ f i) (neg_ℤ (g k) -ℤ neg_ℤ (g i))
near_turned_y f g i j k near = record {
  p = near.p;
  q = near.q;
  positive = near.positive;
  in_x = near.in_x;
  in_y = subst (StaysWithin near.q) (sym (turned (pos near.p) (pos near.q) (g i) (g k) (g j))) (opposite_within near.q _ near.in_y);
}

turned_back : (u v x : ℤ) → unsigned_abs (pos 2 *ℤ neg_ℤ x -ℤ (neg_ℤ u +ℤ neg_ℤ v)) ≤ 2 → unsigned_abs (pos 2 *ℤ x -ℤ (u +ℤ v)) ≤ 2
turned_back u v x h = omega (arith, ints)

middle_back_x : (f g : ℕ → ℤ) (i j : ℕ) → HasMiddle (λ k. neg_ℤ (f k)) g i j → HasMiddle f g i j
middle_back_x f g i j m = record {
  at = m.at;
  after = m.after;
  before = m.before;
  in_x = turned_back (f i) (f j) (f m.at) m.in_x;
  in_y = m.in_y;
}

middle_back_y : (f g : ℕ → ℤ) (i j : ℕ) → HasMiddle f (λ k. neg_ℤ (g k)) i j → HasMiddle f g i j
middle_back_y f g i j m = record {
  at = m.at;
  after = m.after;
  before = m.before;
  in_x = m.in_x;
  in_y = turned_back (g i) (g j) (g m.at) m.in_y;
}

-- each step changes one of them, by one
abbrev pub IsUnitIn : ℤ → ℤ → ℤ → ℤ → Type 0
IsUnitIn x y x' y' = ((y ≡ y') × ((x' ≡ x +ℤ pos 1) ⊎ (x ≡ x' +ℤ pos 1))) ⊎ ((x ≡ x') × ((y' ≡ y +ℤ pos 1) ⊎ (y ≡ y' +ℤ pos 1)))

turned_next : (a b : ℤ) → (b ≡ a +ℤ pos 1) ⊎ (a ≡ b +ℤ pos 1) → (neg_ℤ b ≡ neg_ℤ a +ℤ pos 1) ⊎ (neg_ℤ a ≡ neg_ℤ b +ℤ pos 1)
turned_next a b s = elim s [ inl h ↦ inr (omega (arith, ints)) | inr h ↦ inl (omega (arith, ints)) ]

pub unit_turned_x : (x y x' y' : ℤ) → IsUnitIn x y x' y' → IsUnitIn (neg_ℤ x) y (neg_ℤ x') y'
unit_turned_x x y x' y' s = elim s [ inl h ↦ inl (h.0, turned_next x x' h.1) | inr h ↦ inr (ap neg_ℤ h.0, h.1) ]

pub unit_turned_y : (x y x' y' : ℤ) → IsUnitIn x y x' y' → IsUnitIn x (neg_ℤ y) x' (neg_ℤ y')
unit_turned_y x y x' y' s = elim s [ inl h ↦ inl (ap neg_ℤ h.0, h.1) | inr h ↦ inr (h.0, turned_next y y' h.1) ]

up_x : (x y x' y' : ℤ) → IsUnitIn x y x' y' → x' ≤ℤ (x +ℤ pos 1)
up_x x y x' y' s = elim s [
  | inl h ↦ elim h.1 [ inl e ↦ omega (arith, ints) | inr e ↦ omega (arith, ints) ]
  | inr h ↦ let e = h.0 in omega (arith, ints)
]

up_y : (x y x' y' : ℤ) → IsUnitIn x y x' y' → y' ≤ℤ (y +ℤ pos 1)
up_y x y x' y' s = elim s [
  | inr h ↦ elim h.1 [ inl e ↦ omega (arith, ints) | inr e ↦ omega (arith, ints) ]
  | inl h ↦ let e = h.0 in omega (arith, ints)
]

pub up_both : (x y x' y' : ℤ) → IsUnitIn x y x' y' → (x' +ℤ y') ≤ℤ ((x +ℤ y) +ℤ pos 1)
up_both x y x' y' s = elim s [
  | inl h ↦ (let d = h.0 in elim h.1 [ inl e ↦ omega (arith, ints) | inr e ↦ omega (arith, ints) ])
  | inr h ↦ (let d = h.0 in elim h.1 [ inl e ↦ omega (arith, ints) | inr e ↦ omega (arith, ints) ])
]

rising_middle : (f g : ℕ → ℤ) (i j : ℕ) → i ≤ j → ((k : ℕ) → IsUnitIn (f k) (g k) (f (suc k)) (g (suc k)))
    → ((k : ℕ) → i ≤ k → k ≤ j → IsNearBoth (f j -ℤ f i) (g j -ℤ g i) (f k -ℤ f i) (g k -ℤ g i))
    → f i ≤ℤ f j → g i ≤ℤ g j → HasMiddle f g i j
rising_middle f g i j h unit near x y = middle f g i j h
    (λ k. up_x (f k) (g k) (f (suc k)) (g (suc k)) (unit k))
    (λ k. up_y (f k) (g k) (f (suc k)) (g (suc k)) (unit k))
    (λ k. up_both (f k) (g k) (f (suc k)) (g (suc k)) (unit k))
    near x y

pub either_way : (u v : ℤ) → (u ≤ℤ v) ⊎ (neg_ℤ u ≤ℤ neg_ℤ v)
either_way u v = elim (compared u v) [
  | inl same ↦ inl (omega (arith, ints))
  | inr other ↦ elim other [ inl up ↦ inl (omega (arith, ints)) | inr down ↦ inr (omega (arith, ints)) ]
]

rising_in_x : (f g : ℕ → ℤ) (i j : ℕ) → i ≤ j → ((k : ℕ) → IsUnitIn (f k) (g k) (f (suc k)) (g (suc k)))
    → ((k : ℕ) → i ≤ k → k ≤ j → IsNearBoth (f j -ℤ f i) (g j -ℤ g i) (f k -ℤ f i) (g k -ℤ g i))
    → f i ≤ℤ f j → HasMiddle f g i j
rising_in_x f g i j h unit near x = elim (either_way (g i) (g j)) [
  | inl y ↦ rising_middle f g i j h unit near x y
  | inr y ↦ middle_back_y f g i j (rising_middle f (λ k. neg_ℤ (g k)) i j h
      (λ k. unit_turned_y (f k) (g k) (f (suc k)) (g (suc k)) (unit k))
      (λ k l m. near_turned_y f g i j k (near k l m)) x y)
]

any_middle : (f g : ℕ → ℤ) (i j : ℕ) → i ≤ j → ((k : ℕ) → IsUnitIn (f k) (g k) (f (suc k)) (g (suc k)))
    → ((k : ℕ) → i ≤ k → k ≤ j → IsNearBoth (f j -ℤ f i) (g j -ℤ g i) (f k -ℤ f i) (g k -ℤ g i))
    → HasMiddle f g i j
any_middle f g i j h unit near = elim (either_way (f i) (f j)) [
  | inl x ↦ rising_in_x f g i j h unit near x
  | inr x ↦ middle_back_x f g i j (rising_in_x (λ k. neg_ℤ (f k)) g i j h
      (λ k. unit_turned_x (f k) (g k) (f (suc k)) (g (suc k)) (unit k))
      (λ k l m. near_turned_x f g i j k (near k l m)) x)
]

pub both_near : (points : List Point) (i j k : ℕ) → IsPossible points i j → i ≤ k → k ≤ j
    → IsNearBoth ((point_at points j).x -ℤ (point_at points i).x) ((point_at points j).y -ℤ (point_at points i).y)
    ((point_at points k).x -ℤ (point_at points i).x) ((point_at points k).y -ℤ (point_at points i).y)
both_near points i j k possible h l =
    let near = half_line points i j k possible h l in
    record { p = near.p; q = near.q; positive = near.positive; in_x = near.in_x; in_y = near.in_y }

pub segment_middle : (points : List Point) (i j : ℕ) → IsClosedWalk points → IsPossible points i j
    → HasMiddle (λ k. (point_at points k).x) (λ k. (point_at points k).y) i j
segment_middle points i j closed possible =
    any_middle (λ k. (point_at points k).x) (λ k. (point_at points k).y) i j (omega (arith, possible.rises))
    closed.steps (λ k h l. both_near points i j k possible h l)
