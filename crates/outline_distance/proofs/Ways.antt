-- The straight way between a segment's ends is near each point of the path between them.
use Rattle.std.proofs.Common.{◌≡◌, inl, inr, ℕ, zero, suc, ◌+◌, ◌-◌, ◌<◌, ◌≤◌, ℤ, pos, negsuc, neg_ℤ, ◌+ℤ◌, ◌-ℤ◌, ◌*ℤ◌, ◌≤ℤ◌, ◌<ℤ◌, List, sym, subst, arith}
use Rattle.std.proofs.lemmas.Int.{ints}
use Rattle.std.proofs.lemmas.Bool.{cases_lt}
use Rattle.std.specs.Prelude.{unsigned_abs}
use Rattle.pt_core.specs.ClosedWalk.{IsClosedWalk, point_at}
use Rattle.pt_core.specs.declared.point.Point.{Point}
use Rattle.pt_core.proofs.Terms.{same_value}
use Rattle.pt_core.proofs.Terms.Term.{num, plus, less, times, opposite}
use Rattle.straight_paths.specs.Straight.{IsPossible, StaysWithin}
use Rattle.path_cones.proofs.Signs.{factor_at_least}
use Rattle.outline_distance.proofs.Levels.{compared}
use Rattle.outline_distance.proofs.Segments.{triple, half_line}
use Rattle.outline_distance.proofs.Ends.{IsNearIn, opened, no_farther}

-- ---- in one coordinate

absolute : (z : ℤ) (q : ℕ) → StaysWithin q z → unsigned_abs z ≤ q
absolute z q w = let l = w.low in let h = w.high in omega (arith, ints)

pub weighed : (r p a b c : ℤ) → r *ℤ (c -ℤ a) +ℤ p *ℤ (c -ℤ b) ≡ (r +ℤ p) *ℤ (c -ℤ a) -ℤ p *ℤ (b -ℤ a)
weighed r p a b c = same_value
    (plus (times (num r) (less (num c) (num a))) (times (num p) (less (num c) (num b))))
    (less (times (plus (num r) (num p)) (less (num c) (num a))) (times (num p) (less (num b) (num a))))
    (omega arith)

pub together : (r p : ℕ) → pos r +ℤ pos p ≡ pos (r + p)
together r p = omega (arith, ints)

inner : (r p : ℕ) (a b c : ℤ) → StaysWithin (r + p) (pos (r + p) *ℤ (c -ℤ a) -ℤ pos p *ℤ (b -ℤ a))
    → unsigned_abs (pos r *ℤ (c -ℤ a) +ℤ pos p *ℤ (c -ℤ b)) ≤ r + p
inner r p a b c w =
    let P : ℤ → Type 0 = λ z. StaysWithin (r + p) (z *ℤ (c -ℤ a) -ℤ pos p *ℤ (b -ℤ a)) in
    let v = subst P (sym (together r p)) w in
    absolute _ (r + p) (subst (StaysWithin (r + p)) (sym (weighed (pos r) (pos p) a b c)) v)

below_end : (q r : ℕ) (n d : ℤ) → pos 0 ≤ℤ n → StaysWithin q (pos q *ℤ d -ℤ pos (q + r) *ℤ n)
    → pos 0 ≤ℤ (((d +ℤ pos 1) -ℤ n) *ℤ pos q)
below_end q r (pos n) d h w = let l = w.low in let o = opened d (pos n) (pos q) in omega (arith, ints, o)
below_end q r (negsuc n) d h w = absurd (omega (arith, ints))

above_end : (q r : ℕ) (n d : ℤ) → n ≤ℤ pos 0 → StaysWithin q (pos q *ℤ d -ℤ pos (q + r) *ℤ n)
    → pos 0 ≤ℤ (((n +ℤ pos 1) -ℤ d) *ℤ pos q)
above_end q r (pos zero) d h w = let l = w.high in let o = opened (pos 0) d (pos q) in omega (arith, ints, o)
above_end q r (pos (suc n)) d h w = absurd (omega (arith, ints))
above_end q r (negsuc n) d h w = let l = w.high in let o = opened (negsuc n) d (pos q) in omega (arith, ints, o)

-- where the half-line comes near c beyond its end, the end is near c
at_end : (q r : ℕ) (a b c : ℤ) → 1 ≤ q → (a ≤ℤ b → c ≤ℤ (b +ℤ pos 1)) → (b ≤ℤ a → b ≤ℤ (c +ℤ pos 1))
    → StaysWithin q (pos q *ℤ (c -ℤ a) -ℤ pos (q + r) *ℤ (b -ℤ a)) → unsigned_abs (pos 0 *ℤ (c -ℤ a) +ℤ pos 1 *ℤ (c -ℤ b)) ≤ 1
at_end q r a b c some up down w =
    let positive : pos 0 <ℤ pos q = omega (arith, ints) in
    elim (compared a b) [
      | inl same ↦
          let h = up (omega (arith, ints)) in
          let k = down (omega (arith, ints)) in
          omega (arith, ints)
      | inr other ↦ elim other [
        | inl rises ↦
            let h = up (omega (arith, ints)) in
            let k = factor_at_least (((c -ℤ a) +ℤ pos 1) -ℤ (b -ℤ a)) (pos q) (below_end q r (b -ℤ a) (c -ℤ a) (omega (arith, ints)) w) positive in
            omega (arith, ints)
        | inr falls ↦
            let h = down (omega (arith, ints)) in
            let k = factor_at_least (((b -ℤ a) +ℤ pos 1) -ℤ (c -ℤ a)) (pos q) (above_end q r (b -ℤ a) (c -ℤ a) (omega (arith, ints)) w) positive in
            omega (arith, ints)
      ]
    ]

-- ---- in both

-- the straight way from a to b passes c by a pixel at most
pub record IsNearWay (a b c : Point) : Type 0 where
  pub r : ℕ
  pub p : ℕ
  pub some : 1 ≤ r + p
  pub in_x : unsigned_abs (pos r *ℤ (c.x -ℤ a.x) +ℤ pos p *ℤ (c.x -ℤ b.x)) ≤ r + p
  pub in_y : unsigned_abs (pos r *ℤ (c.y -ℤ a.y) +ℤ pos p *ℤ (c.y -ℤ b.y)) ≤ r + p

-- each step changes each coordinate by one at most
pub record IsSlow (f : ℕ → ℤ) : Type 0 where
  pub up : (k : ℕ) → f (suc k) ≤ℤ (f k +ℤ pos 1)
  pub down : (k : ℕ) → f k ≤ℤ (f (suc k) +ℤ pos 1)

pub slow_x : (points : List Point) → IsClosedWalk points → IsSlow (λ k. (point_at points k).x)
slow_x points closed = record {
  up = λ k. elim (closed.steps k) [
    | inl h ↦ elim h.1 [ inl e ↦ omega (arith, ints) | inr e ↦ omega (arith, ints) ]
    | inr h ↦ let e = h.0 in omega (arith, ints)
  ];
  down = λ k. elim (closed.steps k) [
    | inl h ↦ elim h.1 [ inl e ↦ omega (arith, ints) | inr e ↦ omega (arith, ints) ]
    | inr h ↦ let e = h.0 in omega (arith, ints)
  ];
}

pub slow_y : (points : List Point) → IsClosedWalk points → IsSlow (λ k. (point_at points k).y)
slow_y points closed = record {
  up = λ k. elim (closed.steps k) [
    | inr h ↦ elim h.1 [ inl e ↦ omega (arith, ints) | inr e ↦ omega (arith, ints) ]
    | inl h ↦ let e = h.0 in omega (arith, ints)
  ];
  down = λ k. elim (closed.steps k) [
    | inr h ↦ elim h.1 [ inl e ↦ omega (arith, ints) | inr e ↦ omega (arith, ints) ]
    | inl h ↦ let e = h.0 in omega (arith, ints)
  ];
}

opposite_step : (a b : ℤ) → a ≤ℤ (b +ℤ pos 1) → neg_ℤ b ≤ℤ (neg_ℤ a +ℤ pos 1)
opposite_step a b h = omega (arith, ints)

opposite_order : (a b : ℤ) → b ≤ℤ a → neg_ℤ a ≤ℤ neg_ℤ b
opposite_order a b h = omega (arith, ints)

opposite_end : (b c : ℤ) → neg_ℤ c ≤ℤ (neg_ℤ b +ℤ pos 1) → b ≤ℤ (c +ℤ pos 1)
opposite_end b c h = omega (arith, ints)

pub turned : (p q a b c : ℤ) → q *ℤ (neg_ℤ b -ℤ neg_ℤ a) -ℤ p *ℤ (neg_ℤ c -ℤ neg_ℤ a) ≡ neg_ℤ (q *ℤ (b -ℤ a) -ℤ p *ℤ (c -ℤ a))
turned p q a b c = same_value
    (less (times (num q) (less (opposite (num b)) (opposite (num a)))) (times (num p) (less (opposite (num c)) (opposite (num a)))))
    (opposite (less (times (num q) (less (num b) (num a))) (times (num p) (less (num c) (num a)))))
    (omega arith)

pub opposite_within : (q : ℕ) (z : ℤ) → StaysWithin q z → StaysWithin q (neg_ℤ z)
opposite_within q z w = let l = w.low in let h = w.high in record { low = omega (arith, ints); high = omega (arith, ints) }

opposite_near : (a b c : ℤ) → IsNearIn (b -ℤ a) (c -ℤ a) → IsNearIn (neg_ℤ b -ℤ neg_ℤ a) (neg_ℤ c -ℤ neg_ℤ a)
opposite_near a b c near = record {
  p = near.p;
  q = near.q;
  positive = near.positive;
  within = subst (StaysWithin near.q) (sym (turned (pos near.p) (pos near.q) a b c)) (opposite_within near.q _ near.within);
}

module _ (f : ℕ → ℤ) (i j k : ℕ) (slow : IsSlow f) (near : (a b c : ℕ) → i ≤ a → a < b → b < c → c ≤ j → IsNearIn (f b -ℤ f a) (f c -ℤ f a))
    (h : i ≤ k) (l : k ≤ j) where
  goes_up : f i ≤ℤ f j → f k ≤ℤ (f j +ℤ pos 1)
  goes_up rises = no_farther f i j slow.up near k h l rises

  goes_down : f j ≤ℤ f i → f j ≤ℤ (f k +ℤ pos 1)
  goes_down falls = opposite_end (f j) (f k)
      (no_farther (λ m. neg_ℤ (f m)) i j (λ m. opposite_step (f m) (f (suc m)) (slow.down m))
      (λ a b c u v w x. opposite_near (f a) (f b) (f c) (near a b c u v w x)) k h l (opposite_order (f i) (f j) falls))

module _ (points : List Point) (i j k : ℕ) (closed : IsClosedWalk points) (possible : IsPossible points i j) (h : i ≤ k) (l : k ≤ j) where
  near_x : (a b c : ℕ) → i ≤ a → a < b → b < c → c ≤ j
      → IsNearIn ((point_at points b).x -ℤ (point_at points a).x) ((point_at points c).x -ℤ (point_at points a).x)
  near_x a b c u v w x = let near = triple points i j a b c possible u v w x in record { p = near.p; q = near.q; positive = near.positive; within = near.in_x }

  near_y : (a b c : ℕ) → i ≤ a → a < b → b < c → c ≤ j
      → IsNearIn ((point_at points b).y -ℤ (point_at points a).y) ((point_at points c).y -ℤ (point_at points a).y)
  near_y a b c u v w x = let near = triple points i j a b c possible u v w x in record { p = near.p; q = near.q; positive = near.positive; within = near.in_y }

  by_part : (p q : ℕ) → 1 ≤ q
      → StaysWithin q (pos q *ℤ ((point_at points k).x -ℤ (point_at points i).x) -ℤ pos p *ℤ ((point_at points j).x -ℤ (point_at points i).x))
      → StaysWithin q (pos q *ℤ ((point_at points k).y -ℤ (point_at points i).y) -ℤ pos p *ℤ ((point_at points j).y -ℤ (point_at points i).y))
      → IsNearWay (point_at points i) (point_at points j) (point_at points k)
  by_part p q some in_x in_y = elim (cases_lt q p) [
    | inr inside ↦
        let e : q ≡ (q - p) + p = omega arith in
        let P : ℤ → ℤ → ℕ → Type 0 = λ d e n. StaysWithin n (pos n *ℤ d -ℤ pos p *ℤ e) in
        record {
          r = q - p;
          p = p;
          some = omega arith;
          in_x = inner (q - p) p (point_at points i).x (point_at points j).x (point_at points k).x
              (subst (P ((point_at points k).x -ℤ (point_at points i).x) ((point_at points j).x -ℤ (point_at points i).x)) e in_x);
          in_y = inner (q - p) p (point_at points i).y (point_at points j).y (point_at points k).y
              (subst (P ((point_at points k).y -ℤ (point_at points i).y) ((point_at points j).y -ℤ (point_at points i).y)) e in_y);
        }
    | inl beyond ↦
        let e : p ≡ q + (p - q) = omega arith in
        let P : ℤ → ℤ → ℕ → Type 0 = λ d e n. StaysWithin q (pos q *ℤ d -ℤ pos n *ℤ e) in
        record {
          r = 0;
          p = 1;
          some = omega arith;
          in_x = at_end q (p - q) (point_at points i).x (point_at points j).x (point_at points k).x some
              (goes_up (λ m. (point_at points m).x) i j k (slow_x points closed) near_x h l)
              (goes_down (λ m. (point_at points m).x) i j k (slow_x points closed) near_x h l)
              (subst (P ((point_at points k).x -ℤ (point_at points i).x) ((point_at points j).x -ℤ (point_at points i).x)) e in_x);
          in_y = at_end q (p - q) (point_at points i).y (point_at points j).y (point_at points k).y some
              (goes_up (λ m. (point_at points m).y) i j k (slow_y points closed) near_y h l)
              (goes_down (λ m. (point_at points m).y) i j k (slow_y points closed) near_y h l)
              (subst (P ((point_at points k).y -ℤ (point_at points i).y) ((point_at points j).y -ℤ (point_at points i).y)) e in_y);
        }
  ]

  pub near_way : IsNearWay (point_at points i) (point_at points j) (point_at points k)
  near_way =
      let near = half_line points i j k possible h l in
      by_part near.p near.q near.positive near.in_x near.in_y
