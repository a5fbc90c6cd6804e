-- No point of a segment goes beyond the segment's end by more than 1, in either coordinate.
use Rattle.std.proofs.Common.{◌≡◌, inl, inr, ℕ, suc, ◌-◌, ◌<◌, ◌≤◌, ℤ, pos, ◌+ℤ◌, ◌-ℤ◌, ◌*ℤ◌, ◌≤ℤ◌, ap, subst, arith}
use Rattle.std.proofs.lemmas.Int.{ints}
use Rattle.std.proofs.lemmas.Bool.{cases_lt}
use Rattle.pt_core.proofs.Terms.{same_value}
use Rattle.pt_core.proofs.Terms.Term.{num, plus, less, times}
use Rattle.straight_paths.specs.Straight.{StaysWithin}
use Rattle.path_cones.proofs.Signs.{factor_at_least}
use Rattle.outline_distance.proofs.Levels.{passed, compared}

pub record IsNearIn (d e : ℤ) : Type 0 where
  pub p : ℕ
  pub q : ℕ
  pub positive : 1 ≤ q
  pub within : StaysWithin q (pos q *ℤ d -ℤ pos p *ℤ e)

pub opened : (d n q : ℤ) → ((d +ℤ pos 1) -ℤ n) *ℤ q ≡ (q *ℤ d +ℤ q) -ℤ q *ℤ n
opened d n q = same_value
    (times (less (plus (num d) (num (pos 1))) (num n)) (num q))
    (less (plus (times (num q) (num d)) (num q)) (times (num q) (num n)))
    (omega arith)

still_within : (p q : ℕ) (d e : ℤ) → e ≡ pos 0 → StaysWithin q (pos q *ℤ d -ℤ pos p *ℤ e) → pos 0 ≤ℤ (((pos 0 +ℤ pos 1) -ℤ d) *ℤ pos q)
still_within p q d e is w =
    let P : ℤ → Type 0 = λ z. StaysWithin q (pos q *ℤ d -ℤ pos p *ℤ z) in
    let v = subst P is w in
    let h = v.high in
    let o = opened (pos 0) d (pos q) in
    omega (arith, ints, o)

near_nothing : (d e : ℤ) → e ≡ pos 0 → IsNearIn d e → d ≤ℤ pos 1
near_nothing d e is near =
    let h = factor_at_least ((pos 0 +ℤ pos 1) -ℤ d) (pos near.q) (still_within near.p near.q d e is near.within) (omega (arith, ints, near.positive)) in
    omega (arith, ints)

no_difference : (a b : ℤ) → a ≡ b → b -ℤ a ≡ pos 0
no_difference a b e = omega (arith, ints)

module _ (f : ℕ → ℤ) (i j : ℕ) (step : (k : ℕ) → f (suc k) ≤ℤ (f k +ℤ pos 1))
    (near : (a b c : ℕ) → i ≤ a → a < b → b < c → c ≤ j → IsNearIn (f b -ℤ f a) (f c -ℤ f a)) where
  pub no_farther : (k : ℕ) → i ≤ k → k ≤ j → f i ≤ℤ f j → f k ≤ℤ (f j +ℤ pos 1)
  no_farther k h l rises = elim (compared (f k) (f j)) [
    | inl is ↦ omega (arith, ints)
    | inr other ↦ elim other [
      | inl below ↦ omega (arith, ints)
      | inr above ↦
          let m = passed f (f j) step (k - i) i k (omega arith) rises (omega (arith, ints)) in
          let after = m.after in
          let before = m.before in
          let is = m.is in
          elim (cases_lt m.at k) [
            | inr same ↦
                let e : m.at ≡ k = omega arith in
                let g = ap f e in
                absurd (omega (arith, ints))
            | inl sooner ↦ elim (cases_lt k j) [
              | inr end ↦
                  let e : k ≡ j = omega arith in
                  let g = ap f e in
                  absurd (omega (arith, ints))
              | inl inside ↦
                  let d = near_nothing (f k -ℤ f m.at) (f j -ℤ f m.at) (no_difference (f m.at) (f j) is) (near m.at k j after sooner inside (omega arith)) in
                  omega (arith, ints)
            ]
          ]
    ]
  ]
