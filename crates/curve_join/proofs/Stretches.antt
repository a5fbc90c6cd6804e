-- The stretch that halving finds has the quadratic's coefficients on it, and contains the change of sign.
use Rattle.std.proofs.Common.{◌≡◌, inl, inr, ℕ, zero, suc, ◌+◌, ◌-◌, ◌*◌, ◌<◌, ◌≤◌, ◌^◌, ℤ, pos, ◌+ℤ◌, ◌*ℤ◌, ◌<ℤ◌, ◌≤ℤ◌, sym, ap, subst, ◌∙◌, arith}
use Rattle.std.proofs.lemmas.Int.{ints}
use Rattle.std.proofs.lemmas.Nat.{mul-le, pow-add}
use Rattle.std.proofs.Math.Decide.{dec_lt}
use Rattle.std.specs.Prelude.{unsigned_abs}
use Rattle.pt_core.proofs.Terms.{Term, same_value}
use Rattle.pt_core.proofs.Terms.Term.{num, plus, times}
use Rattle.curve_join.proofs.Nearest.{IsNearer}
use Rattle.curve_join.specs.Inner.Cubic.{AreWithin}
use Rattle.curve_join.specs.Cubic.{quadratic}
use Rattle.curve_join.specs.Inner.Halves.{IsHalf, IsFirstHalf, IsSecondHalf, middle_value}
use Rattle.curve_join.specs.declared.touch.Stretch.{Stretch}

-- three coefficients, weighted
abbrev pub weighted : ℕ → ℕ → ℕ → ℤ → ℤ → ℤ → ℤ
weighted k l m a b c = (pos k *ℤ a +ℤ pos l *ℤ b) +ℤ pos m *ℤ c

abbrev term : ℕ → ℕ → ℕ → ℤ → ℤ → ℤ → Term
term k l m a b c = plus (plus (times (num (pos k)) (num a)) (times (num (pos l)) (num b))) (times (num (pos m)) (num c))

-- the coefficients on stretch number l, if r stretches follow it, times the square of the number of stretches
abbrev pub start_by : ℕ → ℕ → ℤ → ℤ → ℤ → ℤ
start_by l r = weighted ((r + 1) * (r + 1)) (2 * l * (r + 1)) (l * l)

abbrev pub between_by : ℕ → ℕ → ℤ → ℤ → ℤ → ℤ
between_by l r = weighted ((r + 1) * r) ((r + 1) * (l + 1) + l * r) (l * (l + 1))

abbrev pub end_by : ℕ → ℕ → ℤ → ℤ → ℤ → ℤ
end_by l r = weighted (r * r) (2 * (l + 1) * r) ((l + 1) * (l + 1))

abbrev start_term : ℕ → ℕ → ℤ → ℤ → ℤ → Term
start_term l r = term ((r + 1) * (r + 1)) (2 * l * (r + 1)) (l * l)

abbrev between_term : ℕ → ℕ → ℤ → ℤ → ℤ → Term
between_term l r = term ((r + 1) * r) ((r + 1) * (l + 1) + l * r) (l * (l + 1))

abbrev end_term : ℕ → ℕ → ℤ → ℤ → ℤ → Term
end_term l r = term (r * r) (2 * (l + 1) * r) ((l + 1) * (l + 1))

module _ (l r : ℕ) (a b c : ℤ) where
  start_twice : pos 4 *ℤ start_by l r a b c ≡ start_by (2 * l) (2 * r + 1) a b c
  start_twice = same_value (times (num (pos 4)) (start_term l r a b c)) (start_term (2 * l) (2 * r + 1) a b c) (omega arith)

  first_between : pos 2 *ℤ (start_by l r a b c +ℤ between_by l r a b c) ≡ between_by (2 * l) (2 * r + 1) a b c
  first_between = same_value (times (num (pos 2)) (plus (start_term l r a b c) (between_term l r a b c))) (between_term (2 * l) (2 * r + 1) a b c) (omega arith)

  first_end : (start_by l r a b c +ℤ between_by l r a b c) +ℤ (between_by l r a b c +ℤ end_by l r a b c) ≡ end_by (2 * l) (2 * r + 1) a b c
  first_end = same_value (plus (plus (start_term l r a b c) (between_term l r a b c)) (plus (between_term l r a b c) (end_term l r a b c)))
      (end_term (2 * l) (2 * r + 1) a b c) (omega arith)

  second_start : (start_by l r a b c +ℤ between_by l r a b c) +ℤ (between_by l r a b c +ℤ end_by l r a b c) ≡ start_by (2 * l + 1) (2 * r) a b c
  second_start = same_value (plus (plus (start_term l r a b c) (between_term l r a b c)) (plus (between_term l r a b c) (end_term l r a b c)))
      (start_term (2 * l + 1) (2 * r) a b c) (omega arith)

  second_between : pos 2 *ℤ (between_by l r a b c +ℤ end_by l r a b c) ≡ between_by (2 * l + 1) (2 * r) a b c
  second_between = same_value (times (num (pos 2)) (plus (between_term l r a b c) (end_term l r a b c))) (between_term (2 * l + 1) (2 * r) a b c) (omega arith)

  end_twice : pos 4 *ℤ end_by l r a b c ≡ end_by (2 * l + 1) (2 * r) a b c
  end_twice = same_value (times (num (pos 4)) (end_term l r a b c)) (end_term (2 * l + 1) (2 * r) a b c) (omega arith)

-- the stretch is one of n, has the quadratic's coefficients, and the quadratic is above 0 at its start and not at its
-- end
pub record IsStretch (n : ℕ) (a b c : ℤ) (s : Stretch) : Type 0 where
  pub rest : ℕ
  pub parts : s.last + rest + 1 ≡ n
  pub start : s.start ≡ start_by s.last rest a b c
  pub between : s.between ≡ between_by s.last rest a b c
  pub end : s.end ≡ end_by s.last rest a b c
  pub small : AreWithin (2 ^ 49 * (n * n)) s.start s.between s.end
  pub above : pos 0 <ℤ s.start
  pub below : s.end ≤ℤ pos 0

middle_is : (s : Stretch) (x y z : ℤ) → s.start ≡ x → s.between ≡ y → s.end ≡ z → middle_value s ≡ (x +ℤ y) +ℤ (y +ℤ z)
middle_is s x y z e f g = cc

sum_is : (s t x y : ℤ) → s ≡ x → t ≡ y → pos 2 *ℤ (s +ℤ t) ≡ pos 2 *ℤ (x +ℤ y)
sum_is s t x y e f = cc

four_times : (m : ℕ) (z w : ℤ) → w ≡ pos 4 *ℤ z → unsigned_abs z ≤ m → unsigned_abs w ≤ 4 * m
four_times m z w e h = omega (arith, ints)

twice_both : (m : ℕ) (y z w : ℤ) → w ≡ pos 2 *ℤ (y +ℤ z) → unsigned_abs y ≤ m → unsigned_abs z ≤ m → unsigned_abs w ≤ 4 * m
twice_both m y z w e h k = omega (arith, ints)

all_four : (m : ℕ) (x y z w : ℤ) → w ≡ (x +ℤ y) +ℤ (y +ℤ z) → unsigned_abs x ≤ m → unsigned_abs y ≤ m → unsigned_abs z ≤ m → unsigned_abs w ≤ 4 * m
all_four m x y z w e h k l = omega (arith, ints)

-- the number of a half among all stretches, and the signs at its ends
first_parts : (l r n k : ℕ) → l + r + 1 ≡ n → k ≡ 2 * l → k + (2 * r + 1) + 1 ≡ 2 * n
first_parts l r n k e h = omega arith

second_parts : (l r n k : ℕ) → l + r + 1 ≡ n → k ≡ 2 * l + 1 → k + 2 * r + 1 ≡ 2 * n
second_parts l r n k e h = omega arith

still_above : (z w : ℤ) → w ≡ pos 4 *ℤ z → pos 0 <ℤ z → pos 0 <ℤ w
still_above z w e h = omega (arith, ints)

still_below : (z w : ℤ) → w ≡ pos 4 *ℤ z → z ≤ℤ pos 0 → w ≤ℤ pos 0
still_below z w e h = omega (arith, ints)

square_twice : (n m : ℕ) → m ≤ 4 * (2 ^ 49 * (n * n)) → m ≤ 2 ^ 49 * (2 * n * (2 * n))
square_twice n m h = omega arith

module _ (n : ℕ) (a b c : ℤ) (s half : Stretch) (is : IsStretch n a b c s) where
  first : middle_value s ≤ℤ pos 0 → IsFirstHalf s half → IsStretch (2 * n) a b c half
  first low h =
      record {
        rest = 2 * is.rest + 1;
        parts = first_parts s.last is.rest n half.last is.parts h.last;
        start = h.start ∙ ap (λ z. pos 4 *ℤ z) is.start ∙ start_twice s.last is.rest a b c ∙ ap (λ k. start_by k (2 * is.rest + 1) a b c) (sym h.last);
        between = h.between ∙ sum_is _ _ _ _ is.start is.between ∙ first_between s.last is.rest a b c ∙ ap (λ k. between_by k (2 * is.rest + 1) a b c) (sym h.last);
        end = h.end ∙ middle_is s _ _ _ is.start is.between is.end ∙ first_end s.last is.rest a b c ∙ ap (λ k. end_by k (2 * is.rest + 1) a b c) (sym h.last);
        small = record {
          a = square_twice n _ (four_times _ s.start half.start h.start is.small.a);
          b = square_twice n _ (twice_both _ s.start s.between half.between h.between is.small.a is.small.b);
          c = square_twice n _ (all_four _ s.start s.between s.end half.end h.end is.small.a is.small.b is.small.c);
        };
        above = still_above s.start half.start h.start is.above;
        below = subst (λ z. z ≤ℤ pos 0) (sym h.end) low;
      }

  second : pos 0 <ℤ middle_value s → IsSecondHalf s half → IsStretch (2 * n) a b c half
  second high h =
      record {
        rest = 2 * is.rest;
        parts = second_parts s.last is.rest n half.last is.parts h.last;
        start = h.start ∙ middle_is s _ _ _ is.start is.between is.end ∙ second_start s.last is.rest a b c ∙ ap (λ k. start_by k (2 * is.rest) a b c) (sym h.last);
        between = h.between ∙ sum_is _ _ _ _ is.between is.end ∙ second_between s.last is.rest a b c ∙ ap (λ k. between_by k (2 * is.rest) a b c) (sym h.last);
        end = h.end ∙ ap (λ z. pos 4 *ℤ z) is.end ∙ end_twice s.last is.rest a b c ∙ ap (λ k. end_by k (2 * is.rest) a b c) (sym h.last);
        small = record {
          a = square_twice n _ (all_four _ s.start s.between s.end half.start h.start is.small.a is.small.b is.small.c);
          b = square_twice n _ (twice_both _ s.between s.end half.between h.between is.small.b is.small.c);
          c = square_twice n _ (four_times _ s.end half.end h.end is.small.c);
        };
        above = subst (λ z. pos 0 <ℤ z) (sym h.start) high;
        below = still_below s.end half.end h.end is.below;
      }

  pub halved : IsHalf s half → IsStretch (2 * n) a b c half
  halved h = elim h [
    | inl k ↦ first k.0 k.1
    | inr k ↦ second k.0 k.1
  ]

-- the first stretch is the whole quadratic
start_whole : (l : ℕ) (a b c : ℤ) → l ≡ 0 → a ≡ start_by l 0 a b c
start_whole l a b c none = omega (arith, ints) ∙ ap (λ k. start_by k 0 a b c) (sym none)

between_whole : (l : ℕ) (a b c : ℤ) → l ≡ 0 → b ≡ between_by l 0 a b c
between_whole l a b c none = omega (arith, ints) ∙ ap (λ k. between_by k 0 a b c) (sym none)

end_whole : (l : ℕ) (a b c : ℤ) → l ≡ 0 → c ≡ end_by l 0 a b c
end_whole l a b c none = omega (arith, ints) ∙ ap (λ k. end_by k 0 a b c) (sym none)

one_part : (l : ℕ) → l ≡ 0 → l + 0 + 1 ≡ 1
one_part l none = omega arith

pub whole : (a b c : ℤ) (s : Stretch) → s.last ≡ 0 → s.start ≡ a → s.between ≡ b → s.end ≡ c → AreWithin (2 ^ 49) a b c
    → pos 0 <ℤ a → c ≤ℤ pos 0 → IsStretch 1 a b c s
whole a b c s none ea eb ec h above below = record {
  rest = 0;
  parts = one_part s.last none;
  start = ea ∙ start_whole s.last a b c none;
  between = eb ∙ between_whole s.last a b c none;
  end = ec ∙ end_whole s.last a b c none;
  small = record { a = rw ea h.a; b = rw eb h.b; c = rw ec h.c };
  above = rw ea above;
  below = rw ec below;
}

-- the start and the end of one of 64 stretches
one_of : (l r : ℕ) → l + r + 1 ≡ 64 → l < 64
one_of l r e = omega arith

rest_from : (l r : ℕ) → l + r + 1 ≡ 64 → r + 1 ≡ 64 - l
rest_from l r e = omega arith

rest_behind : (l r : ℕ) → l + r + 1 ≡ 64 → r ≡ 64 - (l + 1)
rest_behind l r e = omega arith

module _ (a b c : ℤ) (s : Stretch) (is : IsStretch 64 a b c s) where
  pub last_below : s.last < 64
  last_below = one_of s.last is.rest is.parts

  pub start_is : s.start ≡ quadratic s.last a b c
  start_is =
      let e = rest_from s.last is.rest is.parts in
      is.start ∙ ap (λ n. (pos (n * n) *ℤ a +ℤ pos (2 * s.last * n) *ℤ b) +ℤ pos (s.last * s.last) *ℤ c) e

  pub end_is : s.end ≡ quadratic (s.last + 1) a b c
  end_is =
      let e = rest_behind s.last is.rest is.parts in
      is.end ∙ ap (λ n. (pos (n * n) *ℤ a +ℤ pos (2 * (s.last + 1) * n) *ℤ b) +ℤ pos ((s.last + 1) * (s.last + 1)) *ℤ c) e

-- ---- of two numbers, the one with the lesser value

-- a number with the value of a function there
pub record Sized (f : ℕ → ℕ) : Type 0 where
  pub at : ℕ
  pub size : ℕ
  pub is : size ≡ f at

module _ (f : ℕ → ℕ) (u v : Sized f) (p k : ℕ)
    (second : v.size < u.size → (p ≡ v.at) × (k ≡ v.size)) (first : u.size ≤ v.size → (p ≡ u.at) × (k ≡ u.size)) where
  pub nearer : IsNearer f u.at v.at p
  nearer =
      let eu = u.is in
      let ev = v.is in
      record { second = λ h. (second (omega arith)).0; first = λ h. (first (omega arith)).0 }

  pub its_size : k ≡ f p
  its_size = elim (dec_lt v.size u.size) [
    | yes l ↦ let h = second l in h.1 ∙ v.is ∙ ap f (sym h.0)
    | no g ↦ let h = first (omega arith) in h.1 ∙ u.is ∙ ap f (sym h.0)
  ]

  abbrev pub taken : Sized f
  taken = record { at = p; size = k; is = its_size }

-- the absolute values of a quadratic at its ends
pub start_size : (a b c : ℤ) (n : ℕ) → n ≡ unsigned_abs a → 4096 * n ≡ unsigned_abs (quadratic 0 a b c)
start_size a b c n e = omega (arith, ints)

pub end_size : (a b c : ℤ) (n : ℕ) → n ≡ unsigned_abs c → 4096 * n ≡ unsigned_abs (quadratic 64 a b c)
end_size a b c n e = omega (arith, ints)

-- ---- the numbers fit in their types

pub within_59 : (n : ℕ) (x y z : ℤ) → n ≤ 32 → AreWithin (2 ^ 49 * (n * n)) x y z → AreWithin (2 ^ 59) x y z
within_59 n x y z few h =
    let square = mul-le n n 32 32 few few in
    let ha = h.a in
    let hb = h.b in
    let hc = h.c in
    record { a = omega arith; b = omega arith; c = omega arith }

pub few_parts : (k : ℕ) → k < 6 → 2 ^ k ≤ 32
few_parts zero h = omega arith
few_parts (suc zero) h = omega arith
few_parts (suc (suc zero)) h = omega arith
few_parts (suc (suc (suc zero))) h = omega arith
few_parts (suc (suc (suc (suc zero)))) h = omega arith
few_parts (suc (suc (suc (suc (suc zero))))) h = omega arith
few_parts (suc (suc (suc (suc (suc (suc k)))))) h = absurd (omega arith)

pub twice_is : (k : ℕ) → 2 * 2 ^ k ≡ 2 ^ (k + 1)
twice_is k = omega (arith, pow-add 2 k 1)

pub at_end : (k : ℕ) (a b c : ℤ) (s : Stretch) → k ≡ 6 → IsStretch (2 ^ k) a b c s → IsStretch 64 a b c s
at_end k a b c s e is = subst (λ n. IsStretch (2 ^ n) a b c s) e is
