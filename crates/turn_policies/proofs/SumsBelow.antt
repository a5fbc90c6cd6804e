-- Sums over the first n numbers: equal terms give equal sums, and some sums have a closed form.
use Rattle.std.proofs.Common.{◌≡◌, ℕ, zero, suc, ◌+◌, ◌-◌, ◌<◌, Bool, true, false, cond, ◌&&◌, nat_eq, nat_le, refl, ◌∙◌, arith}
use Rattle.std.proofs.lemmas.Bool.Decides.{nat_tests}
use Rattle.turn_policies.specs.Majority.{count_below, sum_below}

pub sum_below-same : (n : ℕ) (f g : ℕ → ℕ) → ((k : ℕ) → k < n → f k ≡ g k) → sum_below n f ≡ sum_below n g
sum_below-same zero f g h = refl
sum_below-same (suc n) f g h =
    let rest : sum_below n f ≡ sum_below n g = sum_below-same n f g (λ k below. h k (omega arith)) in
    let last : f n ≡ g n = h n (omega arith) in
    omega arith

pub sum_below-add : (n : ℕ) (f g : ℕ → ℕ) → sum_below n (λ k. f k + g k) ≡ sum_below n f + sum_below n g
sum_below-add zero f g = refl
sum_below-add (suc n) f g =
    let rest : sum_below n (λ k. f k + g k) ≡ sum_below n f + sum_below n g = sum_below-add n f g in
    omega arith

pub sum_below-zero : (n : ℕ) → sum_below n (λ k. 0) ≡ 0
sum_below-zero zero = refl
sum_below-zero (suc n) = omega (arith, sum_below-zero n)

pub count_below-sum : (n : ℕ) (f : ℕ → Bool) → count_below n f ≡ sum_below n (λ k. cond (f k) 1 0)
count_below-sum zero f = refl
count_below-sum (suc n) f =
    let rest : count_below n f ≡ sum_below n (λ k. cond (f k) 1 0) = count_below-sum n f in
    one_more (f n) (count_below n f) (sum_below n (λ k. cond (f k) 1 0)) rest
  where
    one_more : (t : Bool) (a b : ℕ) → a ≡ b → cond t (suc a) a ≡ b + cond t 1 0
    one_more true a b e = omega arith
    one_more false a b e = omega arith

-- n - a of the first n numbers are at least a
pub sum_below-from : (n a : ℕ) → sum_below n (λ k. cond (nat_le a k) 1 0) ≡ n - a
sum_below-from zero a = omega arith
sum_below-from (suc n) a =
    let rest : sum_below n (λ k. cond (nat_le a k) 1 0) ≡ n - a = sum_below-from n a in
    grind (arith, nat_tests)

-- a sum in which only the term of c isn't 0 is that term
pub sum_below-at : (n c m : ℕ) → sum_below n (λ k. cond (nat_eq c k) m 0) ≡ cond (nat_le n c) 0 m
sum_below-at zero c m = grind (arith, nat_tests)
sum_below-at (suc n) c m =
    let rest : sum_below n (λ k. cond (nat_eq c k) m 0) ≡ cond (nat_le n c) 0 m = sum_below-at n c m in
    grind (arith, nat_tests)

and_true : (a : Bool) (n : ℕ) → cond (a && true) n 0 ≡ cond a n 0
and_true true n = refl
and_true false n = refl

and_false : (a : Bool) (n : ℕ) → cond (a && false) n 0 ≡ 0
and_false true n = refl
and_false false n = refl

-- a condition that doesn't depend on the number can be taken out of a sum
pub sum_below-if : (n : ℕ) (t : Bool) (f : ℕ → Bool) → sum_below n (λ k. cond (f k && t) 1 0) ≡ cond t (sum_below n (λ k. cond (f k) 1 0)) 0
sum_below-if n true f = sum_below-same n (λ k. cond (f k && true) 1 0) (λ k. cond (f k) 1 0) (λ k below. and_true (f k) 1)
sum_below-if n false f = sum_below-same n (λ k. cond (f k && false) 1 0) (λ k. 0) (λ k below. and_false (f k) 1) ∙ sum_below-zero n
