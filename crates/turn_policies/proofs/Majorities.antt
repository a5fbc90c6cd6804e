-- The first ring that doesn't tie decides the majority.
use Rattle.std.proofs.Common.{◌≡◌, ◌≢◌, ℕ, zero, suc, ◌<◌, ◌≤◌, Bool, false, nat_lt, ◌∙◌, arith}
use Rattle.std.proofs.lemmas.Bool.Decides.{nat_tests}
use Rattle.bit_image.specs.Image.{Image}
use Rattle.turn_policies.specs.Majority.{black_in_ring, white_in_ring, is_more, major}

-- the rings inside ring r tie
abbrev pub TiesBelow : Image → ℕ → ℕ → ℕ → Type 0
TiesBelow b x y r = (k : ℕ) → 2 ≤ k → k < r → black_in_ring b x y k ≡ white_in_ring b x y k

is_more-tie : (m n : ℕ) (next : Bool) → m ≡ n → is_more m n next ≡ next
is_more-tie m n next e = grind (arith, nat_tests)

is_more-decides : (m n : ℕ) (next : Bool) → m ≢ n → is_more m n next ≡ nat_lt n m
is_more-decides m n next h = grind (arith, nat_tests)

-- a ring that doesn't tie decides, if all rings inside it tie
pub major-at : (b : Image) (x y r : ℕ) → 2 ≤ r → r < 5 → TiesBelow b x y r → black_in_ring b x y r ≢ white_in_ring b x y r
    → major b x y ≡ nat_lt (white_in_ring b x y r) (black_in_ring b x y r)
unfolding major
major-at b x y zero p q ties h = absurd (omega arith)
major-at b x y (suc zero) p q ties h = absurd (omega arith)
major-at b x y (suc (suc zero)) p q ties h = is_more-decides _ _ _ h
major-at b x y (suc (suc (suc zero))) p q ties h =
    is_more-tie _ _ _ (ties 2 (omega arith) (omega arith)) ∙ is_more-decides _ _ _ h
major-at b x y (suc (suc (suc (suc zero)))) p q ties h =
    is_more-tie _ _ _ (ties 2 (omega arith) (omega arith)) ∙ is_more-tie _ _ _ (ties 3 (omega arith) (omega arith))
    ∙ is_more-decides _ _ _ h
major-at b x y (suc (suc (suc (suc (suc r))))) p q ties h = absurd (omega arith)

-- if all three rings tie, black isn't the majority
pub major-tied : (b : Image) (x y : ℕ) → TiesBelow b x y 5 → major b x y ≡ false
unfolding major
major-tied b x y ties =
    is_more-tie _ _ _ (ties 2 (omega arith) (omega arith)) ∙ is_more-tie _ _ _ (ties 3 (omega arith) (omega arith))
    ∙ is_more-tie _ _ _ (ties 4 (omega arith) (omega arith))
