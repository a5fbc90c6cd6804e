-- Lists of texts, by the weights of what they are of.
use Rattle.std.proofs.Common.{◌≡◌, ℕ, ◌+◌, ◌*◌, ◌≤◌, Bool, not, List, [], ◌∷◌, All, filter, flat_map, length, length-append, sum_by, refl, arith}
use Rattle.std.proofs.lemmas.List.Concat.{flat_map-cons}
use Rattle.std.proofs.lemmas.List.Elements.{All-head, All-tail}
use Rattle.std.proofs.lemmas.List.Filters.{sum_by-filter_both}
use Rattle.std.proofs.lemmas.List.Sums.{sum_by-cons}

-- each text is no longer than its weight, so all are no longer than the weights together
pub texts_most : {A : Type 0} (text : A → List ℕ) (weight : A → ℕ) (xs : List A) → All (λ x. length (text x) ≤ weight x) xs → length (flat_map text xs) ≤ sum_by weight xs
texts_most text weight [] all = omega arith
texts_most text weight (x ∷ xs) all =
    let here = All-head (λ y. length (text y) ≤ weight y) x xs all in
    let rest = texts_most text weight xs (All-tail (λ y. length (text y) ≤ weight y) x xs all) in
    rw (flat_map-cons text x xs, sum_by-cons weight x xs, length-append (text x) (flat_map text xs)) (omega arith)

pub weights_times : {A : Type 0} (k : ℕ) (weight : A → ℕ) (xs : List A) → sum_by (λ x. k * weight x) xs ≡ k * sum_by weight xs
weights_times k weight [] = omega arith
weights_times k weight (x ∷ xs) =
    let rest = weights_times k weight xs in
    rw (sum_by-cons (λ y. k * weight y) x xs, sum_by-cons weight x xs, rest) (omega (arith, mul-add k (weight x) (sum_by weight xs)))
  where
    mul-add : (k m n : ℕ) → k * (m + n) ≡ k * m + k * n
    mul-add k m n = grind arith

-- what is filtered weighs no more
pub weights_kept : {A : Type 0} (p : A → Bool) (weight : A → ℕ) (xs : List A) → sum_by weight (filter p xs) ≤ sum_by weight xs
weights_kept p weight xs =
    let both = sum_by-filter_both p (λ x. not (p x)) (λ x. refl) weight xs in
    omega arith

-- a list is no longer than its weights together, of which each is 1 at least
pub places_most : {A : Type 0} (weight : A → ℕ) (xs : List A) → All (λ x. 1 ≤ weight x) xs → length xs ≤ sum_by weight xs
places_most weight [] all = omega arith
places_most weight (x ∷ xs) all =
    let here = All-head (λ y. 1 ≤ weight y) x xs all in
    let rest = places_most weight xs (All-tail (λ y. 1 ≤ weight y) x xs all) in
    rw (sum_by-cons weight x xs) (omega arith)

-- and no longer than a quarter of them, where each is 4 at least
pub fours_most : {A : Type 0} (weight : A → ℕ) (xs : List A) → All (λ x. 4 ≤ weight x) xs → 4 * length xs ≤ sum_by weight xs
fours_most weight [] all = omega arith
fours_most weight (x ∷ xs) all =
    let here = All-head (λ y. 4 ≤ weight y) x xs all in
    let rest = fours_most weight xs (All-tail (λ y. 4 ≤ weight y) x xs all) in
    rw (sum_by-cons weight x xs) (omega arith)
