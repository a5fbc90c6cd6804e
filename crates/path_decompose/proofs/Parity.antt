-- Whether an odd number of a list's elements pass a test, and how often a test changes along a walk.
use Rattle.std.proofs.Common.{◌≡◌, ℕ, ◌+◌, Bool, true, false, not, cond, List, [], ◌∷◌, count_by, All, refl, ap, sym, subst, ◌∙◌, arith}
use Rattle.std.specs.List.Sorted.{IsPermutation}
use Rattle.std.proofs.lemmas.Bool.Decides.{nat_tests}
use Rattle.std.proofs.lemmas.List.Sums.{sum_by-cons}
use Rattle.std.proofs.lemmas.List.Elements.{All-head, All-tail}
use Rattle.std.proofs.lemmas.List.Sorted.{sum_by-IsPermutation}
use Rattle.bit_image.specs.Image.{differ}
use Rattle.turn_policies.specs.declared.edge.Edge.{Edge}
use Rattle.path_decompose.specs.Walk.{IsTrail}
use Rattle.boundary_edges.specs.Inside.{is_odd}
use Rattle.boundary_edges.proofs.Differ.{differ_same, differ_link, differ_swap}

-- an odd number of elements pass
abbrev pub odd_by : {A : Type 0} → (A → Bool) → List A → Bool
odd_by f [] = false
odd_by f (x ∷ xs) = differ (f x) (odd_by f xs)

is_odd-suc : (n : ℕ) → is_odd (1 + n) ≡ not (is_odd n)
is_odd-suc n = grind (arith, nat_tests)

is_odd-cond : (b : Bool) (n : ℕ) → is_odd (cond b 1 0 + n) ≡ differ b (is_odd n)
is_odd-cond true n = is_odd-suc n
is_odd-cond false n = ap is_odd (omega arith)

pub is_odd-count : {A : Type 0} (f : A → Bool) (xs : List A) → is_odd (count_by f xs) ≡ odd_by f xs
is_odd-count f [] = refl
is_odd-count f (x ∷ xs) =
    ap is_odd (sum_by-cons (λ y. cond (f y) 1 0) x xs) ∙ is_odd-cond (f x) (count_by f xs) ∙ ap (differ (f x)) (is_odd-count f xs)

pub odd_by-differ : {A : Type 0} (f g : A → Bool) (xs : List A) → odd_by (λ x. differ (f x) (g x)) xs ≡ differ (odd_by f xs) (odd_by g xs)
odd_by-differ f g [] = refl
odd_by-differ f g (x ∷ xs) =
    ap (differ (differ (f x) (g x))) (odd_by-differ f g xs) ∙ differ_swap (f x) (g x) (odd_by f xs) (odd_by g xs)

pub odd_by-same : {A : Type 0} (f g : A → Bool) → ((x : A) → f x ≡ g x) → (xs : List A) → odd_by f xs ≡ odd_by g xs
odd_by-same f g h [] = refl
odd_by-same f g h (x ∷ xs) =
    ap (λ b. differ b (odd_by f xs)) (h x) ∙ ap (differ (g x)) (odd_by-same f g h xs)

-- tests that agree on a list's elements
pub odd_by-agree : {A : Type 0} (f g : A → Bool) (xs : List A) → All (λ x. f x ≡ g x) xs → odd_by f xs ≡ odd_by g xs
odd_by-agree f g [] h = refl
odd_by-agree f g (x ∷ xs) h =
    ap (λ b. differ b (odd_by f xs)) (All-head (λ y. f y ≡ g y) x xs h)
    ∙ ap (differ (g x)) (odd_by-agree f g xs (All-tail (λ y. f y ≡ g y) x xs h))

-- Along a run, a test f that tells whether S changes at a step holds an odd number of times exactly where S
-- differs between the run's ends.
pub odd_by-run : (step : Edge → Edge) (P : Edge → Type 0) → ((e : Edge) → P e → P (step e)) → (S f : Edge → Bool) → ((e : Edge) → P e → f e ≡ differ (S e) (S (step e))) → (es : List Edge) (a z : Edge) → P a → IsTrail step a es z → odd_by f es ≡ differ (S a) (S z)
odd_by-run step P keeps S f h [] a z p run = sym (ap (λ w. differ (S w) (S z)) run ∙ differ_same (S z))
odd_by-run step P keeps S f h (e ∷ es) a z p run =
    let pe : P e = subst P (sym run.0) p in
    ap (λ b. differ b (odd_by f es)) (h e pe)
    ∙ ap (differ (differ (S e) (S (step e)))) (odd_by-run step P keeps S f h es (step e) z (keeps e pe) run.1)
    ∙ differ_link (S e) (S (step e)) (S z)
    ∙ ap (λ w. differ (S w) (S z)) run.0

-- along a closed run it holds an even number of times
pub odd_by-closed : (step : Edge → Edge) (P : Edge → Type 0) → ((e : Edge) → P e → P (step e)) → (S f : Edge → Bool) → ((e : Edge) → P e → f e ≡ differ (S e) (S (step e))) → (es : List Edge) (a : Edge) → P a → IsTrail step a es a → odd_by f es ≡ false
odd_by-closed step P keeps S f h es a p run = odd_by-run step P keeps S f h es a a p run ∙ differ_same (S a)

-- a test holds of as many elements in any order
pub count_by-order : {A : Type 0} (f : A → Bool) (xs ys : List A) → IsPermutation xs ys → count_by f ys ≡ count_by f xs
count_by-order f xs ys moved = sum_by-IsPermutation (λ x. cond (f x) 1 0) xs ys moved
