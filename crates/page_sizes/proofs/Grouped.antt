-- Each outline is one of a shape at most: its outer one, or a hole of it.
use Rattle.std.proofs.Common.{◌≡◌, ℕ, suc, zero, ◌+◌, ◌≤◌, Bool, true, false, cond, nat_eq, nat_le, List, [], ◌∷◌, Option, Some, None, is_none, filter, length, map, sum_by, refl, ap, sym, ◌∙◌, arith}
use Rattle.std.specs.List.{range_with_len}
use Rattle.std.proofs.lemmas.List.Sums.{sum_by-cons}
use Rattle.std.proofs.lemmas.List.FromFn.{sum_by-map-range_with_len_more}
use Rattle.pt_core.specs.declared.path.Path.{Path}
use Rattle.pt_core.specs.declared.trace.Group.{Group}
use Rattle.turn_policies.specs.Majority.{sum_below}
use Rattle.turn_policies.proofs.SumsBelow.{sum_below-add, sum_below-at, sum_below-zero}
use Rattle.path_tree.specs.Groups.{group_at, groups_of, holder_of, holes_below, is_number}

sum_by-filter : {A : Type 0} (p : A → Bool) (f : A → ℕ) (xs : List A) → sum_by f (filter p xs) ≡ sum_by (λ x. cond (p x) (f x) 0) xs
sum_by-filter p f [] = refl
sum_by-filter p f (x ∷ xs) =
    one (p x) ∙ ap (λ n. cond (p x) (f x) 0 + n) (sum_by-filter p f xs) ∙ sym (sum_by-cons (λ y. cond (p y) (f y) 0) x xs)
  where
    one : (t : Bool) → sum_by f (cond t (x ∷ filter p xs) (filter p xs)) ≡ cond t (f x) 0 + sum_by f (filter p xs)
    one true = sum_by-cons f x (filter p xs)
    one false = omega arith

pub sum_by-over : {A B : Type 0} (f : B → ℕ) (g : A → B) (xs : List A) → sum_by f (map g xs) ≡ sum_by (λ x. f (g x)) xs
sum_by-over f g [] = refl
sum_by-over f g (x ∷ xs) =
    sum_by-cons f (g x) (map g xs) ∙ ap (λ n. f (g x) + n) (sum_by-over f g xs) ∙ sym (sum_by-cons (λ y. f (g y)) x xs)

-- the sum over the first numbers, as one over a list
pub sum_by-first : (f : ℕ → ℕ) (n : ℕ) → sum_by f (range_with_len 0 n) ≡ sum_below n f
sum_by-first f zero = refl
sum_by-first f (suc n) =
    let more : suc n ≡ n + 1 = omega arith in
    sym (sum_by-over f (λ k. k) (range_with_len 0 (suc n)))
    ∙ ap (λ m. sum_by f (map (λ k. k) (range_with_len 0 m))) more
    ∙ sum_by-map-range_with_len_more f (λ k. k) 0 n n (omega arith)
    ∙ ap (λ m. m + f n) (sum_by-over f (λ k. k) (range_with_len 0 n) ∙ sum_by-first f n)

sum_below-turned : (n m : ℕ) (f : ℕ → ℕ → ℕ) → sum_below n (λ j. sum_below m (λ i. f j i)) ≡ sum_below m (λ i. sum_below n (λ j. f j i))
sum_below-turned zero m f = sym (sum_below-zero m)
sum_below-turned (suc n) m f =
    ap (λ k. k + sum_below m (λ i. f n i)) (sum_below-turned n m f)
    ∙ sym (sum_below-add m (λ i. sum_below n (λ j. f j i)) (λ i. f n i))

sum_below-le : (n : ℕ) (f g : ℕ → ℕ) → ((k : ℕ) → f k ≤ g k) → sum_below n f ≤ sum_below n g
sum_below-le zero f g le = omega arith
sum_below-le (suc n) f g le =
    let rest = sum_below-le n f g le in
    let last = le n in
    omega arith

-- a path bounds a hole in one shape at most
one_holder : (n m : ℕ) (holder : Option ℕ) → sum_below n (λ j. cond (is_number j holder) m 0) ≤ cond (is_none holder) 0 m
one_holder n m None = omega (arith, sum_below-zero n)
one_holder n m (Some k) = at_most (nat_le n k) (sum_below-at n k m)
  where
    at_most : (t : Bool) → sum_below n (λ j. cond (nat_eq k j) m 0) ≡ cond t 0 m → sum_below n (λ j. cond (nat_eq k j) m 0) ≤ m
    at_most true e = omega arith
    at_most false e = omega arith

-- what a shape weighs: so much, and its outlines
abbrev pub group_weight : ℕ → (ℕ → ℕ) → Group → ℕ
group_weight each f group = each + f group.outer + sum_by f group.holes

holes_weigh : (paths : List Path) (f : ℕ → ℕ) (j n : ℕ) → sum_by f (holes_below paths j n) ≡ sum_below n (λ i. cond (is_number j (holder_of paths i)) (f i) 0)
holes_weigh paths f j n =
    sum_by-filter (λ i. is_number j (holder_of paths i)) f (range_with_len 0 n)
    ∙ sum_by-first (λ i. cond (is_number j (holder_of paths i)) (f i) 0) n

part_most : (t : Bool) (each here holes : ℕ) → cond t (each + here + holes) 0 ≤ cond t (each + here) 0 + holes
part_most true each here holes = omega arith
part_most false each here holes = omega arith

both_most : (t : Bool) (each here : ℕ) → cond t (each + here) 0 + cond t 0 here ≤ each + here
both_most true each here = omega arith
both_most false each here = omega arith

-- so all shapes weigh no more than so much for each path, and its outline
pub groups_weigh : (paths : List Path) (each : ℕ) (f : ℕ → ℕ) → sum_by (group_weight each f) (groups_of paths) ≤ sum_below (length paths) (λ i. each + f i)
groups_weigh paths each f =
    let n : ℕ = length paths in
    let free : ℕ → Bool = λ j. is_none (holder_of paths j) in
    let held : ℕ → ℕ → ℕ = λ j i. cond (is_number j (holder_of paths i)) (f i) 0 in
    let all : sum_by (group_weight each f) (groups_of paths) ≡ sum_below n (λ j. cond (free j) (each + f j + sum_by f (holes_below paths j n)) 0) =
    sum_by-filter (λ group. is_none (holder_of paths group.outer)) (group_weight each f) (map (group_at paths) (range_with_len 0 n))
    ∙ sum_by-over (λ group. cond (is_none (holder_of paths group.outer)) (group_weight each f group) 0) (group_at paths) (range_with_len 0 n)
    ∙ sum_by-first (λ j. cond (free j) (each + f j + sum_by f (holes_below paths j n)) 0) n in
    let parted = sum_below-le n (λ j. cond (free j) (each + f j + sum_by f (holes_below paths j n)) 0) (λ j. cond (free j) (each + f j) 0 + sum_below n (λ i. held j i))
    (λ j. rw (holes_weigh paths f j n) (part_most (free j) each (f j) (sum_below n (λ i. held j i)))) in
    let added = sum_below-add n (λ j. cond (free j) (each + f j) 0) (λ j. sum_below n (λ i. held j i)) in
    let turned = sum_below-turned n n held in
    let few = sum_below-le n (λ i. sum_below n (λ j. held j i)) (λ i. cond (free i) 0 (f i)) (λ i. one_holder n (f i) (holder_of paths i)) in
    let back = sum_below-add n (λ j. cond (free j) (each + f j) 0) (λ j. cond (free j) 0 (f j)) in
    let last = sum_below-le n (λ j. cond (free j) (each + f j) 0 + cond (free j) 0 (f j)) (λ j. each + f j) (λ j. both_most (free j) each (f j)) in
    omega arith
