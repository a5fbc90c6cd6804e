-- The order of walks, where a step is put before them.
use Rattle.std.proofs.Common.{◌≡◌, ℕ, ◌<◌, List, ◌∷◌, ◌∙◌, arith}
use Rattle.std.specs.Ordering.{nat_cmp}
use Rattle.std.specs.Cmp.Lexicographic.{slice_cmp}
use Rattle.std.specs.declared.cmp.Ordering.TheVariants.{Greater}
use Rattle.std.proofs.lemmas.Cmp.{nat_cmp_total, nat_list_cmp_total, tied_itself}
use Rattle.std.proofs.lemmas.Bool.Decides.{nat_tests}
use Rattle.least_walk.specs.LeastWalk.{IsBefore}
use Rattle.least_walk.specs.LeastWalk.IsBefore.{by_steps, by_cost, by_list}
use Rattle.least_walk.proofs.Going.{total_cost-cons}

-- the greater of two numbers
pub nat_cmp_above : (m n : ℕ) → n < m → nat_cmp m n ≡ Greater
nat_cmp_above m n above = grind (arith, nat_tests)

-- lists that begin alike compare as what follows
pub slice_cmp-cons : (i : ℕ) (v w : List ℕ) → slice_cmp nat_cmp (i ∷ v) (i ∷ w) ≡ slice_cmp nat_cmp v w
slice_cmp-cons i v w = rw (tied_itself nat_cmp_total i)

-- no list is before itself
pub not_before_itself : (cost : ℕ → ℕ → ℕ) (v : List ℕ) → ¬ IsBefore cost v v
not_before_itself cost v (by_steps fewer) = omega arith
not_before_itself cost v (by_cost tied cheaper) = omega arith
not_before_itself cost v (by_list tied as_cheap lower) = let same = tied_itself nat_list_cmp_total v in cc

-- a step put before both keeps their order
pub IsBefore-cons : (cost : ℕ → ℕ → ℕ) (i j : ℕ) (v w : List ℕ)
    → IsBefore cost (j ∷ v) (j ∷ w)
    → IsBefore cost (i ∷ j ∷ v) (i ∷ j ∷ w)
IsBefore-cons cost i j v w (by_steps fewer) = by_steps (omega arith)
IsBefore-cons cost i j v w (by_cost tied cheaper) =
    by_cost (omega arith) (omega (arith, total_cost-cons cost i j v, total_cost-cons cost i j w))
IsBefore-cons cost i j v w (by_list tied as_cheap lower) =
    by_list (omega arith) (omega (arith, total_cost-cons cost i j v, total_cost-cons cost i j w))
    (slice_cmp-cons i (j ∷ v) (j ∷ w) ∙ lower)
