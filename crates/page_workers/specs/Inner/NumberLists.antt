-- Rising lists of numbers, put together in their order.
use Rattle.std.specs.Prelude.{ℕ, List, [], ◌∷◌, cond, nat_lt}

-- a rising list with one number more, at its place
abbrev pub inserted : ℕ → List ℕ → List ℕ
inserted x [] = x ∷ []
inserted x (y ∷ ys) = cond (nat_lt x y) (x ∷ y ∷ ys) (y ∷ inserted x ys)

-- the numbers of two rising lists, in their order
abbrev pub merged : List ℕ → List ℕ → List ℕ
merged [] ys = ys
merged (x ∷ xs) ys = inserted x (merged xs ys)
