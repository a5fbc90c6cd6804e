-- The length of a run at the beginning of a list is within the list, doesn't shrink when bytes are added, and
-- stays the same if the run ends before the list does.
use Rattle.std.proofs.Common.{◌≡◌, refl, ℕ, suc, ◌≤◌, Bool, true, false, cond, not, List, [], ◌∷◌, ◌++◌, length, drop, arith, ap}
use Rattle.std.specs.Prelude.{nat_eq}
use Rattle.bitmap_input.specs.PageParts.{is_empty, run_length, gap_length, ends_line, is_space}

-- the run takes the byte or not, and lies within the list
within : (t : Bool) (n : ℕ) (b : ℕ) (bs : List ℕ) → n ≤ length bs → cond t (suc n) 0 ≤ length (b ∷ bs)
within true n b bs h = omega arith
within false n b bs h = omega arith

-- the run takes the byte or not, and isn't shorter
no_less : (t : Bool) (n m : ℕ) → n ≤ m → cond t (suc n) 0 ≤ cond t (suc m) 0
no_less true n m h = omega arith
no_less false n m h = omega arith

-- the run takes the byte or not, and has the same length
pick : (t : Bool) (n m : ℕ) (b : ℕ) (bs : List ℕ) → (is_empty (drop n bs) ≡ false → m ≡ n) →
    is_empty (drop (cond t (suc n) 0) (b ∷ bs)) ≡ false → cond t (suc m) 0 ≡ cond t (suc n) 0
pick true n m b bs same more = ap suc (same more)
pick false n m b bs same more = refl

pub run_length-le : (p : ℕ → Bool) (bytes : List ℕ) → run_length p bytes ≤ length bytes
run_length-le p [] = omega arith
run_length-le p (b ∷ bs) = within (p b) (run_length p bs) b bs (run_length-le p bs)

pub run_length-append-le : (p : ℕ → Bool) (bytes more : List ℕ) → run_length p bytes ≤ run_length p (bytes ++ more)
run_length-append-le p [] more = omega arith
run_length-append-le p (b ∷ bs) more =
    no_less (p b) (run_length p bs) (run_length p (bs ++ more)) (run_length-append-le p bs more)

pub run_length-append : (p : ℕ → Bool) (bytes more : List ℕ) →
    is_empty (drop (run_length p bytes) bytes) ≡ false → run_length p (bytes ++ more) ≡ run_length p bytes
run_length-append p [] more h = cc
run_length-append p (b ∷ bs) more h =
    pick (p b) (run_length p bs) (run_length p (bs ++ more)) b bs (run_length-append p bs more) h

-- a gap lies within the list, isn't shorter and has the same length, whether the byte begins a comment, is
-- whitespace, or ends the gap
within_gap : (t u : Bool) (n m : ℕ) (b : ℕ) (bs : List ℕ) → n ≤ length bs → m ≤ length bs →
    cond t (suc n) (cond u (suc m) 0) ≤ length (b ∷ bs)
within_gap true u n m b bs h k = omega arith
within_gap false true n m b bs h k = omega arith
within_gap false false n m b bs h k = omega arith

no_less_gap : (t u : Bool) (n m n2 m2 : ℕ) → n ≤ n2 → m ≤ m2 →
    cond t (suc n) (cond u (suc m) 0) ≤ cond t (suc n2) (cond u (suc m2) 0)
no_less_gap true u n m n2 m2 h k = omega arith
no_less_gap false true n m n2 m2 h k = omega arith
no_less_gap false false n m n2 m2 h k = omega arith

pick_gap : (t u : Bool) (n m n2 m2 : ℕ) (b : ℕ) (bs : List ℕ) →
    (is_empty (drop n bs) ≡ false → n2 ≡ n) → (is_empty (drop m bs) ≡ false → m2 ≡ m) →
    is_empty (drop (cond t (suc n) (cond u (suc m) 0)) (b ∷ bs)) ≡ false →
    cond t (suc n2) (cond u (suc m2) 0) ≡ cond t (suc n) (cond u (suc m) 0)
pick_gap true u n m n2 m2 b bs same same2 more = ap suc (same more)
pick_gap false true n m n2 m2 b bs same same2 more = ap suc (same2 more)
pick_gap false false n m n2 m2 b bs same same2 more = refl

pub gap_length-le : (comment : Bool) (bytes : List ℕ) → gap_length comment bytes ≤ length bytes
gap_length-le true [] = omega arith
gap_length-le false [] = omega arith
gap_length-le true (b ∷ bs) = omega (arith, gap_length-le (not (ends_line b)) bs)
gap_length-le false (b ∷ bs) =
    within_gap (nat_eq b 35) (is_space b) (gap_length true bs) (gap_length false bs) b bs
    (gap_length-le true bs) (gap_length-le false bs)

pub gap_length-append-le : (comment : Bool) (bytes more : List ℕ) →
    gap_length comment bytes ≤ gap_length comment (bytes ++ more)
gap_length-append-le true [] more = omega arith
gap_length-append-le false [] more = omega arith
gap_length-append-le true (b ∷ bs) more = omega (arith, gap_length-append-le (not (ends_line b)) bs more)
gap_length-append-le false (b ∷ bs) more =
    no_less_gap (nat_eq b 35) (is_space b) (gap_length true bs) (gap_length false bs)
    (gap_length true (bs ++ more)) (gap_length false (bs ++ more))
    (gap_length-append-le true bs more) (gap_length-append-le false bs more)

pub gap_length-append : (comment : Bool) (bytes more : List ℕ) →
    is_empty (drop (gap_length comment bytes) bytes) ≡ false →
    gap_length comment (bytes ++ more) ≡ gap_length comment bytes
gap_length-append true [] more h = cc
gap_length-append false [] more h = cc
gap_length-append true (b ∷ bs) more h = ap suc (gap_length-append (not (ends_line b)) bs more h)
gap_length-append false (b ∷ bs) more h =
    pick_gap (nat_eq b 35) (is_space b) (gap_length true bs) (gap_length false bs)
    (gap_length true (bs ++ more)) (gap_length false (bs ++ more)) b bs
    (gap_length-append true bs more) (gap_length-append false bs more) h
