-- The lengths of runs and gaps cut the longest members of their sets.
use Rattle.std.proofs.Common.{◌≡◌, refl, ℕ, zero, suc, ◌+◌, ◌≤◌, Bool, true, false, cond, not, List, [], ◌∷◌, ◌++◌, inl, inr, append_assoc, length, take, drop, arith, ap, sym, ◌∙◌}
use Rattle.std.specs.Prelude.{nat_eq}
use Rattle.std.proofs.lemmas.List.{length-append, length-take-le, take-append-drop}
use Rattle.std.proofs.lemmas.Bool.{not-true, eqb-true, eq-eqb, ne_eqb, both_ways, or_cases}
use Rattle.bitmap_input.specs.PageParts.{is_space, ends_line, run_length, gap_length}
use Rattle.bitmap_input.specs.Sets.{is_quiet, AllBytes, EndsComment, IsGap}
use Rattle.bitmap_input.specs.Sets.IsGap.{Nothing, Space, Comment}

run_one : (p : ℕ → Bool) (t : Bool) (n b : ℕ) (bs : List ℕ) → p b ≡ t → AllBytes p (take n bs) → AllBytes p (take (cond t (suc n) 0) (b ∷ bs))
run_one p true n b bs test rest = (test, rest)
run_one p false n b bs test rest = tt

pub run_is_run : (p : ℕ → Bool) (bytes : List ℕ) → AllBytes p (take (run_length p bytes) bytes)
run_is_run p [] = tt
run_is_run p (b ∷ bs) = run_one p (p b) (run_length p bs) b bs refl (run_is_run p bs)

pub run_is_longest : (p : ℕ → Bool) (bytes : List ℕ) (n : ℕ) → n ≤ length bytes → AllBytes p (take n bytes) → n ≤ run_length p bytes
run_is_longest p bytes zero within run = omega arith
run_is_longest p [] (suc n) within run = absurd (omega arith)
run_is_longest p (b ∷ bs) (suc n) within run =
    let test : p b ≡ true = run.0 in rw test (omega (arith, run_is_longest p bs n (omega arith) run.1))

-- the byte that ends a comment is whitespace
ends_line-is_space : (b : ℕ) → ends_line b ≡ true → is_space b ≡ true
ends_line-is_space b h = elim (or_cases (nat_eq b 10) (nat_eq b 13) h) [
  | inl e ↦ let same : b ≡ 10 = eqb-true b 10 e in rw same refl
  | inr e ↦ let same : b ≡ 13 = eqb-true b 13 e in rw same refl
]

-- what follows a `#`
pub record IsCommented (bytes : List ℕ) : Type 0 where
  pub text : List ℕ
  pub rest : List ℕ
  pub split : bytes ≡ text ++ rest
  pub quiet : AllBytes is_quiet text
  pub ends : EndsComment rest
  pub gap : IsGap rest

nothing_commented : IsCommented []
nothing_commented = record { text = []; rest = []; split = refl; quiet = tt; ends = tt; gap = Nothing }

comment_ends : (b : ℕ) (bs : List ℕ) → ends_line b ≡ true → IsGap bs → IsCommented (b ∷ bs)
comment_ends b bs test gap = record {
  text = [];
  rest = b ∷ bs;
  split = refl;
  quiet = tt;
  ends = test;
  gap = Space (ends_line-is_space b test) gap;
}

comment_goes_on : (b : ℕ) (bs : List ℕ) → ends_line b ≡ false → IsCommented bs → IsCommented (b ∷ bs)
comment_goes_on b bs test c = record {
  text = b ∷ c.text;
  rest = c.rest;
  split = ap (λ xs. b ∷ xs) c.split;
  quiet = (ap not test, c.quiet);
  ends = c.ends;
  gap = c.gap;
}

comment_one : (t : Bool) (b : ℕ) (bs : List ℕ) → ends_line b ≡ t → IsGap (take (gap_length false bs) bs) →
    IsCommented (take (gap_length true bs) bs) → IsCommented (b ∷ take (gap_length (not t) bs) bs)
comment_one true b bs test gap comment = comment_ends b (take (gap_length false bs) bs) test gap
comment_one false b bs test gap comment = comment_goes_on b (take (gap_length true bs) bs) test comment

gap_of_comment : (h : ℕ) (bytes : List ℕ) → h ≡ 35 → IsCommented bytes → IsGap (h ∷ bytes)
gap_of_comment h bytes hash c = Comment c.text c.rest hash c.split c.quiet c.ends c.gap

gap_one : (t u : Bool) (b : ℕ) (bs : List ℕ) → nat_eq b 35 ≡ t → is_space b ≡ u → IsGap (take (gap_length false bs) bs) →
    IsCommented (take (gap_length true bs) bs) →
    IsGap (take (cond t (suc (gap_length true bs)) (cond u (suc (gap_length false bs)) 0)) (b ∷ bs))
gap_one true u b bs hash space gap comment =
    gap_of_comment b (take (gap_length true bs) bs) (eqb-true b 35 hash) comment
gap_one false true b bs hash space gap comment = Space space gap
gap_one false false b bs hash space gap comment = Nothing

gap_and_comment : (bytes : List ℕ) → IsGap (take (gap_length false bytes) bytes) × IsCommented (take (gap_length true bytes) bytes)
gap_and_comment [] = (Nothing, nothing_commented)
gap_and_comment (b ∷ bs) =
    let both = gap_and_comment bs in
    (gap_one (nat_eq b 35) (is_space b) b bs refl refl both.0 both.1, comment_one (ends_line b) b bs refl both.0 both.1)

pub gap_is_gap : (bytes : List ℕ) → IsGap (take (gap_length false bytes) bytes)
gap_is_gap bytes = (gap_and_comment bytes).0

-- `#` isn't whitespace
space_is_no_hash : (b : ℕ) → is_space b ≡ true → nat_eq b 35 ≡ false
space_is_no_hash b space = ne_eqb b 35 (λ same. both_ways (is_space 35) refl (ap is_space (sym same) ∙ space))

in_comment : (text rest more : List ℕ) → AllBytes is_quiet text → EndsComment rest →
    length rest ≤ gap_length false (rest ++ more) → length text + length rest ≤ gap_length true (text ++ (rest ++ more))
in_comment (t ∷ ts) rest more quiet ends gap =
    let test : ends_line t ≡ false = not-true (ends_line t) quiet.0 in
    rw test (omega (arith, in_comment ts rest more quiet.1 ends gap))
in_comment [] [] more quiet ends gap = omega arith
in_comment [] (r ∷ rs) more quiet ends gap =
    let space : is_space r ≡ true = ends_line-is_space r ends in
    let hash : nat_eq r 35 ≡ false = space_is_no_hash r space in
    let g = rw (hash, space) at gap in rw ends (omega (arith, g))

gap_within : (xs more : List ℕ) → IsGap xs → length xs ≤ gap_length false (xs ++ more)
gap_within [] more Nothing = omega arith
gap_within (b ∷ bs) more (Space space gap) =
    let hash : nat_eq b 35 ≡ false = space_is_no_hash b space in
    rw (hash, space) (omega (arith, gap_within bs more gap))
gap_within (h ∷ bs) more (Comment text rest hash split quiet ends gap) =
    let test : nat_eq h 35 ≡ true = eq-eqb h 35 hash in
    let same : bs ++ more ≡ text ++ (rest ++ more) = ap (λ xs. xs ++ more) split ∙ append_assoc text rest more in
    let len : length bs ≡ length text + length rest = ap length split ∙ length-append text rest in
    rw (test, same) (omega (arith, len, in_comment text rest more quiet ends (gap_within rest more gap)))

pub gap_is_longest : (bytes : List ℕ) (n : ℕ) → n ≤ length bytes → IsGap (take n bytes) → n ≤ gap_length false bytes
gap_is_longest bytes n within gap =
    let h : length (take n bytes) ≤ gap_length false (take n bytes ++ drop n bytes) = gap_within (take n bytes) (drop n bytes) gap in
    let g = rw (length-take-le n bytes within, take-append-drop n bytes) at h in g
