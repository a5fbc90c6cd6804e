-- Lists that are compared part by part, and a way once round as a list from its first point past the path's end.
use Rattle.std.proofs.Common.{◌≡◌, ℕ, ◌+◌, ◌-◌, ◌<◌, ◌≤◌, List, [], ◌∷◌, ◌++◌, drop, length, length-append, map, take, true, false, refl, ap, sym, ◌∙◌, subst, inl, inr, arith}
use Rattle.std.specs.List.{All}
use Rattle.std.specs.Prelude.{nat_lt, slice_index}
use Rattle.std.specs.Ordering.{nat_cmp, ordering_reverse}
use Rattle.std.specs.Cmp.Lexicographic.{slice_cmp}
use Rattle.std.specs.Cmp.Derive.Mapped.{lex_map}
use Rattle.std.specs.declared.cmp.Ordering.{Ordering}
use Rattle.std.specs.declared.cmp.Ordering.TheVariants.{Less, Equal, Greater}
use Rattle.std.proofs.Math.ListN.{get_or-append}
use Rattle.std.proofs.Math.Path.{fun_ext}
use Rattle.std.proofs.Math.Seq.{get_or-append_seam}
use Rattle.std.proofs.lemmas.Bool.{cases_lt, lt-ltb, le-ltb}
use Rattle.std.proofs.lemmas.Bool.Decides.{nat_tests}
use Rattle.std.proofs.lemmas.Cmp.{nat_list_cmp_total}
use Rattle.std.proofs.lemmas.List.{map-append}
use Rattle.std.proofs.lemmas.List.Elements.{All-head, All-tail}
use Rattle.least_walk.proofs.Before.{nat_cmp_above, slice_cmp-cons}
use Rattle.cyclic_optimal.specs.Inner.Fronts.{IsListOf, lap_of}
use Rattle.cyclic_optimal.proofs.Ways.{on_by}

-- the order of lists of numbers
abbrev pub list_order : List ℕ → List ℕ → Ordering
list_order = slice_cmp nat_cmp

nat_cmp_below : (m n : ℕ) → m < n → nat_cmp m n ≡ Less
nat_cmp_below m n below = grind (arith, nat_tests)

cons_below : (x y : ℕ) (a c : List ℕ) → x < y → list_order (x ∷ a) (y ∷ c) ≡ Less
cons_below x y a c below = rw (nat_cmp_below x y below) refl

-- the list with the greater head is the greater one
pub cons_above : (x y : ℕ) (a c : List ℕ) → y < x → list_order (x ∷ a) (y ∷ c) ≡ Greater
cons_above x y a c above = rw (nat_cmp_above x y above) refl

-- a list that is lower stays so before others
pub lower_first : (a c b d : List ℕ) → length a ≡ length c → list_order a c ≡ Less → list_order (a ++ b) (c ++ d) ≡ Less
lower_first [] [] b d len lower = absurd (let no = lower in cc)
lower_first [] (y ∷ c) b d len lower = absurd (omega arith)
lower_first (x ∷ a) [] b d len lower = absurd (omega arith)
lower_first (x ∷ a) (y ∷ c) b d len lower =
    elim (cases_lt x y) [
      | inl below ↦ cons_below x y (a ++ b) (c ++ d) below
      | inr not_below ↦ elim (cases_lt y x) [
        | inl above ↦ absurd (let high = cons_above x y a c above in cc)
        | inr not_above ↦
            let e : x ≡ y = omega arith in
            let P : ℕ → Type 0 = λ m. list_order (m ∷ a) (y ∷ c) ≡ Less in
            let Q : ℕ → Type 0 = λ m. list_order (m ∷ a ++ b) (y ∷ c ++ d) ≡ Less in
            let rest = lower_first a c b d (omega arith) (sym (slice_cmp-cons y a c) ∙ subst P e lower) in
            subst Q (sym e) (slice_cmp-cons y (a ++ b) (c ++ d) ∙ rest)
      ]
    ]

-- and behind the same
pub lower_behind : (a b d : List ℕ) → list_order b d ≡ Less → list_order (a ++ b) (a ++ d) ≡ Less
lower_behind [] b d lower = lower
lower_behind (x ∷ a) b d lower = slice_cmp-cons x (a ++ b) (a ++ d) ∙ lower_behind a b d lower

-- where neither part is lower, the whole isn't
pub not_lower_both : (a c b d : List ℕ) → length a ≡ length c → ¬ (list_order a c ≡ Less) → ¬ (list_order b d ≡ Less)
    → ¬ (list_order (a ++ b) (c ++ d) ≡ Less)
not_lower_both [] [] b d len first second lower = second lower
not_lower_both [] (y ∷ c) b d len first second lower = omega arith
not_lower_both (x ∷ a) [] b d len first second lower = omega arith
not_lower_both (x ∷ a) (y ∷ c) b d len first second lower =
    elim (cases_lt x y) [
      | inl below ↦ first (cons_below x y a c below)
      | inr not_below ↦ elim (cases_lt y x) [
        | inl above ↦ absurd (let high = cons_above x y (a ++ b) (c ++ d) above in cc)
        | inr not_above ↦
            let e : x ≡ y = omega arith in
            let P : ℕ → Type 0 = λ m. list_order (m ∷ a) (y ∷ c) ≡ Less in
            let Q : ℕ → Type 0 = λ m. list_order (m ∷ a ++ b) (y ∷ c ++ d) ≡ Less in
            not_lower_both a c b d (omega arith) (λ l. first (subst P (sym e) (slice_cmp-cons y a c ∙ l))) second
            (sym (slice_cmp-cons y (a ++ b) (c ++ d)) ∙ subst Q e lower)
      ]
    ]

-- no list is lower than the one of nothing, nor than itself
pub not_lower_nothing : (a : List ℕ) → ¬ (list_order a [] ≡ Less)
not_lower_nothing [] lower = let no = lower in cc
not_lower_nothing (x ∷ a) lower = let no = lower in cc

-- of three lists none is lower than the third, if the second isn't and it isn't lower than the second
chain_by : (a b c : List ℕ) (r : Ordering) → list_order a b ≡ r → ¬ (list_order a b ≡ Less) → ¬ (list_order b c ≡ Less) → ¬ (list_order a c ≡ Less)
chain_by a b c Less is first second lower = first is
chain_by a b c Equal is first second lower = second (sym (nat_list_cmp_total.congr a b c is) ∙ lower)
chain_by a b c Greater is first second lower =
    second (nat_list_cmp_total.trans b a c (nat_list_cmp_total.antisymm b a ∙ ap ordering_reverse is) lower)

pub not_lower_chain : (a b c : List ℕ) → ¬ (list_order a b ≡ Less) → ¬ (list_order b c ≡ Less) → ¬ (list_order a c ≡ Less)
not_lower_chain a b c = chain_by a b c (list_order a b) refl

pub lower_chain : (a b c : List ℕ) → list_order a b ≡ Less → list_order b c ≡ Less → list_order a c ≡ Less
lower_chain a b c first second = nat_list_cmp_total.trans a b c first second

-- numbers moved on keep their order
cmp_moved : (f a b : ℕ) → nat_cmp (a + f) (b + f) ≡ nat_cmp a b
cmp_moved f a b = grind (arith, nat_tests)

-- and so do lists of them
pub lists_moved : (f : ℕ) (xs ys : List ℕ) → list_order (on_by f xs) (on_by f ys) ≡ list_order xs ys
lists_moved f xs ys =
    lex_map (λ k. k + f) nat_cmp xs ys
    ∙ ap (λ c. slice_cmp c xs ys) (fun_ext (λ a. fun_ext (λ b. cmp_moved f a b)))

module _ (n : ℕ) where
  on_one : (ys vs : List ℕ) → on_by n ys ≡ on_by n vs → ys ≡ vs
  on_one [] [] same = refl
  on_one [] (v ∷ vs) same = absurd (let no = same in cc)
  on_one (y ∷ ys) [] same = absurd (let no = same in cc)
  on_one (y ∷ ys) (v ∷ vs) same =
      let first : y + n ≡ v + n = cc in
      let rest : on_by n ys ≡ on_by n vs = cc in
      let e : y ≡ v = omega arith in
      ap (λ m. m ∷ ys) e ∙ ap (λ (l : List ℕ). v ∷ l) (on_one ys vs rest)

  -- a list falls into numbers below n and others in one way
  one_split : (xs ys us vs : List ℕ) → xs ++ on_by n ys ≡ us ++ on_by n vs → All (λ k. k < n) xs → All (λ k. k < n) us → (xs ≡ us) × (ys ≡ vs)
  one_split [] ys [] vs same a b = (refl, on_one ys vs same)
  one_split [] [] (u ∷ us) vs same a b = absurd (let no = same in cc)
  one_split [] (y ∷ ys) (u ∷ us) vs same a b =
      let first : y + n ≡ u = cc in
      let low = All-head (λ k. k < n) u us b in
      absurd (omega arith)
  one_split (x ∷ xs) ys [] [] same a b = absurd (let no = same in cc)
  one_split (x ∷ xs) ys [] (v ∷ vs) same a b =
      let first : x ≡ v + n = cc in
      let low = All-head (λ k. k < n) x xs a in
      absurd (omega arith)
  one_split (x ∷ xs) ys (u ∷ us) vs same a b =
      let first : x ≡ u = cc in
      let rest : xs ++ on_by n ys ≡ us ++ on_by n vs = cc in
      let (p, q) = one_split xs ys us vs rest (All-tail (λ k. k < n) x xs a) (All-tail (λ k. k < n) u us b) in
      (ap (λ m. m ∷ xs) first ∙ ap (λ (l : List ℕ). u ∷ l) p, q)

  -- so a way is one list
  pub one_list : (way at other : List ℕ) → IsListOf n way at → IsListOf n way other → at ≡ other
  one_list way at other a b =
      let (p, q) = one_split a.before a.behind b.before b.behind (sym a.is ∙ b.is) a.early b.early in
      a.list ∙ ap (λ (l : List ℕ). l ++ a.before) q ∙ ap (λ (l : List ℕ). b.behind ++ l) p ∙ sym b.list

  lap_early : (j : ℕ) → j < n → lap_of n j ≡ j
  lap_early j low = let test : nat_lt j n ≡ true = lt-ltb j n low in rw test refl

  lap_late : (j : ℕ) → lap_of n (j + n) ≡ j
  lap_late j =
      let test : nat_lt (j + n) n ≡ false = le-ltb (j + n) n (omega arith) in
      let e : j + n - n ≡ j = omega arith in
      rw test e

  laps_early : (xs : List ℕ) → All (λ k. k < n) xs → map (λ j. lap_of n j) xs ≡ xs
  laps_early [] all = refl
  laps_early (x ∷ xs) all =
      ap (λ m. m ∷ map (λ j. lap_of n j) xs) (lap_early x (All-head (λ k. k < n) x xs all))
      ∙ ap (λ (l : List ℕ). x ∷ l) (laps_early xs (All-tail (λ k. k < n) x xs all))

  laps_late : (ys : List ℕ) → map (λ j. lap_of n j) (on_by n ys) ≡ ys
  laps_late [] = refl
  laps_late (y ∷ ys) = ap (λ m. m ∷ map (λ j. lap_of n j) (on_by n ys)) (lap_late y) ∙ ap (λ (l : List ℕ). y ∷ l) (laps_late ys)

  -- the place of the first number that isn't below n
  place_is : (xs ys way : List ℕ) (place : ℕ) → way ≡ xs ++ on_by n ys → All (λ k. k < n) xs → place ≤ length way
      → ((k : ℕ) → k < place → slice_index way k < n) → (place < length way → n ≤ slice_index way place) → place ≡ length xs
  place_is xs ys way place is all most before here =
      elim (cases_lt place (length xs)) [
        | inl early ↦
            let value : slice_index way place ≡ slice_index xs place = ap (λ l. slice_index l place) is ∙ get_or-append xs (on_by n ys) 0 place early in
            let low = all place 0 early in
            let size = length-append xs (on_by n ys) in
            absurd (omega (arith, ap length is, here (omega (arith, ap length is))))
        | inr not_early ↦ elim (cases_lt (length xs) place) [
          | inl late ↦ absurd (behind ys is late)
          | inr not_late ↦ omega arith
        ]
      ] where
        behind : (ys : List ℕ) → way ≡ xs ++ on_by n ys → length xs < place → ⊥
        behind [] is late = omega (arith, ap length is, length-append xs [])
        behind (y ∷ ys) is late =
            let value : slice_index way (length xs) ≡ y + n = ap (λ l. slice_index l (length xs)) is ∙ get_or-append_seam xs (y + n) (on_by n ys) 0 in
            let low = before (length xs) late in
            omega arith

  take_first : (xs ys : List ℕ) → take (length xs) (xs ++ ys) ≡ xs
  take_first [] ys = refl
  take_first (x ∷ xs) ys = ap (λ (l : List ℕ). x ∷ l) (take_first xs ys)

  drop_first : (xs ys : List ℕ) → drop (length xs) (xs ++ ys) ≡ ys
  drop_first [] ys = refl
  drop_first (x ∷ xs) ys = drop_first xs ys

  -- the numbers in the first lap, from that place on
  pub list_from : (xs ys way numbers : List ℕ) (place : ℕ) → way ≡ xs ++ on_by n ys → All (λ k. k < n) xs → place ≤ length way
      → ((k : ℕ) → k < place → slice_index way k < n) → (place < length way → n ≤ slice_index way place)
      → numbers ≡ map (λ j. lap_of n j) way → drop place numbers ++ take place numbers ≡ ys ++ xs
  list_from xs ys way numbers place is all most before here laps =
      let at : place ≡ length xs = place_is xs ys way place is all most before here in
      let both : numbers ≡ xs ++ ys
      = laps ∙ ap (map (λ j. lap_of n j)) is ∙ map-append (λ j. lap_of n j) xs (on_by n ys)
      ∙ ap (λ (l : List ℕ). l ++ map (λ j. lap_of n j) (on_by n ys)) (laps_early xs all)
      ∙ ap (λ (l : List ℕ). xs ++ l) (laps_late ys) in
      ap (λ k. drop k numbers ++ take k numbers) at
      ∙ ap (λ l. drop (length xs) l ++ take (length xs) l) both
      ∙ ap (λ (l : List ℕ). l ++ take (length xs) (xs ++ ys)) (drop_first xs ys)
      ∙ ap (λ (l : List ℕ). ys ++ l) (take_first xs ys)
