-- A text begins with at most one line of entries, and reading entry by entry finds it.
use Rattle.std.proofs.Common.{◌≡◌, ℕ, ◌≤◌, List, [], ◌∷◌, ◌++◌, length, length-append, get_or, refl, ap, sym, ◌∙◌, subst, append_assoc, flat_map, arith}
use Rattle.std.specs.List.{All}
use Rattle.std.proofs.lemmas.Grind.{flat_map-append}
use Rattle.std.proofs.lemmas.List.{append-nil}
use Rattle.std.proofs.lemmas.List.Elements.{All-nil, All-cons, All-head, All-tail, All-append}
use Rattle.list_reader.specs.Inner.Numerals.{EndsDigits}
use Rattle.list_reader.specs.Inner.LineTexts.{AreEntries, IsEntryLine, IsSomeLine}

-- the values xs of a line have been read, and `here` is what is left
pub record IsReading (A : Type 0) (text : A → List ℕ) (IsIn : A → Type 0) (bytes : List ℕ) (xs : List A) (here : List ℕ) : Type 0 where
  pub is : bytes ≡ flat_map text xs ++ here
  pub all : All IsIn xs
  pub only : (ys : List A) (rest : List ℕ) → IsEntryLine A text IsIn bytes ys rest → (zs : List A) × (ys ≡ xs ++ zs) × IsEntryLine A text IsIn here zs rest

module _ (A : Type 0) (text : A → List ℕ) (IsIn : A → Type 0) (entries : AreEntries A text IsIn) where
  -- an entry and a line feed don't begin with a digit
  pub front_ends : (xs : List A) (rest : List ℕ) → EndsDigits (flat_map text xs ++ 10 ∷ rest)
  front_ends [] rest digit = omega arith
  front_ends (x ∷ xs) rest digit =
      let (tail, is) = entries.spaced x in
      let e : get_or (flat_map text (x ∷ xs) ++ 10 ∷ rest) 0 0 ≡ 32 = ap (λ bytes. get_or ((bytes ++ flat_map text xs) ++ 10 ∷ rest) 0 0) is in
      omega arith

  begins_spaced : (x : A) (xs : List A) (rest : List ℕ) → get_or (flat_map text (x ∷ xs) ++ 10 ∷ rest) 0 0 ≡ 32
  begins_spaced x xs rest =
      let (tail, is) = entries.spaced x in
      ap (λ bytes. get_or ((bytes ++ flat_map text xs) ++ 10 ∷ rest) 0 0) is

  pub first_entry : (x : A) (xs : List A) (rest : List ℕ) → flat_map text (x ∷ xs) ++ 10 ∷ rest ≡ text x ++ (flat_map text xs ++ 10 ∷ rest)
  first_entry x xs rest = append_assoc (text x) (flat_map text xs) (10 ∷ rest)

  -- a text begins with at most one line
  pub one_line : (bytes : List ℕ) (xs ys : List A) (r s : List ℕ) → IsEntryLine A text IsIn bytes xs r → IsEntryLine A text IsIn bytes ys s → (xs ≡ ys) × (r ≡ s)
  one_line bytes [] [] r s a b = let e = sym a.is ∙ b.is in (refl, cc)
  one_line bytes [] (y ∷ ys) r s a b =
      let e = ap (λ l. get_or l 0 0) (sym a.is ∙ b.is) in
      absurd (omega (arith, begins_spaced y ys s))
  one_line bytes (x ∷ xs) [] r s a b =
      let e = ap (λ l. get_or l 0 0) (sym a.is ∙ b.is) in
      absurd (omega (arith, begins_spaced x xs r))
  one_line bytes (x ∷ xs) (y ∷ ys) r s a b =
      let e = sym (first_entry x xs r) ∙ sym a.is ∙ b.is ∙ first_entry y ys s in
      let first = entries.one x y (flat_map text xs ++ 10 ∷ r) (flat_map text ys ++ 10 ∷ s) (All-head IsIn x xs a.all) (All-head IsIn y ys b.all)
      (front_ends xs r) (front_ends ys s) e in
      let rest = one_line (flat_map text xs ++ 10 ∷ r) xs ys r s
      (record { is = refl; all = All-tail IsIn x xs a.all })
      (record { is = first.1; all = All-tail IsIn y ys b.all }) in
      let head = first.0 in
      let tail = rest.0 in
      (cc, rest.1)

  pub reading_none : (bytes : List ℕ) → IsReading A text IsIn bytes [] bytes
  reading_none bytes = record { is = refl; all = All-nil IsIn; only = λ ys rest line. (ys, refl, line) }

  more_text : (xs : List A) (x : A) → flat_map text (xs ++ x ∷ []) ≡ flat_map text xs ++ text x
  more_text xs x = flat_map-append text xs (x ∷ []) ∙ ap (λ l. flat_map text xs ++ l) (append-nil (text x))

  -- the line after its first value is a line again
  rest_of_line : (x : A) (here next : List ℕ) (zs : List A) (rest : List ℕ) → IsIn x → here ≡ text x ++ next → EndsDigits next → IsEntryLine A text IsIn here zs rest
      → (ws : List A) × (zs ≡ x ∷ ws) × IsEntryLine A text IsIn next ws rest
  rest_of_line x here next [] rest inside is ends line =
      let (tail, spaced) = entries.spaced x in
      let e = ap (λ l. get_or l 0 0) (sym line.is ∙ is) in
      let f : get_or (text x ++ next) 0 0 ≡ 32 = ap (λ l. get_or (l ++ next) 0 0) spaced in
      absurd (omega arith)
  rest_of_line x here next (z ∷ ws) rest inside is ends line =
      let e = sym is ∙ line.is ∙ first_entry z ws rest in
      let first = entries.one x z next (flat_map text ws ++ 10 ∷ rest) inside (All-head IsIn z ws line.all) ends (front_ends ws rest) e in
      let head = first.0 in
      (ws, cc, record { is = first.1; all = All-tail IsIn z ws line.all })

  pub reading_more : (bytes : List ℕ) (xs more : List A) (here next : List ℕ) (x : A) → more ≡ xs ++ x ∷ [] → IsIn x → here ≡ text x ++ next → EndsDigits next
      → IsReading A text IsIn bytes xs here → IsReading A text IsIn bytes more next
  reading_more bytes xs more here next x pushed inside is ends so_far =
      subst (λ l. IsReading A text IsIn bytes l next) (sym pushed) (record {
        is = so_far.is ∙ ap (λ l. flat_map text xs ++ l) is ∙ sym (append_assoc (flat_map text xs) (text x) next)
            ∙ ap (λ l. l ++ next) (sym (more_text xs x));
        all = All-append IsIn xs (x ∷ []) so_far.all (All-cons IsIn x [] inside (All-nil IsIn));
        only = λ ys rest line.
            let (zs, same, later) = so_far.only ys rest line in
            let (ws, begins, after) = rest_of_line x here next zs rest inside is ends later in
            (ws, same ∙ ap (λ l. xs ++ l) begins ∙ sym (append_assoc xs (x ∷ []) ws), after);
      })

  -- a line feed after the values read ends the line
  pub reading_ends : (bytes : List ℕ) (xs : List A) (here rest : List ℕ) → here ≡ 10 ∷ rest → IsReading A text IsIn bytes xs here → IsEntryLine A text IsIn bytes xs rest
  reading_ends bytes xs here rest is so_far = record { is = so_far.is ∙ ap (λ l. flat_map text xs ++ l) is; all = so_far.all }

  -- if neither a space nor a line feed comes next, there is no line
  pub reading_stops : (bytes : List ℕ) (xs : List A) (here : List ℕ) → IsReading A text IsIn bytes xs here
      → ¬ (get_or here 0 0 ≡ 32) → ¬ (get_or here 0 0 ≡ 10)
      → (ys : List A) (rest : List ℕ) → ¬ IsEntryLine A text IsIn bytes ys rest
  reading_stops bytes xs here so_far no_space no_end ys rest line =
      let (zs, same, later) = so_far.only ys rest line in
      stops zs later
    where
      stops : (zs : List A) → ¬ IsEntryLine A text IsIn here zs rest
      stops [] later = no_end (ap (λ l. get_or l 0 0) later.is)
      stops (z ∷ zs) later = no_space (ap (λ l. get_or l 0 0) later.is ∙ begins_spaced z zs rest)

  -- if neither a value nor a line feed comes next, there is no line
  pub reading_breaks : (bytes : List ℕ) (xs : List A) (here : List ℕ) → IsReading A text IsIn bytes xs here
      → ((x : A) (next : List ℕ) → IsIn x → EndsDigits next → here ≡ text x ++ next → ⊥) → ¬ (get_or here 0 0 ≡ 10)
      → (ys : List A) (rest : List ℕ) → ¬ IsEntryLine A text IsIn bytes ys rest
  reading_breaks bytes xs here so_far none no_end ys rest line =
      let (zs, same, later) = so_far.only ys rest line in
      breaks zs later
    where
      breaks : (zs : List A) → ¬ IsEntryLine A text IsIn here zs rest
      breaks [] later = no_end (ap (λ l. get_or l 0 0) later.is)
      breaks (z ∷ zs) later = none z (flat_map text zs ++ 10 ∷ rest) (All-head IsIn z zs later.all) (front_ends zs rest) (later.is ∙ first_entry z zs rest)

  -- a text begins with at most one line of one or more values
  pub one_some_line : (bytes : List ℕ) (xs ys : List A) (r s : List ℕ) → IsSomeLine A text IsIn bytes xs r → IsSomeLine A text IsIn bytes ys s → (xs ≡ ys) × (r ≡ s)
  one_some_line bytes xs ys r s a b = one_line bytes xs ys r s a.line b.line

  -- if no value was read and no space comes next, there is no line of one or more values
  pub reading_empty : (bytes : List ℕ) (xs : List A) (here : List ℕ) → IsReading A text IsIn bytes xs here → length xs ≡ 0 → ¬ (get_or here 0 0 ≡ 32)
      → (ys : List A) (rest : List ℕ) → ¬ IsSomeLine A text IsIn bytes ys rest
  reading_empty bytes xs here so_far empty no_space ys rest line =
      let (zs, same, later) = so_far.only ys rest line.line in
      let some = line.some in
      stops zs (omega (arith, ap length same, length-append xs zs)) later
    where
      stops : (zs : List A) → 1 ≤ length zs → ¬ IsEntryLine A text IsIn here zs rest
      stops [] one later = omega arith
      stops (z ∷ zs) one later = no_space (ap (λ l. get_or l 0 0) later.is ∙ begins_spaced z zs rest)
