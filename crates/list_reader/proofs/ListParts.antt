-- A text is one list of a given number of parts, and reading part by part finds it.
use Rattle.std.proofs.Common.{◌≡◌, ℕ, ◌<◌, ◌≤◌, List, [], ◌∷◌, ◌++◌, length, length-append, refl, ap, sym, ◌∙◌, append_assoc, flat_map, arith}
use Rattle.std.proofs.lemmas.Grind.{flat_map-append}
use Rattle.std.proofs.lemmas.List.{append-nil}
use Rattle.std.proofs.lemmas.List.Elements.{All-nil, All-cons, All-head, All-tail, All-append}
use Rattle.std.specs.List.{All}
use Rattle.list_reader.specs.Inner.TextParts.{IsPart}

-- the parts xs have been read, and `here` is what is left
pub record ArePartsRead (A : Type 0) (text : A → List ℕ) (IsIn : A → Type 0) (bytes : List ℕ) (xs : List A) (here : List ℕ) : Type 0 where
  pub is : bytes ≡ flat_map text xs ++ here
  pub all : All IsIn xs
  pub only : (ys : List A) (rest : List ℕ) → All IsIn ys → bytes ≡ flat_map text ys ++ rest → length xs ≤ length ys
      → (zs : List A) × (ys ≡ xs ++ zs) × (here ≡ flat_map text zs ++ rest) × All IsIn zs

module _ (A : Type 0) (text : A → List ℕ) (IsIn : A → Type 0)
    (one : (bytes : List ℕ) (x y : A) (r s : List ℕ) → IsPart text IsIn bytes x r → IsPart text IsIn bytes y s → (x ≡ y) × (r ≡ s)) where
  pub parts_none : (bytes : List ℕ) → ArePartsRead A text IsIn bytes [] bytes
  parts_none bytes = record { is = refl; all = All-nil IsIn; only = λ ys rest inside same few. (ys, refl, same, inside) }

  -- a text that begins with parts begins with the first of them
  first_part : (bytes : List ℕ) (y : A) (ys : List A) (rest : List ℕ) → bytes ≡ flat_map text (y ∷ ys) ++ rest → All IsIn (y ∷ ys)
      → IsPart text IsIn bytes y (flat_map text ys ++ rest)
  first_part bytes y ys rest same inside =
      record { is = same ∙ append_assoc (text y) (flat_map text ys) rest; inside = All-head IsIn y ys inside }

  -- the part that was read is the next one of the list
  next_part : (here next : List ℕ) (x : A) (ys : List A) (rest : List ℕ) → IsPart text IsIn here x next
      → here ≡ flat_map text ys ++ rest → All IsIn ys → 1 ≤ length ys
      → (zs : List A) × (ys ≡ x ∷ zs) × (next ≡ flat_map text zs ++ rest) × All IsIn zs
  next_part here next x [] rest part same inside some = absurd (omega arith)
  next_part here next x (y ∷ zs) rest part same inside some =
      let also = one here x y next (flat_map text zs ++ rest) part (first_part here y zs rest same inside) in
      (zs, ap (λ (v : A). v ∷ zs) (sym also.0), also.1, All-tail IsIn y zs inside)

  more_text : (xs : List A) (x : A) → flat_map text (xs ++ x ∷ []) ≡ flat_map text xs ++ text x
  more_text xs x = flat_map-append text xs (x ∷ []) ∙ ap (λ l. flat_map text xs ++ l) (append-nil (text x))

  pub parts_more : (bytes here next : List ℕ) (xs : List A) (x : A) → ArePartsRead A text IsIn bytes xs here → IsPart text IsIn here x next
      → ArePartsRead A text IsIn bytes (xs ++ x ∷ []) next
  parts_more bytes here next xs x so_far part = record {
    is = so_far.is ∙ ap (λ l. flat_map text xs ++ l) part.is ∙ sym (append_assoc (flat_map text xs) (text x) next)
        ∙ ap (λ l. l ++ next) (sym (more_text xs x));
    all = All-append IsIn xs (x ∷ []) so_far.all (All-cons IsIn x [] part.inside (All-nil IsIn));
    only = λ ys rest inside same few.
        let (more, begins, later, also) = so_far.only ys rest inside same (omega (arith, few, length-append xs (x ∷ []))) in
        let (after, first, behind, left) = next_part here next x more rest part later also
        (omega (arith, few, ap length begins, length-append xs more, length-append xs (x ∷ []))) in
        (after, begins ∙ ap (λ l. xs ++ l) first ∙ sym (append_assoc xs (x ∷ []) after), behind, left);
  }

  -- if no part comes next, the list has no more parts
  pub parts_break : (bytes here : List ℕ) (xs : List A) → ArePartsRead A text IsIn bytes xs here → ((x : A) (rest : List ℕ) → IsPart text IsIn here x rest → ⊥)
      → (ys : List A) (rest : List ℕ) → All IsIn ys → bytes ≡ flat_map text ys ++ rest → length xs < length ys → ⊥
  parts_break bytes here xs so_far none ys rest inside same few =
      let (more, begins, later, also) = so_far.only ys rest inside same (omega (arith, few)) in
      breaks more later also (omega (arith, few, ap length begins, length-append xs more))
    where
      breaks : (more : List A) → here ≡ flat_map text more ++ rest → All IsIn more → 1 ≤ length more → ⊥
      breaks [] later also some = omega arith
      breaks (y ∷ after) later also some = none y (flat_map text after ++ rest) (first_part here y after rest later also)

  -- after all parts, what is left is what follows the list
  pub parts_end : (bytes here : List ℕ) (xs : List A) → ArePartsRead A text IsIn bytes xs here
      → (ys : List A) (rest : List ℕ) → All IsIn ys → bytes ≡ flat_map text ys ++ rest → length xs ≡ length ys → here ≡ rest
  parts_end bytes here xs so_far ys rest inside same all =
      let (more, begins, later, also) = so_far.only ys rest inside same (omega (arith, all)) in
      ends more later (omega (arith, all, ap length begins, length-append xs more))
    where
      ends : (more : List A) → here ≡ flat_map text more ++ rest → length more ≡ 0 → here ≡ rest
      ends [] later none = later
      ends (y ∷ after) later none = absurd (omega arith)

  -- a text is one list of a given number of parts
  pub one_list_of_parts : (bytes : List ℕ) (ps qs : List A) (r s : List ℕ) → bytes ≡ flat_map text ps ++ r → bytes ≡ flat_map text qs ++ s
      → All IsIn ps → All IsIn qs → length ps ≡ length qs → ps ≡ qs
  one_list_of_parts bytes [] [] r s p_is q_is p_in q_in len = refl
  one_list_of_parts bytes [] (q ∷ qs) r s p_is q_is p_in q_in len = absurd (omega arith)
  one_list_of_parts bytes (p ∷ ps) [] r s p_is q_is p_in q_in len = absurd (omega arith)
  one_list_of_parts bytes (p ∷ ps) (q ∷ qs) r s p_is q_is p_in q_in len =
      let same = one bytes p q (flat_map text ps ++ r) (flat_map text qs ++ s) (first_part bytes p ps r p_is p_in) (first_part bytes q qs s q_is q_in) in
      let rest = one_list_of_parts (flat_map text ps ++ r) ps qs r s refl same.1 (All-tail IsIn p ps p_in) (All-tail IsIn q qs q_in) (omega arith) in
      let first = same.0 in
      cc
