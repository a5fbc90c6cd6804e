-- The farthest points, while they are written down.
use Rattle.std.proofs.Common.{◌≡◌, ℕ, ◌+◌, ◌<◌, ◌≤◌, List, [], ◌∷◌, ◌++◌, length, length-append, refl, ap, sym, ◌∙◌, subst, inl, inr, arith}
use Rattle.std.proofs.lemmas.Bool.{cases_lt}
use Rattle.std.proofs.Math.ListN.{get_or-append}
use Rattle.std.proofs.Math.Seq.{get_or-append_seam}
use Rattle.std.specs.Prelude.{slice_index}
use Rattle.polygon_search.specs.Inner.Search.{AreFarthest}
use Rattle.polygon_search.proofs.Counting.{AreCounted, before_end, last_keeps, none_left, some_left}

-- an index of a list, and the one that is appended
early : (xs : List ℕ) (x c : ℕ) → c < length xs → slice_index (xs ++ x ∷ []) c ≡ slice_index xs c
early xs x c below = get_or-append xs (x ∷ []) 0 c below

appended : (xs : List ℕ) (x c : ℕ) → c ≡ length xs → slice_index (xs ++ x ∷ []) c ≡ x
appended xs x c here = ap (slice_index (xs ++ x ∷ [])) here ∙ get_or-append_seam xs x [] 0

-- the points that are written down, and the next one
abbrev pub AreWritten : ℕ → List ℕ → List ℕ → ℕ → List ℕ → ℕ → Type 0
AreWritten size lasts counts c written at = AreFarthest size lasts counts c (written ++ at ∷ [])

pub written_none : (size : ℕ) (lasts counts written : List ℕ) → written ≡ [] → AreWritten size lasts counts 0 written 0
written_none size lasts counts written none =
    subst (λ xs. AreWritten size lasts counts 0 xs 0) (sym none) (record {
      count = refl;
      first = refl;
      onwards = λ c below. let no : ⊥ = omega arith in elim no [ ];
      within = λ c few. (let is : c ≡ 0 = omega arith in omega (arith, ap (slice_index (0 ∷ [])) is));
      left = λ c few. (
          let is : c ≡ 0 = omega arith in
          omega (arith, ap (λ n. slice_index counts (slice_index (0 ∷ []) n)) is)
          );
    })

module _ (size : ℕ) (lasts counts : List ℕ) (known : AreCounted size lasts counts) (c : ℕ) (written : List ℕ) (at : ℕ) (are : AreWritten size lasts counts c written at) where
  abbrev now : List ℕ
  now = written ++ at ∷ []

  len : length written ≡ c
  len = omega (arith, are.count, length-append written (at ∷ []))

  here : slice_index now c ≡ at
  here = appended written at c (sym len)

  at_within : at ≤ size
  at_within = subst (λ n. n ≤ size) here (are.within c (omega arith))

  at_left : slice_index counts at + c ≡ slice_index counts 0
  at_left = subst (λ n. slice_index counts n + c ≡ slice_index counts 0) here (are.left c (omega arith))

  -- before the end segments are left
  pub more_left : at < size → c < slice_index counts 0
  more_left below = omega (arith, at_left, some_left size lasts counts known at below)

  -- at the end none is
  pub all_left : size ≤ at → c ≡ slice_index counts 0
  all_left end =
      let last : at ≡ size = omega (arith, at_within) in
      let none : slice_index counts at ≡ 0 = subst (λ n. slice_index counts n ≡ 0) (sym last) (none_left size lasts counts known) in
      omega (arith, at_left)

  module _ (more : c < slice_index counts 0) where
    -- the longest segment leads on from the next one
    pub at_below : at < size
    at_below = before_end size lasts counts known at at_within (omega (arith, at_left))

    abbrev new : List ℕ
    new = now ++ slice_index lasts at ∷ []

    there : slice_index new (c + 1) ≡ slice_index lasts at
    there = appended now (slice_index lasts at) (c + 1) (sym are.count)

    before : (d : ℕ) → d ≤ c → slice_index new d ≡ slice_index now d
    before d few = early now (slice_index lasts at) d (omega (arith, are.count))

    pub written_more : (pushed : List ℕ) → pushed ≡ now → AreWritten size lasts counts (c + 1) pushed (slice_index lasts at)
    written_more pushed same =
        subst (λ xs. AreWritten size lasts counts (c + 1) xs (slice_index lasts at)) (sym same) (record {
          count = omega (arith, are.count, length-append now (slice_index lasts at ∷ []));
          first = before 0 (omega arith) ∙ are.first;
          onwards = λ d below. elim (cases_lt d c) [
            | inl earlier ↦ before (d + 1) (omega arith) ∙ are.onwards d earlier ∙ ap (slice_index lasts) (sym (before d (omega arith)))
            | inr last ↦
                let is : d ≡ c = omega arith in
                let P : ℕ → Type 0 = λ n. slice_index new (n + 1) ≡ slice_index lasts (slice_index new n) in
                subst P (sym is) (there ∙ ap (slice_index lasts) (sym (before c (omega arith) ∙ here)))
          ];
          within = λ d few. elim (cases_lt d (c + 1)) [
            | inl earlier ↦ omega (arith, before d (omega arith), are.within d (omega arith))
            | inr last ↦
                let is : d ≡ c + 1 = omega arith in
                omega (arith, ap (slice_index new) is, there, (known.leads at at_below).within)
          ];
          left = λ d few. elim (cases_lt d (c + 1)) [
            | inl earlier ↦ ap (λ n. slice_index counts n + d) (before d (omega arith)) ∙ are.left d (omega arith)
            | inr last ↦
                let is : d ≡ c + 1 = omega arith in
                let P : ℕ → Type 0 = λ n. slice_index counts (slice_index new n) + n ≡ slice_index counts 0 in
                subst P (sym is)
                (omega (arith, ap (slice_index counts) there, last_keeps size lasts counts known at at_below, at_left))
          ];
        })
