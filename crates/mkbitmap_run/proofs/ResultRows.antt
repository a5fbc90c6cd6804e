-- The rows of the result for which n rows of a page suffice are those above the first row that needs more.
use Rattle.std.proofs.Common.{◌≡◌, ℕ, zero, suc, ◌+◌, ◌-◌, ◌≤◌, ◌<◌, Bool, true, false, List, [], ◌++◌, length, take, refl, ap, sym, ◌∙◌, arith, nat_lt, if◌then◌else◌, append_assoc, append-nil, length-append}
use Rattle.std.proofs.lemmas.List.{take-append-le}
use Rattle.std.proofs.Math.Seq.{take-append-add}
use Rattle.mkbitmap.specs.Box.{Gray}
use Rattle.mkbitmap.specs.Enlarged.{need}
use Rattle.mkbitmap.proofs.Order.{need-ends, need-rises}
use Rattle.mkbitmap_words.specs.declared.setup.Setup.{Setup}
use Rattle.mkbitmap_run.specs.FilterRun.{rows_above}
use Rattle.mkbitmap_run.specs.Result.{result_row, result_rows}

lt_true : (a b : ℕ) → a < b → nat_lt a b ≡ true
lt_true a b h = grind (arith, h)

lt_false : (a b : ℕ) → b ≤ a → nat_lt a b ≡ false
lt_false a b h = grind (arith, h)

module _ (setup : Setup) (page : Gray) (some : 1 ≤ setup.times) (tall : 1 ≤ page.height) where
  abbrev needs : ℕ → ℕ
  needs Y = need page.height setup.radius setup.times Y

  -- the rows of the result with one more row
  pub rows_next : (n Y : ℕ) → needs Y < n → result_rows setup page n (suc Y) ≡ result_rows setup page n Y ++ result_row setup page Y
  rows_next n Y enough = ap (λ (b : Bool). result_rows setup page n Y ++ (if b then result_row setup page Y else [])) (lt_true (needs Y) n enough)

  rows_stay : (n Y : ℕ) → n ≤ needs Y → result_rows setup page n (suc Y) ≡ result_rows setup page n Y
  rows_stay n Y few = ap (λ (b : Bool). result_rows setup page n Y ++ (if b then result_row setup page Y else [])) (lt_false (needs Y) n few)
      ∙ append-nil (result_rows setup page n Y)

  pub above_next : (Y : ℕ) → rows_above setup page (suc Y) ≡ rows_above setup page Y ++ result_row setup page Y
  above_next Y = rows_next page.height Y (need-ends page.height setup.radius setup.times Y some tall)

  -- all rows above row Y are there if n rows suffice for each of them
  pub all_above : (n Y : ℕ) → ((y : ℕ) → y < Y → needs y < n) → result_rows setup page n Y ≡ rows_above setup page Y
  all_above n zero enough = refl
  all_above n (suc Y) enough = rows_next n Y (enough Y (omega arith)) ∙ ap (λ (l : List ℕ). l ++ result_row setup page Y) (all_above n Y (λ y within. enough y (omega (arith, within))))
      ∙ sym (above_next Y)

  -- no row is there from row Y on if row Y needs more
  none_below : (n Y k : ℕ) → n ≤ needs Y → result_rows setup page n (Y + k) ≡ result_rows setup page n Y
  none_below n Y zero few = let e : Y + 0 ≡ Y = omega arith in ap (result_rows setup page n) e
  none_below n Y (suc k) few =
      let e : Y + suc k ≡ suc (Y + k) = omega arith in
      let later : needs Y ≤ needs (Y + k) = need-rises page.height setup.radius setup.times Y (Y + k) some tall (omega arith) in
      ap (result_rows setup page n) e ∙ rows_stay n (Y + k) (omega (arith, few, later)) ∙ none_below n Y k few

  -- the rows for which n rows of the page suffice are those above the first row that needs more
  pub rows_end : (n Y end : ℕ) → Y ≤ end → ((y : ℕ) → y < Y → needs y < n) → n ≤ needs Y → result_rows setup page n end ≡ rows_above setup page Y
  rows_end n Y end within enough few =
      let e : end ≡ Y + (end - Y) = omega (arith, within) in
      ap (result_rows setup page n) e ∙ none_below n Y (end - Y) few ∙ all_above n Y enough

  -- more rows begin with fewer
  pub rows_begin : (n Y k : ℕ) → (rest : List ℕ) × (result_rows setup page n (Y + k) ≡ result_rows setup page n Y ++ rest)
  rows_begin n Y zero = ([], ap (result_rows setup page n) (let e : Y + 0 ≡ Y = omega arith in e) ∙ sym (append-nil (result_rows setup page n Y)))
  rows_begin n Y (suc k) =
      let (rest, is) = rows_begin n Y k in
      let e : Y + suc k ≡ suc (Y + k) = omega arith in
      let one : List ℕ = if nat_lt (needs (Y + k)) n then result_row setup page (Y + k) else [] in
      (rest ++ one, ap (result_rows setup page n) e ∙ ap (λ (l : List ℕ). l ++ one) is ∙ append_assoc (result_rows setup page n Y) rest one)

  -- a prefix of a row, after the rows above it, is a prefix of all rows
  pub front_is : (head : List ℕ) (n Y end m : ℕ) → Y < end → ((y : ℕ) → y < suc Y → needs y < n) → m ≤ length (result_row setup page Y)
      → (k : ℕ) × (k ≤ length (head ++ result_rows setup page n end))
      × (take k (head ++ result_rows setup page n end) ≡ head ++ (rows_above setup page Y ++ take m (result_row setup page Y)))
  front_is head n Y end m within enough most =
      let above = rows_above setup page Y in
      let row = result_row setup page Y in
      let (rest, is) = rows_begin n (suc Y) (end - suc Y) in
      let e : end ≡ suc Y + (end - suc Y) = omega (arith, within) in
      let first : result_rows setup page n (suc Y) ≡ above ++ row = all_above n (suc Y) enough ∙ above_next Y in
      let all : head ++ result_rows setup page n end ≡ (head ++ above) ++ (row ++ rest) =
      ap (λ (l : List ℕ). head ++ l) (ap (result_rows setup page n) e ∙ is ∙ ap (λ (l : List ℕ). l ++ rest) first ∙ append_assoc above row rest) ∙ sym (append_assoc head above (row ++ rest)) in
      let short : length (head ++ above) + m ≤ length (head ++ result_rows setup page n end) =
      rw (all, length-append (head ++ above) (row ++ rest)) (omega (arith, most, length-append row rest)) in (
        length (head ++ above) + m,
        short,
        ap (take (length (head ++ above) + m)) all ∙ take-append-add (head ++ above) (row ++ rest) m
            ∙ ap (λ (l : List ℕ). (head ++ above) ++ l) (take-append-le m row rest most) ∙ append_assoc head above (take m row),
      )
