-- The square around a corner is read row by row, and each row from one or two words of the page.
use Rattle.std.proofs.Common.{◌≡◌, ℕ, zero, suc, ◌+◌, ◌-◌, ◌*◌, ◌/◌, ◌%◌, ◌^◌, ◌<◌, ◌≤◌, Bool, true, false, ◌&&◌, ◌||◌, nat_eq, nat_le, nat_lt, List, ◌∷◌, get_or, refl, ap, sym, ◌∙◌, inl, inr, arith}
use Rattle.std.specs.Int.RustNames.{bit_and, bit_or}
use Rattle.std.proofs.lemmas.Bool.{cases_lt, cases_order, le-leb, lt-leb, lt-ltb, le-ltb}
use Rattle.std.proofs.lemmas.Nat.Bits.{bit_at_above}
use Rattle.bit_image.specs.Image.{Image}
use Rattle.bit_image.specs.Words.{is_one}
use Rattle.bit_image.specs.Inner.Words.{black_in}
use Rattle.bit_image.proofs.Bits.{and_true, is_one-and, is_one-zero, is_one-mask, within-inside, black_in-at}
use Rattle.bit_image.proofs.Turned.{is_one-or, is_one-shr, is_one-shl, is_one-shl_below}
use Rattle.turn_policies.specs.Majority.{behind}

or_false : (b : Bool) → b || false ≡ b
or_false true = refl
or_false false = refl

-- ---- a row with a white word before its own words

behind_front : (row : List ℕ) (c : ℕ) → black_in (0 ∷ row) (64 + c) ≡ black_in row c
unfolding black_in
behind_front row c =
    let word : (64 + c) / 64 ≡ suc (c / 64) = omega arith in
    let bit : (64 + c) % 64 ≡ c % 64 = omega arith in
    rw (word, bit) refl

white_front : (row : List ℕ) (c : ℕ) → c < 64 → black_in (0 ∷ row) c ≡ false
unfolding black_in
white_front row c p =
    let word : c / 64 ≡ zero = omega arith in
    rw word (is_one-zero (c % 64))

-- the row's pixels are those of the page 4 rows below, from 4 columns to the left
pub in_row : (b : Image) (row : List ℕ) (x y i : ℕ) → 4 ≤ y → ((u : ℕ) → black_in row u ≡ b u (y - 4)) → black_in (0 ∷ row) (x + 60 + i) ≡ behind b 4 (x + i) y
in_row b row x y i high same = elim (cases_lt (x + i) 4) [
  | inl left ↦
      white_front row (x + 60 + i) (omega arith)
      ∙ sym (ap (λ t. t && nat_le 4 y && b (x + i - 4) (y - 4)) (lt-leb 4 (x + i) left))
  | inr right ↦
      let place : x + 60 + i ≡ 64 + (x + i - 4) = omega arith in
      ap (black_in (0 ∷ row)) place ∙ behind_front row (x + i - 4) ∙ same (x + i - 4)
      ∙ sym (ap (λ t. t && nat_le 4 y && b (x + i - 4) (y - 4)) (le-leb 4 (x + i) right) ∙ ap (λ t. t && b (x + i - 4) (y - 4)) (le-leb 4 y high))
]

and_false : (a : Bool) → a && false ≡ false
and_false true = refl
and_false false = refl

-- a row outside the page is white
pub no_row : (b : Image) (x y i : ℕ) → (4 ≤ y → b (x + i - 4) (y - 4) ≡ false) → behind b 4 (x + i) y ≡ false
no_row b x y i white = elim (cases_lt y 4) [
  | inl low ↦ ap (λ t. nat_le 4 (x + i) && t && b (x + i - 4) (y - 4)) (lt-leb 4 y low) ∙ ap (λ t. t && b (x + i - 4) (y - 4)) (and_false (nat_le 4 (x + i)))
  | inr high ↦ ap (λ t. nat_le 4 (x + i) && nat_le 4 y && t) (white high) ∙ and_false (nat_le 4 (x + i) && nat_le 4 y)
]

-- ---- eight pixels from a column on

low_bits : (n i : ℕ) → i < 8 → is_one (bit_and n 255) i ≡ is_one n i
low_bits n i p =
    is_one-and n 255 i ∙ ap (λ t. is_one n i && t) (is_one-mask 0 8 i ∙ within-inside 0 8 i (omega arith) p) ∙ and_true (is_one n i)

no_bit : (n k i : ℕ) → n < 2 ^ k → k ≤ i → is_one n i ≡ false
unfolding is_one
no_bit n k i p q = ap (λ b. nat_eq b 1) (bit_at_above n k i p q)

pub eight_within : (row : List ℕ) (from i : ℕ) → i < 8 → from % 64 ≤ 56
    → is_one (bit_and (get_or row (from / 64) 0 / 2 ^ (from % 64)) 255) i ≡ black_in row (from + i)
eight_within row from i p inside =
    low_bits _ i p ∙ is_one-shr (get_or row (from / 64) 0) (from % 64) i
    ∙ sym (black_in-at row (from / 64) (from % 64 + i) (from + i) (omega arith) (omega arith))

pub eight_over : (row : List ℕ) (from i : ℕ) → i < 8 → 56 < from % 64 → get_or row (from / 64) 0 < 2 ^ 64
    → is_one (bit_and (bit_or (get_or row (from / 64) 0 / 2 ^ (from % 64)) (get_or row (from / 64 + 1) 0 * 2 ^ (64 - from % 64) % 2 ^ 64)) 255) i ≡ black_in row (from + i)
eight_over row from i p over fits =
    let k : ℕ = from % 64 in
    let n : ℕ = get_or row (from / 64) 0 in
    let m : ℕ = get_or row (from / 64 + 1) 0 in
    low_bits _ i p ∙ is_one-or (n / 2 ^ k) (m * 2 ^ (64 - k) % 2 ^ 64) i
    ∙ ap (λ t. t || is_one (m * 2 ^ (64 - k) % 2 ^ 64) i) (is_one-shr n k i)
    ∙ elim (cases_lt (k + i) 64) [
      | inl here ↦
          ap (λ t. is_one n (k + i) || t) (is_one-shl_below m (64 - k) i (omega arith) (omega arith))
          ∙ or_false (is_one n (k + i))
          ∙ sym (black_in-at row (from / 64) (k + i) (from + i) (omega arith) here)
      | inr next ↦
          ap (λ t. t || is_one (m * 2 ^ (64 - k) % 2 ^ 64) i) (no_bit n 64 (k + i) fits next)
          ∙ is_one-shl m (64 - k) i (omega arith) (omega arith)
          ∙ sym (black_in-at row (from / 64 + 1) (i - (64 - k)) (from + i) (omega arith) (omega arith))
    ]

-- ---- eight rows

-- the first j rows of a square have been read
abbrev pub IsFilledTo : ℕ → ℕ → (ℕ → ℕ → Bool) → Type 0
IsFilledTo j pixels f = (i k : ℕ) → i < 8 → k < 8 → is_one pixels (8 * k + i) ≡ nat_lt k j && f i k

pub none_filled : (f : ℕ → ℕ → Bool) → IsFilledTo 0 0 f
none_filled f = λ i k p q. is_one-zero (8 * k + i) ∙ sym (ap (λ t. t && f i k) (le-ltb k 0 (omega arith)))

pub more_filled : (pixels row j : ℕ) (f : ℕ → ℕ → Bool) → j < 8 → row < 2 ^ 8 → IsFilledTo j pixels f → ((i : ℕ) → i < 8 → is_one row i ≡ f i j)
    → IsFilledTo (j + 1) (bit_or pixels (row * 2 ^ (8 * j) % 2 ^ 64)) f
more_filled pixels row j f short small before here = λ i k p q.
    let at : ℕ = 8 * k + i in
    is_one-or pixels (row * 2 ^ (8 * j) % 2 ^ 64) at
    ∙ ap (λ t. t || is_one (row * 2 ^ (8 * j) % 2 ^ 64) at) (before i k p q)
    ∙ elim (cases_order k j) [
      | inl same ↦
          let bit : at - 8 * j ≡ i = omega arith in
          ap (λ t. t && f i k || is_one (row * 2 ^ (8 * j) % 2 ^ 64) at) (le-ltb k j (omega arith))
          ∙ is_one-shl row (8 * j) at (omega arith) (omega arith) ∙ ap (is_one row) bit ∙ here i p ∙ ap (f i) (sym same)
          ∙ sym (ap (λ t. t && f i k) (lt-ltb k (j + 1) (omega arith)))
      | inr (inl below) ↦
          ap (λ t. (nat_lt k j && f i k) || t) (is_one-shl_below row (8 * j) at (omega arith) (omega arith))
          ∙ or_false (nat_lt k j && f i k)
          ∙ ap (λ t. t && f i k) (lt-ltb k j below ∙ sym (lt-ltb k (j + 1) (omega arith)))
      | inr (inr above) ↦
          ap (λ t. t && f i k || is_one (row * 2 ^ (8 * j) % 2 ^ 64) at) (le-ltb k j (omega arith))
          ∙ is_one-shl row (8 * j) at (omega arith) (omega arith) ∙ no_bit row 8 (at - 8 * j) small (omega arith)
          ∙ sym (ap (λ t. t && f i k) (le-ltb k (j + 1) (omega arith)))
    ]

pub all_filled : (pixels : ℕ) (f : ℕ → ℕ → Bool) → IsFilledTo 8 pixels f → (i j : ℕ) → i < 8 → j < 8 → is_one pixels (8 * j + i) ≡ f i j
all_filled pixels f whole = λ i j p q. whole i j p q ∙ ap (λ t. t && f i j) (lt-ltb j 8 q)

-- the first j rows of the square around a corner have been read
abbrev pub IsSquareTo : ℕ → ℕ → Image → ℕ → ℕ → Type 0
IsSquareTo j pixels b x y = IsFilledTo j pixels (λ i k. behind b 4 (x + i) (y + k))

pub no_rows : (b : Image) (x y : ℕ) → IsSquareTo 0 0 b x y
no_rows b x y = none_filled (λ i k. behind b 4 (x + i) (y + k))

pub next_row : (pixels row j : ℕ) (b : Image) (x y : ℕ) → j < 8 → row < 2 ^ 8 → IsSquareTo j pixels b x y → ((i : ℕ) → i < 8 → is_one row i ≡ behind b 4 (x + i) (y + j))
    → IsSquareTo (j + 1) (bit_or pixels (row * 2 ^ (8 * j) % 2 ^ 64)) b x y
next_row pixels row j b x y short small before here = more_filled pixels row j (λ i k. behind b 4 (x + i) (y + k)) short small before here

pub all_rows : (pixels : ℕ) (b : Image) (x y : ℕ) → IsSquareTo 8 pixels b x y → (i j : ℕ) → i < 8 → j < 8 → is_one pixels (8 * j + i) ≡ behind b 4 (x + i) (y + j)
all_rows pixels b x y whole = all_filled pixels (λ i k. behind b 4 (x + i) (y + k)) whole

-- a pixel inside the page is read from the row's own words
pub in_page : (b : Image) (row : List ℕ) (x y i : ℕ) → 4 ≤ x → 4 ≤ y → ((u : ℕ) → black_in row u ≡ b u (y - 4)) → black_in row (x - 4 + i) ≡ behind b 4 (x + i) y
in_page b row x y i right high same =
    let place : x - 4 + i ≡ x + i - 4 = omega arith in
    let left : 4 ≤ x + i = omega arith in
    ap (black_in row) place ∙ same (x + i - 4)
    ∙ sym (ap (λ t. t && nat_le 4 y && b (x + i - 4) (y - 4)) (le-leb 4 (x + i) left) ∙ ap (λ t. t && b (x + i - 4) (y - 4)) (le-leb 4 y high))

-- the image that shows a word as a square, with its lowest row in row 0
abbrev pub word_image : ℕ → Image
word_image pixels u v = is_one pixels (8 * v + u)

pub word_square : (pixels : ℕ) (i j : ℕ) → i < 8 → j < 8 → is_one pixels (8 * j + i) ≡ behind (word_image pixels) 4 (4 + i) (4 + j)
word_square pixels i j p q =
    let right : 4 ≤ 4 + i = omega arith in
    let high : 4 ≤ 4 + j = omega arith in
    let place : 8 * j + i ≡ 8 * (4 + j - 4) + (4 + i - 4) = omega arith in
    sym (ap (λ t. t && nat_le 4 (4 + j) && is_one pixels (8 * (4 + j - 4) + (4 + i - 4))) (le-leb 4 (4 + i) right)
    ∙ ap (λ t. t && is_one pixels (8 * (4 + j - 4) + (4 + i - 4))) (le-leb 4 (4 + j) high)
    ∙ ap (is_one pixels) (sym place))
