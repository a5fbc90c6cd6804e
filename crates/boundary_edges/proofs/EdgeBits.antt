-- One bit of the words of edges after a write.
use Rattle.std.proofs.Common.{◌≡◌, ◌≢◌, ◌⊎◌, ℕ, zero, suc, ◌+◌, ◌-◌, ◌*◌, ◌/◌, ◌%◌, ◌^◌, ◌<◌, ◌≤◌, Bool, true, false, not, cond, ◌&&◌, ◌||◌, nat_eq, nat_lt, List, [], ◌∷◌, length, get_or, set, w64, refl, ap, sym, ◌∙◌, inl, inr, arith}
use Rattle.std.specs.Int.RustNames.{bit_and, bit_or, bit_xor}
use Rattle.std.proofs.lemmas.Bool.{cases_lt, cases_eq, cases_order, cond-true, cond-false, eq-eqb, ne_eqb, eqb-true, and_from, and_parts, and_left, and_right, lt-ltb, cases_Bool}
use Rattle.std.proofs.lemmas.Bool.Decides.{nat_tests}
use Rattle.std.specs.Int.{bit_at, bit_not, trailing_zeros}
use Rattle.std.proofs.lemmas.Nat.{row_fits, mul-le, and_le_l, le_or_l, le_or_r}
use Rattle.std.proofs.lemmas.Nat.Bits.{bit_at_above, bit_at_not, bit_at-lt, shr_and_one, bit_at-trailing_zeros}
use Rattle.std.proofs.lemmas.Grind.{get_or-set_at}
use Rattle.std.proofs.lemmas.List.{length-set, get_or-set_other, get_or_past}
use Rattle.bit_image.specs.Image.{differ}
use Rattle.bit_image.specs.Words.{is_one}
use Rattle.bit_image.specs.Inner.Words.{black_in}
use Rattle.bit_image.proofs.Bits.{is_one-and, is_one-xor, is_one-zero, and_true, black_in-at, black_in-past, black_in-lowest, black_in-below_lowest, black_in-lowest_from, black_in-below_lowest_from, black_in-none_from}
use Rattle.bit_image.proofs.Turned.{is_one-or, is_one-shr, is_one-shl, is_one-shl_below}
use Rattle.boundary_edges.specs.Inner.BoundaryBits.{word_place, has_edge, changes_in, same_edge}

pub no_bit : (n k i : ℕ) → n < 2 ^ k → k ≤ i → is_one n i ≡ false
unfolding is_one
no_bit n k i p q = ap (λ b. nat_eq b 1) (bit_at_above n k i p q)

-- the bit that a read gives
pub read_bit : (word i : ℕ) → nat_eq (bit_and (word / 2 ^ i) 1) 1 ≡ is_one word i
unfolding is_one
read_bit word i = ap (λ n. nat_eq n 1) (shr_and_one word i)

-- each word has a place of its own
pub places_apart : (rows s t y v kind k : ℕ) → y < rows → v < rows → kind < 2 → k < 2 → word_place rows k t v ≡ word_place rows kind s y → (kind ≡ k) × (s ≡ t) × (y ≡ v)
places_apart rows s t y v kind k low high p q same =
    let one : kind ≡ k = omega arith in
    let at : t * rows + v ≡ s * rows + y = omega arith in
    elim (cases_order s t) [
      | inl e ↦ let rest : s * rows ≡ t * rows = ap (λ n. n * rows) e in (one, e, omega arith)
      | inr (inl below) ↦ let fits : s * rows + rows ≤ t * rows = row_fits s rows t rows below (omega arith) in absurd (omega arith)
      | inr (inr above) ↦ let fits : t * rows + rows ≤ s * rows = row_fits t rows s rows above (omega arith) in absurd (omega arith)
    ]

-- the place of a word with room for its strip
pub place_inside : (rows strip y kind size : ℕ) → y < rows → kind < 2 → 2 * ((strip + 1) * rows) ≤ size → word_place rows kind strip y < size
place_inside rows strip y kind size low p room =
    let fits : strip * rows + rows ≤ (strip + 1) * rows = row_fits strip rows (strip + 1) rows (omega arith) (omega arith) in
    omega arith

-- the room for all strips is room for each
pub strip_room : (rows strips strip size : ℕ) → strip < strips → size ≡ 2 * (strips * rows) → 2 * ((strip + 1) * rows) ≤ size
strip_room rows strips strip size below is =
    let fits : (strip + 1) * rows ≤ strips * rows = mul-le (strip + 1) rows strips rows (omega arith) (omega arith) in
    omega arith

-- a row's place in its block is the same in all strips, where these are whole blocks
pub place_in_block : (rows strip y : ℕ) → rows % 8 ≡ 0 → 16 * (strip * (rows / 8) + y / 8) + 2 * (y % 8) ≡ word_place rows 0 strip y
place_in_block rows strip y whole =
    let blocks : ℕ = rows / 8 in
    let is : rows ≡ 8 * blocks = omega (arith, whole) in
    let product : strip * rows ≡ 8 * (strip * blocks) = ap (λ n. strip * n) is ∙ eight_times strip blocks in
    omega (arith, product)
  where
    eight_times : (a b : ℕ) → a * (8 * b) ≡ 8 * (a * b)
    eight_times a b = omega arith

-- a word that is written whole
pub has_edge-set : (rows : ℕ) (words : List ℕ) (kind strip y at word : ℕ) → y < rows → kind < 2 → at ≡ word_place rows kind strip y → at < length words
    → (k u v : ℕ) → k < 2 → has_edge rows (set words at word) k u v ≡ cond (same_edge kind strip y k (u / 64) v) (is_one word (u % 64)) (has_edge rows words k u v)
unfolding has_edge
has_edge-set rows words kind strip y at word low p place inside k u v q =
    let there : ℕ = word_place rows k (u / 64) v in
    elim (cases_lt v rows) [
      | inr high ↦
          let past : nat_lt v rows ≡ false = grind (arith, nat_tests) in
          let apart : nat_eq y v ≡ false = ne_eqb y v (λ e. omega arith) in
          rw past (sym (cond-false _ (is_one word (u % 64)) false (two_apart (nat_eq kind k) (nat_eq strip (u / 64)) (nat_eq y v) apart)))
      | inl short ↦ elim (cases_eq there at) [
        | inl here ↦
            let parts = places_apart rows strip (u / 64) y v kind k low short p q (here ∙ place) in
            ap (λ n. nat_lt v rows && is_one n (u % 64)) (get_or-set_at words at there word 0 here inside)
            ∙ ap (λ t. t && is_one word (u % 64)) (lt-ltb v rows short)
            ∙ sym (cond-true _ (is_one word (u % 64)) (has_edge rows words k u v)
            (and_from (nat_eq kind k) (nat_eq strip (u / 64) && nat_eq y v) (eq-eqb kind k parts.0)
            (and_from (nat_eq strip (u / 64)) (nat_eq y v) (eq-eqb strip (u / 64) parts.1) (eq-eqb y v parts.2))))
        | inr away ↦
            ap (λ n. nat_lt v rows && is_one n (u % 64)) (get_or-set_other words at there word 0 away)
            ∙ sym (cond-false _ (is_one word (u % 64)) (has_edge rows words k u v) (elim (cases_Bool (same_edge kind strip y k (u / 64) v)) [
              | inr other ↦ other
              | inl same ↦
                  let first = and_parts (nat_eq kind k) (nat_eq strip (u / 64) && nat_eq y v) same in
                  let rest = and_parts (nat_eq strip (u / 64)) (nat_eq y v) first.1 in
                  let a : kind ≡ k = eqb-true kind k first.0 in
                  let b : strip ≡ u / 64 = eqb-true strip (u / 64) rest.0 in
                  let c : y ≡ v = eqb-true y v rest.1 in
                  absurd (away (sym (place ∙ ap (λ n. word_place rows n strip y) a ∙ ap (λ n. word_place rows k n y) b ∙ ap (word_place rows k (u / 64)) c)))
            ]))
      ]
    ]
  where
    two_apart : (a b c : Bool) → c ≡ false → a && (b && c) ≡ false
    two_apart false b c e = refl
    two_apart true false c e = refl
    two_apart true true c e = e

-- the words of both kinds that are written whole
pub has_edge-set_two : (rows : ℕ) (words : List ℕ) (strip y at down left : ℕ) → y < rows → at ≡ word_place rows 0 strip y → at + 1 < length words
    → (k u v : ℕ) → k < 2 → has_edge rows (set (set words at down) (at + 1) left) k u v
    ≡ cond (same_edge 1 strip y k (u / 64) v) (is_one left (u % 64)) (cond (same_edge 0 strip y k (u / 64) v) (is_one down (u % 64)) (has_edge rows words k u v))
has_edge-set_two rows words strip y at down left low place inside k u v p =
    has_edge-set rows (set words at down) 1 strip y (at + 1) left low (omega arith) (omega (arith, place)) (omega (arith, inside, length-set words at down)) k u v p
    ∙ ap (cond (same_edge 1 strip y k (u / 64) v) (is_one left (u % 64))) (has_edge-set rows words 0 strip y at down low (omega arith) place (omega arith) k u v p)

-- and those of other rows and strips, which stay
pub has_edge-set_apart : (rows : ℕ) (words : List ℕ) (strip y at down left : ℕ) → y < rows → at ≡ word_place rows 0 strip y → at + 1 < length words
    → (k u v : ℕ) → k < 2 → (u / 64 ≢ strip) ⊎ (v ≢ y) → has_edge rows (set (set words at down) (at + 1) left) k u v ≡ has_edge rows words k u v
has_edge-set_apart rows words strip y at down left low place inside k u v p away =
    has_edge-set_two rows words strip y at down left low place inside k u v p
    ∙ cond-false _ _ _ (other 1) ∙ cond-false _ _ _ (other 0)
  where
    other : (kind : ℕ) → same_edge kind strip y k (u / 64) v ≡ false
    other kind = and_right (nat_eq kind k) _ (elim away [
      | inl strips ↦ and_left _ (nat_eq y v) (ne_eqb strip (u / 64) (λ e. strips (sym e)))
      | inr lines ↦ and_right (nat_eq strip (u / 64)) _ (ne_eqb y v (λ e. lines (sym e)))
    ])

first : is_one 1 0 ≡ true
unfolding is_one
first = refl

-- a word of one bit
pub is_one-bit : (k i : ℕ) → i < 64 → is_one (1 * 2 ^ k % 2 ^ 64) i ≡ nat_eq k i
is_one-bit k i p = elim (cases_order i k) [
  | inl same ↦
      is_one-shl 1 k i p (omega arith) ∙ ap (is_one 1) (let none : i - k ≡ 0 = omega arith in none) ∙ first ∙ sym (eq-eqb k i (sym same))
  | inr (inl below) ↦ is_one-shl_below 1 k i p below ∙ sym (ne_eqb k i (λ e. omega arith))
  | inr (inr above) ↦
      is_one-shl 1 k i p (omega arith) ∙ no_bit 1 1 (i - k) (omega arith) (omega arith) ∙ sym (ne_eqb k i (λ e. omega arith))
]

same_column : (x u : ℕ) → x / 64 ≡ u / 64 → nat_eq (x % 64) (u % 64) ≡ nat_eq x u
same_column x u e = elim (cases_eq x u) [
  | inl same ↦ eq-eqb (x % 64) (u % 64) (ap (λ n. n % 64) same) ∙ sym (eq-eqb x u same)
  | inr apart ↦ ne_eqb (x % 64) (u % 64) (λ bit. apart (omega arith)) ∙ sym (ne_eqb x u apart)
]

pub has_edge-low : (rows : ℕ) (words : List ℕ) (k u v : ℕ) → v < rows → has_edge rows words k u v ≡ is_one (get_or words (word_place rows k (u / 64) v) 0) (u % 64)
unfolding has_edge
has_edge-low rows words k u v low = ap (λ t. t && is_one (get_or words (word_place rows k (u / 64) v) 0) (u % 64)) (lt-ltb v rows low)

-- an edge that is read
pub has_edge-read : (rows : ℕ) (words : List ℕ) (kind x y word : ℕ) → y < rows → word ≡ get_or words (word_place rows kind (x / 64) y) 0 → nat_eq (bit_and (word / 2 ^ (x % 64)) 1) 1 ≡ has_edge rows words kind x y
has_edge-read rows words kind x y word low is = read_bit word (x % 64) ∙ ap (λ n. is_one n (x % 64)) is ∙ sym (has_edge-low rows words kind x y low)

-- a word with each bit turned
is_one-not : (word i : ℕ) → word < 2 ^ 64 → i < 64 → is_one (bit_not w64 word) i ≡ not (is_one word i)
unfolding is_one
is_one-not word i fits short = ap (λ b. nat_eq b 1) (bit_at_not w64 word i fits short) ∙ turned (bit_at word i) (bit_at-lt word i)
  where
    turned : (b : ℕ) → b < 2 → nat_eq (1 - b) 1 ≡ not (nat_eq b 1)
    turned b small = grind (arith, nat_tests)

-- an edge that is taken away
pub has_edge-take : (rows : ℕ) (words : List ℕ) (kind x y at bit : ℕ) → y < rows → kind < 2 → at ≡ word_place rows kind (x / 64) y → at < length words → bit < 2 ^ 64 → ((i : ℕ) → i < 64 → is_one bit i ≡ nat_eq (x % 64) i)
    → (k u v : ℕ) → k < 2 → has_edge rows (set words at (bit_and (get_or words at 0) (bit_not w64 bit))) k u v ≡ has_edge rows words k u v && not (same_edge kind x y k u v)
has_edge-take rows words kind x y at bit low p place inside fits one k u v q =
    let word : ℕ = bit_and (get_or words at 0) (bit_not w64 bit) in
    has_edge-set rows words kind (x / 64) y at word low p place inside k u v q
    ∙ elim (cases_Bool (same_edge kind (x / 64) y k (u / 64) v)) [
      | inr other ↦
          cond-false _ (is_one word (u % 64)) (has_edge rows words k u v) other
          ∙ sym (ap (λ t. has_edge rows words k u v && not t) (elsewhere (nat_eq kind k) (nat_eq y v) other) ∙ and_true (has_edge rows words k u v))
      | inl same ↦
          let first = and_parts (nat_eq kind k) (nat_eq (x / 64) (u / 64) && nat_eq y v) same in
          let rest = and_parts (nat_eq (x / 64) (u / 64)) (nat_eq y v) first.1 in
          let a : kind ≡ k = eqb-true kind k first.0 in
          let b : x / 64 ≡ u / 64 = eqb-true (x / 64) (u / 64) rest.0 in
          let c : y ≡ v = eqb-true y v rest.1 in
          cond-true _ (is_one word (u % 64)) (has_edge rows words k u v) same
          ∙ is_one-and (get_or words at 0) (bit_not w64 bit) (u % 64)
          ∙ ap (λ t. is_one (get_or words at 0) (u % 64) && t)
          (is_one-not bit (u % 64) fits (omega arith)
          ∙ ap not (one (u % 64) (omega arith) ∙ same_column x u b ∙ here (nat_eq kind k) (nat_eq x u) (nat_eq y v) first.0 rest.1))
          ∙ ap (λ t. t && not (same_edge kind x y k u v))
          (ap (λ n. is_one (get_or words n 0) (u % 64)) (place ∙ ap (λ n. word_place rows n (x / 64) y) a ∙ ap (λ n. word_place rows k n y) b ∙ ap (word_place rows k (u / 64)) c)
          ∙ sym (has_edge-low rows words k u v (omega arith)))
    ]
  where
    elsewhere : (a c : Bool) → a && (nat_eq (x / 64) (u / 64) && c) ≡ false → a && (nat_eq x u && c) ≡ false
    elsewhere false c h = refl
    elsewhere true false h = elim (cases_Bool (nat_eq x u)) [ inl e ↦ rw e refl | inr n ↦ rw n refl ]
    elsewhere true true h = elim (cases_Bool (nat_eq x u)) [
      | inr n ↦ rw n refl
      | inl e ↦
          let column : nat_eq (x / 64) (u / 64) ≡ true = eq-eqb (x / 64) (u / 64) (ap (λ n. n / 64) (eqb-true x u e)) in
          absurd (clash (nat_eq (x / 64) (u / 64)) column h)
    ]
      where
        clash : (t : Bool) → t ≡ true → t && true ≡ false → ⊥
        clash true e h = cc
        clash false e h = cc

    here : (a b c : Bool) → a ≡ true → c ≡ true → b ≡ a && (b && c)
    here true true true e h = refl
    here true false true e h = refl
    here true b false e h = cc
    here false b c e h = cc

pub or_false : (b : Bool) → b || false ≡ b
or_false true = refl
or_false false = refl

-- ---- a row of pixels

-- 64 pixels that are in two words
pub two_words : (row : List ℕ) (strip before here by i : ℕ) → 1 ≤ by → by < 64 → before < 2 ^ 64 → before ≡ get_or (0 ∷ row) strip 0 → here ≡ get_or row strip 0 → i < 64
    → is_one (bit_or (here * 2 ^ by % 2 ^ 64) (before / 2 ^ (64 - by))) i ≡ black_in (0 ∷ row) (64 * strip + 64 - by + i)
two_words row strip before here by i some most fits is_before is_here p =
    is_one-or (here * 2 ^ by % 2 ^ 64) (before / 2 ^ (64 - by)) i
    ∙ ap (λ t. is_one (here * 2 ^ by % 2 ^ 64) i || t) (is_one-shr before (64 - by) i)
    ∙ elim (cases_lt i by) [
      | inl left ↦
          ap (λ t. t || is_one before (64 - by + i)) (is_one-shl_below here by i p left)
          ∙ ap (λ n. is_one n (64 - by + i)) is_before
          ∙ sym (black_in-at (0 ∷ row) strip (64 - by + i) (64 * strip + 64 - by + i) (omega arith) (omega arith))
      | inr right ↦
          ap (λ t. is_one (here * 2 ^ by % 2 ^ 64) i || t) (no_bit before 64 (64 - by + i) fits (omega arith))
          ∙ or_false (is_one (here * 2 ^ by % 2 ^ 64) i)
          ∙ is_one-shl here by i p right
          ∙ ap (λ n. is_one n (i - by)) is_here
          ∙ sym (black_in-at (0 ∷ row) (suc strip) (i - by) (64 * strip + 64 - by + i) (omega arith) (omega arith))
    ]

-- the edges of one strip, of both kinds
pub strip_edges : (below above : List ℕ) (strip y u pixels three up : ℕ) (old : Bool) (k : ℕ) → k < 2 → u / 64 ≡ strip
    → ((i : ℕ) → i < 64 → is_one pixels i ≡ black_in (0 ∷ below) (64 * strip + 64 - 4 + i))
    → ((i : ℕ) → i < 64 → is_one three i ≡ black_in (0 ∷ below) (64 * strip + 64 - 3 + i))
    → ((i : ℕ) → i < 64 → is_one up i ≡ black_in (0 ∷ above) (64 * strip + 64 - 4 + i))
    → cond (same_edge 1 strip y k (u / 64) y) (is_one (bit_xor pixels up) (u % 64)) (cond (same_edge 0 strip y k (u / 64) y) (is_one (bit_xor pixels three) (u % 64)) old)
    ≡ changes_in below above k u
strip_edges below above strip y u pixels three up old zero p here a b c =
    let four : 64 * strip + 64 - 4 + u % 64 ≡ u + 60 = omega arith in
    let less : 64 * strip + 64 - 3 + u % 64 ≡ u + 61 = omega arith in
    cond-true _ (is_one (bit_xor pixels three) (u % 64)) old (and_from (nat_eq strip (u / 64)) (nat_eq y y) (eq-eqb strip (u / 64) (sym here)) (eq-eqb y y refl))
    ∙ is_one-xor pixels three (u % 64)
    ∙ ap (λ t. differ t (is_one three (u % 64))) (a (u % 64) (omega arith) ∙ ap (black_in (0 ∷ below)) four)
    ∙ ap (differ (black_in (0 ∷ below) (u + 60))) (b (u % 64) (omega arith) ∙ ap (black_in (0 ∷ below)) less)
strip_edges below above strip y u pixels three up old (suc zero) p here a b c =
    let four : 64 * strip + 64 - 4 + u % 64 ≡ u + 60 = omega arith in
    cond-true _ (is_one (bit_xor pixels up) (u % 64)) old (and_from (nat_eq strip (u / 64)) (nat_eq y y) (eq-eqb strip (u / 64) (sym here)) (eq-eqb y y refl))
    ∙ is_one-xor pixels up (u % 64)
    ∙ ap (λ t. differ t (is_one up (u % 64))) (a (u % 64) (omega arith) ∙ ap (black_in (0 ∷ below)) four)
    ∙ ap (differ (black_in (0 ∷ below) (u + 60))) (c (u % 64) (omega arith) ∙ ap (black_in (0 ∷ above)) four)
strip_edges below above strip y u pixels three up old (suc (suc k)) p here a b c = absurd (omega arith)

-- a strip has no edges where both words are 0
pub strip_edges-none : (strip y k u v down left : ℕ) → bit_or down left ≡ 0
    → cond (same_edge 1 strip y k u y) (is_one left v) (cond (same_edge 0 strip y k u y) (is_one down v) false) ≡ false
strip_edges-none strip y k u v down left none =
    let no_down : down ≡ 0 = omega (arith, none, le_or_l down left) in
    let no_left : left ≡ 0 = omega (arith, none, le_or_r down left) in
    neither (same_edge 1 strip y k u y) (same_edge 0 strip y k u y) (ap (λ n. is_one n v) no_left ∙ is_one-zero v) (ap (λ n. is_one n v) no_down ∙ is_one-zero v)
  where
    neither : (a b : Bool) {s t : Bool} → s ≡ false → t ≡ false → cond a s (cond b t false) ≡ false
    neither true b p q = p
    neither false true p q = q
    neither false false p q = refl

-- right of the words there are no edges
pub changes_in-past : (below above : List ℕ) (k u : ℕ) → length above ≡ length below → length below < u / 64 → k < 2 → changes_in below above k u ≡ false
changes_in-past below above zero u same past p =
    ap (λ t. differ t (black_in (0 ∷ below) (u + 61))) (black_in-past (0 ∷ below) (u + 60) (omega arith)) ∙ black_in-past (0 ∷ below) (u + 61) (omega arith)
changes_in-past below above (suc k) u same past p =
    ap (λ t. differ t (black_in (0 ∷ above) (u + 60))) (black_in-past (0 ∷ below) (u + 60) (omega arith)) ∙ black_in-past (0 ∷ above) (u + 60) (omega arith)

-- ---- the first edge

has_edge-at : (rows : ℕ) (words : List ℕ) (kind strip i y word : ℕ) → y < rows → i < 64 → word ≡ get_or words (word_place rows kind strip y) 0 → has_edge rows words kind (64 * strip + i) y ≡ is_one word i
has_edge-at rows words kind strip i y word low p is =
    let column : (64 * strip + i) / 64 ≡ strip = omega arith in
    let bit : (64 * strip + i) % 64 ≡ i = omega arith in
    has_edge-low rows words kind (64 * strip + i) y low
    ∙ ap (λ n. is_one (get_or words (word_place rows kind n y) 0) ((64 * strip + i) % 64)) column
    ∙ ap (is_one (get_or words (word_place rows kind strip y) 0)) bit
    ∙ ap (λ n. is_one n i) (sym is)

-- right of all strips there are no edges
pub has_edge-past : (rows strips : ℕ) (words : List ℕ) (kind u y : ℕ) → length words ≡ 2 * (strips * rows) → strips ≤ u / 64 → has_edge rows words kind u y ≡ false
unfolding has_edge
has_edge-past rows strips words kind u y size past = elim (cases_lt y rows) [
  | inr high ↦
      let none : nat_lt y rows ≡ false = grind (arith, nat_tests) in
      and_left (nat_lt y rows) (is_one (get_or words (word_place rows kind (u / 64) y) 0) (u % 64)) none
  | inl low ↦
      let all : strips * rows ≤ u / 64 * rows = mul-le strips rows (u / 64) rows past (omega arith) in
      ap (λ t. t && is_one (get_or words (word_place rows kind (u / 64) y) 0) (u % 64)) (lt-ltb y rows low)
      ∙ ap (λ n. is_one n (u % 64)) (get_or_past words (word_place rows kind (u / 64) y) 0 (omega arith))
      ∙ is_one-zero (u % 64)
]

one_word : (word i : ℕ) → i < 64 → black_in (word ∷ []) (64 * 0 + i) ≡ is_one word i
one_word word i p = black_in-at (word ∷ []) 0 i (64 * 0 + i) refl p

pub IsLowest : ℕ → ℕ → ℕ → Type 0
IsLowest word k t = (k ≤ t) × (t < 64) × (is_one word t ≡ true) × ((i : ℕ) → k ≤ i → i < t → is_one word i ≡ false)

-- the lowest 1 of a word from bit k on
pub lowest_from : (word k m : ℕ) → m ≡ bit_and word ((2 ^ 64 - 1) * 2 ^ k % 2 ^ 64) → k < 64 → 0 < m → word < 2 ^ 64 → IsLowest word k (trailing_zeros w64 m)
unfolding IsLowest
lowest_from word k m e p q fits =
    let t : ℕ = trailing_zeros w64 m in
    let mask : ℕ = (2 ^ 64 - 1) * 2 ^ k % 2 ^ 64 in
    let small : m < 2 ^ 64 = omega (arith, e, and_le_l word mask) in
    let short : t < 64 = (bit_at-trailing_zeros w64 m q small).0 in
    let found = black_in-lowest_from (word ∷ []) 0 k m e p q fits in (
      omega (arith, found.0),
      short,
      sym (one_word word t short) ∙ found.1,
      λ i above below. sym (one_word word i (omega arith)) ∙ black_in-below_lowest_from (word ∷ []) 0 k m (64 * 0 + i) e p q fits (omega arith) (omega arith),
    )

pub none_from : (word k m i : ℕ) → m ≡ bit_and word ((2 ^ 64 - 1) * 2 ^ k % 2 ^ 64) → k < 64 → m ≡ 0 → k ≤ i → i < 64 → is_one word i ≡ false
none_from word k m i e p none above below =
    sym (one_word word i below) ∙ black_in-none_from (word ∷ []) 0 k m (64 * 0 + i) e p none (omega arith) (omega arith)

pub lowest_whole : (word : ℕ) → 0 < word → word < 2 ^ 64 → IsLowest word 0 (trailing_zeros w64 word)
unfolding IsLowest
lowest_whole word q fits =
    let t : ℕ = trailing_zeros w64 word in
    let short : t < 64 = (bit_at-trailing_zeros w64 word q fits).0 in (
      omega arith,
      short,
      sym (one_word word t short) ∙ black_in-lowest (word ∷ []) 0 q fits,
      λ i above below. sym (one_word word i (omega arith)) ∙ black_in-below_lowest (word ∷ []) 0 (64 * 0 + i) q fits (omega arith) (omega arith),
    )

-- what the lowest 1 says of a row
pub edge_found : (rows : ℕ) (words : List ℕ) (strip k t y word : ℕ) → y < rows → word ≡ get_or words (word_place rows 0 strip y) 0 → IsLowest word k t
    → (64 * strip + k ≤ 64 * strip + t) × (has_edge rows words 0 (64 * strip + t) y ≡ true) × ((u : ℕ) → 64 * strip + k ≤ u → u < 64 * strip + t → has_edge rows words 0 u y ≡ false)
unfolding IsLowest
edge_found rows words strip k t y word low is found = (
  omega (arith, found.0),
  has_edge-at rows words 0 strip t y word low found.1 is ∙ found.2,
  λ u right left.
      let column : u ≡ 64 * strip + (u - 64 * strip) = omega arith in
      ap (λ n. has_edge rows words 0 n y) column
      ∙ has_edge-at rows words 0 strip (u - 64 * strip) y word low (omega (arith, found.1)) is
      ∙ found.3 (u - 64 * strip) (omega arith) (omega arith),
)

pub edge_none : (rows : ℕ) (words : List ℕ) (strip y word u : ℕ) → y < rows → word ≡ get_or words (word_place rows 0 strip y) 0 → 64 * strip ≤ u → u < 64 * strip + 64 → is_one word (u - 64 * strip) ≡ false → has_edge rows words 0 u y ≡ false
edge_none rows words strip y word u low is right left none =
    let column : u ≡ 64 * strip + (u - 64 * strip) = omega arith in
    ap (λ n. has_edge rows words 0 n y) column
    ∙ has_edge-at rows words 0 strip (u - 64 * strip) y word low (omega arith) is
    ∙ none

-- ---- eight edges

pub eight_within : (rows : ℕ) (words : List ℕ) (x y word i : ℕ) → y < rows → i < 8 → x % 64 ≤ 56 → word ≡ get_or words (word_place rows 0 (x / 64) y) 0 → is_one (word / 2 ^ (x % 64)) i ≡ has_edge rows words 0 (x + i) y
eight_within rows words x y word i low p inside is =
    let column : x + i ≡ 64 * (x / 64) + (x % 64 + i) = omega arith in
    is_one-shr word (x % 64) i
    ∙ sym (ap (λ n. has_edge rows words 0 n y) column ∙ has_edge-at rows words 0 (x / 64) (x % 64 + i) y word low (omega arith) is)

pub eight_over : (rows : ℕ) (words : List ℕ) (x y n m i : ℕ) → y < rows → i < 8 → 56 < x % 64 → n < 2 ^ 64 → n ≡ get_or words (word_place rows 0 (x / 64) y) 0 → m ≡ get_or words (word_place rows 0 (x / 64 + 1) y) 0
    → is_one (bit_or (n / 2 ^ (x % 64)) (m * 2 ^ (64 - x % 64) % 2 ^ 64)) i ≡ has_edge rows words 0 (x + i) y
eight_over rows words x y n m i low p over fits is other =
    let k : ℕ = x % 64 in
    is_one-or (n / 2 ^ k) (m * 2 ^ (64 - k) % 2 ^ 64) i
    ∙ ap (λ t. t || is_one (m * 2 ^ (64 - k) % 2 ^ 64) i) (is_one-shr n k i)
    ∙ elim (cases_lt (k + i) 64) [
      | inl here ↦
          let column : x + i ≡ 64 * (x / 64) + (x % 64 + i) = omega arith in
          ap (λ t. is_one n (k + i) || t) (is_one-shl_below m (64 - k) i (omega arith) (omega arith))
          ∙ or_false (is_one n (k + i))
          ∙ sym (ap (λ c. has_edge rows words 0 c y) column ∙ has_edge-at rows words 0 (x / 64) (k + i) y n low here is)
      | inr after ↦
          let column : x + i ≡ 64 * (x / 64 + 1) + (i - (64 - x % 64)) = omega arith in
          ap (λ t. t || is_one (m * 2 ^ (64 - k) % 2 ^ 64) i) (no_bit n 64 (k + i) fits after)
          ∙ is_one-shl m (64 - k) i (omega arith) (omega arith)
          ∙ sym (ap (λ c. has_edge rows words 0 c y) column ∙ has_edge-at rows words 0 (x / 64 + 1) (i - (64 - k)) y m low (omega arith) other)
    ]
