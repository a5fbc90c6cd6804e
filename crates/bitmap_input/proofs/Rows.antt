-- A row of a page is known by its pixels: eight in a byte, or 64 in a word.
use Rattle.std.proofs.Common.{◌≡◌, ◌≢◌, refl, ℕ, zero, suc, ◌+◌, ◌-◌, ◌*◌, ◌/◌, ◌%◌, ◌≤◌, ◌<◌, inl, inr, Bool, true, false, not, ◌&&◌, List, [], ◌∷◌, length, take, map, get_or, arith, ap, sym, ◌∙◌, subst}
use Rattle.std.specs.Prelude.{nat_eq, nat_lt, min}
use Rattle.std.proofs.Math.Path.{fun_ext}
use Rattle.std.proofs.lemmas.List.{get_or-map, get_or-take, length-map, length-take-le, map-id}
use Rattle.std.proofs.lemmas.Bool.{eq-eqb, ne_eqb, lt-ltb, le-ltb, cases_eq, cases_lt, false_from_ne_true}
use Rattle.bit_image.specs.Image.{Image, Fits, differ, within, is_between}
use Rattle.bit_image.specs.Words.{is_one, bit_in}
use Rattle.bit_image.proofs.Bits.{within-inside, within-right, differ-false, differ-true}
use Rattle.bitmap_input.specs.Raw.{unpacked}
use Rattle.bitmap_input.specs.Inner.Raster.{with_row}
use Rattle.bitmap_input.proofs.PaintedRows.{with_pixels-at, with_pixels-other, length-unpacked}

-- the image with these as the first pixels of a row
pub row_by_pixels : (b c : Image) (y : ℕ) (pixels : List Bool) → ((u : ℕ) → u < length pixels → c u y ≡ get_or pixels u false) →
    ((u : ℕ) → length pixels ≤ u → c u y ≡ b u y) → ((u v : ℕ) → v ≢ y → c u v ≡ b u v) → c ≡ with_row b y pixels
row_by_pixels b c y pixels here past others = fun_ext (λ u. fun_ext (λ v. elim (cases_eq v y) [
  | inl e ↦ elim (cases_lt u (length pixels)) [
    | inl h ↦ subst (λ m. c u m ≡ with_row b y pixels u m) (sym e) (here u h ∙ sym (with_pixels-at b y 0 u u pixels (omega arith) h))
    | inr h ↦ subst (λ m. c u m ≡ with_row b y pixels u m) (sym e) (past u h ∙ sym (with_pixels-other b y 0 u y pixels (λ _ _ below. omega arith)))
  ]
  | inr e ↦ others u v e ∙ sym (with_pixels-other b y 0 u v pixels (λ same _ _. e (sym same)))
]))

-- a bit after the first byte
bit_behind : (b : ℕ) (bytes : List ℕ) (n u : ℕ) → n ≡ u + 8 → bit_in (b ∷ bytes) n ≡ bit_in bytes u
unfolding bit_in
bit_behind b bytes n u e =
    let byte : n / 8 ≡ suc (u / 8) = omega arith in
    let bit : 7 - n % 8 ≡ 7 - u % 8 = omega arith in
    ap (λ k. is_one (get_or (b ∷ bytes) k 0) (7 - n % 8)) byte ∙ ap (is_one (get_or bytes (u / 8) 0)) bit

-- the pixel in a column of a row of bytes
pub get_or-unpacked : (bytes : List ℕ) (u : ℕ) → u < 8 * length bytes → get_or (unpacked bytes) u false ≡ bit_in bytes u
unfolding is_one bit_in
get_or-unpacked [] u h = absurd (omega arith)
get_or-unpacked (b ∷ bytes) zero h = refl
get_or-unpacked (b ∷ bytes) (suc zero) h = refl
get_or-unpacked (b ∷ bytes) (suc (suc zero)) h = refl
get_or-unpacked (b ∷ bytes) (suc (suc (suc zero))) h = refl
get_or-unpacked (b ∷ bytes) (suc (suc (suc (suc zero)))) h = refl
get_or-unpacked (b ∷ bytes) (suc (suc (suc (suc (suc zero))))) h = refl
get_or-unpacked (b ∷ bytes) (suc (suc (suc (suc (suc (suc zero)))))) h = refl
get_or-unpacked (b ∷ bytes) (suc (suc (suc (suc (suc (suc (suc zero))))))) h = refl
get_or-unpacked (b ∷ bytes) (suc (suc (suc (suc (suc (suc (suc (suc u)))))))) h =
    get_or-unpacked bytes u (omega arith) ∙ sym (bit_behind b bytes (suc (suc (suc (suc (suc (suc (suc (suc u)))))))) u (omega arith))

-- the row of a page that is written as bytes
pub bytes_placed : (b c : Image) (y w : ℕ) (bytes : List ℕ) → length bytes ≡ (w + 7) / 8 → ((u : ℕ) → w ≤ u → b u y ≡ false) →
    ((u : ℕ) → c u y ≡ (nat_lt u w && bit_in bytes u)) → ((u v : ℕ) → v ≢ y → c u v ≡ b u v) → c ≡ with_row b y (take w (unpacked bytes))
bytes_placed b c y w bytes len past row others =
    let all : length (take w (unpacked bytes)) ≡ w = length-take-le w (unpacked bytes) (omega (arith, length-unpacked bytes)) in
    row_by_pixels b c y (take w (unpacked bytes))
    (λ u h. let less : u < w = omega (arith, all) in
    row u ∙ ap (λ t. t && bit_in bytes u) (lt-ltb u w less) ∙ sym (get_or-take w (unpacked bytes) u false less ∙ get_or-unpacked bytes u (omega arith)))
    (λ u h. let more : w ≤ u = omega (arith, all) in
    row u ∙ ap (λ t. t && bit_in bytes u) (le-ltb u w more) ∙ sym (past u more)) others

and_none : (t : Bool) → t && false ≡ false
and_none true = refl
and_none false = refl

-- a row that isn't inverted
pub row_kept : (b c : Image) (y : ℕ) (pixels : List Bool) → c ≡ with_row b y pixels → c ≡ with_row b y (map (differ false) pixels)
row_kept b c y pixels is = is ∙ ap (with_row b y) (sym (map-id pixels))

-- a row that is inverted
pub row_flipped : (b c d : Image) (y w : ℕ) (pixels : List Bool) → length pixels ≡ w → c ≡ with_row b y pixels →
    ((u v : ℕ) → d u v ≡ differ (c u v) (is_between 0 w y u v)) → d ≡ with_row b y (map (differ true) pixels)
row_flipped b c d y w pixels len is flipped =
    let count : length (map (differ true) pixels) ≡ w = length-map pixels (differ true) ∙ len in
    let row : nat_eq y y ≡ true = eq-eqb y y refl in
    row_by_pixels b d y (map (differ true) pixels)
    (λ u h. let less : u < w = omega (arith, count) in
    let at : u < length pixels = omega arith in
    flipped u y ∙ differ-true (c u y) (is_between 0 w y u y) (ap (λ t. t && nat_eq y y) (within-inside 0 w u (omega arith) less) ∙ row) ∙
    ap not (ap (λ (i : Image). i u y) is ∙ with_pixels-at b y 0 u u pixels (omega arith) at) ∙ sym (get_or-map (differ true) pixels u false false at))
    (λ u h. let more : w ≤ u = omega (arith, count) in
    flipped u y ∙ differ-false (c u y) (is_between 0 w y u y) (ap (λ t. t && nat_eq y y) (within-right 0 w u more)) ∙
    ap (λ (i : Image). i u y) is ∙ with_pixels-other b y 0 u y pixels (λ _ _ below. omega arith))
    (λ u v other. flipped u v ∙ differ-false (c u v) (is_between 0 w y u v) (ap (λ t. within 0 w u && t) (ne_eqb y v (λ e. other (sym e))) ∙ and_none (within 0 w u)) ∙
    ap (λ (i : Image). i u v) is ∙ with_pixels-other b y 0 u v pixels (λ e _ _. other (sym e)))

-- everything right of the page is white
pub white_past : (b : Image) (w h : ℕ) → Fits b w h → (u v : ℕ) → w ≤ u → b u v ≡ false
white_past b w h fits u v past = false_from_ne_true (b u v) (λ e. let at = (fits u v e).0 in omega arith)

-- Words of a row.

-- the words of a row, written up to word `at`
pub record WordsPlaced (f : ℕ → Bool) (w y : ℕ) (b c : Image) (at : ℕ) : Type 0 where
  pub placed : (u : ℕ) → u < 64 * at → c u y ≡ nat_lt u w && f u
  pub left : (u : ℕ) → 64 * at ≤ u → c u y ≡ b u y
  pub others : (u v : ℕ) → v ≢ y → c u v ≡ b u v

pub none_placed : (f : ℕ → Bool) (w y : ℕ) (b : Image) → WordsPlaced f w y b b 0
none_placed f w y b = record { placed = λ u h. absurd (omega arith); left = λ u h. refl; others = λ u v h. refl }

-- one more word was written
pub word_placed : (f : ℕ → Bool) (w y : ℕ) (b c d : Image) (at word count : ℕ) → WordsPlaced f w y b c at →
    (count ≡ min (w - 64 * at) 64) → ((k : ℕ) → k < count → is_one word k ≡ f (64 * at + k)) →
    ((u : ℕ) → u / 64 ≡ at → d u y ≡ (nat_lt u w && is_one word (u % 64))) →
    ((u : ℕ) → u / 64 ≢ at → d u y ≡ c u y) → ((u v : ℕ) → v ≢ y → d u v ≡ c u v) → WordsPlaced f w y b d (at + 1)
word_placed f w y b c d at word count s many pixels here columns others = record {
  placed = λ u h. elim (cases_lt u (64 * at)) [
    | inl before ↦ columns u (λ e. omega arith) ∙ s.placed u before
    | inr behind ↦ elim (cases_lt u w) [
      | inl inside ↦
          let same : 64 * at + u % 64 ≡ u = omega arith in
          here u (omega arith) ∙ ap (λ t. nat_lt u w && t) (pixels (u % 64) (omega arith) ∙ ap f same)
      | inr outside ↦
          here u (omega arith) ∙ ap (λ t. t && is_one word (u % 64)) (le-ltb u w outside) ∙ sym (ap (λ t. t && f u) (le-ltb u w outside))
    ]
  ];
  left = λ u h. columns u (λ e. omega arith) ∙ s.left u (omega arith);
  others = λ u v h. others u v h ∙ s.others u v h;
}

-- all words were written
pub words_placed : (f : ℕ → Bool) (w y : ℕ) (b c : Image) (at : ℕ) (pixels : List Bool) → WordsPlaced f w y b c at → w ≤ 64 * at →
    ((u : ℕ) → w ≤ u → b u y ≡ false) → length pixels ≡ w → ((u : ℕ) → u < w → f u ≡ get_or pixels u false) → c ≡ with_row b y pixels
words_placed f w y b c at pixels s all past len same =
    row_by_pixels b c y pixels
    (λ u h. let inside : u < w = omega arith in s.placed u (omega arith) ∙ ap (λ t. t && f u) (lt-ltb u w inside) ∙ same u inside)
    (λ u h. elim (cases_lt u (64 * at)) [
      | inl before ↦ s.placed u before ∙ ap (λ t. t && f u) (le-ltb u w (omega arith)) ∙ sym (past u (omega arith))
      | inr behind ↦ s.left u behind
    ]) s.others
