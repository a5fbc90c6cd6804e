-- Reading the raw PBM text of a page gives the page.
use Rattle.std.proofs.Common.{◌≡◌, ℕ, zero, suc, ◌+◌, ◌-◌, ◌*◌, ◌/◌, ◌%◌, ◌<◌, ◌≤◌, Bool, true, false, cond, List, [], ◌∷◌, ◌++◌, All, length, get_or, take, map, flat_map, codes, refl, ap, sym, ◌∙◌, subst, arith, append_assoc}
use Rattle.std.specs.Prelude.{decimal, nat_lt, nat_eq}
use Rattle.std.specs.List.{range_with_len}
use Rattle.std.proofs.Math.Seq.{take-append_seam, drop-append_seam}
use Rattle.std.proofs.lemmas.Bool.{lt-ltb, le-ltb}
use Rattle.std.proofs.lemmas.Bool.Decides.{nat_tests}
use Rattle.std.proofs.lemmas.Fmt.{digits_decimal, digits_value-decimal, decimal_nonempty, length-decimal-le}
use Rattle.std.proofs.lemmas.Str.Parse.{IsNumeralModel, numerals_by_fold}
use Rattle.std.proofs.lemmas.List.{append-nil, length-append, get_or-map, get_or-take}
use Rattle.std.proofs.lemmas.List.Elements.{All-head, All-tail, All-nil, All-cons}
use Rattle.std.proofs.lemmas.List.FromFn.{get_or-map-range_with_len, length-map-range_with_len, length-range_with_len}
use Rattle.pt_core.specs.declared.limits.TheConstants.{LONGEST_SIDE}
use Rattle.bit_image.specs.Page.{Page, IsPage, image_of}
use Rattle.bit_image.proofs.Pages.{page_of-image_of, page_of-same}
use Rattle.bitmap_input.specs.Cut.{Kind, Cut, ◌>>=◌}
use Rattle.bitmap_input.specs.Cut.Kind.{BadHeader}
use Rattle.bitmap_input.specs.Cut.Cut.{Takes}
use Rattle.bitmap_input.specs.PageParts.{longest, is_digit, is_space, is_zero, run_length, gap_length, some_gap, value, number, number_behind_gap, space, block, repeated, spaces}
use Rattle.bitmap_input.specs.Sides.{checked}
use Rattle.bitmap_input.specs.Raw.{Raw, Entry, entries_page, row_bytes, bits_of, unpacked, black, picture_of, shown}
use Rattle.bitmap_input.specs.Raw.Entry.{Bit}
use Rattle.bitmap_input.specs.Front.{sides, raw_row, rows_raster, magic, body, page_at, answer_of, front}
use Rattle.bitmap_input.specs.Front.Magic.{RawBits}
use Rattle.bitmap_input.specs.Front.Answer.{Page as PageOf}
use Rattle.bit_image.specs.PbmText.{byte_from, row_text, rows_text, pbm_text}

-- ---- bits

worth_le : (b : Bool) → cond b 1 0 ≤ 1
worth_le true = omega arith
worth_le false = omega arith

worth_is : (n : ℕ) (b : Bool) → n ≡ cond b 1 0 → nat_eq n 1 ≡ b
worth_is n true e = ap (λ k. nat_eq k 1) e
worth_is n false e = ap (λ k. nat_eq k 1) e

eight_bits : (a b c d e f g h : ℕ) → a ≤ 1 → b ≤ 1 → c ≤ 1 → d ≤ 1 → e ≤ 1 → f ≤ 1 → g ≤ 1 → h ≤ 1 → (n : ℕ)
    → n ≡ 128 * a + 64 * b + 32 * c + 16 * d + 8 * e + 4 * f + 2 * g + 1 * h
    → ((n / 128) % 2 ≡ a) × ((n / 64) % 2 ≡ b) × ((n / 32) % 2 ≡ c) × ((n / 16) % 2 ≡ d) × ((n / 8) % 2 ≡ e) × ((n / 4) % 2 ≡ f) × ((n / 2) % 2 ≡ g) × ((n / 1) % 2 ≡ h)
eight_bits a b c d e f g h pa pb pc pd pe pf pg ph n is =
    (omega arith, omega arith, omega arith, omega arith, omega arith, omega arith, omega arith, omega arith)

bits_of-byte_from : (row : ℕ → Bool) (x : ℕ) → bits_of (byte_from row x)
    ≡ row x ∷ row (x + 1) ∷ row (x + 2) ∷ row (x + 3) ∷ row (x + 4) ∷ row (x + 5) ∷ row (x + 6) ∷ row (x + 7) ∷ []
bits_of-byte_from row x =
    let n : ℕ = byte_from row x in
    let t : (i : ℕ) → cond (row i) 1 0 ≤ 1 = λ i. worth_le (row i) in
    let e = eight_bits (cond (row x) 1 0) (cond (row (x + 1)) 1 0) (cond (row (x + 2)) 1 0) (cond (row (x + 3)) 1 0) (cond (row (x + 4)) 1 0) (cond (row (x + 5)) 1 0)
    (cond (row (x + 6)) 1 0) (cond (row (x + 7)) 1 0) (t x) (t (x + 1)) (t (x + 2)) (t (x + 3)) (t (x + 4)) (t (x + 5)) (t (x + 6)) (t (x + 7)) n refl in
    listed
    (worth_is ((n / 128) % 2) (row x) e.0) (worth_is ((n / 64) % 2) (row (x + 1)) e.1) (worth_is ((n / 32) % 2) (row (x + 2)) e.2) (worth_is ((n / 16) % 2) (row (x + 3)) e.3)
    (worth_is ((n / 8) % 2) (row (x + 4)) e.4) (worth_is ((n / 4) % 2) (row (x + 5)) e.5) (worth_is ((n / 2) % 2) (row (x + 6)) e.6) (worth_is ((n / 1) % 2) (row (x + 7)) e.7)
  where
    listed : {a b c d e f g h i j k l m n o p : Bool} → a ≡ i → b ≡ j → c ≡ k → d ≡ l → e ≡ m → f ≡ n → g ≡ o → h ≡ p
        → a ∷ b ∷ c ∷ d ∷ e ∷ f ∷ g ∷ h ∷ [] ≡ i ∷ j ∷ k ∷ l ∷ m ∷ n ∷ o ∷ p ∷ []
    listed q r s t u v w x = cc

-- pixel number u of the bytes from number a on
unpacked_at : (row : ℕ → Bool) (n a u : ℕ) → u < 8 * n → get_or (unpacked (map (λ k. byte_from row (8 * k)) (range_with_len a n))) u false ≡ row (8 * a + u)
unpacked_at row zero a u below = absurd (omega arith)
unpacked_at row (suc n) a u below =
    ap (λ bits. get_or (bits ++ unpacked (map (λ k. byte_from row (8 * k)) (range_with_len (a + 1) n))) u false) (bits_of-byte_from row (8 * a))
    ∙ place u below (λ v less. unpacked_at row n (a + 1) v less)
  where
    place : (u : ℕ) → u < 8 * suc n → ((v : ℕ) → v < 8 * n → get_or (unpacked (map (λ k. byte_from row (8 * k)) (range_with_len (a + 1) n))) v false ≡ row (8 * (a + 1) + v))
        → get_or (row (8 * a) ∷ row (8 * a + 1) ∷ row (8 * a + 2) ∷ row (8 * a + 3) ∷ row (8 * a + 4) ∷ row (8 * a + 5) ∷ row (8 * a + 6) ∷ row (8 * a + 7)
        ∷ unpacked (map (λ k. byte_from row (8 * k)) (range_with_len (a + 1) n))) u false ≡ row (8 * a + u)
    place zero less rest = ap row (omega arith)
    place (suc zero) less rest = ap row (omega arith)
    place (suc (suc zero)) less rest = ap row (omega arith)
    place (suc (suc (suc zero))) less rest = ap row (omega arith)
    place (suc (suc (suc (suc zero)))) less rest = ap row (omega arith)
    place (suc (suc (suc (suc (suc zero))))) less rest = ap row (omega arith)
    place (suc (suc (suc (suc (suc (suc zero)))))) less rest = ap row (omega arith)
    place (suc (suc (suc (suc (suc (suc (suc zero))))))) less rest = ap row (omega arith)
    place (suc (suc (suc (suc (suc (suc (suc (suc v)))))))) less rest = rest v (omega arith) ∙ ap row (omega arith)

-- ---- numbers

abbrev IsDigit : ℕ → Type 0
IsDigit b = (48 ≤ b) × (b ≤ 57)

is_digit-true : (b : ℕ) → IsDigit b → is_digit b ≡ true
is_digit-true b d = grind (arith, nat_tests)

is_digit-false : (b : ℕ) → b < 48 → is_digit b ≡ false
is_digit-false b low = grind (arith, nat_tests)

numerals : IsNumeralModel (All IsDigit) (value 0)
numerals =
    numerals_by_fold (All IsDigit)
    (record {
      empty = All-nil IsDigit;
      parts = λ c cs all. (All-head IsDigit c cs all, All-tail IsDigit c cs all);
      more = λ c cs digit all. All-cons IsDigit c cs digit all;
    })
    value
    (record { empty = λ n. refl; more = λ n c cs digit. (let same : 10 * n + (c - 48) ≡ n * 10 + (c - 48) = omega arith in ap (λ k. value k cs) same) })

run_of_digits : (ds : List ℕ) (b : ℕ) (s : List ℕ) → All IsDigit ds → b < 48 → run_length is_digit (ds ++ b ∷ s) ≡ length ds
run_of_digits [] b s all low = ap (λ t. cond t (suc (run_length is_digit s)) 0) (is_digit-false b low)
run_of_digits (d ∷ ds) b s all low =
    ap (λ t. cond t (suc (run_length is_digit (ds ++ b ∷ s))) 0) (is_digit-true d (All-head IsDigit d ds all))
    ∙ ap suc (run_of_digits ds b s (All-tail IsDigit d ds all) low)

bind_takes : {A B : Type 0} (c : Cut A) (f : A → List ℕ → Cut B) (x : A) (y : B) (rest left : List ℕ) → c ≡ Takes false x rest → f x rest ≡ Takes false y left → (c >>= f) ≡ Takes false y left
bind_takes c f x y rest left first second = rw (first, second) refl

-- a run of digits, followed by a byte
number_read : (kind : Kind) (ds : List ℕ) (b : ℕ) (s : List ℕ) → All IsDigit ds → 1 ≤ length ds → length ds ≤ longest → b < 48 → number kind (ds ++ b ∷ s) ≡ Takes false (value 0 ds) (b ∷ s)
number_read kind ds b s all some short low =
    let run : run_length is_digit (ds ++ b ∷ s) ≡ length ds = run_of_digits ds b s all low in
    let nonzero : is_zero (length ds) ≡ false = positive (length ds) some in
    let within : nat_lt longest (length ds) ≡ false = le-ltb longest (length ds) short in
    rw (run, nonzero, within, take-append_seam, drop-append_seam) refl
  where
    positive : (n : ℕ) → 1 ≤ n → is_zero n ≡ false
    positive zero h = absurd (omega arith)
    positive (suc n) h = refl

gap_at_digit : (d : ℕ) (s : List ℕ) → IsDigit d → gap_length false (d ∷ s) ≡ 0
gap_at_digit d s digit =
    let mark : nat_eq d 35 ≡ false = grind (arith, nat_tests) in
    let blank : is_space d ≡ false = grind (arith, nat_tests) in
    ap (λ t. cond t (suc (gap_length true s)) (cond (is_space d) (suc (gap_length false s)) 0)) mark
    ∙ ap (λ t. cond t (suc (gap_length false s)) 0) blank

some_gap_read : (kind : Kind) (g d : ℕ) (s : List ℕ) → gap_length false (g ∷ d ∷ s) ≡ 1 → some_gap kind (g ∷ d ∷ s) ≡ Takes false (g ∷ []) (d ∷ s)
some_gap_read kind g d s one = rw one refl

behind_gap : (kind : Kind) (g b : ℕ) (ds s : List ℕ) → All IsDigit ds → 1 ≤ length ds → length ds ≤ longest → b < 48 → ((d : ℕ) (t : List ℕ) → gap_length false (g ∷ d ∷ t) ≡ suc (gap_length false (d ∷ t)))
    → number_behind_gap kind (g ∷ (ds ++ b ∷ s)) ≡ Takes false (value 0 ds) (b ∷ s)
behind_gap kind g b [] s all some short low gap_is = absurd (omega arith)
behind_gap kind g b (d ∷ ds) s all some short low gap_is =
    let one : gap_length false (g ∷ d ∷ (ds ++ b ∷ s)) ≡ 1 = gap_is d (ds ++ b ∷ s) ∙ ap suc (gap_at_digit d (ds ++ b ∷ s) (All-head IsDigit d ds all)) in
    bind_takes (some_gap kind (g ∷ d ∷ (ds ++ b ∷ s))) (λ _ rest. number kind rest) (g ∷ []) (value 0 (d ∷ ds)) (d ∷ (ds ++ b ∷ s)) (b ∷ s)
    (some_gap_read kind g d (ds ++ b ∷ s) one) (number_read kind (d ∷ ds) b s all some short low)

-- a side after a blank or the end of a line
side_read : (kind : Kind) (g b n : ℕ) (s : List ℕ) → n ≤ LONGEST_SIDE → b < 48 → ((d : ℕ) (t : List ℕ) → gap_length false (g ∷ d ∷ t) ≡ suc (gap_length false (d ∷ t)))
    → number_behind_gap kind (g ∷ (decimal n ++ b ∷ s)) ≡ Takes false n (b ∷ s)
side_read kind g b n s small low gap_is =
    let digits : All IsDigit (decimal n) = digits_decimal numerals n (omega arith) in
    let short : length (decimal n) ≤ 5 = length-decimal-le 5 n (omega arith) (omega arith) (omega arith) in
    behind_gap kind g b (decimal n) s digits (decimal_nonempty n (omega arith)) (omega arith) low gap_is
    ∙ ap (λ k. Takes false k (b ∷ s)) (digits_value-decimal numerals n (omega arith))

sides_read : (w h : ℕ) (s : List ℕ) → 1 ≤ w → w ≤ LONGEST_SIDE → 1 ≤ h → h ≤ LONGEST_SIDE → checked w h (10 ∷ s) ≡ Takes false (w, h) (10 ∷ s)
    → sides (10 ∷ (decimal w ++ (32 ∷ (decimal h ++ (10 ∷ s))))) ≡ Takes false (w, h) (10 ∷ s)
sides_read w h s a b c d check =
    bind_takes (number_behind_gap BadHeader (10 ∷ (decimal w ++ (32 ∷ (decimal h ++ (10 ∷ s))))))
    (λ width rest. number_behind_gap BadHeader rest >>= λ height rest. checked width height rest) w (w, h) (32 ∷ (decimal h ++ (10 ∷ s))) (10 ∷ s)
    (side_read BadHeader 10 32 w (decimal h ++ (10 ∷ s)) b (omega arith) (λ d t. refl))
    (bind_takes (number_behind_gap BadHeader (32 ∷ (decimal h ++ (10 ∷ s)))) (λ height rest. checked w height rest) h (w, h) (10 ∷ s) (10 ∷ s)
    (side_read BadHeader 32 10 h s d (omega arith) (λ d t. refl)) check)

-- ---- rows

raw_row_read : (w : ℕ) (r s : List ℕ) → length r ≡ row_bytes w → raw_row w (r ++ s) ≡ Takes false (take w (unpacked r)) s
raw_row_read w r s size =
    bind_takes (block (row_bytes w) (r ++ s)) (λ row rest. Takes false (take w (unpacked row)) rest) r (take w (unpacked r)) s s
    (subst (λ n. block n (r ++ s) ≡ Takes false r s) size whole) refl
  where
    whole : block (length r) (r ++ s) ≡ Takes false r s
    whole =
        let enough : nat_lt (length (r ++ s)) (length r) ≡ false = le-ltb (length (r ++ s)) (length r) (omega (arith, length-append r s)) in
        rw (enough, take-append_seam, drop-append_seam) refl

rows_read : (w : ℕ) (f : ℕ → List ℕ) (ks : List ℕ) (s : List ℕ) → ((k : ℕ) → length (f k) ≡ row_bytes w)
    → repeated (raw_row w) (length ks) (flat_map f ks ++ s) ≡ Takes false (map (λ k. take w (unpacked (f k))) ks) s
rows_read w f [] s size = refl
rows_read w f (k ∷ ks) s size =
    let left : List ℕ = flat_map f ks ++ s in
    let mine : List Bool = take w (unpacked (f k)) in
    let others : List (List Bool) = map (λ j. take w (unpacked (f j))) ks in
    ap (λ bytes. repeated (raw_row w) (suc (length ks)) bytes) (append_assoc (f k) (flat_map f ks) s)
    ∙ bind_takes (raw_row w (f k ++ left)) (λ x rest. repeated (raw_row w) (length ks) rest >>= λ xs rest. Takes false (x ∷ xs) rest) mine (mine ∷ others) left s
    (raw_row_read w (f k) left (size k))
    (bind_takes (repeated (raw_row w) (length ks) left) (λ xs rest. Takes false (mine ∷ xs) rest) others (mine ∷ others) s s (rows_read w f ks s size) refl)

-- ---- the page

-- the bytes of the row that is k rows below the uppermost one
row_of : Page → ℕ → List ℕ
row_of page k = row_text page.width (λ x. image_of page x (page.height - suc k))

pixels_of : Page → ℕ → List Bool
unfolding row_of
pixels_of page k = take page.width (unpacked (row_of page k))

-- the raw page that a reader finds
pub raw_of : Page → Raw
unfolding pixels_of
raw_of page = entries_page (λ b. Bit b) page.width page.height (map (pixels_of page) (range_with_len 0 page.height))

text_is : (page : Page) → pbm_text page ≡ 80 ∷ 52 ∷ 10 ∷ (decimal page.width ++ (32 ∷ (decimal page.height ++ (10 ∷ rows_text page))))
text_is page =
    let w : List ℕ = decimal page.width in
    let h : List ℕ = decimal page.height in
    let rows : List ℕ = rows_text page in
    append_assoc (codes "P4\n" ++ w ++ codes " " ++ h) (codes "\n") rows
    ∙ append_assoc (codes "P4\n" ++ w ++ codes " ") h (10 ∷ rows)
    ∙ append_assoc (codes "P4\n" ++ w) (codes " ") (h ++ 10 ∷ rows)

checked_page : (w h : ℕ) (s : List ℕ) → 1 ≤ w → w ≤ LONGEST_SIDE → 1 ≤ h → h ≤ LONGEST_SIDE → checked w h s ≡ Takes false (w, h) s
checked_page zero h s a b c d = absurd (omega arith)
checked_page (suc w) zero s a b c d = absurd (omega arith)
checked_page (suc w) (suc h) s a b c d = rw (le-ltb LONGEST_SIDE (suc w) b, le-ltb LONGEST_SIDE (suc h) d) refl

rows_of_page : (page : Page) → repeated (raw_row page.width) page.height (rows_text page) ≡ Takes false (map (pixels_of page) (range_with_len 0 page.height)) []
unfolding pixels_of row_of
rows_of_page page =
    let ks : List ℕ = range_with_len 0 page.height in
    let f : ℕ → List ℕ = λ k. row_text page.width (λ x. image_of page x (page.height - suc k)) in
    subst (λ n. repeated (raw_row page.width) n (rows_text page) ≡ Takes false (map (pixels_of page) ks) []) (length-range_with_len 0 page.height)
    (ap (repeated (raw_row page.width) (length ks)) (sym (append-nil (rows_text page)))
    ∙ rows_read page.width f ks [] (λ k. length-map-range_with_len (λ j. byte_from (λ x. image_of page x (page.height - suc k)) (8 * j)) 0 ((page.width + 7) / 8)))

page_read : (page : Page) → IsPage page → page_at false (80 ∷ 52 ∷ 10 ∷ (decimal page.width ++ (32 ∷ (decimal page.height ++ (10 ∷ rows_text page))))) ≡ Takes false (raw_of page) []
unfolding raw_of
page_read page is_page =
    let w : ℕ = page.width in
    let h : ℕ = page.height in
    let raw : Raw = raw_of page in
    let rows : List ℕ = rows_text page in
    let behind : List ℕ = 10 ∷ (decimal w ++ (32 ∷ (decimal h ++ (10 ∷ rows)))) in
    let bytes : List ℕ = 80 ∷ 52 ∷ behind in
    bind_takes (spaces bytes) (λ _ rest. magic false rest >>= λ m rest. body m rest) [] raw bytes [] refl
    (bind_takes (magic false bytes) (λ m rest. body m rest) RawBits raw behind [] refl
    (bind_takes (sides behind) (λ s rest. space rest >>= λ _ rest. rows_raster (λ b. Bit b) (raw_row s.0) s.0 s.1 rest) (w, h) raw (10 ∷ rows) []
    (sides_read w h rows is_page.some_width (omega (arith, is_page.most_width)) is_page.some_height (omega (arith, is_page.most_height))
    (checked_page w h (10 ∷ rows) is_page.some_width is_page.most_width is_page.some_height is_page.most_height))
    (bind_takes (space (10 ∷ rows)) (λ _ rest. rows_raster (λ b. Bit b) (raw_row w) w h rest) (10 ∷ []) raw rows [] refl
    (bind_takes (repeated (raw_row w) h rows) (λ found rest. Takes false (entries_page (λ b. Bit b) w h found) rest) (map (pixels_of page) (range_with_len 0 h)) raw [] []
    (rows_of_page page) refl))))

pub front_of : (page : Page) → IsPage page → front false (pbm_text page) ≡ PageOf (raw_of page) (length (pbm_text page))
front_of page is_page =
    let all : ℕ = length (pbm_text page) in
    ap (answer_of (pbm_text page)) (ap (page_at false) (text_is page) ∙ page_read page is_page)
    ∙ ap (PageOf (raw_of page)) (let none : all - 0 ≡ all = omega arith in none)

undone : (level : ℕ) (l : List Bool) → map (black level false) (map (λ b. Bit b) l) ≡ l
undone level [] = refl
undone level (b ∷ bs) = ap (λ l. b ∷ l) (undone level bs)

picture : (level : ℕ) (page : Page) (x y : ℕ) → x < page.width → y < page.height → picture_of level false (raw_of page) x y ≡ image_of page x y
unfolding raw_of pixels_of row_of
picture level page x y hx hy =
    let w : ℕ = page.width in
    let h : ℕ = page.height in
    let k : ℕ = h - suc y in
    let inside : nat_lt y h ≡ true = lt-ltb y h hy in
    let back : h - suc k ≡ y = omega arith in
    let row : ℕ → Bool = λ u. image_of page u (h - suc k) in
    let entry : List Bool → List Entry = map (λ b. Bit b) in
    let found : get_or (map entry (map (pixels_of page) (range_with_len 0 h))) k [] ≡ entry (pixels_of page k) =
    get_or-map entry (map (pixels_of page) (range_with_len 0 h)) k [] [] (omega (arith, length-map-range_with_len (pixels_of page) 0 h)) ∙ ap entry (get_or-map-range_with_len (pixels_of page) 0 h k k [] (omega arith) (omega arith)) in
    ap (λ t. cond t (get_or (map (black level false) (get_or (raw_of page).rows k [])) x false) false) inside
    ∙ ap (λ l. get_or (map (black level false) l) x false) found
    ∙ ap (λ l. get_or l x false) (undone level (pixels_of page k))
    ∙ get_or-take w (unpacked (row_text w row)) x false hx
    ∙ unpacked_at row ((w + 7) / 8) 0 x (omega arith)
    ∙ ap row (let same : 8 * 0 + x ≡ x = omega arith in same)
    ∙ ap (image_of page x) back

pub shown_is : (level : ℕ) (page : Page) → IsPage page → page ≡ shown level false (raw_of page)
unfolding raw_of
shown_is level page is_page =
    sym (page_of-image_of page is_page)
    ∙ page_of-same page.width page.height (image_of page) (picture_of level false (raw_of page)) is_page.some_width is_page.most_width is_page.some_height is_page.most_height
    (λ x y hx hy. sym (picture level page x y hx hy))
