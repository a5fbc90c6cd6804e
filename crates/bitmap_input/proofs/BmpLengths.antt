-- The number of bytes that each part of a BMP picture takes.
use Rattle.std.proofs.Common.{◌≡◌, refl, ℕ, zero, suc, ◌+◌, ◌-◌, ◌*◌, ◌≤◌, ◌<◌, Bool, true, false, cond, ◌||◌, List, [], ◌∷◌, ◌++◌, length, map, take, drop, arith, ap, sym, ◌∙◌, subst}
use Rattle.std.specs.Prelude.{nat_eq, nat_lt, nat_le}
use Rattle.std.specs.List.{range_with_len}
use Rattle.std.proofs.lemmas.List.{length-append, length-take-le, length-drop}
use Rattle.std.proofs.lemmas.Bool.{ltb-false, leb-true, eqb-true, both_ways}
use Rattle.std.proofs.lemmas.Bool.Decides.{nat_tests}
use Rattle.std.proofs.Math.ListN.{get_or-append}
use Rattle.bitmap_input.specs.Cut.{Kind, FileEnd, Cut, after, ◌>>=◌}
use Rattle.bitmap_input.specs.Inner.Behind.{counted}
use Rattle.bitmap_input.specs.Cut.Kind.{BmpKind, BadOffset, Truncated, ZeroSide, TooLarge}
use Rattle.bitmap_input.specs.Cut.FileEnd.{Refused}
use Rattle.bitmap_input.specs.Cut.Cut.{Takes, Stops}
use Rattle.bitmap_input.specs.PageParts.{is_zero, block, repeated}
use Rattle.bitmap_input.specs.Sides.{checked}
use Rattle.bitmap_input.specs.Raw.{Raw}
use Rattle.bitmap_input.specs.BmpHeader.{byte_at, two_at, four_at, header_size, is_short, bits, has_masks, is_known_size, is_known_kind, mask_bytes, has_known_colors, width, height, pixel_offset, palette_bytes, palette_end, row_length, palette_length, color_bytes, file_size}
use Rattle.bitmap_input.specs.Inner.BmpHeader.{rows_end}
use Rattle.bitmap_input.specs.BmpRaster.{palette_color, pixel_in, bmp_row, picture, raster}
use Rattle.bitmap_input.specs.Bmp.{passes, start, info, masks, placed, header, bmp}
use Rattle.bitmap_input.specs.Inner.BmpHead.{HasInfo, IsHeaderStart, IsInfo, IsWholeHeader}
use Rattle.bitmap_input.proofs.RasterPages.{after_takes}
use Rattle.pt_core.specs.declared.limits.TheConstants.{LONGEST_SIDE}

-- if the cut takes bytes, its value and its rest meet P
abbrev pub Cuts : {A : Type 0} → (A → List ℕ → Type 0) → Cut A → Type 0
Cuts {A = A} P c = (e : Bool) (a : A) (rest : List ℕ) → c ≡ Takes e a rest → P a rest

pub cuts_bind : {A B : Type 0} (P : A → List ℕ → Type 0) (Q : B → List ℕ → Type 0) (c : Cut A) (g : A → List ℕ → Cut B) → Cuts P c →
    ((x : A) (rest : List ℕ) → P x rest → Cuts Q (g x rest)) → Cuts Q (c >>= g)
cuts_bind P Q (Takes d x mid) g first parts e b rest h =
    let p = after_takes d e (g x mid) b rest h in
    parts x mid (first d x mid refl) p.0 b rest p.1
cuts_bind P Q (Stops d ending) g first parts e b rest h = cc

pub cuts_take : {A : Type 0} (P : A → List ℕ → Type 0) (e : Bool) (x : A) (bytes : List ℕ) → P x bytes → Cuts P (Takes e x bytes)
cuts_take P e x bytes holds d b rest h =
    let same : x ≡ b = cc in
    let same_rest : bytes ≡ rest = cc in
    subst (P b) same_rest (subst (λ y. P y bytes) same holds)

pub cuts_passes : {A : Type 0} (P : A → List ℕ → Type 0) (kind : Kind) (t : Bool) (x : A) (bytes : List ℕ) → (t ≡ true → P x bytes) →
    Cuts P (passes kind t x bytes)
cuts_passes P kind true x bytes holds e a rest h = cuts_take P false x bytes (holds refl) e a rest h
cuts_passes P kind false x bytes holds e a rest h = cc

-- a block has its length
abbrev pub HasBlockLength : ℕ → List ℕ → List ℕ → List ℕ → Type 0
HasBlockLength n bytes xs rest = (length xs ≡ n) × (length bytes ≡ n + length rest)

block_taken : (t : Bool) (n : ℕ) (bytes : List ℕ) → nat_lt (length bytes) n ≡ t →
    Cuts (HasBlockLength n bytes) (cond t (Stops true (Refused Truncated)) (Takes false (take n bytes) (drop n bytes)))
block_taken true n bytes test e a rest h = cc
block_taken false n bytes test e a rest h =
    let within : n ≤ length bytes = ltb-false (length bytes) n test in
    cuts_take (HasBlockLength n bytes) false (take n bytes) (drop n bytes) (length-take-le n bytes within, omega (arith, length-drop n bytes)) e a rest h

pub cuts_block : (n : ℕ) (bytes : List ℕ) → Cuts (HasBlockLength n bytes) (block n bytes)
cuts_block n bytes = block_taken (nat_lt (length bytes) n) n bytes refl

-- n times a part that takes k bytes
pub cuts_times : {A : Type 0} (part : List ℕ → Cut A) (k : ℕ) → ((bytes : List ℕ) → Cuts (λ _ rest. length bytes ≡ k + length rest) (part bytes)) →
    (n : ℕ) (bytes : List ℕ) → Cuts (λ _ rest. length bytes ≡ n * k + length rest) (repeated part n bytes)
cuts_times part k each zero bytes =
    cuts_take (λ _ rest. length bytes ≡ 0 * k + length rest) false [] bytes (omega arith)
cuts_times part k each (suc n) bytes =
    cuts_bind (λ _ rest. length bytes ≡ k + length rest) (λ _ rest. length bytes ≡ suc n * k + length rest) (part bytes)
    (λ x rest. repeated part n rest >>= λ xs rest. Takes false (x ∷ xs) rest) (each bytes)
    (λ x mid one. cuts_bind (λ _ rest. length mid ≡ n * k + length rest) (λ _ rest. length bytes ≡ suc n * k + length rest) (repeated part n mid)
    (λ xs rest. Takes false (x ∷ xs) rest) (cuts_times part k each n mid)
    (λ xs rest more. cuts_take (λ _ rest. length bytes ≡ suc n * k + length rest) false (x ∷ xs) rest (omega arith)))

-- The numbers of a header stay the same when bytes are added to it.

byte_at-append : (head more : List ℕ) (place : ℕ) → place < length head + 2 → 2 ≤ place → byte_at (head ++ more) place ≡ byte_at head place
unfolding byte_at
byte_at-append head more place within some = get_or-append head more 0 (place - 2) (omega arith)

pub two_at-append : (head more : List ℕ) (place : ℕ) → place + 1 < length head + 2 → 2 ≤ place → two_at (head ++ more) place ≡ two_at head place
unfolding two_at
two_at-append head more place within some =
    rw (byte_at-append head more place (omega arith) some, byte_at-append head more (place + 1) within (omega arith)) refl

pub four_at-append : (head more : List ℕ) (place : ℕ) → place + 3 < length head + 2 → 2 ≤ place → four_at (head ++ more) place ≡ four_at head place
unfolding four_at
four_at-append head more place within some =
    rw (two_at-append head more place (omega arith) some, two_at-append head more (place + 2) (omega arith) (omega arith)) refl

-- What is known of the header's bytes while they are read.

-- a known size is at least 12
known_size : (n : ℕ) → is_known_size n ≡ true → 12 ≤ n
known_size n h = grind (arith, nat_tests)

most_size : (n : ℕ) → is_known_size n ≡ true → n ≤ 124
most_size n h = grind (arith, nat_tests)

long_size : (n : ℕ) → is_known_size n ≡ true → nat_eq n 12 ≡ false → 40 ≤ n
long_size n h other = grind (arith, nat_tests)

roomy_size : (n : ℕ) → is_known_size n ≡ true → nat_eq n 12 ≡ false → nat_eq n 40 ≡ false → 52 ≤ n
roomy_size n h other other2 = grind (arith, nat_tests)

pub info_has : (head : List ℕ) → IsInfo head → HasInfo head
info_has head is =
    let known : is_known_size (header_size head) ≡ true = is.known in
    record { within = omega (arith, is.reach); least = known_size (header_size head) known; most = most_size (header_size head) known; long = long_size (header_size head) known }

pub whole_has : (head : List ℕ) → IsWholeHeader head → HasInfo head
whole_has head is =
    let known : is_known_size (header_size head) ≡ true = is.known in
    record { within = omega (arith, is.reach); least = known_size (header_size head) known; most = most_size (header_size head) known; long = long_size (header_size head) known }

pub info_grown : (head more : List ℕ) → IsHeaderStart head → length more ≡ header_size head - 4 → IsInfo (head ++ more)
info_grown head more begun len_more =
    let len : length head ≡ 16 = begun.reach in
    let same : header_size (head ++ more) ≡ header_size head = four_at-append head more 14 (omega arith) (omega arith) in
    let least : 12 ≤ header_size head = known_size (header_size head) begun.known in
    let whole : length (head ++ more) ≡ 12 + header_size head = omega (arith, length-append head more) in
    record { reach = rw same whole; known = rw same begun.known }

same_masks : (t : Bool) (head more : List ℕ) → nat_eq (header_size head) 40 ≡ t → length head ≡ 12 + header_size head → 12 ≤ header_size head →
    mask_bytes (head ++ more) ≡ mask_bytes head
same_masks false head more test len least =
    let same : header_size (head ++ more) ≡ header_size head = four_at-append head more 14 (omega arith) (omega arith) in rw (same, test) refl
same_masks true head more test len least =
    let size : header_size head ≡ 40 = eqb-true (header_size head) 40 test in
    let same : header_size (head ++ more) ≡ header_size head = four_at-append head more 14 (omega arith) (omega arith) in
    let kind : four_at (head ++ more) 30 ≡ four_at head 30 = four_at-append head more 30 (omega arith) (omega arith) in
    rw (same, kind) refl

pub masks_grown : (head more : List ℕ) → IsInfo head → length more ≡ mask_bytes head → IsWholeHeader (head ++ more)
masks_grown head more begun len_more =
    let len : length head ≡ 12 + header_size head = begun.reach in
    let least : 12 ≤ header_size head = known_size (header_size head) begun.known in
    let same : header_size (head ++ more) ≡ header_size head = four_at-append head more 14 (omega arith) (omega arith) in
    let masks_same : mask_bytes (head ++ more) ≡ mask_bytes head = same_masks (nat_eq (header_size head) 40) head more refl len least in
    record { reach = length-append head more ∙ rw (masks_same, same, len, len_more) refl; known = rw same begun.known }

bits_same : (t : Bool) (head more : List ℕ) → is_short head ≡ t → HasInfo head → bits (head ++ more) ≡ bits head
bits_same true head more test has =
    let within : 12 + header_size head ≤ length head = has.within in
    let least : 12 ≤ header_size head = has.least in
    let same : header_size (head ++ more) ≡ header_size head = four_at-append head more 14 (omega arith) (omega arith) in
    let field : two_at (head ++ more) 24 ≡ two_at head 24 = two_at-append head more 24 (omega arith) (omega arith) in
    rw (same, test) field
bits_same false head more test has =
    let within : 12 + header_size head ≤ length head = has.within in
    let long : 40 ≤ header_size head = has.long test in
    let same : header_size (head ++ more) ≡ header_size head = four_at-append head more 14 (omega arith) (omega arith) in
    let field : two_at (head ++ more) 28 ≡ two_at head 28 = two_at-append head more 28 (omega arith) (omega arith) in
    rw (same, test) field

-- a header of 40 bytes is followed by its masks, and a longer one contains them
masked_size : (t : Bool) (head : List ℕ) → nat_eq (header_size head) 40 ≡ t → IsWholeHeader head → is_short head ≡ false → has_masks head ≡ true → 64 ≤ length head
masked_size true head test is long masked =
    let size : header_size head ≡ 40 = eqb-true (header_size head) 40 test in
    let twelve : mask_bytes head ≡ 12 = rw (test, masked) refl in
    omega (arith, is.reach, twelve)
masked_size false head test is long masked =
    let known : is_known_size (header_size head) ≡ true = is.known in
    let room = roomy_size (header_size head) known long test in
    omega (arith, is.reach, room)

masked_at : (t : Bool) (head : List ℕ) → IsWholeHeader head → is_short head ≡ t → has_masks head ≡ true → 64 ≤ length head
masked_at true head is test masked = let plain : has_masks head ≡ false = rw test refl in absurd (both_ways (has_masks head) plain masked)
masked_at false head is test masked = masked_size (nat_eq (header_size head) 40) head refl is test masked

-- the fields stay the same when the masks are added
pub bits_grown : (head more : List ℕ) → HasInfo head → bits (head ++ more) ≡ bits head
bits_grown head more has = bits_same (is_short head) head more refl has

-- The fields that a whole header contains.

pub masks_within : (head : List ℕ) → IsWholeHeader head → has_masks head ≡ true → 64 ≤ length head
masks_within head is masked = masked_at (is_short head) head is refl masked

-- The parts of the header, and what they leave.

cuts_start : (bytes : List ℕ) → Cuts (λ head rest. IsHeaderStart head × (length bytes ≡ length head + length rest)) (start bytes)
cuts_start bytes =
    cuts_bind (HasBlockLength 16 bytes) (λ head rest. IsHeaderStart head × (length bytes ≡ length head + length rest)) (block 16 bytes)
    (λ head rest. passes BmpKind (is_known_size (header_size head)) head rest) (cuts_block 16 bytes)
    (λ head rest is. cuts_passes (λ head rest. IsHeaderStart head × (length bytes ≡ length head + length rest)) BmpKind (is_known_size (header_size head)) head rest
    (λ known. (record { reach = is.0; known = known }, omega (arith, is.0, is.1))))

cuts_info : (head bytes : List ℕ) → IsHeaderStart head → Cuts (λ whole rest. IsInfo whole × (length head + length bytes ≡ length whole + length rest)) (info head bytes)
cuts_info head bytes begun =
    cuts_bind (HasBlockLength (header_size head - 4) bytes) (λ whole rest. IsInfo whole × (length head + length bytes ≡ length whole + length rest)) (block (header_size head - 4) bytes)
    (λ more rest. passes BmpKind (is_known_kind (head ++ more)) (head ++ more) rest) (cuts_block (header_size head - 4) bytes)
    (λ more rest is. cuts_passes (λ whole rest. IsInfo whole × (length head + length bytes ≡ length whole + length rest)) BmpKind (is_known_kind (head ++ more)) (head ++ more) rest
    (λ _. (info_grown head more begun is.0, omega (arith, is.0, is.1, length-append head more))))

cuts_masks : (head bytes : List ℕ) → IsInfo head → Cuts (λ whole rest. IsWholeHeader whole × (length head + length bytes ≡ length whole + length rest)) (masks head bytes)
cuts_masks head bytes begun =
    cuts_bind (HasBlockLength (mask_bytes head) bytes) (λ whole rest. IsWholeHeader whole × (length head + length bytes ≡ length whole + length rest)) (block (mask_bytes head) bytes)
    (λ more rest. passes BmpKind (has_known_colors (head ++ more)) (head ++ more) rest) (cuts_block (mask_bytes head) bytes)
    (λ more rest is. cuts_passes (λ whole rest. IsWholeHeader whole × (length head + length bytes ≡ length whole + length rest)) BmpKind (has_known_colors (head ++ more)) (head ++ more) rest
    (λ _. (masks_grown head more begun is.0, omega (arith, is.0, is.1, length-append head more))))

cuts_cond : {A : Type 0} (P : A → List ℕ → Type 0) (t : Bool) (c d : Cut A) → Cuts P c → Cuts P d → Cuts P (cond t c d)
cuts_cond P true c d first second = first
cuts_cond P false c d first second = second

cuts_stop : {A : Type 0} (P : A → List ℕ → Type 0) (e : Bool) (ending : FileEnd) → Cuts P (Stops e ending)
cuts_stop P e ending d a rest h = cc

cuts_checked : (w h : ℕ) (bytes : List ℕ) → Cuts (λ _ rest. length rest ≡ length bytes) (checked w h bytes)
cuts_checked w h bytes =
    cuts_cond (λ _ rest. length rest ≡ length bytes) (is_zero w || is_zero h) (Stops false (Refused ZeroSide))
    (cond (nat_lt LONGEST_SIDE w || nat_lt LONGEST_SIDE h) (Stops false (Refused TooLarge)) (Takes false (w, h) bytes))
    (cuts_stop (λ _ rest. length rest ≡ length bytes) false (Refused ZeroSide))
    (cuts_cond (λ _ rest. length rest ≡ length bytes) (nat_lt LONGEST_SIDE w || nat_lt LONGEST_SIDE h) (Stops false (Refused TooLarge)) (Takes false (w, h) bytes)
    (cuts_stop (λ _ rest. length rest ≡ length bytes) false (Refused TooLarge)) (cuts_take (λ _ rest. length rest ≡ length bytes) false (w, h) bytes refl))

-- the header is whole, and its pixels begin after its palette
abbrev pub HasPlacedPixels : List ℕ → Type 0
HasPlacedPixels head = IsWholeHeader head × (palette_end head ≤ pixel_offset head)

cuts_placed : (head bytes : List ℕ) → IsWholeHeader head → Cuts (λ whole rest. HasPlacedPixels whole × (length head + length bytes ≡ length whole + length rest)) (placed head bytes)
cuts_placed head bytes begun =
    cuts_bind (λ _ rest. length rest ≡ length bytes) (λ whole rest. HasPlacedPixels whole × (length head + length bytes ≡ length whole + length rest)) (checked (width head) (height head) bytes)
    (λ _ rest. passes BadOffset (nat_le (palette_end head) (pixel_offset head)) head rest) (cuts_checked (width head) (height head) bytes)
    (λ _ rest is. cuts_passes (λ whole rest. HasPlacedPixels whole × (length head + length bytes ≡ length whole + length rest)) BadOffset (nat_le (palette_end head) (pixel_offset head)) head rest
    (λ behind. ((begun, leb-true (palette_end head) (pixel_offset head) behind), ap (λ n. length head + n) (sym is))))

pub cuts_header : (bytes : List ℕ) → Cuts (λ head rest. HasPlacedPixels head × (length bytes ≡ length head + length rest)) (header bytes)
cuts_header bytes =
    let P = λ (head rest : List ℕ). HasPlacedPixels head × (length bytes ≡ length head + length rest) in
    cuts_bind (λ head rest. IsHeaderStart head × (length bytes ≡ length head + length rest)) P (start bytes)
    (λ head rest. info head rest >>= λ head rest. masks head rest >>= λ head rest. placed head rest) (cuts_start bytes)
    (λ head rest is. cuts_bind (λ whole left. IsInfo whole × (length head + length rest ≡ length whole + length left)) P (info head rest)
    (λ head rest. masks head rest >>= λ head rest. placed head rest) (cuts_info head rest is.0)
    (λ head2 rest2 is2. cuts_bind (λ whole left. IsWholeHeader whole × (length head2 + length rest2 ≡ length whole + length left)) P (masks head2 rest2)
    placed (cuts_masks head2 rest2 is2.0)
    (λ head3 rest3 is3 e head4 rest4 h.
    let is4 = cuts_placed head3 rest3 is3.0 e head4 rest4 h in
    (is4.0, is.1 ∙ is2.1 ∙ is3.1 ∙ is4.1))))

-- The rows end at the offset that the header gives.

sum_of_parts : (n a b c r r2 r3 : ℕ) → n ≡ a + r → r ≡ b + r2 → r2 ≡ c + r3 → n ≡ a + b + c + r3
sum_of_parts n a b c r r2 r3 h h2 h3 = omega arith

cuts_row_of : (head palette bytes : List ℕ) → Cuts (λ _ rest. length bytes ≡ row_length head + length rest) (bmp_row head palette bytes)
cuts_row_of head palette bytes =
    cuts_bind (HasBlockLength (row_length head) bytes) (λ _ rest. length bytes ≡ row_length head + length rest) (block (row_length head) bytes)
    (λ row rest. Takes false (map (pixel_in (bits head) (palette_color (palette_length head) (color_bytes head) palette) row) (range_with_len 0 (width head))) rest) (cuts_block (row_length head) bytes)
    (λ row rest is. cuts_take (λ _ rest. length bytes ≡ row_length head + length rest) false (map (pixel_in (bits head) (palette_color (palette_length head) (color_bytes head) palette) row) (range_with_len 0 (width head))) rest is.1)

pub cuts_raster : (head bytes : List ℕ) →
    Cuts (λ raw rest. (raw.least_length ≡ file_size head)
    × (length bytes ≡ palette_bytes head + (pixel_offset head - palette_end head) + height head * row_length head + length rest)) (raster head bytes)
cuts_raster head bytes =
    let Q = λ (raw : Raw) (rest : List ℕ). (raw.least_length ≡ file_size head) × (length bytes ≡ palette_bytes head + (pixel_offset head - palette_end head) + height head * row_length head + length rest) in
    cuts_bind (HasBlockLength (palette_bytes head) bytes) Q (block (palette_bytes head) bytes)
    (λ palette rest. block (pixel_offset head - palette_end head) rest >>= λ _ rest. repeated (bmp_row head palette) (height head) rest >>= λ rows rest. Takes false (picture head rows) rest)
    (cuts_block (palette_bytes head) bytes)
    (λ palette rest is. cuts_bind (HasBlockLength (pixel_offset head - palette_end head) rest) Q (block (pixel_offset head - palette_end head) rest)
    (λ _ rest. repeated (bmp_row head palette) (height head) rest >>= λ rows rest. Takes false (picture head rows) rest)
    (cuts_block (pixel_offset head - palette_end head) rest)
    (λ gap rest2 is2. cuts_bind (λ _ left. length rest2 ≡ height head * row_length head + length left) Q (repeated (bmp_row head palette) (height head) rest2)
    (λ rows rest. Takes false (picture head rows) rest)
    (cuts_times (bmp_row head palette) (row_length head) (cuts_row_of head palette) (height head) rest2)
    (λ rows rest3 is3. cuts_take Q false (picture head rows) rest3
    (refl, sum_of_parts (length bytes) (palette_bytes head) (pixel_offset head - palette_end head) (height head * row_length head) (length rest) (length rest2) (length rest3) is.1 is2.1 is3))))

-- The whole picture.

or_no : (d e : Bool) → (d || (e || false)) ≡ (d || e)
or_no true e = refl
or_no false true = refl
or_no false false = refl

-- the number of bytes after the magic number; the end of the rows counts from the magic number's first byte
taken_in_all : (n l r2 r3 size masks colors offset rows : ℕ) → l ≡ 12 + size + masks → 14 + size + masks + colors ≤ offset → n ≡ l + r2 →
    r2 ≡ colors + (offset - (14 + size + masks + colors)) + rows + r3 → n - r3 ≡ offset + rows - 2
taken_in_all n l r2 r3 size masks colors offset rows len behind first second = omega arith

rows_counted : {A : Type 0} (d : Bool) (bytes : List ℕ) (head : List ℕ) (k : ℕ) (c : Cut A) →
    ((e : Bool) (a : A) (rest : List ℕ) → c ≡ Takes e a rest → length bytes - length rest ≡ k) →
    after d (c >>= λ raw rest. Takes false (raw, k) rest) ≡ counted bytes (after d c)
rows_counted d bytes head k (Stops e ending) taken = refl
rows_counted d bytes head k (Takes e a rest) taken = rw (taken e a rest refl, or_no d e) refl

picture_counted : (bytes : List ℕ) (c : Cut (List ℕ)) → Cuts (λ head rest. HasPlacedPixels head × (length bytes ≡ length head + length rest)) c →
    (c >>= λ head rest. raster head rest >>= λ raw rest. Takes false (raw, rows_end head - 2) rest) ≡ counted bytes (c >>= λ head rest. raster head rest)
picture_counted bytes (Stops e ending) cuts = refl
picture_counted bytes (Takes d head mid) cuts =
    let is = cuts d head mid refl in
    rows_counted d bytes head (rows_end head - 2) (raster head mid)
    (λ e raw rest h.
    let taken = cuts_raster head mid e raw rest h in
    taken_in_all (length bytes) (length head) (length mid) (length rest) (header_size head) (mask_bytes head) (palette_bytes head) (pixel_offset head) (height head * row_length head)
    is.0.0.reach is.0.1 is.1 taken.1)

-- the picture with the number of bytes that it takes after its magic number
pub bmp_counted : (bytes : List ℕ) →
    (header bytes >>= λ head rest. raster head rest >>= λ raw rest. Takes false (raw, rows_end head - 2) rest) ≡ counted bytes (bmp bytes)
bmp_counted bytes = picture_counted bytes (header bytes) (cuts_header bytes)
