-- What a page takes are the bytes of its parts, one after another.
use Rattle.std.proofs.Common.{◌≡◌, refl, ℕ, zero, suc, ◌-◌, ◌*◌, ◌≤◌, inl, inr, Bool, true, false, cond, ◌||◌, List, [], ◌∷◌, ◌++◌, length, take, drop, map, arith, ap, sym, ◌∙◌, subst, append_assoc, append-nil, Some, None, Option}
use Rattle.std.specs.Prelude.{nat_eq, nat_lt, nat_le}
use Rattle.std.specs.List.{range_with_len}
use Rattle.std.proofs.lemmas.List.{length-append, length-take-le, take-append-drop}
use Rattle.std.proofs.lemmas.Bool.{ltb-false, eqb-true}
use Rattle.std.proofs.Math.Seq.{take-append_seam}
use Rattle.bitmap_input.specs.Cut.{Kind, FileEnd, Cut, ◌>>=◌}
use Rattle.bitmap_input.specs.Cut.Kind.{BadHeader, BadRaster, Truncated, TooLong, ZeroSide, TooLarge, UnknownFormat, BmpKind, BadOffset}
use Rattle.bitmap_input.specs.Cut.FileEnd.{End, Trailing, Refused}
use Rattle.bitmap_input.specs.Cut.Cut.{Takes, Stops}
use Rattle.bitmap_input.specs.PageParts.{longest, is_zero, is_empty, is_space, is_digit, run_length, gap_length, missing, run_of, spaces, gap, some_gap, value, number, number_behind_gap, space, pixel, block, repeated}
use Rattle.bitmap_input.specs.Sets.{AllBytes, IsGap}
use Rattle.bitmap_input.specs.Sides.{checked}
use Rattle.bitmap_input.specs.Raw.{Raw, Entry, entries_page, row_bytes, unpacked}
use Rattle.bitmap_input.specs.Raw.Entry.{Bit}
use Rattle.bitmap_input.specs.BmpHeader.{header_size, is_known_size, is_known_kind, mask_bytes, has_known_colors, width, height, pixel_offset, palette_bytes, palette_end, palette_length, color_bytes, row_length, bits}
use Rattle.bitmap_input.specs.BmpRaster as bmp_raster
use Rattle.bitmap_input.specs.BmpRaster.{palette_color, pixel_in}
use Rattle.bitmap_input.specs.Bmp.{passes, start, info, masks, placed, header}
use Rattle.bitmap_input.specs.Front.{Magic, no_magic, magic_of_name, magic_named, magic_behind, magic, sides, greatest_maxval, checked_maxval, maxval, plain_pixel, raw_row, rows_raster, body, page_at, answer_of, front}
use Rattle.bitmap_input.specs.Samples.{samples_in, as_entry, plain_sample, plain_samples, is_wide, sample_bytes, samples, grouped, raw_samples_row}
use Rattle.bitmap_input.specs.declared.channels.Channels.{Channels}
use Rattle.bitmap_input.specs.declared.channels.Channels.TheVariants.{Gray, Color}
use Rattle.bitmap_input.specs.Front.Answer.{Page}
use Rattle.bitmap_input.specs.Front.Magic.{PlainBits, RawBits, PlainSamples, RawSamples, Picture}
use Rattle.bitmap_input.specs.PageText.{IsJoined, IsRepeated, IsBlock, IsSpace, IsSomeGap, IsNumber, IsNumberBehindGap, AreSides, IsPixel, IsPlainPixel, IsPlainSample, ArePlainSamples, IsMagic, IsBody, IsPageText}
use Rattle.bitmap_input.proofs.RasterPages.{after_takes}
use Rattle.bitmap_input.proofs.Bytes.{run_length-le, gap_length-le}
use Rattle.bitmap_input.proofs.Longest.{run_is_run, gap_is_gap}
use Rattle.pt_core.specs.declared.limits.TheConstants.{LONGEST_SIDE}

-- the bytes that the cut takes for a value belong to the value's set
abbrev Spells : {A : Type 0} → (A → List ℕ → Type 0) → List ℕ → Cut A → Type 0
Spells {A = A} S bytes c = (e : Bool) (a : A) (rest : List ℕ) → c ≡ Takes e a rest → (taken : List ℕ) × (bytes ≡ taken ++ rest) × S a taken

spells_take : {A : Type 0} (S : A → List ℕ → Type 0) (bytes : List ℕ) (e : Bool) (a : A) (rest taken : List ℕ) → bytes ≡ taken ++ rest → S a taken →
    Spells S bytes (Takes e a rest)
spells_take S bytes e a rest taken split is d b rest2 h =
    let same : rest ≡ rest2 = cc in
    let value_same : a ≡ b = cc in
    (taken, split ∙ ap (λ xs. taken ++ xs) same, subst (λ x. S x taken) value_same is)

spells_stop : {A : Type 0} (S : A → List ℕ → Type 0) (bytes : List ℕ) (e : Bool) (ending : FileEnd) → Spells S bytes (Stops e ending)
spells_stop S bytes e ending d a rest h = cc

spells_if : {A : Type 0} (S : A → List ℕ → Type 0) (bytes : List ℕ) (t : Bool) (c d : Cut A) → (t ≡ true → Spells S bytes c) → (t ≡ false → Spells S bytes d) →
    Spells S bytes (cond t c d)
spells_if S bytes true c d first second = first refl
spells_if S bytes false c d first second = second refl

-- one part after another
spells_bind : {A B : Type 0} (S : A → List ℕ → Type 0) (T : A → B → List ℕ → Type 0) (U : B → List ℕ → Type 0) (bytes : List ℕ) (c : Cut A) (g : A → List ℕ → Cut B) →
    Spells S bytes c → ((x : A) (rest : List ℕ) → Spells (T x) rest (g x rest)) →
    ((x : A) (y : B) (one two : List ℕ) → S x one → T x y two → U y (one ++ two)) → Spells U bytes (c >>= g)
spells_bind S T U bytes (Takes d x mid) g first parts join e b rest h =
    let p = after_takes d e (g x mid) b rest h in
    let one = first d x mid refl in
    let two = parts x mid p.0 b rest p.1 in
    (one.0 ++ two.0, one.1 ∙ ap (λ xs. one.0 ++ xs) two.1 ∙ sym (append_assoc one.0 two.0 rest), join x b one.0 two.0 one.2 two.2)
spells_bind S T U bytes (Stops d ending) g first parts join e b rest h = cc

-- a part with a value that is turned into another one
spells_made : {A B : Type 0} (S : A → List ℕ → Type 0) (U : B → List ℕ → Type 0) (f : A → B) (bytes : List ℕ) (c : Cut A) → Spells S bytes c →
    ((x : A) (one : List ℕ) → S x one → U (f x) one) → Spells U bytes (c >>= λ x rest. Takes false (f x) rest)
spells_made S U f bytes c first made =
    spells_bind S (λ x y two. (two ≡ []) × (y ≡ f x)) U bytes c (λ x rest. Takes false (f x) rest) first
    (λ x rest. spells_take (λ y two. (two ≡ []) × (y ≡ f x)) rest false (f x) rest [] refl (refl, refl))
    (λ x y one two is last. subst (λ z. U z (one ++ two)) (sym last.1) (subst (U (f x)) (sym (ap (λ xs. one ++ xs) last.0 ∙ append-nil one)) (made x one is)))

-- the value is what was taken, and belongs to a set
abbrev Itself : (List ℕ → Type 0) → List ℕ → List ℕ → Type 0
Itself P x taken = (taken ≡ x) × P taken

spells_run : (P : List ℕ → Type 0) (n : ℕ) (bytes : List ℕ) → P (take n bytes) → Spells (Itself P) bytes (run_of n bytes)
spells_run P n bytes is =
    spells_if (Itself P) bytes (nat_lt longest n) (Stops false (Refused TooLong)) (Takes (is_empty (drop n bytes)) (take n bytes) (drop n bytes))
    (λ _. spells_stop (Itself P) bytes false (Refused TooLong))
    (λ _. spells_take (Itself P) bytes (is_empty (drop n bytes)) (take n bytes) (drop n bytes) (take n bytes) (sym (take-append-drop n bytes)) (refl, is))

spells_missing : {A : Type 0} (S : A → List ℕ → Type 0) (kind : Kind) (bytes : List ℕ) → Spells S bytes (missing kind bytes)
spells_missing S kind [] = spells_stop S [] true (Refused Truncated)
spells_missing S kind (b ∷ bs) = spells_stop S (b ∷ bs) false (Refused kind)

some_of : (n : ℕ) → is_zero n ≡ false → 1 ≤ n
some_of zero h = cc
some_of (suc n) h = omega arith

spells_some_gap : (kind : Kind) (bytes : List ℕ) → Spells (Itself IsSomeGap) bytes (some_gap kind bytes)
spells_some_gap kind bytes =
    spells_if (Itself IsSomeGap) bytes (is_zero (gap_length false bytes)) (missing kind bytes) (gap bytes)
    (λ _. spells_missing (Itself IsSomeGap) kind bytes)
    (λ some. spells_run IsSomeGap (gap_length false bytes) bytes
    (gap_is_gap bytes, omega (arith, some_of (gap_length false bytes) some, length-take-le (gap_length false bytes) bytes (gap_length-le false bytes))))

abbrev IsDigits : List ℕ → Type 0
IsDigits bytes = AllBytes is_digit bytes × (1 ≤ length bytes)

spells_number : (kind : Kind) (bytes : List ℕ) → Spells IsNumber bytes (number kind bytes)
spells_number kind bytes =
    spells_if IsNumber bytes (is_zero (run_length is_digit bytes)) (missing kind bytes)
    (run_of (run_length is_digit bytes) bytes >>= λ digits rest. Takes false (value 0 digits) rest)
    (λ _. spells_missing IsNumber kind bytes)
    (λ some. spells_made (Itself IsDigits) IsNumber (value 0) bytes (run_of (run_length is_digit bytes) bytes)
    (spells_run IsDigits (run_length is_digit bytes) bytes
    (run_is_run is_digit bytes, omega (arith, some_of (run_length is_digit bytes) some, length-take-le (run_length is_digit bytes) bytes (run_length-le is_digit bytes))))
    (λ x one is. (is.1.0, is.1.1, ap (value 0) is.0)))

-- bytes that are joined
joined : (P Q : List ℕ → Type 0) (one two : List ℕ) → P one → Q two → IsJoined P Q (one ++ two)
joined P Q one two is_one is_two = record { first = one; second = two; split = refl; is_first = is_one; is_second = is_two }

spells_number_behind_gap : (kind : Kind) (bytes : List ℕ) → Spells IsNumberBehindGap bytes (number_behind_gap kind bytes)
spells_number_behind_gap kind bytes =
    spells_bind (Itself IsSomeGap) (λ _. IsNumber) IsNumberBehindGap bytes (some_gap kind bytes) (λ _ rest. number kind rest) (spells_some_gap kind bytes)
    (λ _ rest. spells_number kind rest) (λ x n one two is number_is. joined IsSomeGap (IsNumber n) one two is.1 number_is)

spells_space : (bytes : List ℕ) → Spells (λ _. IsSpace) bytes (space bytes)
spells_space [] = spells_stop (λ _. IsSpace) [] true (Refused Truncated)
spells_space (b ∷ bs) =
    spells_if (λ _. IsSpace) (b ∷ bs) (is_space b) (Takes false (b ∷ []) bs) (Stops false (Refused BadHeader))
    (λ is. spells_take (λ _. IsSpace) (b ∷ bs) false (b ∷ []) bs (b ∷ []) refl (b, refl, is)) (λ _. spells_stop (λ _. IsSpace) (b ∷ bs) false (Refused BadHeader))

spells_pixel : (bytes : List ℕ) → Spells (λ _. IsPixel) bytes (pixel bytes)
spells_pixel [] = spells_stop (λ _. IsPixel) [] true (Refused Truncated)
spells_pixel (b ∷ bs) =
    spells_if (λ _. IsPixel) (b ∷ bs) (nat_eq b 48) (Takes false false bs) (cond (nat_eq b 49) (Takes false true bs) (Stops false (Refused BadRaster)))
    (λ is. spells_take (λ _. IsPixel) (b ∷ bs) false false bs (b ∷ []) refl (inl (ap (λ c. c ∷ []) (eqb-true b 48 is))))
    (λ _. spells_if (λ _. IsPixel) (b ∷ bs) (nat_eq b 49) (Takes false true bs) (Stops false (Refused BadRaster))
    (λ is. spells_take (λ _. IsPixel) (b ∷ bs) false true bs (b ∷ []) refl (inr (ap (λ c. c ∷ []) (eqb-true b 49 is)))) (λ _. spells_stop (λ _. IsPixel) (b ∷ bs) false (Refused BadRaster)))

spells_plain_pixel : (bytes : List ℕ) → Spells (λ _. IsPlainPixel) bytes (plain_pixel bytes)
spells_plain_pixel bytes =
    spells_bind (Itself IsGap) (λ _ _. IsPixel) (λ _. IsPlainPixel) bytes (gap bytes) (λ _ rest. pixel rest)
    (spells_run IsGap (gap_length false bytes) bytes (gap_is_gap bytes)) (λ _ rest. spells_pixel rest) (λ x b one two is pixel_is. joined IsGap IsPixel one two is.1 pixel_is)

spells_block : (n : ℕ) (bytes : List ℕ) → Spells (Itself (IsBlock n)) bytes (block n bytes)
spells_block n bytes =
    spells_if (Itself (IsBlock n)) bytes (nat_lt (length bytes) n) (Stops true (Refused Truncated)) (Takes false (take n bytes) (drop n bytes))
    (λ _. spells_stop (Itself (IsBlock n)) bytes true (Refused Truncated))
    (λ enough. spells_take (Itself (IsBlock n)) bytes false (take n bytes) (drop n bytes) (take n bytes) (sym (take-append-drop n bytes))
    (refl, length-take-le n bytes (ltb-false (length bytes) n enough)))

spells_times : {A : Type 0} (P : List ℕ → Type 0) (part : List ℕ → Cut A) → ((bytes : List ℕ) → Spells (λ _. P) bytes (part bytes)) → (n : ℕ) (bytes : List ℕ) →
    Spells (λ _. IsRepeated P n) bytes (repeated part n bytes)
spells_times P part spells zero bytes = spells_take (λ _. IsRepeated P zero) bytes false [] bytes [] refl refl
spells_times P part spells (suc n) bytes =
    spells_bind (λ _. P) (λ _ _. IsRepeated P n) (λ _. IsRepeated P (suc n)) bytes (part bytes) (λ x rest. repeated part n rest >>= λ xs rest. Takes false (x ∷ xs) rest) (spells bytes)
    (λ x mid. spells_made (λ _. IsRepeated P n) (λ _. IsRepeated P n) (λ xs. x ∷ xs) mid (repeated part n mid) (spells_times P part spells n mid) (λ xs one is. is))
    (λ x xs one two is rest_is. joined P (IsRepeated P n) one two is rest_is)

spells_no_magic : (S : Magic → List ℕ → Type 0) (bytes : List ℕ) (e later : Bool) → Spells S bytes (no_magic e later)
spells_no_magic S bytes e true = spells_stop S bytes e Trailing
spells_no_magic S bytes e false = spells_stop S bytes e (Refused UnknownFormat)

-- the second byte of a magic number, after the first one
abbrev IsSecond : ℕ → Magic → List ℕ → Type 0
IsSecond a m bytes = (b : ℕ) × (bytes ≡ b ∷ []) × (magic_named a b ≡ Some m)

spells_magic_of_name : (a b : ℕ) (bs : List ℕ) (later : Bool) (named : Option Magic) → magic_named a b ≡ named → Spells (IsSecond a) (b ∷ bs) (magic_of_name later named bs)
spells_magic_of_name a b bs later (Some m) is = spells_take (IsSecond a) (b ∷ bs) false m bs (b ∷ []) refl (b, refl, is)
spells_magic_of_name a b bs later None is = spells_no_magic (IsSecond a) (b ∷ bs) false later

spells_magic_behind : (later : Bool) (a : ℕ) (bytes : List ℕ) → Spells (IsSecond a) bytes (magic_behind later a bytes)
spells_magic_behind later a [] = spells_no_magic (IsSecond a) [] true later
spells_magic_behind later a (b ∷ bs) = spells_magic_of_name a b bs later (magic_named a b) refl

two_bytes : (a : ℕ) (bs : List ℕ) (c : Cut Magic) → Spells (IsSecond a) bs c → Spells IsMagic (a ∷ bs) c
two_bytes a bs c spells e m rest h =
    let s = spells e m rest h in
    (a ∷ s.0, ap (λ xs. a ∷ xs) s.1, (a, s.2.0, ap (λ xs. a ∷ xs) s.2.1, s.2.2))

spells_magic : (later : Bool) (bytes : List ℕ) → Spells IsMagic bytes (magic later bytes)
spells_magic true [] = spells_stop IsMagic [] true End
spells_magic false [] = spells_stop IsMagic [] true (Refused UnknownFormat)
spells_magic true (a ∷ bs) = two_bytes a bs (magic_behind true a bs) (spells_magic_behind true a bs)
spells_magic false (a ∷ bs) = two_bytes a bs (magic_behind false a bs) (spells_magic_behind false a bs)

-- a check that takes nothing
abbrev IsNothing : {A : Type 0} → A → A → List ℕ → Type 0
IsNothing x y bytes = (bytes ≡ []) × (y ≡ x)

spells_checked : (w h : ℕ) (bytes : List ℕ) → Spells (IsNothing (w, h)) bytes (checked w h bytes)
spells_checked w h bytes =
    spells_if (IsNothing (w, h)) bytes (is_zero w || is_zero h) (Stops false (Refused ZeroSide))
    (cond (nat_lt LONGEST_SIDE w || nat_lt LONGEST_SIDE h) (Stops false (Refused TooLarge)) (Takes false (w, h) bytes))
    (λ _. spells_stop (IsNothing (w, h)) bytes false (Refused ZeroSide))
    (λ _. spells_if (IsNothing (w, h)) bytes (nat_lt LONGEST_SIDE w || nat_lt LONGEST_SIDE h) (Stops false (Refused TooLarge)) (Takes false (w, h) bytes)
    (λ _. spells_stop (IsNothing (w, h)) bytes false (Refused TooLarge)) (λ _. spells_take (IsNothing (w, h)) bytes false (w, h) bytes [] refl (refl, refl)))

-- nothing more follows
and_nothing : (P : List ℕ → Type 0) (one two : List ℕ) → two ≡ [] → P one → P (one ++ two)
and_nothing P one two none is = subst P (sym (ap (λ xs. one ++ xs) none ∙ append-nil one)) is

abbrev IsPair : ℕ × ℕ → List ℕ → Type 0
IsPair s bytes = AreSides s.0 s.1 bytes

spells_sides : (bytes : List ℕ) → Spells IsPair bytes (sides bytes)
spells_sides bytes =
    spells_bind IsNumberBehindGap (λ w s two. (s.0 ≡ w) × IsNumberBehindGap s.1 two) IsPair bytes (number_behind_gap BadHeader bytes)
    (λ width rest. number_behind_gap BadHeader rest >>= λ height rest. checked width height rest) (spells_number_behind_gap BadHeader bytes)
    (λ w rest. spells_bind IsNumberBehindGap (λ h. IsNothing (w, h)) (λ s two. (s.0 ≡ w) × IsNumberBehindGap s.1 two) rest (number_behind_gap BadHeader rest)
    (λ height rest. checked w height rest) (spells_number_behind_gap BadHeader rest) (λ h rest. spells_checked w h rest)
    (λ h s one two is last. (
      ap (λ (p : ℕ × ℕ). p.0) last.1,
      subst (λ n. IsNumberBehindGap n (one ++ two)) (sym (ap (λ (p : ℕ × ℕ). p.1) last.1)) (and_nothing (IsNumberBehindGap h) one two last.0 is),
    )))
    (λ w s one two is both. joined (IsNumberBehindGap s.0) (IsNumberBehindGap s.1) one two (subst (λ n. IsNumberBehindGap n one) (sym both.0) is) both.1)

spells_maxval : (bytes : List ℕ) → Spells IsNumberBehindGap bytes (maxval bytes)
spells_maxval bytes =
    spells_bind IsNumberBehindGap (λ n. IsNothing n) IsNumberBehindGap bytes (number_behind_gap BadHeader bytes) (λ n rest. checked_maxval n rest)
    (spells_number_behind_gap BadHeader bytes)
    (λ n rest. spells_if (IsNothing n) rest (is_zero n || nat_lt greatest_maxval n) (Stops false (Refused BadHeader)) (Takes false n rest)
    (λ _. spells_stop (IsNothing n) rest false (Refused BadHeader)) (λ _. spells_take (IsNothing n) rest false n rest [] refl (refl, refl)))
    (λ n m one two is last. subst (λ k. IsNumberBehindGap k (one ++ two)) (sym last.1) (and_nothing (IsNumberBehindGap n) one two last.0 is))

-- rows as a page with these sides
abbrev IsRows : (List ℕ → Type 0) → ℕ → ℕ → Raw → List ℕ → Type 0
IsRows P w h raw bytes = (raw.width ≡ w) × (raw.height ≡ h) × IsRepeated P h bytes

spells_raster : {A : Type 0} (P : List ℕ → Type 0) (entry : A → Entry) (row : List ℕ → Cut (List A)) → ((bytes : List ℕ) → Spells (λ _. P) bytes (row bytes)) →
    (w h : ℕ) (bytes : List ℕ) → Spells (IsRows P w h) bytes (rows_raster entry row w h bytes)
spells_raster P entry row spells w h bytes =
    spells_made (λ _. IsRepeated P h) (IsRows P w h) (entries_page entry w h) bytes (repeated row h bytes) (spells_times P row spells h bytes) (λ rows one is. (refl, refl, is))

-- a row that is a block
spells_block_row : {A : Type 0} (n : ℕ) (f : List ℕ → A) (bytes : List ℕ) → Spells (λ _. IsBlock n) bytes (block n bytes >>= λ row rest. Takes false (f row) rest)
spells_block_row n f bytes = spells_made (Itself (IsBlock n)) (λ _. IsBlock n) f bytes (block n bytes) (spells_block n bytes) (λ row one is. is.1)

spells_plain_sample : (bytes : List ℕ) → Spells (λ _. IsPlainSample) bytes (plain_sample bytes)
spells_plain_sample bytes e v rest h = let s = spells_number_behind_gap BadRaster bytes e v rest h in (s.0, s.1, (v, s.2))

-- a sample, and what follows it
spells_first : {A : Type 0} (n : ℕ) (bytes : List ℕ) (g : ℕ → List ℕ → Cut A) → ((v : ℕ) (rest : List ℕ) → Spells (λ _. IsRepeated IsPlainSample n) rest (g v rest)) →
    Spells (λ _. IsRepeated IsPlainSample (suc n)) bytes (plain_sample bytes >>= g)
spells_first n bytes g parts =
    spells_bind (λ _. IsPlainSample) (λ _ _. IsRepeated IsPlainSample n) (λ _. IsRepeated IsPlainSample (suc n)) bytes (plain_sample bytes) g (spells_plain_sample bytes) parts
    (λ v a one two is rest. joined IsPlainSample (IsRepeated IsPlainSample n) one two is rest)

spells_plain_samples : (c : Channels) (bytes : List ℕ) → Spells (λ _. ArePlainSamples c) bytes (plain_samples c bytes)
spells_plain_samples Gray bytes = λ e v rest h.
    let s = spells_plain_sample bytes e v rest h in
    (s.0, s.1, record { first = s.0; second = []; split = sym (append-nil s.0); is_first = s.2; is_second = refl })
spells_plain_samples Color bytes =
    spells_first 2 bytes (λ r rest. plain_sample rest >>= λ g rest. plain_sample rest >>= λ b rest. Takes false (r, g, b) rest)
    (λ r rest. spells_first 1 rest (λ g rest. plain_sample rest >>= λ b rest. Takes false (r, g, b) rest)
    (λ g rest. spells_first 0 rest (λ b rest. Takes false (r, g, b) rest)
    (λ b rest. spells_take (λ _ taken. taken ≡ []) rest false (r, g, b) rest [] refl refl)))

-- What follows a magic number.

abbrev Rows : (ℕ → List ℕ → Type 0) → Raw → List ℕ → Type 0
Rows P raw bytes = IsRepeated (P raw.width) raw.height bytes

-- the sides, and what follows them
sides_and : (Q : Raw → List ℕ → Type 0) (s : ℕ × ℕ) (raw : Raw) (one two : List ℕ) → raw.width ≡ s.0 → raw.height ≡ s.1 → IsPair s one → Q raw two →
    IsJoined (AreSides raw.width raw.height) (Q raw) (one ++ two)
sides_and Q s raw one two wide high is rest = joined (AreSides raw.width raw.height) (Q raw) one two (rw (wide, high) is) rest

rows_of : (P : ℕ → List ℕ → Type 0) (w h : ℕ) (raw : Raw) (bytes : List ℕ) → IsRows (P w) w h raw bytes → Rows P raw bytes
rows_of P w h raw bytes is = rw (is.0, is.1) is.2

-- what follows the sides, for a page with these sides
abbrev Sided : (Raw → List ℕ → Type 0) → ℕ × ℕ → Raw → List ℕ → Type 0
Sided Q s raw bytes = (raw.width ≡ s.0) × (raw.height ≡ s.1) × Q raw bytes

spells_sided : (Q : Raw → List ℕ → Type 0) (bytes : List ℕ) (g : ℕ × ℕ → List ℕ → Cut Raw) → ((s : ℕ × ℕ) (rest : List ℕ) → Spells (Sided Q s) rest (g s rest)) →
    Spells (λ raw. IsJoined (AreSides raw.width raw.height) (Q raw)) bytes (sides bytes >>= g)
spells_sided Q bytes g parts =
    spells_bind IsPair (Sided Q) (λ raw. IsJoined (AreSides raw.width raw.height) (Q raw)) bytes (sides bytes) g (spells_sides bytes) parts
    (λ s raw one two is rest. sides_and Q s raw one two rest.0 rest.1 is rest.2)

spells_rows : {A : Type 0} (P : ℕ → List ℕ → Type 0) (entry : A → Entry) (row : ℕ → List ℕ → Cut (List A)) → ((w : ℕ) (bytes : List ℕ) → Spells (λ _. P w) bytes (row w bytes)) →
    (s : ℕ × ℕ) (bytes : List ℕ) → Spells (Sided (Rows P) s) bytes (rows_raster entry (row s.0) s.0 s.1 bytes)
spells_rows P entry row spells s bytes e raw rest h =
    let t = spells_raster (P s.0) entry (row s.0) (spells s.0) s.0 s.1 bytes e raw rest h in
    (t.0, t.1, (t.2.0, t.2.1, rows_of P s.0 s.1 raw t.0 t.2))

-- a part with any value, and what follows it
spells_behind : {A : Type 0} (P : List ℕ → Type 0) (Q : Raw → List ℕ → Type 0) (s : ℕ × ℕ) (bytes : List ℕ) (c : Cut A) (g : A → List ℕ → Cut Raw) → Spells (λ _. P) bytes c →
    ((x : A) (rest : List ℕ) → Spells (Sided Q s) rest (g x rest)) → Spells (Sided (λ raw. IsJoined P (Q raw)) s) bytes (c >>= g)
spells_behind P Q s bytes c g first parts =
    spells_bind (λ _. P) (λ _. Sided Q s) (Sided (λ raw. IsJoined P (Q raw)) s) bytes c g first parts
    (λ x raw one two is rest. (rest.0, rest.1, joined P (Q raw) one two is rest.2))

-- the sample for white, and what follows it
abbrev WithWhite : (ℕ → Raw → List ℕ → Type 0) → Raw → List ℕ → Type 0
WithWhite Q raw bytes = (maxval : ℕ) × IsJoined (IsNumberBehindGap maxval) (Q maxval raw) bytes

spells_white : (Q : ℕ → Raw → List ℕ → Type 0) (s : ℕ × ℕ) (bytes : List ℕ) (g : ℕ → List ℕ → Cut Raw) →
    ((maxval : ℕ) (rest : List ℕ) → Spells (Sided (Q maxval) s) rest (g maxval rest)) → Spells (Sided (WithWhite Q) s) bytes (maxval bytes >>= g)
spells_white Q s bytes g parts =
    spells_bind IsNumberBehindGap (λ maxval. Sided (Q maxval) s) (Sided (WithWhite Q) s) bytes (maxval bytes) g (spells_maxval bytes) parts
    (λ maxval raw one two is rest. (rest.0, rest.1, (maxval, joined (IsNumberBehindGap maxval) (Q maxval raw) one two is rest.2)))

white_first : (Q : ℕ → Raw → List ℕ → Type 0) (raw : Raw) (bytes : List ℕ) → IsJoined (AreSides raw.width raw.height) (WithWhite Q raw) bytes →
    (maxval : ℕ) × IsJoined (AreSides raw.width raw.height) (IsJoined (IsNumberBehindGap maxval) (Q maxval raw)) bytes
white_first Q raw bytes is =
    (is.is_second.0, record { first = is.first; second = is.second; split = is.split; is_first = is.is_first; is_second = is.is_second.1 })

-- A BMP picture.

spells_passes : (kind : Kind) (t : Bool) (x bytes : List ℕ) → Spells (IsNothing x) bytes (passes kind t x bytes)
spells_passes kind true x bytes = spells_take (IsNothing x) bytes false x bytes [] refl (refl, refl)
spells_passes kind false x bytes = spells_stop (IsNothing x) bytes false (Refused kind)

-- the header up to here is what was held and what was taken
abbrev Grown : List ℕ → List ℕ → List ℕ → Type 0
Grown head x taken = x ≡ head ++ taken

-- more of the header, which is then checked
spells_more : (kind : Kind) (n : ℕ) (t : List ℕ → Bool) (head bytes : List ℕ) →
    Spells (Grown head) bytes (block n bytes >>= λ more rest. passes kind (t more) (head ++ more) rest)
spells_more kind n t head bytes =
    spells_bind (Itself (IsBlock n)) (λ more. IsNothing (head ++ more)) (Grown head) bytes (block n bytes) (λ more rest. passes kind (t more) (head ++ more) rest) (spells_block n bytes)
    (λ more rest. spells_passes kind (t more) (head ++ more) rest)
    (λ more x one two is last. last.1 ∙ ap (λ xs. head ++ xs) (sym is.0 ∙ sym (append-nil one) ∙ ap (λ xs. one ++ xs) (sym last.0)))

spells_start : (bytes : List ℕ) → Spells (Grown []) bytes (start bytes)
spells_start bytes = spells_more BmpKind 16 (λ head. is_known_size (header_size head)) [] bytes

spells_placed : (head bytes : List ℕ) → Spells (IsNothing head) bytes (placed head bytes)
spells_placed head bytes =
    spells_bind (IsNothing (width head, height head)) (λ _. IsNothing head) (IsNothing head) bytes (checked (width head) (height head) bytes)
    (λ _ rest. passes BadOffset (nat_le (palette_end head) (pixel_offset head)) head rest) (spells_checked (width head) (height head) bytes)
    (λ _ rest. spells_passes BadOffset (nat_le (palette_end head) (pixel_offset head)) head rest)
    (λ s x one two is last. (rw (is.0, last.0) refl, last.1))

-- a header that goes on growing
grown_on : (head x y one two : List ℕ) → Grown head x one → Grown x y two → Grown head y (one ++ two)
grown_on head x y one two first then = then ∙ ap (λ xs. xs ++ two) first ∙ append_assoc head one two

spells_header : (bytes : List ℕ) → Spells (λ head taken. taken ≡ head) bytes (header bytes)
spells_header bytes =
    spells_bind (Grown []) (λ x. Grown x) (λ head taken. taken ≡ head) bytes (start bytes) (λ head rest. info head rest >>= λ head rest. masks head rest >>= λ head rest. placed head rest)
    (spells_start bytes)
    (λ a rest. spells_bind (Grown a) (λ x. Grown x) (Grown a) rest (info a rest) (λ head rest. masks head rest >>= λ head rest. placed head rest)
    (spells_more BmpKind (header_size a - 4) (λ more. is_known_kind (a ++ more)) a rest)
    (λ b rest. spells_bind (Grown b) (λ x. IsNothing x) (Grown b) rest (masks b rest) (λ head rest. placed head rest)
    (spells_more BmpKind (mask_bytes b) (λ more. has_known_colors (b ++ more)) b rest) (λ c rest. spells_placed c rest)
    (λ c x one two is last. last.1 ∙ is ∙ ap (λ xs. b ++ xs) (sym (append-nil one) ∙ ap (λ xs. one ++ xs) (sym last.0))))
    (λ b x one two first then. grown_on a b x one two first then))
    (λ a x one two first then. sym (grown_on [] a x one two first then))

plain_block : (n : ℕ) (bytes : List ℕ) → Spells (λ _. IsBlock n) bytes (block n bytes)
plain_block n bytes e x rest h = let s = spells_block n bytes e x rest h in (s.0, s.1, s.2.1)

-- what follows the header
abbrev IsPicture : List ℕ → Raw → List ℕ → Type 0
IsPicture head raw bytes =
    (raw.width ≡ width head) × (raw.height ≡ height head)
    × IsJoined (IsBlock (palette_bytes head)) (IsJoined (IsBlock (pixel_offset head - palette_end head)) (IsRepeated (IsBlock (row_length head)) raw.height)) bytes

spells_picture : (head bytes : List ℕ) → Spells (IsPicture head) bytes (bmp_raster.raster head bytes)
spells_picture head bytes =
    spells_behind (IsBlock (palette_bytes head)) (λ raw. IsJoined (IsBlock (pixel_offset head - palette_end head)) (IsRepeated (IsBlock (row_length head)) raw.height)) (width head, height head)
    bytes (block (palette_bytes head) bytes)
    (λ palette rest. block (pixel_offset head - palette_end head) rest >>= λ _ rest. repeated (bmp_raster.bmp_row head palette) (height head) rest >>= λ rows rest. Takes false (bmp_raster.picture head rows) rest)
    (plain_block (palette_bytes head) bytes)
    (λ palette rest. spells_behind (IsBlock (pixel_offset head - palette_end head)) (λ raw. IsRepeated (IsBlock (row_length head)) raw.height) (width head, height head)
    rest (block (pixel_offset head - palette_end head) rest) (λ _ rest. repeated (bmp_raster.bmp_row head palette) (height head) rest >>= λ rows rest. Takes false (bmp_raster.picture head rows) rest)
    (plain_block (pixel_offset head - palette_end head) rest)
    (λ _ rest. spells_made (λ _. IsRepeated (IsBlock (row_length head)) (height head)) (Sided (λ raw. IsRepeated (IsBlock (row_length head)) raw.height) (width head, height head))
    (bmp_raster.picture head) rest (repeated (bmp_raster.bmp_row head palette) (height head) rest)
    (spells_times (IsBlock (row_length head)) (bmp_raster.bmp_row head palette)
    (λ bytes. spells_block_row (row_length head) (λ row. map (pixel_in (bits head) (palette_color (palette_length head) (color_bytes head) palette) row) (range_with_len 0 (width head))) bytes)
    (height head) rest)
    (λ rows one is. (refl, refl, is))))

spells_body : (m : Magic) (bytes : List ℕ) → Spells (IsBody m) bytes (body m bytes)
spells_body PlainBits bytes =
    spells_sided (Rows (λ w. IsRepeated IsPlainPixel w)) bytes (λ s rest. rows_raster (λ b. Bit b) (repeated plain_pixel s.0) s.0 s.1 rest)
    (spells_rows (λ w. IsRepeated IsPlainPixel w) (λ b. Bit b) (λ w. repeated plain_pixel w) (λ w. spells_times IsPlainPixel plain_pixel spells_plain_pixel w))
spells_body RawBits bytes =
    spells_sided (λ raw. IsJoined IsSpace (Rows (λ w. IsBlock (row_bytes w)) raw)) bytes (λ s rest. space rest >>= λ _ rest. rows_raster (λ b. Bit b) (raw_row s.0) s.0 s.1 rest)
    (λ s rest. spells_behind IsSpace (Rows (λ w. IsBlock (row_bytes w))) s rest (space rest) (λ _ rest. rows_raster (λ b. Bit b) (raw_row s.0) s.0 s.1 rest) (spells_space rest)
    (λ _ rest. spells_rows (λ w. IsBlock (row_bytes w)) (λ b. Bit b) raw_row (λ w bytes. spells_block_row (row_bytes w) (λ row. take w (unpacked row)) bytes) s rest))
spells_body (PlainSamples c) bytes = λ e raw rest h.
    let s = spells_sided (WithWhite (λ maxval. Rows (λ w. IsRepeated (ArePlainSamples c) w))) bytes (λ s rest. maxval rest >>= λ maxval rest. rows_raster (as_entry c maxval) (repeated (plain_samples c) s.0) s.0 s.1 rest)
    (λ s rest. spells_white (λ maxval. Rows (λ w. IsRepeated (ArePlainSamples c) w)) s rest (λ maxval rest. rows_raster (as_entry c maxval) (repeated (plain_samples c) s.0) s.0 s.1 rest)
    (λ maxval rest. spells_rows (λ w. IsRepeated (ArePlainSamples c) w) (as_entry c maxval) (λ w. repeated (plain_samples c) w) (λ w. spells_times (ArePlainSamples c) (plain_samples c) (spells_plain_samples c) w) s rest)) e raw rest h in
    (s.0, s.1, white_first (λ maxval. Rows (λ w. IsRepeated (ArePlainSamples c) w)) raw s.0 s.2)
spells_body (RawSamples c) bytes = λ e raw rest h.
    let s = spells_sided (WithWhite (λ maxval raw. IsJoined IsSpace (Rows (λ w. IsBlock (sample_bytes maxval (samples_in c * w))) raw))) bytes
    (λ s rest. maxval rest >>= λ maxval rest. space rest >>= λ _ rest. rows_raster (as_entry c maxval) (raw_samples_row c maxval s.0) s.0 s.1 rest)
    (λ s rest. spells_white (λ maxval raw. IsJoined IsSpace (Rows (λ w. IsBlock (sample_bytes maxval (samples_in c * w))) raw)) s rest (λ maxval rest. space rest >>= λ _ rest. rows_raster (as_entry c maxval) (raw_samples_row c maxval s.0) s.0 s.1 rest)
    (λ maxval rest. spells_behind IsSpace (Rows (λ w. IsBlock (sample_bytes maxval (samples_in c * w)))) s rest (space rest) (λ _ rest. rows_raster (as_entry c maxval) (raw_samples_row c maxval s.0) s.0 s.1 rest) (spells_space rest)
    (λ _ rest. spells_rows (λ w. IsBlock (sample_bytes maxval (samples_in c * w))) (as_entry c maxval) (raw_samples_row c maxval) (λ w bytes. spells_block_row (sample_bytes maxval (samples_in c * w)) (λ row. grouped c (samples (is_wide maxval) row)) bytes) s rest))) e raw rest h in
    (s.0, s.1, white_first (λ maxval raw. IsJoined IsSpace (Rows (λ w. IsBlock (sample_bytes maxval (samples_in c * w))) raw)) raw s.0 s.2)
spells_body Picture bytes =
    spells_bind (λ head taken. taken ≡ head) IsPicture (IsBody Picture) bytes (header bytes) bmp_raster.raster (spells_header bytes) spells_picture
    (λ head raw one two is rest. (head, rest.0, rest.1, joined (λ first. first ≡ head) _ one two is rest.2))

spells_page : (later : Bool) (bytes : List ℕ) → Spells IsPageText bytes (page_at later bytes)
spells_page later bytes =
    spells_bind (Itself (AllBytes is_space)) (λ _ raw rest. (m : Magic) × IsJoined (IsMagic m) (IsBody m raw) rest) IsPageText bytes (spaces bytes) (λ _ rest. magic later rest >>= λ m rest. body m rest)
    (spells_run (AllBytes is_space) (run_length is_space bytes) bytes (run_is_run is_space bytes))
    (λ _ rest. spells_bind IsMagic (λ m. IsBody m) (λ raw rest. (m : Magic) × IsJoined (IsMagic m) (IsBody m raw) rest) rest (magic later rest) (λ m rest. body m rest) (spells_magic later rest)
    (λ m rest. spells_body m rest) (λ m raw one two is body_is. (m, joined (IsMagic m) (IsBody m raw) one two is body_is)))
    (λ x raw one two is rest. (rest.0, joined (AllBytes is_space) (IsJoined (IsMagic rest.0) (IsBody rest.0 raw)) one two is.1 rest.1))

front_of : (used : ℕ) (bytes taken rest : List ℕ) → bytes ≡ taken ++ rest → used ≡ length taken → take used bytes ≡ taken
front_of used bytes taken rest split count = rw (count, split) (take-append_seam taken rest)

taken_text : (later : Bool) (bytes : List ℕ) (c : Cut Raw) (raw : Raw) (used : ℕ) → page_at later bytes ≡ c → answer_of bytes c ≡ Page raw used → IsPageText raw (take used bytes)
taken_text later bytes (Takes e raw2 rest) raw used is h =
    let same : raw2 ≡ raw = cc in
    let n : length bytes - length rest ≡ used = cc in
    let s = spells_page later bytes e raw2 rest is in
    let count : used ≡ length s.0 = omega (arith, ap length s.1, length-append s.0 rest) in
    let text : take used bytes ≡ s.0 = front_of used bytes s.0 rest s.1 count in
    subst (λ r. IsPageText r (take used bytes)) same (subst (IsPageText raw2) (sym text) s.2)
taken_text later bytes (Stops e ending) raw used is h = cc

pub page_text : (later : Bool) (bytes : List ℕ) (raw : Raw) (used : ℕ) → front later bytes ≡ Page raw used → IsPageText raw (take used bytes)
page_text later bytes raw used h = taken_text later bytes (page_at later bytes) raw used refl h
