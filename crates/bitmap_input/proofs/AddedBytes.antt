-- A part that bytes added couldn't change stays the same when bytes are added: each part, and therefore the
-- page.
use Rattle.std.proofs.Common.{◌≡◌, refl, ℕ, zero, suc, ◌*◌, ◌≤◌, ◌<◌, Bool, true, false, cond, ◌||◌, List, [], ◌∷◌, ◌++◌, length, take, drop, arith, Option, Some, None}
use Rattle.std.specs.Prelude.{nat_eq, nat_lt}
use Rattle.std.proofs.lemmas.List.{take-append-le, drop-append-le, length-append}
use Rattle.std.proofs.lemmas.Bool.{ltb-true, lt-ltb, le-ltb, ltb-false}
use Rattle.bitmap_input.specs.Cut.{Kind, FileEnd, Cut, is_by_end, after, ◌>>=◌}
use Rattle.bitmap_input.specs.Cut.Kind.{BadHeader, ZeroSide, TooLarge, BadRaster}
use Rattle.bitmap_input.specs.Cut.FileEnd.{Refused}
use Rattle.bitmap_input.specs.Cut.Cut.{Takes, Stops}
use Rattle.bitmap_input.specs.PageParts.{longest, is_zero, is_empty, is_space, is_digit, run_length, gap_length, missing, run_of, spaces, gap, some_gap, value, number, number_behind_gap, space, pixel, block, repeated}
use Rattle.bitmap_input.specs.Raw.{Entry, entries_page, row_bytes, unpacked}
use Rattle.bitmap_input.specs.Front.{Magic, no_magic, magic_of_name, magic_named, magic_behind, magic, checked, sides, checked_maxval, maxval, greatest_maxval, plain_pixel, raw_row, rows_raster}
use Rattle.bitmap_input.specs.Samples.{samples_in, plain_sample, plain_samples, is_wide, sample_bytes, samples, grouped, raw_samples_row}
use Rattle.bitmap_input.specs.declared.channels.Channels.{Channels}
use Rattle.bitmap_input.specs.declared.channels.Channels.TheVariants.{Gray, Color}
use Rattle.bitmap_input.proofs.Bytes.{run_length-le, run_length-append-le, run_length-append, gap_length-le, gap_length-append-le, gap_length-append}
use Rattle.pt_core.specs.declared.limits.TheConstants.{LONGEST_SIDE}

-- the cut of a list, after bytes were added to it
abbrev pub with_more : {A : Type 0} → List ℕ → Cut A → Cut A
with_more more (Takes e x rest) = Takes e x (rest ++ more)
with_more more (Stops e ending) = Stops e ending

-- the part stays the same when bytes are added, unless it is by the end of the list
abbrev pub Stays : {A : Type 0} → (List ℕ → Cut A) → Type 0
Stays f = (bytes more : List ℕ) → is_by_end (f bytes) ≡ false → f (bytes ++ more) ≡ with_more more (f bytes)

pub after-false : {A : Type 0} (c : Cut A) → after false c ≡ c
after-false (Takes e x rest) = refl
after-false (Stops e ending) = refl

pub is_by_end-after : {A : Type 0} (d : Bool) (c : Cut A) → is_by_end (after d c) ≡ (d || is_by_end c)
is_by_end-after d (Takes e x rest) = refl
is_by_end-after d (Stops e ending) = refl

pub with_more-after : {A : Type 0} (more : List ℕ) (d : Bool) (c : Cut A) →
    with_more more (after d c) ≡ after d (with_more more c)
with_more-after more d (Takes e x rest) = refl
with_more-after more d (Stops e ending) = refl

-- one part after another, in a list and in the list with added bytes
pub stays_bind : {A B : Type 0} (c d : Cut A) (g : A → List ℕ → Cut B) (more : List ℕ) →
    ((x : A) → Stays (g x)) → (is_by_end c ≡ false → d ≡ with_more more c) →
    is_by_end (c >>= g) ≡ false → (d >>= g) ≡ with_more more (c >>= g)
stays_bind (Takes true x rest) d g more parts first not_end =
    let e = rw is_by_end-after at not_end in cc
stays_bind (Takes false x rest) d g more parts first not_end =
    let e = first refl in
    let h = rw after-false at not_end in
    rw (e, after-false, after-false) (parts x rest more h)
stays_bind (Stops e ending) d g more parts first not_end =
    let h = first not_end in rw h refl

-- two cases of a test that have the same result when bytes are added
pick_stays : {A : Type 0} (t : Bool) (c d c2 d2 : Cut A) (more : List ℕ) →
    (is_by_end c ≡ false → c2 ≡ with_more more c) → (is_by_end d ≡ false → d2 ≡ with_more more d) →
    is_by_end (cond t c d) ≡ false → cond t c2 d2 ≡ with_more more (cond t c d)
pick_stays true c d c2 d2 more first second not_end = first not_end
pick_stays false c d c2 d2 more first second not_end = second not_end

pub stop_stays : {A : Type 0} (e : Bool) (ending : FileEnd) → Stays {A = A} (λ _. Stops e ending)
stop_stays e ending bytes more not_end = refl

pub take_stays : {A : Type 0} (e : Bool) (x : A) → Stays (Takes e x)
take_stays e x bytes more not_end = refl

pub missing_stays : {A : Type 0} (kind : Kind) → Stays (missing {A = A} kind)
missing_stays kind [] more not_end = cc
missing_stays kind (b ∷ bs) more not_end = refl

is_empty-append : (xs more : List ℕ) → is_empty xs ≡ false → is_empty (xs ++ more) ≡ is_empty xs
is_empty-append [] more h = cc
is_empty-append (x ∷ xs) more h = refl

-- a run given by its length, which is within the limit or above it
run_at : (t : Bool) (n m : ℕ) (bytes more : List ℕ) → nat_lt longest n ≡ t → n ≤ length bytes → n ≤ m →
    (is_empty (drop n bytes) ≡ false → m ≡ n) → is_by_end (run_of n bytes) ≡ false →
    run_of m (bytes ++ more) ≡ with_more more (run_of n bytes)
run_at true n m bytes more test in_list less same not_end =
    let over : longest < n = ltb-true longest n test in
    let over2 : longest < m = omega arith in
    let test2 : nat_lt longest m ≡ true = lt-ltb longest m over2 in
    rw (test, test2) refl
run_at false n m bytes more test in_list less same not_end =
    let h = rw test at not_end in
    let e : m ≡ n = same h in
    rw (e, test, drop-append-le n bytes more in_list, take-append-le n bytes more in_list, is_empty-append (drop n bytes) more h) refl

pub stays_run : (n m : ℕ) (bytes more : List ℕ) → n ≤ length bytes → n ≤ m →
    (is_empty (drop n bytes) ≡ false → m ≡ n) → is_by_end (run_of n bytes) ≡ false →
    run_of m (bytes ++ more) ≡ with_more more (run_of n bytes)
stays_run n m bytes more in_list less same not_end =
    run_at (nat_lt longest n) n m bytes more refl in_list less same not_end

pub spaces_stay : Stays spaces
spaces_stay bytes more not_end =
    stays_run (run_length is_space bytes) (run_length is_space (bytes ++ more)) bytes more
    (run_length-le is_space bytes) (run_length-append-le is_space bytes more) (run_length-append is_space bytes more) not_end

pub gap_stays : Stays gap
gap_stays bytes more not_end =
    stays_run (gap_length false bytes) (gap_length false (bytes ++ more)) bytes more
    (gap_length-le false bytes) (gap_length-append-le false bytes more) (gap_length-append false bytes more) not_end

-- A length of 0 is decided by the byte after it. Any other length isn't 0 with more bytes either.

-- the length of a run stays 0 or not 0 when bytes are added
is_zero-append : (n m : ℕ) → n ≤ m → is_zero n ≡ false → is_zero m ≡ false
is_zero-append zero m h z = cc
is_zero-append (suc n) zero h z = absurd (omega arith)
is_zero-append (suc n) (suc m) h z = refl

-- a part that is missing if a length is 0
or_missing : {A : Type 0} (t : Bool) (kind : Kind) (n m : ℕ) (bytes more : List ℕ) (c d : Cut A) →
    is_zero n ≡ t → n ≤ m → (is_empty (drop n bytes) ≡ false → m ≡ n) →
    (is_by_end c ≡ false → d ≡ with_more more c) →
    is_by_end (cond (is_zero n) (missing kind bytes) c) ≡ false →
    cond (is_zero m) (missing kind (bytes ++ more)) d ≡ with_more more (cond (is_zero n) (missing kind bytes) c)
or_missing true kind (suc n) m bytes more c d test less same first not_end = cc
or_missing true kind zero m [] more c d test less same first not_end = cc
or_missing true kind zero m (b ∷ bs) more c d test less same first not_end =
    let e : m ≡ 0 = same refl in rw e refl
or_missing false kind n m bytes more c d test less same first not_end =
    let test2 = is_zero-append n m less test in
    let h = rw test at not_end in
    rw (test, test2) (first h)

pub some_gap_stays : (kind : Kind) → Stays (some_gap kind)
some_gap_stays kind bytes more not_end =
    or_missing (is_zero (gap_length false bytes)) kind (gap_length false bytes) (gap_length false (bytes ++ more))
    bytes more (gap bytes) (gap (bytes ++ more)) refl (gap_length-append-le false bytes more)
    (gap_length-append false bytes more) (gap_stays bytes more) not_end

pub number_stays : (kind : Kind) → Stays (number kind)
number_stays kind bytes more not_end =
    or_missing (is_zero (run_length is_digit bytes)) kind (run_length is_digit bytes) (run_length is_digit (bytes ++ more))
    bytes more (run_of (run_length is_digit bytes) bytes >>= λ digits rest. Takes false (value 0 digits) rest)
    (run_of (run_length is_digit (bytes ++ more)) (bytes ++ more) >>= λ digits rest. Takes false (value 0 digits) rest)
    refl (run_length-append-le is_digit bytes more) (run_length-append is_digit bytes more)
    (stays_bind (run_of (run_length is_digit bytes) bytes)
    (run_of (run_length is_digit (bytes ++ more)) (bytes ++ more))
    (λ digits rest. Takes false (value 0 digits) rest) more (λ digits. take_stays false (value 0 digits))
    (stays_run (run_length is_digit bytes) (run_length is_digit (bytes ++ more)) bytes more
    (run_length-le is_digit bytes) (run_length-append-le is_digit bytes more) (run_length-append is_digit bytes more))) not_end

pub space_stays : Stays space
space_stays [] more not_end = cc
space_stays (b ∷ bs) more not_end =
    pick_stays (is_space b) (Takes false (b ∷ []) bs) (Stops false (Refused BadHeader))
    (Takes false (b ∷ []) (bs ++ more)) (Stops false (Refused BadHeader)) more (λ _. refl) (λ _. refl) not_end

pub pixel_stays : Stays pixel
pixel_stays [] more not_end = cc
pixel_stays (b ∷ bs) more not_end =
    pick_stays (nat_eq b 48) (Takes false false bs)
    (cond (nat_eq b 49) (Takes false true bs) (Stops false (Refused BadRaster)))
    (Takes false false (bs ++ more))
    (cond (nat_eq b 49) (Takes false true (bs ++ more)) (Stops false (Refused BadRaster))) more (λ _. refl)
    (pick_stays (nat_eq b 49) (Takes false true bs) (Stops false (Refused BadRaster))
    (Takes false true (bs ++ more)) (Stops false (Refused BadRaster)) more (λ _. refl) (λ _. refl)) not_end

block_at : (t : Bool) (n : ℕ) (bytes more : List ℕ) → nat_lt (length bytes) n ≡ t → is_by_end (block n bytes) ≡ false →
    block n (bytes ++ more) ≡ with_more more (block n bytes)
block_at true n bytes more test not_end = let h = rw test at not_end in cc
block_at false n bytes more test not_end =
    let in_list : n ≤ length bytes = ltb-false (length bytes) n test in
    let in_more : n ≤ length (bytes ++ more) = omega (arith, length-append bytes more) in
    let test2 : nat_lt (length (bytes ++ more)) n ≡ false = le-ltb (length (bytes ++ more)) n in_more in
    rw (test, test2, drop-append-le n bytes more in_list, take-append-le n bytes more in_list) refl

pub block_stays : (n : ℕ) → Stays (block n)
block_stays n bytes more not_end = block_at (nat_lt (length bytes) n) n bytes more refl not_end

pub times_stay : {A : Type 0} (part : List ℕ → Cut A) → Stays part → (n : ℕ) → Stays (repeated part n)
times_stay part stays zero bytes more not_end = refl
times_stay part stays (suc n) bytes more not_end =
    stays_bind (part bytes) (part (bytes ++ more)) (λ x rest. repeated part n rest >>= λ xs rest. Takes false (x ∷ xs) rest)
    more
    (λ x bytes more not_end. stays_bind (repeated part n bytes) (repeated part n (bytes ++ more))
    (λ xs rest. Takes false (x ∷ xs) rest) more (λ xs. take_stays false (x ∷ xs)) (times_stay part stays n bytes more) not_end)
    (stays bytes more) not_end

is_by_end-no_magic : (e later : Bool) → is_by_end (no_magic e later) ≡ e
is_by_end-no_magic e true = refl
is_by_end-no_magic e false = refl

no_magic_stays : (e later : Bool) (more : List ℕ) → no_magic e later ≡ with_more more (no_magic e later)
no_magic_stays e true more = refl
no_magic_stays e false more = refl

magic_of_name_stays : (later : Bool) (named : Option Magic) → Stays (magic_of_name later named)
magic_of_name_stays later (Some m) bytes more not_end = refl
magic_of_name_stays later None bytes more not_end = no_magic_stays false later more

pub magic_behind_stays : (later : Bool) (a : ℕ) → Stays (magic_behind later a)
magic_behind_stays later a [] more not_end = let e = rw is_by_end-no_magic at not_end in cc
magic_behind_stays later a (b ∷ rest) more not_end = magic_of_name_stays later (magic_named a b) rest more not_end

pub magic_stays : (later : Bool) → Stays (magic later)
magic_stays true [] more not_end = cc
magic_stays false [] more not_end = cc
magic_stays true (a ∷ rest) more not_end = magic_behind_stays true a rest more not_end
magic_stays false (a ∷ rest) more not_end = magic_behind_stays false a rest more not_end

pub checked_stays : (width height : ℕ) → Stays (checked width height)
checked_stays width height bytes more not_end =
    pick_stays (is_zero width || is_zero height) (Stops false (Refused ZeroSide))
    (cond (nat_lt LONGEST_SIDE width || nat_lt LONGEST_SIDE height) (Stops false (Refused TooLarge)) (Takes false (width, height) bytes))
    (Stops false (Refused ZeroSide))
    (cond (nat_lt LONGEST_SIDE width || nat_lt LONGEST_SIDE height) (Stops false (Refused TooLarge)) (Takes false (width, height) (bytes ++ more)))
    more (λ _. refl)
    (pick_stays (nat_lt LONGEST_SIDE width || nat_lt LONGEST_SIDE height) (Stops false (Refused TooLarge)) (Takes false (width, height) bytes)
    (Stops false (Refused TooLarge)) (Takes false (width, height) (bytes ++ more)) more (λ _. refl) (λ _. refl)) not_end

pub number_behind_gap_stays : (kind : Kind) → Stays (number_behind_gap kind)
number_behind_gap_stays kind bytes more not_end =
    stays_bind (some_gap kind bytes) (some_gap kind (bytes ++ more)) _ more (λ _. number_stays kind)
    (some_gap_stays kind bytes more) not_end

pub sides_stay : Stays sides
sides_stay bytes more not_end =
    stays_bind (number_behind_gap BadHeader bytes) (number_behind_gap BadHeader (bytes ++ more)) _ more
    (λ width bytes more not_end. stays_bind (number_behind_gap BadHeader bytes) (number_behind_gap BadHeader (bytes ++ more)) _ more
    (λ height. checked_stays width height) (number_behind_gap_stays BadHeader bytes more) not_end)
    (number_behind_gap_stays BadHeader bytes more) not_end

checked_maxval_stays : (n : ℕ) → Stays (checked_maxval n)
checked_maxval_stays n bytes more not_end =
    pick_stays (is_zero n || nat_lt greatest_maxval n) (Stops false (Refused BadHeader)) (Takes false n bytes)
    (Stops false (Refused BadHeader)) (Takes false n (bytes ++ more)) more (λ _. refl) (λ _. refl) not_end

pub maxval_stays : Stays maxval
maxval_stays bytes more not_end =
    stays_bind (number_behind_gap BadHeader bytes) (number_behind_gap BadHeader (bytes ++ more)) _ more checked_maxval_stays
    (number_behind_gap_stays BadHeader bytes more) not_end

pub plain_pixel_stays : Stays plain_pixel
plain_pixel_stays bytes more not_end =
    stays_bind (gap bytes) (gap (bytes ++ more)) (λ _ rest. pixel rest) more (λ _. pixel_stays) (gap_stays bytes more) not_end

pub raw_row_stays : (width : ℕ) → Stays (raw_row width)
raw_row_stays width bytes more not_end =
    stays_bind (block (row_bytes width) bytes) (block (row_bytes width) (bytes ++ more))
    (λ row rest. Takes false (take width (unpacked row)) rest) more
    (λ row. take_stays false (take width (unpacked row))) (block_stays (row_bytes width) bytes more) not_end

pub plain_sample_stays : Stays plain_sample
plain_sample_stays = number_behind_gap_stays BadRaster

pub plain_samples_stay : (c : Channels) → Stays (plain_samples c)
plain_samples_stay Gray bytes more not_end = plain_sample_stays bytes more not_end
plain_samples_stay Color bytes more not_end =
    stays_bind (plain_sample bytes) (plain_sample (bytes ++ more)) _ more
    (λ r bytes more not_end. stays_bind (plain_sample bytes) (plain_sample (bytes ++ more)) _ more
    (λ g bytes more not_end. stays_bind (plain_sample bytes) (plain_sample (bytes ++ more)) _ more
    (λ b. take_stays false (r, g, b)) (plain_sample_stays bytes more) not_end)
    (plain_sample_stays bytes more) not_end)
    (plain_sample_stays bytes more) not_end

pub raw_samples_row_stays : (c : Channels) (maxval width : ℕ) → Stays (raw_samples_row c maxval width)
raw_samples_row_stays c maxval width bytes more not_end =
    stays_bind (block (sample_bytes maxval (samples_in c * width)) bytes) (block (sample_bytes maxval (samples_in c * width)) (bytes ++ more))
    (λ row rest. Takes false (grouped c (samples (is_wide maxval) row)) rest) more
    (λ row. take_stays false (grouped c (samples (is_wide maxval) row))) (block_stays (sample_bytes maxval (samples_in c * width)) bytes more) not_end

pub raster_stays : {A : Type 0} (entry : A → Entry) (row : List ℕ → Cut (List A)) (width height : ℕ) → Stays row →
    Stays (rows_raster entry row width height)
raster_stays entry row width height stays bytes more not_end =
    stays_bind (repeated row height bytes) (repeated row height (bytes ++ more)) _ more
    (λ rows. take_stays false (entries_page entry width height rows)) (times_stay row stays height bytes more) not_end
