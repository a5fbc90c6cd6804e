-- The bytes that a page takes, and the bytes that it claims after them, show the next page's beginning.
use Rattle.std.proofs.Common.{◌≡◌, refl, ℕ, ◌+◌, ◌-◌, ◌≤◌, ◌<◌, Bool, true, false, List, [], ◌∷◌, ◌++◌, length, drop, arith, ap, sym, ◌∙◌, Option, Some, None, Result, Ok, Err}
use Rattle.std.specs.Prelude.{nat_lt}
use Rattle.std.proofs.lemmas.List.{length-append, length-drop, drop_all, drop-append-le}
use Rattle.std.proofs.lemmas.Bool.{ltb-true, ltb-false}
use Rattle.pt_core.specs.Files.{Files}
use Rattle.bit_image.specs.Page.{Page as Pixels}
use Rattle.bitmap_input.specs.declared.stop.Stop.{Stop}
use Rattle.bitmap_input.specs.Cut.{Cut, is_by_end, after, ◌>>=◌}
use Rattle.bitmap_input.specs.Cut.Cut.{Takes, Stops}
use Rattle.bitmap_input.specs.PageParts.{longest, is_empty, is_space, run_length, run_of, spaces, space, repeated}
use Rattle.bitmap_input.specs.Raw.{Raw, Entry, entries_page, IsShown}
use Rattle.bitmap_input.specs.Raw.Entry.{Bit}
use Rattle.bitmap_input.specs.Front.{Magic, no_magic, magic_of_name, magic_named, magic_behind, magic, sides, maxval, plain_pixel, raw_row, rows_raster, body, page_at, answer_of, front}
use Rattle.bitmap_input.specs.Samples.{as_entry, plain_samples, raw_samples_row}
use Rattle.bitmap_input.specs.declared.channels.Channels.{Channels}
use Rattle.bitmap_input.specs.Front.Magic.{PlainBits, RawBits, PlainSamples, RawSamples}
use Rattle.bitmap_input.specs.Front.Answer.{Page}
use Rattle.bitmap_input.specs.FilePages.{next_begins}
use Rattle.bitmap_input.specs.Reading.{Buffered, Cause, AreNeeded}
use Rattle.bitmap_input.specs.Inner.Reading.{cause_of, StopsBy, Reads}
use Rattle.bitmap_input.specs.Reading.Cause.{Says, Device, Memory}
use Rattle.bitmap_input.specs.Inner.Skip.{passed_over}
use Rattle.bitmap_input.specs.Inner.Behind.{counted, counted_body, counted_page, IsRead, claiming_none}
use Rattle.bitmap_input.proofs.Bytes.{run_length-le, run_length-append}
use Rattle.bitmap_input.proofs.LastBytes.{LeavesEnd}
use Rattle.bitmap_input.proofs.FrontKeeps.{keeps_body}
use Rattle.bitmap_input.proofs.BmpLengths.{Cuts, cuts_bind, cuts_take}
use Rattle.bitmap_input.proofs.AddedBytes.{after-false}
use Rattle.bitmap_input.proofs.NeededBytes.{needs_as}

-- Pages of bits and of samples claim no bytes.

-- the page claims no bytes after those that it takes
abbrev pub ClaimsNone : Raw → List ℕ → Type 0
ClaimsNone raw rest = raw.least_length ≡ 0

value_bind : {A B : Type 0} (P : B → List ℕ → Type 0) (c : Cut A) (g : A → List ℕ → Cut B) → ((x : A) (rest : List ℕ) → Cuts P (g x rest)) →
    Cuts P (c >>= g)
value_bind P c g parts = cuts_bind (λ _ _. Unit {0}) P c g (λ e a rest h. tt) (λ x rest _. parts x rest)

rows_claim_none : {A : Type 0} (entry : A → Entry) (row : List ℕ → Cut (List A)) (width height : ℕ) (bytes : List ℕ) →
    Cuts ClaimsNone (rows_raster entry row width height bytes)
rows_claim_none entry row width height bytes =
    value_bind ClaimsNone (repeated row height bytes) (λ rows rest. Takes false (entries_page entry width height rows) rest)
    (λ rows rest. cuts_take ClaimsNone false (entries_page entry width height rows) rest refl)

pub plain_bits_unclaimed : (bytes : List ℕ) → Cuts ClaimsNone (body PlainBits bytes)
plain_bits_unclaimed bytes =
    value_bind ClaimsNone (sides bytes) (λ s rest. rows_raster (λ b. Bit b) (repeated plain_pixel s.0) s.0 s.1 rest)
    (λ s. rows_claim_none (λ b. Bit b) (repeated plain_pixel s.0) s.0 s.1)

pub raw_bits_unclaimed : (bytes : List ℕ) → Cuts ClaimsNone (body RawBits bytes)
raw_bits_unclaimed bytes =
    value_bind ClaimsNone (sides bytes) (λ s rest. space rest >>= λ _ rest. rows_raster (λ b. Bit b) (raw_row s.0) s.0 s.1 rest)
    (λ s rest. value_bind ClaimsNone (space rest) (λ _ rest. rows_raster (λ b. Bit b) (raw_row s.0) s.0 s.1 rest)
    (λ _. rows_claim_none (λ b. Bit b) (raw_row s.0) s.0 s.1))

pub plain_samples_unclaimed : (c : Channels) (bytes : List ℕ) → Cuts ClaimsNone (body (PlainSamples c) bytes)
plain_samples_unclaimed c bytes =
    value_bind ClaimsNone (sides bytes) (λ s rest. maxval rest >>= λ maxval rest. rows_raster (as_entry c maxval) (repeated (plain_samples c) s.0) s.0 s.1 rest)
    (λ s rest. value_bind ClaimsNone (maxval rest) (λ maxval rest. rows_raster (as_entry c maxval) (repeated (plain_samples c) s.0) s.0 s.1 rest)
    (λ maxval. rows_claim_none (as_entry c maxval) (repeated (plain_samples c) s.0) s.0 s.1))

pub raw_samples_unclaimed : (c : Channels) (bytes : List ℕ) → Cuts ClaimsNone (body (RawSamples c) bytes)
raw_samples_unclaimed c bytes =
    value_bind ClaimsNone (sides bytes) (λ s rest. maxval rest >>= λ maxval rest. space rest >>= λ _ rest. rows_raster (as_entry c maxval) (raw_samples_row c maxval s.0) s.0 s.1 rest)
    (λ s rest. value_bind ClaimsNone (maxval rest) (λ maxval rest. space rest >>= λ _ rest. rows_raster (as_entry c maxval) (raw_samples_row c maxval s.0) s.0 s.1 rest)
    (λ maxval rest. value_bind ClaimsNone (space rest) (λ _ rest. rows_raster (as_entry c maxval) (raw_samples_row c maxval s.0) s.0 s.1 rest)
    (λ _. rows_claim_none (as_entry c maxval) (raw_samples_row c maxval s.0) s.0 s.1)))

is_by_end-counted : {A : Type 0} (bytes : List ℕ) (c : Cut A) → is_by_end (counted bytes c) ≡ is_by_end c
is_by_end-counted bytes (Takes e a rest) = refl
is_by_end-counted bytes (Stops e ending) = refl

stops_counted : {A : Type 0} (bytes : List ℕ) (c : Cut A) (why : Cause) (held : Buffered) → StopsBy c why held → StopsBy (counted bytes c) why held
stops_counted bytes c (Says ending) held (e, is, settled) = (e, ap (counted bytes) is, settled)
stops_counted bytes c Device held (by_end, going_on) = (is_by_end-counted bytes c ∙ by_end, going_on)
stops_counted bytes c Memory held stops = tt

needed_counted : (start : List ℕ) {more : List ℕ} (m : Magic) → AreNeeded (λ bytes. body m (start ++ bytes)) more → AreNeeded (λ bytes. counted_body m (start ++ bytes)) more
needed_counted start m n =
    needs_as (λ bytes. counted_body m (start ++ bytes)) (λ bytes still. is_by_end-counted (start ++ bytes) (body m (start ++ bytes)) ∙ still) n

-- a page that claims no bytes, with the number of bytes that it takes
pub reads_unclaimed : {old new : Buffered} {files now : Option Files} {result : Result Pixels Stop} (level : ℕ) (invert : Bool) (m : Magic) →
    ((bytes : List ℕ) → Cuts ClaimsNone (body m bytes)) → Reads (IsShown level invert) (body m) old files result new now →
    Reads (IsRead level invert) (counted_body m) old files (claiming_none result) new now
reads_unclaimed {old} {new} {result = Ok page} level invert m unclaimed r =
    let (e, raw, shown, takes, settled) = r.gives in
    let bytes : List ℕ = old.bytes ++ r.more in
    let none : raw.least_length ≡ 0 = unclaimed bytes e raw new.bytes takes in
    let n : ℕ = length bytes - length new.bytes in
    let behind : 0 ≡ raw.least_length - (2 + n) = omega (arith, none) in
    record { more = r.more; moves = r.moves; needed = needed_counted old.bytes m r.needed; gives = (e, (raw, n), (shown, behind), ap (counted bytes) takes, settled) }
reads_unclaimed {old} {new} {result = Err s} level invert m unclaimed r =
    record { more = r.more; moves = r.moves; needed = needed_counted old.bytes m r.needed; gives = stops_counted (old.bytes ++ r.more) (body m (old.bytes ++ r.more)) (cause_of s) new r.gives }

-- The page without the count.

abbrev pub forget : {A : Type 0} → Cut (A × ℕ) → Cut A
forget (Takes e p rest) = Takes e p.0 rest
forget (Stops e ending) = Stops e ending

forget-counted : {A : Type 0} (bytes : List ℕ) (c : Cut A) → forget (counted bytes c) ≡ c
forget-counted bytes (Takes e a rest) = refl
forget-counted bytes (Stops e ending) = refl

forget-after : {A : Type 0} (d : Bool) (c : Cut (A × ℕ)) → forget (after d c) ≡ after d (forget c)
forget-after d (Takes e p rest) = refl
forget-after d (Stops e ending) = refl

forget-bind : {A B : Type 0} (c : Cut A) (f : A → List ℕ → Cut B) (g : A → List ℕ → Cut (B × ℕ)) → ((a : A) (rest : List ℕ) → forget (g a rest) ≡ f a rest) →
    forget (c >>= g) ≡ (c >>= f)
forget-bind (Takes d a rest) f g same = forget-after d (g a rest) ∙ ap (after d) (same a rest)
forget-bind (Stops d ending) f g same = refl

pub forget-page : (later : Bool) (bytes : List ℕ) → forget (counted_page later bytes) ≡ page_at later bytes
forget-page later bytes =
    forget-bind (spaces bytes) (λ _ rest. magic later rest >>= λ m rest. body m rest) (λ _ rest. magic later rest >>= λ m rest. counted_body m rest)
    (λ _ rest. forget-bind (magic later rest) (λ m rest. body m rest) (λ m rest. counted_body m rest) (λ m rest. forget-counted rest (body m rest)))

pub is_by_end-forget : {A : Type 0} (c : Cut (A × ℕ)) → is_by_end (forget c) ≡ is_by_end c
is_by_end-forget (Takes e p rest) = refl
is_by_end-forget (Stops e ending) = refl

pub stops_forget : {A : Type 0} (c : Cut (A × ℕ)) (why : Cause) (held : Buffered) → StopsBy c why held → StopsBy (forget c) why held
stops_forget c (Says ending) held (e, is, settled) = (e, ap forget is, settled)
stops_forget c Device held (by_end, going_on) = (is_by_end-forget c ∙ by_end, going_on)
stops_forget c Memory held stops = tt

-- The number of bytes that a page takes.

cuts_spaces : (t : Bool) (bytes : List ℕ) → nat_lt longest (run_length is_space bytes) ≡ t →
    Cuts (λ _ rest. length bytes ≡ run_length is_space bytes + length rest) (run_of (run_length is_space bytes) bytes)
cuts_spaces true bytes test e xs rest h = let k = rw test at h in cc
cuts_spaces false bytes test e xs rest h =
    let k = rw test at h in
    let same : drop (run_length is_space bytes) bytes ≡ rest = cc in
    omega (arith, ap length same, length-drop (run_length is_space bytes) bytes, run_length-le is_space bytes)

cuts_no_magic : (P : Magic → List ℕ → Type 0) (e later : Bool) → Cuts P (no_magic e later)
cuts_no_magic P e true d m rest h = cc
cuts_no_magic P e false d m rest h = cc

cuts_named : (later : Bool) (a b : ℕ) (bs : List ℕ) (named : Option Magic) → Cuts (λ _ rest. length (a ∷ b ∷ bs) ≡ 2 + length rest) (magic_of_name later named bs)
cuts_named later a b bs (Some m) = cuts_take (λ _ rest. length (a ∷ b ∷ bs) ≡ 2 + length rest) false m bs (omega arith)
cuts_named later a b bs None = cuts_no_magic (λ _ rest. length (a ∷ b ∷ bs) ≡ 2 + length rest) false later

cuts_behind : (later : Bool) (a : ℕ) (bytes : List ℕ) → Cuts (λ _ rest. length (a ∷ bytes) ≡ 2 + length rest) (magic_behind later a bytes)
cuts_behind later a [] = cuts_no_magic (λ _ rest. length (a ∷ []) ≡ 2 + length rest) true later
cuts_behind later a (b ∷ bs) = cuts_named later a b bs (magic_named a b)

cuts_magic : (later : Bool) (bytes : List ℕ) → Cuts (λ _ rest. length bytes ≡ 2 + length rest) (magic later bytes)
cuts_magic true [] e m rest h = cc
cuts_magic false [] e m rest h = cc
cuts_magic true (a ∷ bs) e m rest h = cuts_behind true a bs e m rest h
cuts_magic false (a ∷ bs) e m rest h = cuts_behind false a bs e m rest h

cuts_counted : {A : Type 0} (bytes : List ℕ) (c : Cut A) → LeavesEnd bytes c → Cuts (λ p rest. length bytes ≡ p.1 + length rest) (counted bytes c)
cuts_counted bytes (Stops e ending) keeps d p rest h = cc
cuts_counted bytes (Takes e a rest) keeps d p left h =
    let (front, is) = keeps e a rest refl in
    let all : length bytes ≡ length front + length rest = ap length is ∙ length-append front rest in
    cuts_take (λ p rest. length bytes ≡ p.1 + length rest) e (a, length bytes - length rest) rest (omega (arith, all)) d p left h

-- the bytes are the whitespace, the magic number, what the page takes after it, and what is left
pub page_length : (later : Bool) (bytes : List ℕ) →
    Cuts (λ p rest. length bytes ≡ run_length is_space bytes + (2 + (p.1 + length rest))) (counted_page later bytes)
page_length later bytes =
    let Q = λ (p : Raw × ℕ) (rest : List ℕ). length bytes ≡ run_length is_space bytes + (2 + (p.1 + length rest)) in
    cuts_bind (λ _ rest. length bytes ≡ run_length is_space bytes + length rest) Q (spaces bytes) (λ _ rest. magic later rest >>= λ m rest. counted_body m rest)
    (cuts_spaces (nat_lt longest (run_length is_space bytes)) bytes refl)
    (λ _ mid is. cuts_bind (λ _ rest. length mid ≡ 2 + length rest) Q (magic later mid) (λ m rest. counted_body m rest) (cuts_magic later mid)
    (λ m mid2 is2 e p rest h. let is3 = cuts_counted mid2 (body m mid2) (keeps_body m mid2) e p rest h in omega (arith, is, is2, is3)))

-- the next page begins after what this page takes, and after what it claims beyond that
pub begins_behind : (later : Bool) (bytes : List ℕ) (e : Bool) (raw : Raw) (n : ℕ) (rest : List ℕ) → counted_page later bytes ≡ Takes e (raw, n) rest →
    next_begins bytes raw (length bytes - length rest) ≡ (length bytes - length rest) + (raw.least_length - (2 + n))
begins_behind later bytes e raw n rest h = let all = page_length later bytes e (raw, n) rest h in omega (arith, all)

-- if there is a page, it takes at most all bytes, and not all of them are whitespace
front_at : (later : Bool) (bytes : List ℕ) (c : Cut (Raw × ℕ)) (raw : Raw) (used : ℕ) → counted_page later bytes ≡ c → front later bytes ≡ Page raw used →
    (used ≤ length bytes) × (run_length is_space bytes < length bytes)
front_at later bytes (Stops e ending) raw used is h =
    let page : page_at later bytes ≡ Stops e ending = sym (forget-page later bytes) ∙ ap forget is in
    let k : answer_of bytes (Stops e ending) ≡ Page raw used = sym (ap (answer_of bytes) page) ∙ h in cc
front_at later bytes (Takes e p rest) raw used is h =
    let page : page_at later bytes ≡ Takes e p.0 rest = sym (forget-page later bytes) ∙ ap forget is in
    let k : Page p.0 (length bytes - length rest) ≡ Page raw used = sym (ap (answer_of bytes) page) ∙ h in
    let n : length bytes - length rest ≡ used = cc in
    let all = page_length later bytes e p rest is in (omega arith, omega (arith, all))

pub front_within : (later : Bool) (bytes : List ℕ) (raw : Raw) (used : ℕ) → front later bytes ≡ Page raw used →
    (used ≤ length bytes) × (run_length is_space bytes < length bytes)
front_within later bytes raw used h = front_at later bytes (counted_page later bytes) raw used refl h

not_empty : (xs : List ℕ) → 0 < length xs → is_empty xs ≡ false
not_empty [] some = absurd (omega arith)
not_empty (x ∷ xs) some = refl

-- the next page begins at the same index when bytes are added
pub begins_with_more : (bytes more : List ℕ) (raw : Raw) (used : ℕ) → run_length is_space bytes < length bytes →
    next_begins (bytes ++ more) raw used ≡ next_begins bytes raw used
begins_with_more bytes more raw used some =
    let left : is_empty (drop (run_length is_space bytes) bytes) ≡ false
    = not_empty (drop (run_length is_space bytes) bytes) (omega (arith, length-drop (run_length is_space bytes) bytes)) in
    let same : run_length is_space (bytes ++ more) ≡ run_length is_space bytes = run_length-append is_space bytes more left in
    rw same refl

-- A page after skipped bytes.

pub page_of_nothing : (later : Bool) → is_by_end (page_at later []) ≡ true
page_of_nothing true = refl
page_of_nothing false = refl

counted_nothing : (later : Bool) → after true (counted_page later []) ≡ counted_page later []
counted_nothing true = refl
counted_nothing false = refl

passed_page : (t : Bool) (n : ℕ) (later : Bool) (bytes : List ℕ) → nat_lt (length bytes) n ≡ t → after t (counted_page later (drop n bytes)) ≡ counted_page later (drop n bytes)
passed_page true n later bytes test =
    let less : length bytes < n = ltb-true (length bytes) n test in
    let none : drop n bytes ≡ [] = drop_all n bytes (omega arith) in rw none (counted_nothing later)
passed_page false n later bytes test = after-false (counted_page later (drop n bytes))

pub page_ahead : (n : ℕ) (later : Bool) (bytes : List ℕ) → (passed_over n bytes >>= λ _ rest. counted_page later rest) ≡ counted_page later (drop n bytes)
page_ahead n later bytes = passed_page (nat_lt (length bytes) n) n later bytes refl

ahead_at : (t : Bool) (n : ℕ) (later : Bool) (bytes more : List ℕ) → nat_lt (length bytes) n ≡ t → is_by_end (page_at later (drop n bytes)) ≡ false →
    drop n (bytes ++ more) ≡ drop n bytes ++ more
ahead_at true n later bytes more test open_end =
    let less : length bytes < n = ltb-true (length bytes) n test in
    let none : drop n bytes ≡ [] = drop_all n bytes (omega arith) in
    let by_end : is_by_end (page_at later (drop n bytes)) ≡ true = rw none (page_of_nothing later) in
    let wrong : true ≡ false = sym by_end ∙ open_end in cc
ahead_at false n later bytes more test open_end =
    let within : n ≤ length bytes = ltb-false (length bytes) n test in drop-append-le n bytes more within

-- if bytes added couldn't change the page, all bytes to be skipped are there
pub ahead_with_more : (n : ℕ) (later : Bool) (bytes more : List ℕ) → is_by_end (page_at later (drop n bytes)) ≡ false →
    drop n (bytes ++ more) ≡ drop n bytes ++ more
ahead_with_more n later bytes more open_end = ahead_at (nat_lt (length bytes) n) n later bytes more refl open_end
