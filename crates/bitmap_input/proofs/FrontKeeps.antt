-- What a page leaves are the last bytes of its list, and fewer than all.
use Rattle.std.proofs.Common.{◌≡◌, refl, ℕ, ◌-◌, ◌≤◌, ◌<◌, Bool, true, false, List, [], ◌∷◌, ◌++◌, length, take, drop, arith, ap, sym}
use Rattle.std.specs.Prelude.{nat_lt}
use Rattle.std.proofs.lemmas.List.{length-append}
use Rattle.std.proofs.Math.Seq.{drop-append_seam}
use Rattle.bitmap_input.specs.Cut.{Cut, ◌>>=◌}
use Rattle.bitmap_input.specs.Cut.Cut.{Takes, Stops}
use Rattle.bitmap_input.specs.PageParts.{longest, is_empty, is_space, run_length, run_of, spaces, space, repeated}
use Rattle.bitmap_input.specs.Raw.{Raw, Entry, entries_page}
use Rattle.bitmap_input.specs.Raw.Entry.{Bit}
use Rattle.bitmap_input.specs.Front.{Magic, magic, sides, maxval, plain_pixel, raw_row, rows_raster, body, page_at, answer_of, front}
use Rattle.bitmap_input.specs.Samples.{as_entry, plain_samples, raw_samples_row}
use Rattle.bitmap_input.specs.Front.Answer.{Page}
use Rattle.bitmap_input.specs.Front.Magic.{PlainBits, RawBits, PlainSamples, RawSamples, Picture}
use Rattle.bitmap_input.proofs.RasterPages.{after_takes}
use Rattle.bitmap_input.proofs.LastBytes.{IsRest, LeavesEnd, all_rest, keeps_take, keeps_bind, keeps_run, keeps_space, keeps_times, keeps_magic_behind, keeps_magic, keeps_sides, keeps_maxval, keeps_plain_pixel, keeps_raw_row, keeps_plain_samples, keeps_raw_samples_row}
use Rattle.bitmap_input.proofs.BmpKeeps.{keeps_bmp}

keeps_rows : {A : Type 0} (entry : A → Entry) (row : List ℕ → Cut (List A)) → ((bytes : List ℕ) → LeavesEnd bytes (row bytes)) →
    (width height : ℕ) (bytes : List ℕ) → LeavesEnd bytes (rows_raster entry row width height bytes)
keeps_rows entry row keeps width height bytes =
    keeps_bind bytes (repeated row height bytes) (λ rows rest. Takes false (entries_page entry width height rows) rest) (keeps_times row keeps height bytes)
    (λ rows rest. keeps_take rest false (entries_page entry width height rows) rest (all_rest rest))

pub keeps_body : (m : Magic) (bytes : List ℕ) → LeavesEnd bytes (body m bytes)
keeps_body PlainBits bytes =
    keeps_bind bytes (sides bytes) (λ s rest. rows_raster (λ b. Bit b) (repeated plain_pixel s.0) s.0 s.1 rest) (keeps_sides bytes)
    (λ s. keeps_rows (λ b. Bit b) (repeated plain_pixel s.0) (keeps_times plain_pixel keeps_plain_pixel s.0) s.0 s.1)
keeps_body RawBits bytes =
    keeps_bind bytes (sides bytes) (λ s rest. space rest >>= λ _ rest. rows_raster (λ b. Bit b) (raw_row s.0) s.0 s.1 rest) (keeps_sides bytes)
    (λ s rest. keeps_bind rest (space rest) (λ _ rest. rows_raster (λ b. Bit b) (raw_row s.0) s.0 s.1 rest) (keeps_space rest)
    (λ _. keeps_rows (λ b. Bit b) (raw_row s.0) (keeps_raw_row s.0) s.0 s.1))
keeps_body (PlainSamples c) bytes =
    keeps_bind bytes (sides bytes) (λ s rest. maxval rest >>= λ maxval rest. rows_raster (as_entry c maxval) (repeated (plain_samples c) s.0) s.0 s.1 rest) (keeps_sides bytes)
    (λ s rest. keeps_bind rest (maxval rest) (λ maxval rest. rows_raster (as_entry c maxval) (repeated (plain_samples c) s.0) s.0 s.1 rest) (keeps_maxval rest)
    (λ maxval. keeps_rows (as_entry c maxval) (repeated (plain_samples c) s.0) (keeps_times (plain_samples c) (keeps_plain_samples c) s.0) s.0 s.1))
keeps_body (RawSamples c) bytes =
    keeps_bind bytes (sides bytes) (λ s rest. maxval rest >>= λ maxval rest. space rest >>= λ _ rest. rows_raster (as_entry c maxval) (raw_samples_row c maxval s.0) s.0 s.1 rest) (keeps_sides bytes)
    (λ s rest. keeps_bind rest (maxval rest) (λ maxval rest. space rest >>= λ _ rest. rows_raster (as_entry c maxval) (raw_samples_row c maxval s.0) s.0 s.1 rest) (keeps_maxval rest)
    (λ maxval rest. keeps_bind rest (space rest) (λ _ rest. rows_raster (as_entry c maxval) (raw_samples_row c maxval s.0) s.0 s.1 rest) (keeps_space rest)
    (λ _. keeps_rows (as_entry c maxval) (raw_samples_row c maxval s.0) (keeps_raw_samples_row c maxval s.0) s.0 s.1)))
keeps_body Picture bytes = keeps_bmp bytes

keeps_page : (later : Bool) (bytes : List ℕ) → LeavesEnd bytes (page_at later bytes)
keeps_page later bytes =
    keeps_bind bytes (spaces bytes) (λ _ rest. magic later rest >>= λ m rest. body m rest) (keeps_run (run_length is_space bytes) bytes)
    (λ _ rest. keeps_bind rest (magic later rest) (λ m rest. body m rest) (keeps_magic later rest) keeps_body)

behind_front : (front rest bytes : List ℕ) → bytes ≡ front ++ rest → rest ≡ drop (length bytes - length rest) bytes
behind_front front rest bytes is =
    let n : length bytes - length rest ≡ length front = omega (arith, ap length is, length-append front rest) in
    rw (n, is) (sym (drop-append_seam front rest))

-- what a page leaves are the bytes after those that it takes
pub rest_behind : (later : Bool) (bytes : List ℕ) (e : Bool) (raw : Raw) (rest : List ℕ) → page_at later bytes ≡ Takes e raw rest →
    rest ≡ drop (length bytes - length rest) bytes
rest_behind later bytes e raw rest h = let p = keeps_page later bytes e raw rest h in behind_front p.0 rest bytes p.1

-- a part after a run of n bytes leaves the last bytes of what follows the run
pub behind_run : {B : Type 0} (t : Bool) (n : ℕ) (bytes : List ℕ) (g : List ℕ → List ℕ → Cut B) (e : Bool) (b : B) (rest : List ℕ) →
    nat_lt longest n ≡ t → ((x rest : List ℕ) → LeavesEnd rest (g x rest)) → (run_of n bytes >>= g) ≡ Takes e b rest → IsRest rest (drop n bytes)
behind_run true n bytes g e b rest test parts h = let k = rw test at h in cc
behind_run false n bytes g e b rest test parts h =
    let k = rw test at h in
    let p = after_takes (is_empty (drop n bytes)) e (g (take n bytes) (drop n bytes)) b rest k in
    parts (take n bytes) (drop n bytes) p.0 b rest p.1

-- A page takes at least one byte.

-- what the cut leaves is shorter than these bytes
abbrev pub Shortens : {A : Type 0} → List ℕ → Cut A → Type 0
Shortens {A = A} bytes c = (e : Bool) (a : A) (rest : List ℕ) → c ≡ Takes e a rest → length rest < length bytes

shorter_rest : (a b c : List ℕ) → IsRest b c → length a < length b → length a < length c
shorter_rest a b c (front, is) less = omega (arith, ap length is, length-append front b)

rest_of_shorter : (a b c : List ℕ) → length b < length c → IsRest a b → length a < length c
rest_of_shorter a b c less (front, is) = omega (arith, ap length is, length-append front a)

magic_shortens : (later : Bool) (bytes : List ℕ) → Shortens bytes (magic later bytes)
magic_shortens true [] e m rest h = cc
magic_shortens false [] e m rest h = cc
magic_shortens true (a ∷ bs) e m rest h = rest_of_shorter rest bs (a ∷ bs) (omega arith) (keeps_magic_behind true a bs e m rest h)
magic_shortens false (a ∷ bs) e m rest h = rest_of_shorter rest bs (a ∷ bs) (omega arith) (keeps_magic_behind false a bs e m rest h)

bind_shortens : {A B : Type 0} (bytes : List ℕ) (c : Cut A) (g : A → List ℕ → Cut B) → Shortens bytes c →
    ((x : A) (rest : List ℕ) → LeavesEnd rest (g x rest)) → Shortens bytes (c >>= g)
bind_shortens bytes (Takes d x mid) g first parts e b rest h =
    let p = after_takes d e (g x mid) b rest h in
    rest_of_shorter rest mid bytes (first d x mid refl) (parts x mid p.0 b rest p.1)
bind_shortens bytes (Stops d ending) g first parts e b rest h = cc

keeps_shortens : {A B : Type 0} (bytes : List ℕ) (c : Cut A) (g : A → List ℕ → Cut B) → LeavesEnd bytes c →
    ((x : A) (rest : List ℕ) → Shortens rest (g x rest)) → Shortens bytes (c >>= g)
keeps_shortens bytes (Takes d x mid) g first parts e b rest h =
    let p = after_takes d e (g x mid) b rest h in
    shorter_rest rest mid bytes (first d x mid refl) (parts x mid p.0 b rest p.1)
keeps_shortens bytes (Stops d ending) g first parts e b rest h = cc

page_shortens : (later : Bool) (bytes : List ℕ) → Shortens bytes (page_at later bytes)
page_shortens later bytes =
    keeps_shortens bytes (spaces bytes) (λ _ rest. magic later rest >>= λ m rest. body m rest) (keeps_run (run_length is_space bytes) bytes)
    (λ _ rest. bind_shortens rest (magic later rest) (λ m rest. body m rest) (magic_shortens later rest) keeps_body)

takes_some : (later : Bool) (bytes : List ℕ) (c : Cut Raw) (raw : Raw) (used : ℕ) → page_at later bytes ≡ c → answer_of bytes c ≡ Page raw used →
    (0 < used) × (used ≤ length bytes)
takes_some later bytes (Takes e raw2 rest) raw used is h =
    let n : length bytes - length rest ≡ used = cc in
    let less = page_shortens later bytes e raw2 rest is in (omega arith, omega arith)
takes_some later bytes (Stops e ending) raw used is h = cc

pub front_takes_some : (later : Bool) (bytes : List ℕ) (raw : Raw) (used : ℕ) → front later bytes ≡ Page raw used →
    (0 < used) × (used ≤ length bytes)
front_takes_some later bytes raw used h = takes_some later bytes (page_at later bytes) raw used refl h
