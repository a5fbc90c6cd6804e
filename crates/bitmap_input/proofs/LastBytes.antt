-- What a part leaves are the last bytes of its list.
use Rattle.std.proofs.Common.{◌≡◌, refl, ℕ, ◌*◌, zero, suc, Bool, true, false, cond, ◌||◌, List, [], ◌∷◌, ◌++◌, length, take, drop, ap, sym, ◌∙◌, append_assoc, Option, Some, None}
use Rattle.std.specs.Prelude.{nat_eq, nat_lt}
use Rattle.std.proofs.lemmas.List.{take-append-drop}
use Rattle.bitmap_input.specs.Cut.{Kind, FileEnd, Cut, ◌>>=◌}
use Rattle.bitmap_input.specs.Cut.Kind.{BadHeader, BadRaster, Truncated, TooLong, ZeroSide, TooLarge, UnknownFormat}
use Rattle.bitmap_input.specs.Cut.FileEnd.{End, Trailing, Refused}
use Rattle.bitmap_input.specs.Cut.Cut.{Takes, Stops}
use Rattle.bitmap_input.specs.PageParts.{longest, is_zero, is_empty, is_space, is_digit, run_length, gap_length, missing, run_of, gap, some_gap, value, number, number_behind_gap, space, pixel, block, repeated}
use Rattle.bitmap_input.specs.Raw.{row_bytes, unpacked}
use Rattle.bitmap_input.specs.Front.{Magic, no_magic, magic_of_name, magic_named, magic_behind, magic, checked, sides, checked_maxval, maxval, greatest_maxval, plain_pixel, raw_row, front}
use Rattle.bitmap_input.specs.Samples.{samples_in, plain_sample, plain_samples, is_wide, sample_bytes, samples, grouped, raw_samples_row}
use Rattle.bitmap_input.specs.declared.channels.Channels.{Channels}
use Rattle.bitmap_input.specs.declared.channels.Channels.TheVariants.{Gray, Color}
use Rattle.bitmap_input.proofs.RasterPages.{after_takes}
use Rattle.pt_core.specs.declared.limits.TheConstants.{LONGEST_SIDE}

-- a list ends with these bytes
abbrev pub IsRest : List ℕ → List ℕ → Type 0
IsRest rest bytes = (front : List ℕ) × (bytes ≡ front ++ rest)

-- what the cut of these bytes leaves are their last ones
abbrev pub LeavesEnd : {A : Type 0} → List ℕ → Cut A → Type 0
LeavesEnd {A = A} bytes c = (e : Bool) (a : A) (rest : List ℕ) → c ≡ Takes e a rest → IsRest rest bytes

pub all_rest : (bytes : List ℕ) → IsRest bytes bytes
all_rest bytes = ([], refl)

pub one_off : (b : ℕ) (bs : List ℕ) → IsRest bs (b ∷ bs)
one_off b bs = (b ∷ [], refl)

pub dropped : (n : ℕ) (bytes : List ℕ) → IsRest (drop n bytes) bytes
dropped n bytes = (take n bytes, sym (take-append-drop n bytes))

pub rest_of_rest : (a b c : List ℕ) → IsRest b c → IsRest a b → IsRest a c
rest_of_rest a b c (front, is) (front2, is2) = (front ++ front2, is ∙ ap (λ xs. front ++ xs) is2 ∙ sym (append_assoc front front2 a))

pub keeps_take : {A : Type 0} (bytes : List ℕ) (e : Bool) (a : A) (rest : List ℕ) → IsRest rest bytes → LeavesEnd bytes (Takes e a rest)
keeps_take bytes e a rest (front, is) d b rest2 h =
    let same : rest ≡ rest2 = cc in (front, is ∙ ap (λ xs. front ++ xs) same)

pub keeps_stop : {A : Type 0} (bytes : List ℕ) (e : Bool) (ending : FileEnd) → LeavesEnd {A = A} bytes (Stops e ending)
keeps_stop bytes e ending d a rest h = cc

pub keeps_pick : {A : Type 0} (bytes : List ℕ) (t : Bool) (c d : Cut A) → LeavesEnd bytes c → LeavesEnd bytes d → LeavesEnd bytes (cond t c d)
keeps_pick bytes true c d first second = first
keeps_pick bytes false c d first second = second

pub keeps_bind : {A B : Type 0} (bytes : List ℕ) (c : Cut A) (g : A → List ℕ → Cut B) → LeavesEnd bytes c →
    ((x : A) (rest : List ℕ) → LeavesEnd rest (g x rest)) → LeavesEnd bytes (c >>= g)
keeps_bind bytes (Takes d x mid) g first parts e a rest h =
    let p = after_takes d e (g x mid) a rest h in
    rest_of_rest rest mid bytes (first d x mid refl) (parts x mid p.0 a rest p.1)
keeps_bind bytes (Stops d ending) g first parts e a rest h = cc

pub keeps_run : (n : ℕ) (bytes : List ℕ) → LeavesEnd bytes (run_of n bytes)
keeps_run n bytes =
    keeps_pick bytes (nat_lt longest n) (Stops false (Refused TooLong)) (Takes (is_empty (drop n bytes)) (take n bytes) (drop n bytes))
    (keeps_stop bytes false (Refused TooLong)) (keeps_take bytes (is_empty (drop n bytes)) (take n bytes) (drop n bytes) (dropped n bytes))

pub keeps_missing : {A : Type 0} (kind : Kind) (bytes : List ℕ) → LeavesEnd {A = A} bytes (missing kind bytes)
keeps_missing kind [] = keeps_stop [] true (Refused Truncated)
keeps_missing kind (b ∷ bs) = keeps_stop (b ∷ bs) false (Refused kind)

pub keeps_some_gap : (kind : Kind) (bytes : List ℕ) → LeavesEnd bytes (some_gap kind bytes)
keeps_some_gap kind bytes =
    keeps_pick bytes (is_zero (gap_length false bytes)) (missing kind bytes) (gap bytes) (keeps_missing kind bytes) (keeps_run (gap_length false bytes) bytes)

pub keeps_number : (kind : Kind) (bytes : List ℕ) → LeavesEnd bytes (number kind bytes)
keeps_number kind bytes =
    keeps_pick bytes (is_zero (run_length is_digit bytes)) (missing kind bytes)
    (run_of (run_length is_digit bytes) bytes >>= λ digits rest. Takes false (value 0 digits) rest) (keeps_missing kind bytes)
    (keeps_bind bytes (run_of (run_length is_digit bytes) bytes) (λ digits rest. Takes false (value 0 digits) rest)
    (keeps_run (run_length is_digit bytes) bytes) (λ digits rest. keeps_take rest false (value 0 digits) rest (all_rest rest)))

pub keeps_space : (bytes : List ℕ) → LeavesEnd bytes (space bytes)
keeps_space [] = keeps_stop [] true (Refused Truncated)
keeps_space (b ∷ bs) =
    keeps_pick (b ∷ bs) (is_space b) (Takes false (b ∷ []) bs) (Stops false (Refused BadHeader))
    (keeps_take (b ∷ bs) false (b ∷ []) bs (one_off b bs)) (keeps_stop (b ∷ bs) false (Refused BadHeader))

pub keeps_pixel : (bytes : List ℕ) → LeavesEnd bytes (pixel bytes)
keeps_pixel [] = keeps_stop [] true (Refused Truncated)
keeps_pixel (b ∷ bs) =
    keeps_pick (b ∷ bs) (nat_eq b 48) (Takes false false bs) (cond (nat_eq b 49) (Takes false true bs) (Stops false (Refused BadRaster)))
    (keeps_take (b ∷ bs) false false bs (one_off b bs))
    (keeps_pick (b ∷ bs) (nat_eq b 49) (Takes false true bs) (Stops false (Refused BadRaster))
    (keeps_take (b ∷ bs) false true bs (one_off b bs)) (keeps_stop (b ∷ bs) false (Refused BadRaster)))

pub keeps_block : (n : ℕ) (bytes : List ℕ) → LeavesEnd bytes (block n bytes)
keeps_block n bytes =
    keeps_pick bytes (nat_lt (length bytes) n) (Stops true (Refused Truncated)) (Takes false (take n bytes) (drop n bytes))
    (keeps_stop bytes true (Refused Truncated)) (keeps_take bytes false (take n bytes) (drop n bytes) (dropped n bytes))

pub keeps_times : {A : Type 0} (part : List ℕ → Cut A) → ((bytes : List ℕ) → LeavesEnd bytes (part bytes)) → (n : ℕ) (bytes : List ℕ) →
    LeavesEnd bytes (repeated part n bytes)
keeps_times part keeps zero bytes = keeps_take bytes false [] bytes (all_rest bytes)
keeps_times part keeps (suc n) bytes =
    keeps_bind bytes (part bytes) (λ x rest. repeated part n rest >>= λ xs rest. Takes false (x ∷ xs) rest) (keeps bytes)
    (λ x mid. keeps_bind mid (repeated part n mid) (λ xs rest. Takes false (x ∷ xs) rest) (keeps_times part keeps n mid)
    (λ xs rest. keeps_take rest false (x ∷ xs) rest (all_rest rest)))

pub keeps_no_magic : (bytes : List ℕ) (e later : Bool) → LeavesEnd bytes (no_magic e later)
keeps_no_magic bytes e true = keeps_stop bytes e Trailing
keeps_no_magic bytes e false = keeps_stop bytes e (Refused UnknownFormat)

pub keeps_magic_of_name : (b : ℕ) (bs : List ℕ) (later : Bool) (named : Option Magic) → LeavesEnd (b ∷ bs) (magic_of_name later named bs)
keeps_magic_of_name b bs later (Some m) = keeps_take (b ∷ bs) false m bs (one_off b bs)
keeps_magic_of_name b bs later None = keeps_no_magic (b ∷ bs) false later

pub keeps_magic_behind : (later : Bool) (a : ℕ) (bytes : List ℕ) → LeavesEnd bytes (magic_behind later a bytes)
keeps_magic_behind later a [] = keeps_no_magic [] true later
keeps_magic_behind later a (b ∷ bs) = keeps_magic_of_name b bs later (magic_named a b)

pub keeps_magic : (later : Bool) (bytes : List ℕ) → LeavesEnd bytes (magic later bytes)
keeps_magic true [] = keeps_stop [] true End
keeps_magic false [] = keeps_stop [] true (Refused UnknownFormat)
keeps_magic true (a ∷ bs) = λ e m rest h. rest_of_rest rest bs (a ∷ bs) (one_off a bs) (keeps_magic_behind true a bs e m rest h)
keeps_magic false (a ∷ bs) = λ e m rest h. rest_of_rest rest bs (a ∷ bs) (one_off a bs) (keeps_magic_behind false a bs e m rest h)

pub keeps_checked : (width height : ℕ) (bytes : List ℕ) → LeavesEnd bytes (checked width height bytes)
keeps_checked width height bytes =
    keeps_pick bytes (is_zero width || is_zero height) (Stops false (Refused ZeroSide))
    (cond (nat_lt LONGEST_SIDE width || nat_lt LONGEST_SIDE height) (Stops false (Refused TooLarge)) (Takes false (width, height) bytes))
    (keeps_stop bytes false (Refused ZeroSide))
    (keeps_pick bytes (nat_lt LONGEST_SIDE width || nat_lt LONGEST_SIDE height) (Stops false (Refused TooLarge)) (Takes false (width, height) bytes)
    (keeps_stop bytes false (Refused TooLarge)) (keeps_take bytes false (width, height) bytes (all_rest bytes)))

pub keeps_number_behind_gap : (kind : Kind) (bytes : List ℕ) → LeavesEnd bytes (number_behind_gap kind bytes)
keeps_number_behind_gap kind bytes = keeps_bind bytes (some_gap kind bytes) (λ _ rest. number kind rest) (keeps_some_gap kind bytes) (λ _ rest. keeps_number kind rest)

pub keeps_sides : (bytes : List ℕ) → LeavesEnd bytes (sides bytes)
keeps_sides bytes =
    keeps_bind bytes (number_behind_gap BadHeader bytes) (λ width rest. number_behind_gap BadHeader rest >>= λ height rest. checked width height rest) (keeps_number_behind_gap BadHeader bytes)
    (λ width rest. keeps_bind rest (number_behind_gap BadHeader rest) (λ height rest. checked width height rest) (keeps_number_behind_gap BadHeader rest) (keeps_checked width))

pub keeps_maxval : (bytes : List ℕ) → LeavesEnd bytes (maxval bytes)
keeps_maxval bytes =
    keeps_bind bytes (number_behind_gap BadHeader bytes) (λ n rest. checked_maxval n rest) (keeps_number_behind_gap BadHeader bytes)
    (λ n rest. keeps_pick rest (is_zero n || nat_lt greatest_maxval n) (Stops false (Refused BadHeader)) (Takes false n rest)
    (keeps_stop rest false (Refused BadHeader)) (keeps_take rest false n rest (all_rest rest)))

pub keeps_plain_pixel : (bytes : List ℕ) → LeavesEnd bytes (plain_pixel bytes)
keeps_plain_pixel bytes = keeps_bind bytes (gap bytes) (λ _ rest. pixel rest) (keeps_run (gap_length false bytes) bytes) (λ _ rest. keeps_pixel rest)

pub keeps_raw_row : (width : ℕ) (bytes : List ℕ) → LeavesEnd bytes (raw_row width bytes)
keeps_raw_row width bytes =
    keeps_bind bytes (block (row_bytes width) bytes) (λ row rest. Takes false (take width (unpacked row)) rest) (keeps_block (row_bytes width) bytes)
    (λ row rest. keeps_take rest false (take width (unpacked row)) rest (all_rest rest))

pub keeps_plain_samples : (c : Channels) (bytes : List ℕ) → LeavesEnd bytes (plain_samples c bytes)
keeps_plain_samples Gray bytes = keeps_number_behind_gap BadRaster bytes
keeps_plain_samples Color bytes =
    keeps_bind bytes (plain_sample bytes) (λ r rest. plain_sample rest >>= λ g rest. plain_sample rest >>= λ b rest. Takes false (r, g, b) rest) (keeps_number_behind_gap BadRaster bytes)
    (λ r rest. keeps_bind rest (plain_sample rest) (λ g rest. plain_sample rest >>= λ b rest. Takes false (r, g, b) rest) (keeps_number_behind_gap BadRaster rest)
    (λ g rest. keeps_bind rest (plain_sample rest) (λ b rest. Takes false (r, g, b) rest) (keeps_number_behind_gap BadRaster rest)
    (λ b rest. keeps_take rest false (r, g, b) rest (all_rest rest))))

pub keeps_raw_samples_row : (c : Channels) (maxval width : ℕ) (bytes : List ℕ) → LeavesEnd bytes (raw_samples_row c maxval width bytes)
keeps_raw_samples_row c maxval width bytes =
    keeps_bind bytes (block (sample_bytes maxval (samples_in c * width)) bytes) (λ row rest. Takes false (grouped c (samples (is_wide maxval) row)) rest) (keeps_block (sample_bytes maxval (samples_in c * width)) bytes)
    (λ row rest. keeps_take rest false (grouped c (samples (is_wide maxval) row)) rest (all_rest rest))
