-- Parts that are taken or refused: the pages of a file don't end inside them.
use Rattle.std.proofs.Common.{◌*◌, ℕ, zero, suc, Bool, true, false, ◌||◌, List, [], ◌∷◌, length, take, drop}
use Rattle.std.specs.Prelude.{if◌then◌else◌, nat_lt}
use Rattle.bitmap_input.specs.Cut.{Kind, Cut, after, ◌>>=◌}
use Rattle.std.proofs.Common.{Option, Some, None}
use Rattle.pt_core.specs.declared.limits.TheConstants.{LONGEST_SIDE}
use Rattle.bitmap_input.specs.Cut.Kind.{BadHeader, BadRaster, TooLong, ZeroSide, TooLarge, Truncated}
use Rattle.bitmap_input.specs.Front.Magic.{PlainBits, RawBits, PlainSamples, RawSamples, Picture}
use Rattle.bitmap_input.specs.Cut.FileEnd.{End, Trailing, Refused}
use Rattle.bitmap_input.specs.Cut.Cut.{Takes, Stops}
use Rattle.bitmap_input.specs.PageParts.{is_zero, is_empty, longest, is_digit, is_space, run_length, gap_length, value, missing, run_of, spaces, gap, some_gap, number, number_behind_gap, space, block, repeated}
use Rattle.bitmap_input.specs.Front.{Magic, magic, magic_of_name, magic_named, sides, checked, maxval, checked_maxval, greatest_maxval}
use Rattle.bitmap_input.specs.Samples.{samples_in, samples, grouped, plain_sample, is_wide, sample_bytes}
use Rattle.bitmap_input.specs.declared.channels.Channels.{Channels}
use Rattle.bitmap_input.specs.declared.channels.Channels.TheVariants.{Gray, Color}
use Rattle.bitmap_input.specs.GrayRows.{gray_alone, gray_kind, gray_magic, header_end, gray_header, gray_header_behind, gray_row}

-- the cut takes bytes or is refused
abbrev pub Goes : {A : Type 0} → Cut A → Type 0
Goes (Takes e x rest) = Unit {0}
Goes (Stops e End) = ⊥
Goes (Stops e Trailing) = ⊥
Goes (Stops e (Refused kind)) = Unit {0}

goes_after : {A : Type 0} (d : Bool) (c : Cut A) → Goes c → Goes (after d c)
goes_after d (Takes e x rest) g = tt
goes_after d (Stops e End) g = absurd g
goes_after d (Stops e Trailing) g = absurd g
goes_after d (Stops e (Refused kind)) g = tt

pub goes_bind : {A B : Type 0} (c : Cut A) (f : A → List ℕ → Cut B) → Goes c → ((x : A) (rest : List ℕ) → Goes (f x rest)) → Goes (c >>= f)
goes_bind (Takes e x rest) f g h = goes_after e (f x rest) (h x rest)
goes_bind (Stops e End) f g h = absurd g
goes_bind (Stops e Trailing) f g h = absurd g
goes_bind (Stops e (Refused kind)) f g h = tt

goes_if : (A : Type 0) (t : Bool) (c d : Cut A) → Goes c → Goes d → Goes (if t then c else d)
goes_if A true c d g h = g
goes_if A false c d g h = h

goes_missing : (A : Type 0) (kind : Kind) (bytes : List ℕ) → Goes (missing {A = A} kind bytes)
goes_missing A kind [] = tt
goes_missing A kind (b ∷ bs) = tt

goes_run : (n : ℕ) (bytes : List ℕ) → Goes (run_of n bytes)
goes_run n bytes = goes_if (List ℕ) (nat_lt longest n) (Stops false (Refused TooLong)) (Takes (is_empty (drop n bytes)) (take n bytes) (drop n bytes)) tt tt

goes_some_gap : (kind : Kind) (bytes : List ℕ) → Goes (some_gap kind bytes)
goes_some_gap kind bytes =
    goes_if (List ℕ) (is_zero (gap_length false bytes)) (missing kind bytes) (gap bytes) (goes_missing (List ℕ) kind bytes) (goes_run (gap_length false bytes) bytes)

goes_number : (kind : Kind) (bytes : List ℕ) → Goes (number kind bytes)
goes_number kind bytes =
    goes_if ℕ (is_zero (run_length is_digit bytes)) (missing kind bytes) (run_of (run_length is_digit bytes) bytes >>= λ digits rest. Takes false (value 0 digits) rest)
    (goes_missing ℕ kind bytes)
    (goes_bind (run_of (run_length is_digit bytes) bytes) (λ digits rest. Takes false (value 0 digits) rest) (goes_run (run_length is_digit bytes) bytes) (λ _ _. tt))

goes_number_behind_gap : (kind : Kind) (bytes : List ℕ) → Goes (number_behind_gap kind bytes)
goes_number_behind_gap kind bytes = goes_bind (some_gap kind bytes) (λ _ rest. number kind rest) (goes_some_gap kind bytes) (λ _ rest. goes_number kind rest)

goes_space : (bytes : List ℕ) → Goes (space bytes)
goes_space [] = tt
goes_space (b ∷ bs) = goes_if (List ℕ) (is_space b) (Takes false (b ∷ []) bs) (Stops false (Refused BadHeader)) tt tt

goes_checked : (w h : ℕ) (bytes : List ℕ) → Goes (checked w h bytes)
goes_checked w h bytes =
    goes_if (ℕ × ℕ) (is_zero w || is_zero h) (Stops false (Refused ZeroSide))
    (if nat_lt LONGEST_SIDE w || nat_lt LONGEST_SIDE h then Stops false (Refused TooLarge) else Takes false (w, h) bytes) tt
    (goes_if (ℕ × ℕ) (nat_lt LONGEST_SIDE w || nat_lt LONGEST_SIDE h) (Stops false (Refused TooLarge)) (Takes false (w, h) bytes) tt tt)

goes_sides : (bytes : List ℕ) → Goes (sides bytes)
goes_sides bytes =
    goes_bind (number_behind_gap BadHeader bytes) (λ w rest. number_behind_gap BadHeader rest >>= λ h rest. checked w h rest) (goes_number_behind_gap BadHeader bytes) (λ w rest.
    goes_bind (number_behind_gap BadHeader rest) (λ h rest. checked w h rest) (goes_number_behind_gap BadHeader rest) (λ h rest. goes_checked w h rest))

goes_maxval : (bytes : List ℕ) → Goes (maxval bytes)
goes_maxval bytes =
    goes_bind (number_behind_gap BadHeader bytes) checked_maxval (goes_number_behind_gap BadHeader bytes) (λ n rest.
    goes_if ℕ (is_zero n || nat_lt greatest_maxval n) (Stops false (Refused BadHeader)) (Takes false n rest) tt tt)

goes_header_end : (plain : Bool) (bytes : List ℕ) → Goes (header_end plain bytes)
goes_header_end true bytes = tt
goes_header_end false bytes = goes_space bytes

goes_gray_alone : (plain : Bool) (c : Channels) (bytes : List ℕ) → Goes (gray_alone plain c bytes)
goes_gray_alone plain Gray bytes = tt
goes_gray_alone plain Color bytes = tt

goes_kind : (m : Magic) (bytes : List ℕ) → Goes (gray_kind m bytes)
goes_kind (PlainSamples c) bytes = goes_gray_alone true c bytes
goes_kind (RawSamples c) bytes = goes_gray_alone false c bytes
goes_kind PlainBits bytes = tt
goes_kind RawBits bytes = tt
goes_kind Picture bytes = tt

goes_named : (m : Option Magic) (bytes : List ℕ) → Goes (magic_of_name false m bytes)
goes_named (Some m) bytes = tt
goes_named None bytes = tt

goes_magic : (bytes : List ℕ) → Goes (magic false bytes)
goes_magic [] = tt
goes_magic (a ∷ []) = tt
goes_magic (a ∷ b ∷ rest) = goes_named (magic_named a b) rest

goes_gray_magic : (bytes : List ℕ) → Goes (gray_magic bytes)
goes_gray_magic bytes = goes_bind (magic false bytes) gray_kind (goes_magic bytes) goes_kind

goes_header_behind : (plain : Bool) (bytes : List ℕ) → Goes (gray_header_behind plain bytes)
goes_header_behind plain bytes =
    goes_bind (sides bytes) (λ s rest. maxval rest >>= λ maxval rest. header_end plain rest >>= λ _ rest.
    Takes false (record { plain = plain; width = s.0; height = s.1; maxval = maxval }) rest) (goes_sides bytes) (λ s rest.
    goes_bind (maxval rest) (λ maxval rest. header_end plain rest >>= λ _ rest.
    Takes false (record { plain = plain; width = s.0; height = s.1; maxval = maxval }) rest) (goes_maxval rest) (λ maxval rest.
    goes_bind (header_end plain rest) (λ _ rest. Takes false (record { plain = plain; width = s.0; height = s.1; maxval = maxval }) rest) (goes_header_end plain rest) (λ _ _. tt)))

pub goes_header : (bytes : List ℕ) → Goes (gray_header bytes)
goes_header bytes =
    goes_bind (spaces bytes) (λ _ rest. gray_magic rest >>= λ plain rest. gray_header_behind plain rest) (goes_run (run_length is_space bytes) bytes) (λ _ rest.
    goes_bind (gray_magic rest) (λ plain rest. gray_header_behind plain rest) (goes_gray_magic rest) goes_header_behind)

goes_times : {A : Type 0} (part : List ℕ → Cut A) → ((bytes : List ℕ) → Goes (part bytes)) → (n : ℕ) (bytes : List ℕ) → Goes (repeated part n bytes)
goes_times part each zero bytes = tt
goes_times part each (suc n) bytes =
    goes_bind (part bytes) (λ x rest. repeated part n rest >>= λ xs rest. Takes false (x ∷ xs) rest) (each bytes) (λ x rest.
    goes_bind (repeated part n rest) (λ xs rest. Takes false (x ∷ xs) rest) (goes_times part each n rest) (λ _ _. tt))

pub goes_row : (plain : Bool) (maxval width : ℕ) (bytes : List ℕ) → Goes (gray_row plain maxval width bytes)
goes_row true maxval width bytes = goes_times plain_sample (goes_number_behind_gap BadRaster) width bytes
goes_row false maxval width bytes =
    goes_bind (block (sample_bytes maxval (samples_in Gray * width)) bytes) (λ row rest. Takes false (grouped Gray (samples (is_wide maxval) row)) rest)
    (goes_if (List ℕ) (nat_lt (length bytes) (sample_bytes maxval (samples_in Gray * width))) (Stops true (Refused Truncated))
    (Takes false (take (sample_bytes maxval (samples_in Gray * width)) bytes) (drop (sample_bytes maxval (samples_in Gray * width)) bytes)) tt tt) (λ _ _. tt)
