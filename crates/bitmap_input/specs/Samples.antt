-- The samples of gray pages and of pages of colours (Netpbm's format pages "pgm" and "ppm"): a
-- pixel has one gray sample, or three samples of red, green and blue.
use Rattle.std.specs.Prelude.{ℕ, ◌+◌, ◌*◌, Bool, true, false, List, [], ◌∷◌, if◌then◌else◌, nat_lt}
use Rattle.bitmap_input.specs.Cut.{Cut, ◌>>=◌}
use Rattle.bitmap_input.specs.Cut.Kind.{BadRaster}
use Rattle.bitmap_input.specs.Cut.Cut.{Takes}
use Rattle.bitmap_input.specs.PageParts.{number_behind_gap, block}
use Rattle.bitmap_input.specs.Raw.{Entry}
use Rattle.bitmap_input.specs.Raw.Entry.{Sample, Triple}
use Rattle.bitmap_input.specs.declared.channels.Channels.{Channels}
use Rattle.bitmap_input.specs.declared.channels.Channels.TheVariants.{Gray, Color}

-- the number of samples of a pixel
abbrev pub samples_in : Channels → ℕ
samples_in Gray = 1
samples_in Color = 3

-- the samples of a pixel: gray alone, or red, green and blue
abbrev pub PixelSamples : Channels → Type 0
PixelSamples Gray = ℕ
PixelSamples Color = ℕ × ℕ × ℕ

-- the samples of a pixel as an entry, with the sample for white
abbrev pub as_entry : (c : Channels) → ℕ → PixelSamples c → Entry
as_entry Gray maxval v = Sample v maxval
as_entry Color maxval (r, g, b) = Triple r g b maxval

-- a sample as a decimal number, after a gap
abbrev pub plain_sample : List ℕ → Cut ℕ
plain_sample bytes = number_behind_gap BadRaster bytes

-- the samples of a pixel as decimal numbers, each after a gap
abbrev pub plain_samples : (c : Channels) → List ℕ → Cut (PixelSamples c)
plain_samples Gray bytes = plain_sample bytes
plain_samples Color bytes =
    plain_sample bytes >>= λ r rest. plain_sample rest >>= λ g rest. plain_sample rest >>= λ b rest. Takes false (r, g, b) rest

-- whether samples have two bytes each, because the sample for white doesn't fit one
abbrev pub is_wide : ℕ → Bool
is_wide maxval = nat_lt 255 maxval

-- the number of bytes of n samples
abbrev pub sample_bytes : ℕ → ℕ → ℕ
sample_bytes maxval n = if is_wide maxval then 2 * n else n

-- the samples in a row of bytes: one byte each, or two with the most significant one first (a
-- single byte at the end is ignored)
abbrev pub samples : Bool → List ℕ → List ℕ
samples false bytes = bytes
samples true [] = []
samples true (a ∷ []) = []
samples true (a ∷ b ∷ bs) = (256 * a + b) ∷ samples true bs

-- samples grouped into pixels: each alone, or three by three (one or two at the end are ignored)
abbrev pub grouped : (c : Channels) → List ℕ → List (PixelSamples c)
grouped Gray vs = vs
grouped Color [] = []
grouped Color (r ∷ []) = []
grouped Color (r ∷ g ∷ []) = []
grouped Color (r ∷ g ∷ b ∷ vs) = (r, g, b) ∷ grouped Color vs

-- the pixels of a row, if `maxval` is the sample for white; a greater sample is kept as it is
abbrev pub raw_samples_row : (c : Channels) → ℕ → ℕ → List ℕ → Cut (List (PixelSamples c))
raw_samples_row c maxval width bytes =
    block (sample_bytes maxval (samples_in c * width)) bytes >>= λ row rest. Takes false (grouped c (samples (is_wide maxval) row)) rest
