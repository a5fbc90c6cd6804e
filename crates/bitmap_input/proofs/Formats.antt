-- Plain and raw pages are read alike: the end of a raw page's header takes no bytes of a plain page.
use Rattle.std.proofs.Common.{◌≡◌, refl, ℕ, Bool, true, false, List, ap, sym, Option, Result}
use Rattle.std.specs.Prelude.{nat_le}
use Rattle.std.proofs.Math.Path.{fun_ext}
use Rattle.pt_core.specs.Files.{Files}
use Rattle.bit_image.specs.Image.{differ}
use Rattle.bit_image.specs.Page.{Page as Pixels}
use Rattle.bitmap_input.specs.declared.stop.Stop.{Stop}
use Rattle.bitmap_input.specs.declared.channels.Channels.{Channels}
use Rattle.bitmap_input.specs.declared.shading.Shading.{Shading}
use Rattle.bitmap_input.specs.declared.raster.Raster.TheVariants as raster
use Rattle.bitmap_input.specs.Front.Magic.{PlainBits}
use Rattle.bitmap_input.specs.Cut.{Cut, ◌>>=◌}
use Rattle.bitmap_input.specs.PageParts.{repeated}
use Rattle.bitmap_input.specs.Raw.{IsShown}
use Rattle.bitmap_input.specs.Samples.{PixelSamples, as_entry, plain_samples, raw_samples_row}
use Rattle.bitmap_input.specs.Raw.{is_dark}
use Rattle.bitmap_input.specs.Front.{sides, maxval, rows_raster, body}
use Rattle.bitmap_input.specs.GrayRows.{header_end}
use Rattle.bitmap_input.specs.Reading.{Buffered}
use Rattle.bitmap_input.specs.Inner.Header.{samples_magic}
use Rattle.bitmap_input.specs.Inner.Reading.{Reads}
use Rattle.bitmap_input.specs.Inner.Shading.{brightness}
use Rattle.bitmap_input.specs.Inner.Stored.{samples_raster, row_stored, pixel_entry, sides_and_rows, IsAtLevel}
use Rattle.bitmap_input.proofs.AddedBytes.{after-false}

-- a row of samples, plain or raw
abbrev pub samples_row : Bool → (c : Channels) → ℕ → ℕ → List ℕ → Cut (List (PixelSamples c))
samples_row true c maxval width = repeated (plain_samples c) width
samples_row false c maxval width = raw_samples_row c maxval width

-- what follows the magic number of a plain page of bits
pub plain_bits_body : (invert : Bool) (bytes : List ℕ) → body PlainBits bytes ≡ sides_and_rows (raster.PlainBits invert) bytes
plain_bits_body invert bytes =
    ap (λ next. sides bytes >>= next) (fun_ext (λ s. fun_ext (λ rest.
    sym (after-false (rows_raster (pixel_entry (raster.PlainBits invert)) (row_stored (raster.PlainBits invert) s.0) s.0 s.1 rest)))))

-- what follows the magic number of a page of samples
pub samples_body : (plain : Bool) (c : Channels) (bytes : List ℕ) → body (samples_magic plain c) bytes ≡ (sides bytes >>= λ s rest. maxval rest >>= λ maxval rest.
    header_end plain rest >>= λ _ rest. rows_raster (as_entry c maxval) (samples_row plain c maxval s.0) s.0 s.1 rest)
samples_body true c bytes =
    ap (λ next. sides bytes >>= next) (fun_ext (λ s. fun_ext (λ rest. ap (λ next. maxval rest >>= next) (fun_ext (λ maxval. fun_ext (λ rest.
    sym (after-false (rows_raster (as_entry c maxval) (samples_row true c maxval s.0) s.0 s.1 rest))))))))
samples_body false c bytes = refl

-- the rows of a raster of samples
pub samples_stored : (plain : Bool) (s : Shading) (level : ℕ) (invert : Bool) (width height : ℕ) {old new : Buffered} {files now : Option Files} {result : Result Pixels Stop} →
    Reads (IsShown level invert) (rows_raster (pixel_entry (samples_raster plain s)) (row_stored (samples_raster plain s) width) width height) old files result new now →
    Reads (IsShown level invert) (rows_raster (as_entry s.channels s.maxval) (samples_row plain s.channels s.maxval width) width height) old files result new now
samples_stored true s level invert width height r = r
samples_stored false s level invert width height r = r

-- if the limit belongs to the level, samples are black exactly at the level
pub samples_at_level : (plain : Bool) (s : Shading) (level : ℕ) →
    ((a : PixelSamples s.channels) → is_dark level (as_entry s.channels s.maxval a) ≡ nat_le (brightness s.channels a) s.limit) →
    IsAtLevel level s.invert (samples_raster plain s)
samples_at_level true s level dark = λ a. ap (differ s.invert) (dark a)
samples_at_level false s level dark = λ a. ap (differ s.invert) (dark a)
