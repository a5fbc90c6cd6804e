-- A gray page row by row (Netpbm's format page "pgm"): the header of a file's first page, and then
-- one row after another.
use Rattle.std.specs.Prelude.{ℕ, Bool, true, false, List, [], min}
use Rattle.bitmap_input.specs.Cut.{Cut, ◌>>=◌}
use Rattle.bitmap_input.specs.Cut.Kind.{UnknownFormat}
use Rattle.bitmap_input.specs.Cut.FileEnd.{Refused}
use Rattle.bitmap_input.specs.Cut.Cut.{Takes, Stops}
use Rattle.bitmap_input.specs.PageParts.{spaces, space, repeated}
use Rattle.bitmap_input.specs.Front.{Magic, magic, sides, maxval, greatest_maxval}
use Rattle.bitmap_input.specs.Front.Magic.{PlainBits, RawBits, PlainSamples, RawSamples, Picture}
use Rattle.bitmap_input.specs.Samples.{plain_sample, raw_samples_row}
use Rattle.bitmap_input.specs.declared.channels.Channels.{Channels}
use Rattle.bitmap_input.specs.declared.channels.Channels.TheVariants.{Gray, Color}
use Rattle.bitmap_input.specs.declared.gray_rows.GrayHeader.{GrayHeader}

-- gray samples are known here, and those of colours aren't
abbrev pub gray_alone : Bool → Channels → List ℕ → Cut Bool
gray_alone plain Gray rest = Takes false plain rest
gray_alone plain Color rest = Stops false (Refused UnknownFormat)

-- whether a gray page is plain; every other format is unknown here
abbrev pub gray_kind : Magic → List ℕ → Cut Bool
gray_kind (PlainSamples c) rest = gray_alone true c rest
gray_kind (RawSamples c) rest = gray_alone false c rest
gray_kind PlainBits rest = Stops false (Refused UnknownFormat)
gray_kind RawBits rest = Stops false (Refused UnknownFormat)
gray_kind Picture rest = Stops false (Refused UnknownFormat)

-- the magic number of a gray page
abbrev pub gray_magic : List ℕ → Cut Bool
gray_magic bytes = magic false bytes >>= gray_kind

-- the whitespace byte that ends the header of a raw page
abbrev pub header_end : Bool → List ℕ → Cut (List ℕ)
header_end true rest = Takes false [] rest
header_end false rest = space rest

-- what follows the magic number in the header
abbrev pub gray_header_behind : Bool → List ℕ → Cut GrayHeader
gray_header_behind plain bytes =
    sides bytes >>= λ s rest. maxval rest >>= λ maxval rest. header_end plain rest >>= λ _ rest.
    Takes false (record { plain = plain; width = s.0; height = s.1; maxval = maxval }) rest

-- the header of a gray page that is the first page of its file
abbrev pub gray_header : List ℕ → Cut GrayHeader
gray_header bytes =
    spaces bytes >>= λ _ rest. gray_magic rest >>= λ plain rest. gray_header_behind plain rest

-- the sample that is returned: a plain sample above the greatest one of a raw page is lowered to that one
abbrev pub lowered : ℕ → ℕ
lowered v = min v greatest_maxval

-- the samples of a row
abbrev pub gray_row : Bool → ℕ → ℕ → List ℕ → Cut (List ℕ)
gray_row true maxval width bytes = repeated plain_sample width bytes
gray_row false maxval width bytes = raw_samples_row Gray maxval width bytes
