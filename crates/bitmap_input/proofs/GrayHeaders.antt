-- Reading the header of a gray page part by part gives the header.
use Rattle.std.proofs.Common.{refl, ℕ, Bool, true, false, [], ◌++◌, ap, sym, ◌∙◌, subst, Option, Result, Ok, Err, append-nil}
use Rattle.pt_core.specs.Files.{Files}
use Rattle.bitmap_input.specs.declared.stop.Stop.{Stop}
use Rattle.bitmap_input.specs.declared.header.Format.{Format}
use Rattle.bitmap_input.specs.Cut.{◌>>=◌}
use Rattle.bitmap_input.specs.Cut.Kind.{UnknownFormat}
use Rattle.bitmap_input.specs.Cut.FileEnd.{Refused}
use Rattle.bitmap_input.specs.Cut.Cut.{Takes}
use Rattle.bitmap_input.specs.PageParts.{spaces}
use Rattle.bitmap_input.specs.Front.{Magic, magic, sides, maxval}
use Rattle.bitmap_input.specs.Samples.{plain_sample}
use Rattle.bitmap_input.specs.declared.channels.Channels.{Channels}
use Rattle.bitmap_input.specs.declared.channels.Channels.TheVariants.{Gray, Color}
use Rattle.bitmap_input.specs.Front.Magic.{PlainBits, RawBits, PlainSamples, RawSamples, Picture}
use Rattle.bitmap_input.specs.Inner.Header.{magic_of}
use Rattle.bitmap_input.specs.Reading.{Buffered}
use Rattle.bitmap_input.specs.Inner.Reading.{Same, StopsBy, Reads}
use Rattle.bitmap_input.specs.Reading.Cause.{Says}
use Rattle.bitmap_input.specs.GrayRows.{gray_alone, gray_kind, gray_magic, header_end, gray_header_behind, gray_header, gray_row}
use Rattle.bitmap_input.specs.Inner.GrayRows.{ChecksKind}
use Rattle.bitmap_input.proofs.AddedBytes.{Stays, stays_bind, stop_stays, take_stays, magic_stays, space_stays, spaces_stay, sides_stay, maxval_stays, times_stay, plain_sample_stays, raw_samples_row_stays}
use Rattle.bitmap_input.proofs.NeededBytes.{needs_none}
use Rattle.bitmap_input.proofs.ComposedSteps.{stand, not_true}

gray_alone_stays : (plain : Bool) (c : Channels) → Stays (gray_alone plain c)
gray_alone_stays plain Gray = take_stays false plain
gray_alone_stays plain Color = stop_stays false (Refused UnknownFormat)

gray_kind_stays : (m : Magic) → Stays (gray_kind m)
gray_kind_stays (PlainSamples c) = gray_alone_stays true c
gray_kind_stays (RawSamples c) = gray_alone_stays false c
gray_kind_stays PlainBits = stop_stays false (Refused UnknownFormat)
gray_kind_stays RawBits = stop_stays false (Refused UnknownFormat)
gray_kind_stays Picture = stop_stays false (Refused UnknownFormat)

pub gray_magic_stays : Stays gray_magic
gray_magic_stays = λ bytes more. stays_bind (magic false bytes) (magic false (bytes ++ more)) gray_kind more gray_kind_stays (magic_stays false bytes more)

pub header_end_stays : (plain : Bool) → Stays (header_end plain)
header_end_stays true = take_stays false []
header_end_stays false = space_stays

-- the check of the format as a step that reads nothing
pub reads_kind : (format : Format) {held : Buffered} {files : Option Files} {result : Result Bool Stop} → ChecksKind (gray_kind (magic_of format)) result
    → Reads Same (gray_kind (magic_of format)) held files result held files
reads_kind format {held = held} {files = files} {result = Ok plain} is =
    record {
      more = [];
      moves = stand held.ended files;
      needed = needs_none (λ bytes. gray_kind (magic_of format) (held.bytes ++ bytes));
      gives = (false, plain, refl, is (held.bytes ++ []) ∙ ap (Takes false plain) (append-nil held.bytes), λ e. absurd (not_true e));
    }
reads_kind format {held = held} {files = files} {result = Err stop} (ending, cause, is) =
    let stops : StopsBy (gray_kind (magic_of format) (held.bytes ++ [])) (Says ending) held
    = (false, is (held.bytes ++ []), λ e. absurd (not_true e)) in
    record {
      more = [];
      moves = stand held.ended files;
      needed = needs_none (λ bytes. gray_kind (magic_of format) (held.bytes ++ bytes));
      gives = subst (λ why. StopsBy (gray_kind (magic_of format) (held.bytes ++ [])) why held) (sym cause) stops;
    }

gray_header_behind_stays : (plain : Bool) → Stays (gray_header_behind plain)
gray_header_behind_stays plain = λ bytes more.
    stays_bind (sides bytes) (sides (bytes ++ more)) (λ s rest. maxval rest >>= λ maxval rest. header_end plain rest >>= λ _ rest.
    Takes false (record { plain = plain; width = s.0; height = s.1; maxval = maxval }) rest) more (λ s. λ bytes more.
    stays_bind (maxval bytes) (maxval (bytes ++ more)) (λ maxval rest. header_end plain rest >>= λ _ rest.
    Takes false (record { plain = plain; width = s.0; height = s.1; maxval = maxval }) rest) more (λ maxval. λ bytes more.
    stays_bind (header_end plain bytes) (header_end plain (bytes ++ more)) (λ _ rest.
    Takes false (record { plain = plain; width = s.0; height = s.1; maxval = maxval }) rest) more
    (λ _. take_stays false (record { plain = plain; width = s.0; height = s.1; maxval = maxval })) (header_end_stays plain bytes more))
    (maxval_stays bytes more)) (sides_stay bytes more)

pub gray_header_stays : Stays gray_header
gray_header_stays = λ bytes more.
    stays_bind (spaces bytes) (spaces (bytes ++ more)) (λ _ rest. gray_magic rest >>= λ plain rest. gray_header_behind plain rest) more (λ _. λ bytes more.
    stays_bind (gray_magic bytes) (gray_magic (bytes ++ more)) (λ plain rest. gray_header_behind plain rest) more gray_header_behind_stays (gray_magic_stays bytes more))
    (spaces_stay bytes more)

pub gray_row_stays : (plain : Bool) (maxval width : ℕ) → Stays (gray_row plain maxval width)
gray_row_stays true maxval width = times_stay plain_sample plain_sample_stays width
gray_row_stays false maxval width = raw_samples_row_stays Gray maxval width
