-- A page that bytes added couldn't change stays the same when bytes are added.
use Rattle.std.proofs.Common.{◌≡◌, refl, ℕ, ◌-◌, Bool, false, List, ◌++◌, length, arith, ap, ◌∙◌}
use Rattle.std.proofs.lemmas.List.{length-append}
use Rattle.bitmap_input.specs.Cut.{Cut, is_by_end}
use Rattle.bitmap_input.proofs.AddedBytes.{with_more}
use Rattle.bitmap_input.specs.Cut.Cut.{Takes, Stops}
use Rattle.bitmap_input.specs.PageParts.{spaces, space, repeated}
use Rattle.bitmap_input.specs.Raw.{Raw}
use Rattle.bitmap_input.specs.Raw.Entry.{Bit}
use Rattle.bitmap_input.specs.Front.{Magic, magic, sides, maxval, plain_pixel, raw_row, body, page_at, answer_of, front}
use Rattle.bitmap_input.specs.Samples.{as_entry, plain_samples, raw_samples_row}
use Rattle.bitmap_input.specs.Front.Magic.{PlainBits, RawBits, PlainSamples, RawSamples, Picture}
use Rattle.bitmap_input.specs.Front.Answer.{Page}
use Rattle.bitmap_input.proofs.AddedBytes.{Stays, stays_bind, times_stay, raster_stays, space_stays, spaces_stay, sides_stay, maxval_stays, plain_pixel_stays, raw_row_stays, plain_samples_stay, raw_samples_row_stays, magic_stays}
use Rattle.bitmap_input.proofs.BmpStays.{bmp_stays}

pub body_stays : (m : Magic) → Stays (body m)
body_stays PlainBits bytes more not_end =
    stays_bind (sides bytes) (sides (bytes ++ more)) _ more
    (λ s. raster_stays (λ b. Bit b) (repeated plain_pixel s.0) s.0 s.1 (times_stay plain_pixel plain_pixel_stays s.0))
    (sides_stay bytes more) not_end
body_stays RawBits bytes more not_end =
    stays_bind (sides bytes) (sides (bytes ++ more)) _ more
    (λ s bytes more not_end. stays_bind (space bytes) (space (bytes ++ more)) _ more
    (λ _. raster_stays (λ b. Bit b) (raw_row s.0) s.0 s.1 (raw_row_stays s.0))
    (space_stays bytes more) not_end)
    (sides_stay bytes more) not_end
body_stays (PlainSamples c) bytes more not_end =
    stays_bind (sides bytes) (sides (bytes ++ more)) _ more
    (λ s bytes more not_end. stays_bind (maxval bytes) (maxval (bytes ++ more)) _ more
    (λ maxval. raster_stays (as_entry c maxval) (repeated (plain_samples c) s.0) s.0 s.1 (times_stay (plain_samples c) (plain_samples_stay c) s.0))
    (maxval_stays bytes more) not_end)
    (sides_stay bytes more) not_end
body_stays (RawSamples c) bytes more not_end =
    stays_bind (sides bytes) (sides (bytes ++ more)) _ more
    (λ s bytes more not_end. stays_bind (maxval bytes) (maxval (bytes ++ more)) _ more
    (λ maxval bytes more not_end. stays_bind (space bytes) (space (bytes ++ more)) _ more
    (λ _. raster_stays (as_entry c maxval) (raw_samples_row c maxval s.0) s.0 s.1 (raw_samples_row_stays c maxval s.0))
    (space_stays bytes more) not_end)
    (maxval_stays bytes more) not_end)
    (sides_stay bytes more) not_end
body_stays Picture bytes more not_end = bmp_stays bytes more not_end

-- a page stays the same when bytes are added, unless it is by the end of the list
pub page_stays : (later : Bool) → Stays (page_at later)
page_stays later bytes more not_end =
    stays_bind (spaces bytes) (spaces (bytes ++ more)) _ more
    (λ _ bytes more not_end. stays_bind (magic later bytes) (magic later (bytes ++ more)) _ more body_stays (magic_stays later bytes more) not_end)
    (spaces_stay bytes more) not_end

answer_stays : (bytes more : List ℕ) (c : Cut Raw) → answer_of (bytes ++ more) (with_more more c) ≡ answer_of bytes c
answer_stays bytes more (Takes e raw rest) =
    let a : length (bytes ++ more) - length (rest ++ more) ≡ length bytes - length rest
    = omega (arith, length-append bytes more, length-append rest more) in
    ap (λ n. Page raw n) a
answer_stays bytes more (Stops e ending) = refl

pub front_stays : (later : Bool) (bytes more : List ℕ) → is_by_end (page_at later bytes) ≡ false →
    front later (bytes ++ more) ≡ front later bytes
front_stays later bytes more not_end =
    let e = page_stays later bytes more not_end in
    ap (answer_of (bytes ++ more)) e ∙ answer_stays bytes more (page_at later bytes)

is_by_end-with_more : {A : Type 0} (more : List ℕ) (c : Cut A) → is_by_end (with_more more c) ≡ is_by_end c
is_by_end-with_more more (Takes e x rest) = refl
is_by_end-with_more more (Stops e ending) = refl

pub page_decided : (later : Bool) (bytes more : List ℕ) → is_by_end (page_at later bytes) ≡ false →
    is_by_end (page_at later (bytes ++ more)) ≡ false
page_decided later bytes more not_end =
    ap is_by_end (page_stays later bytes more not_end) ∙ is_by_end-with_more more (page_at later bytes) ∙ not_end
