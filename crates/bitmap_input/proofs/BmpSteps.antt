-- The steps that read the header of a BMP picture, and their checks.
use Rattle.std.proofs.lemmas.List.{length-append}
use Rattle.std.proofs.Common.{◌≡◌, refl, ◌+◌, ◌-◌, ◌<◌, arith, length, Bool, true, false, List, [], ◌++◌, sym, subst, Option, Result, Ok, Err, ap, ◌∙◌, append-nil, ℕ}
use Rattle.pt_core.specs.Files.{Files}
use Rattle.bitmap_input.specs.declared.stop.Stop.{Stop}
use Rattle.bitmap_input.specs.Cut.{Kind, Cut}
use Rattle.bitmap_input.specs.Cut.FileEnd.{Refused}
use Rattle.bitmap_input.specs.Cut.Cut.{Takes, Stops}
use Rattle.bitmap_input.specs.Reading.{Buffered}
use Rattle.bitmap_input.specs.Inner.Reading.{cause_of, StopsBy, Reads}
use Rattle.bitmap_input.specs.Reading.Cause.{Says}
use Rattle.bitmap_input.specs.Bmp.{passes, placed}
use Rattle.bitmap_input.specs.Cut.Kind.{BadOffset}
use Rattle.bitmap_input.specs.PageParts.{block}
use Rattle.bitmap_input.specs.BmpHeader.{header_size, bits, mask_bytes, width, height, pixel_offset, palette_end}
use Rattle.bitmap_input.specs.Sides.{checked}
use Rattle.std.specs.Prelude.{nat_le}
use Rattle.std.proofs.lemmas.Bool.{lt-leb}
use Rattle.bitmap_input.specs.Inner.BmpHead.{Passes, IsHeaderStart, IsInfo, IsWholeHeader}
use Rattle.bitmap_input.proofs.BmpLengths.{info_grown, masks_grown, bits_grown, info_has}
use Rattle.bitmap_input.proofs.NeededBytes.{needs_none}
use Rattle.bitmap_input.proofs.ComposedSteps.{not_true, stand}

-- a check as a step that reads nothing
pub reads_passes : {X A : Type 0} {is : X → A → Type 0} {part : List ℕ → Cut A} {held : Buffered} {files : Option Files} {result : Result X Stop} →
    Passes is part result → Reads is part held files result held files
reads_passes {part = part} {held = held} {files = files} {result = Ok x} (a, same, takes) = record {
  more = [];
  moves = stand held.ended files;
  needed = needs_none (λ bytes. part (held.bytes ++ bytes));
  gives = (false, a, same, takes (held.bytes ++ []) ∙ ap (Takes false a) (append-nil held.bytes), λ e. absurd (not_true e));
}
reads_passes {part = part} {held = held} {files = files} {result = Err s} (ending, cause, stops) =
    let here : StopsBy (part (held.bytes ++ [])) (Says ending) held = (false, stops (held.bytes ++ []), λ e. absurd (not_true e)) in
    record {
      more = [];
      moves = stand held.ended files;
      needed = needs_none (λ bytes. part (held.bytes ++ bytes));
      gives = subst (λ why. StopsBy (part (held.bytes ++ [])) why held) (sym cause) here;
    }

-- a check that is passed, and one that isn't
pub passed : {X A : Type 0} {is : X → A → Type 0} {x : X} {held : Buffered} {files : Option Files} (kind : Kind) (t : Bool) (a : A) → t ≡ true → is x a →
    Reads is (passes kind t a) held files (Ok x) held files
passed kind t a test same = reads_passes (a, same, λ bytes. rw test refl)

pub not_passed : {X A : Type 0} (is : X → A → Type 0) {held : Buffered} {files : Option Files} (s : Stop) (kind : Kind) (t : Bool) (a : A) → t ≡ false →
    cause_of s ≡ Says (Refused kind) → Reads {X = X} is (passes kind t a) held files (Err s) held files
not_passed is s kind t a test cause = reads_passes (Refused kind, cause, λ bytes. rw test refl)

-- the sides are in range, and the pixels begin too early
pub placed_too_soon : (head : List ℕ) → ((bytes : List ℕ) → checked (width head) (height head) bytes ≡ Takes false (width head, height head) bytes) →
    pixel_offset head < palette_end head → (bytes : List ℕ) → placed head bytes ≡ Stops false (Refused BadOffset)
placed_too_soon head in_range soon bytes =
    let test : nat_le (palette_end head) (pixel_offset head) ≡ false = lt-leb (palette_end head) (pixel_offset head) soon in
    rw (in_range bytes, test) refl

-- The header's bytes while they are read.

module _ (old new : List ℕ) (n : ℕ) {held held2 : Buffered} {files files2 : Option Files} (r : Reads {X = Unit {0}} (λ _ more. new ≡ old ++ more) (block n) held files (Ok (tt {0})) held2 files2) (reach : length new ≡ length old + n) where
  -- the bytes that were read
  abbrev more : List ℕ
  more = r.gives.1

  grown : new ≡ old ++ more
  grown = r.gives.2

  fits : length more ≡ n
  fits = let e : length new ≡ length old + length more = ap length grown ∙ length-append old more in omega (arith, e)

  pub info_read : IsHeaderStart old → n ≡ header_size old - 4 → IsInfo new
  info_read begun is = subst IsInfo (sym grown) (info_grown old more begun (fits ∙ is))

  pub whole_read : IsInfo old → n ≡ mask_bytes old → IsWholeHeader new
  whole_read begun is = subst IsWholeHeader (sym grown) (masks_grown old more begun (fits ∙ is))

  pub bits_stay : IsInfo old → bits new ≡ bits old
  bits_stay begun = subst (λ head. bits head ≡ bits old) (sym grown) (bits_grown old more (info_has old begun))
