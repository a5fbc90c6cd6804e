-- The header of a page in the program: its format, its sides and its sample for white.
use Rattle.std.specs.Prelude.{◌≡◌, ℕ, Bool, true, false, List, Result, Ok, Err}
use Rattle.bitmap_input.specs.Cut.Cut.{Takes, Stops}
use Rattle.bitmap_input.specs.Cut.{FileEnd}
use Rattle.bitmap_input.specs.Front.{Magic, checked, checked_maxval}
use Rattle.bitmap_input.specs.Front.Magic.{PlainBits, RawBits, PlainSamples, RawSamples, Picture}
use Rattle.bitmap_input.specs.Inner.ByteRuns.{IsCapped}
use Rattle.bitmap_input.specs.Inner.Reading.{cause_of}
use Rattle.bitmap_input.specs.Reading.Cause.{Says}
use Rattle.bitmap_input.specs.declared.channels.Channels.{Channels}
use Rattle.bitmap_input.specs.declared.stop.Stop.{Stop}
use Rattle.bitmap_input.specs.declared.header.Format.{Format}
use Rattle.bitmap_input.specs.declared.header.Format.TheVariants as format
use Rattle.bitmap_input.specs.declared.sides.Sides.{Sides}

-- the format that a magic number names
abbrev pub magic_of : Format → Magic
magic_of format.PlainBits = PlainBits
magic_of format.RawBits = RawBits
magic_of (format.PlainSamples c) = PlainSamples c
magic_of (format.RawSamples c) = RawSamples c
magic_of format.Picture = Picture

-- the magic number of a page of samples, plain or raw
abbrev pub samples_magic : Bool → Channels → Magic
samples_magic true c = PlainSamples c
samples_magic false c = RawSamples c

-- the magic number names this format
abbrev pub IsFormat : Format → Magic → Type 0
IsFormat x a = a ≡ magic_of x

-- the two numbers are these sides
abbrev pub IsSides : Sides → ℕ × ℕ → Type 0
IsSides x a = (a.0 ≡ x.width) × (a.1 ≡ x.height)

-- two numbers of a header, each possibly capped, are the sides of a page exactly if the uncapped
-- numbers are
abbrev pub Checks : ℕ → ℕ → Result Sides Stop → Type 0
Checks x y (Ok s) =
    (width height : ℕ) → IsCapped x width → IsCapped y height →
    (width ≡ s.width) × (height ≡ s.height) × ((bytes : List ℕ) → checked width height bytes ≡ Takes false (width, height) bytes)
Checks x y (Err stop) =
    (width height : ℕ) → IsCapped x width → IsCapped y height →
    (ending : FileEnd) × (cause_of stop ≡ Says ending) × ((bytes : List ℕ) → checked width height bytes ≡ Stops false ending)

-- a number of a header, possibly capped, is in range for a sample for white exactly if the uncapped number
-- is in range
abbrev pub ChecksMaxval : ℕ → Result ℕ Stop → Type 0
ChecksMaxval x (Ok maxval) =
    (n : ℕ) → IsCapped x n → (n ≡ maxval) × ((bytes : List ℕ) → checked_maxval n bytes ≡ Takes false n bytes)
ChecksMaxval x (Err stop) =
    (n : ℕ) → IsCapped x n →
    (ending : FileEnd) × (cause_of stop ≡ Says ending) × ((bytes : List ℕ) → checked_maxval n bytes ≡ Stops false ending)
