-- Looking at the next byte through a buffer.
use Rattle.std.specs.Prelude.{◌≡◌, ℕ, ◌≤◌, ◌<◌, ◌⊎◌, true, false, List, [], ◌∷◌, ◌++◌, length, Option, Some, None, Result, Ok, Err}
use Rattle.pt_core.specs.Counts.{Rose}
use Rattle.pt_core.specs.Files.{Files}
use Rattle.bitmap_input.specs.Reading.{Buffered, Moves}
use Rattle.bitmap_input.specs.declared.buffer.Look.{Look}
use Rattle.bitmap_input.specs.declared.buffer.Look.TheVariants.{Byte, End, Fault}

-- the first byte of a list, if there is one
abbrev pub IsFirst : List ℕ → Option ℕ → Type 0
IsFirst bytes (Some b) = (bs : List ℕ) × (bytes ≡ b ∷ bs)
IsFirst bytes None = bytes ≡ []

-- at most 65,536 bytes were read, and only if none were held, and all bytes are held
pub record ReadsOn (old : Buffered) (before : Option Files) (new : Buffered) (now : Option Files) : Type 0 where
  pub more : List ℕ
  pub moves : Moves old.ended before new.ended now more
  pub bytes : new.bytes ≡ old.bytes ++ more
  pub one_block : (more ≡ []) ⊎ ((old.bytes ≡ []) × (length more ≤ 65536))

-- the next byte; or there are no more bytes; or no byte was held and reading more failed
abbrev pub Looks : Buffered → Option Files → Look → Buffered → Option Files → Type 0
Looks old files (Byte b) new now = ReadsOn old files new now × ((bs : List ℕ) × (new.bytes ≡ b ∷ bs))
Looks old files End new now = ReadsOn old files new now × ((new.bytes ≡ []) × (new.ended ≡ true))
Looks old files Fault new now = (new ≡ old) × (now ≡ files) × (old.bytes ≡ []) × (old.ended ≡ false)

-- bytes were read into the empty buffer: at most 65,536, and none only at the end of the file
pub record IsRefilled (before : Option Files) (new : Buffered) (now : Option Files) : Type 0 where
  pub moves : Moves false before new.ended now new.bytes
  pub some : new.ended ≡ false → 0 < length new.bytes
  pub none : new.ended ≡ true → new.bytes ≡ []
  pub within : length new.bytes ≤ 65536

-- the empty buffer was filled; or the read failed, and nothing changed
abbrev pub Fills : {X E : Type 0} → Buffered → Option Files → Result X E → Buffered → Option Files → Type 0
Fills old before (Ok done) new now = IsRefilled before new now
Fills old before (Err fault) new now = (new ≡ old) × (now ≡ before)

-- the inputs' count of faults rises if the read failed, and otherwise stays
abbrev pub CountsRead : {X E : Type 0} → Result X E → ℕ → ℕ → Type 0
CountsRead (Ok done) before now = now ≡ before
CountsRead (Err fault) before now = Rose before now × (before ≤ now)

-- the inputs' count of faults rises if the look failed, and otherwise stays
abbrev pub CountsLook : Look → ℕ → ℕ → Type 0
CountsLook (Byte b) before now = now ≡ before
CountsLook End before now = now ≡ before
CountsLook Fault before now = Rose before now × (before ≤ now)
