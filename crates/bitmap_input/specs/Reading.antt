-- Reading from inputs: which bytes are read, whether they are needed, and why reading stops.
use Rattle.std.specs.Prelude.{◌≡◌, ℕ, ◌≤◌, Bool, true, ◌⊎◌, List, [], ◌++◌, length, take, Option, IfSome}
use Rattle.pt_core.specs.Files.{Files, with_read, unread}
use Rattle.bitmap_input.specs.declared.fault.InFault.{InFault}
use Rattle.bitmap_input.specs.declared.fault.InFault.TheVariants as fault
use Rattle.bitmap_input.specs.Cut.{FileEnd, Cut, is_by_end}
use Rattle.bitmap_input.specs.Cut.Kind.{UnknownFormat, BadHeader, ZeroSide, TooLarge, Truncated, BadRaster, BmpKind, BadOffset, TooLong}
use Rattle.bitmap_input.specs.Cut.FileEnd.{Refused}

-- the bytes that were read and not used yet, and whether a read has returned nothing
pub record Buffered : Type 0 where
  pub bytes : List ℕ
  pub ended : Bool

-- nothing is left to be read, if the file is known
abbrev pub AtEnd : Option Files → Type 0
AtEnd files = IfSome (unread files) (λ rest. rest ≡ [])

-- these bytes were read from the inputs: they are the first unread ones, and none are read once a
-- read has returned nothing, which happens only at the end of the file
pub record Moves (ended : Bool) (before : Option Files) (ended_now : Bool) (now : Option Files) (more : List ℕ) : Type 0 where
  pub files : now ≡ with_read before (length more)
  pub told : IfSome (unread before) (λ rest. more ≡ take (length more) rest)
  pub stopped : ended ≡ true → (more ≡ []) × (ended_now ≡ true)
  pub end : ended_now ≡ true → (ended ≡ true) ⊎ AtEnd now

-- why reading stopped: the bytes say so, a read failed, or memory ran out
pub data Cause : Type 0 where
  Says : FileEnd → Cause
  Device : Cause
  Memory : Cause

-- the cause of a fault
abbrev pub cause_of_fault : InFault → Cause
cause_of_fault fault.UnknownFormat = Says (Refused UnknownFormat)
cause_of_fault fault.BadHeader = Says (Refused BadHeader)
cause_of_fault fault.ZeroSide = Says (Refused ZeroSide)
cause_of_fault fault.TooLarge = Says (Refused TooLarge)
cause_of_fault fault.Truncated = Says (Refused Truncated)
cause_of_fault fault.BadRaster = Says (Refused BadRaster)
cause_of_fault fault.BmpKind = Says (Refused BmpKind)
cause_of_fault fault.BadOffset = Says (Refused BadOffset)
cause_of_fault fault.TooLong = Says (Refused TooLong)
cause_of_fault fault.ReadFault = Device
cause_of_fault fault.NoMemory = Memory

-- the cut of these bytes needs them, except for the rest of a last block: there are none, or at most
-- 65,536 of them follow bytes that don't decide the cut, because bytes added to those could change it
pub record AreNeeded {A : Type 0} (cut : List ℕ → Cut A) (more : List ℕ) : Type 0 where
  pub before : List ℕ
  pub block : List ℕ
  pub split : more ≡ before ++ block
  pub within : length block ≤ 65536
  pub undecided : (more ≡ []) ⊎ (is_by_end (cut before) ≡ true)
