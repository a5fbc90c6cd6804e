-- A step of the reader, with the state in which it leaves the inputs.
use Rattle.std.proofs.Common.{List, ℕ, Result}
use Rattle.pt_core.specs.declared.inputs.Inputs.{Ghosts}
use Rattle.bitmap_input.specs.declared.stop.Stop.{Stop}
use Rattle.bitmap_input.specs.Cut.{Cut}
use Rattle.bitmap_input.specs.Reading.{Buffered}
use Rattle.bitmap_input.specs.Inner.Reading.{Reads, ReadsFrom, Leaves}

pub leaving : {A X B : Type 0} {told : Ghosts B} {is : X → A → Type 0} {part : List ℕ → Cut A} {old : Buffered} {before : B} {result : Result X Stop} {new : Buffered} {now : B} →
    Leaves told result before now → Reads is part old (told.files before) result new (told.files now) → ReadsFrom told is part old before result new now
leaving leaves step = record { step = step; leaves = leaves }
