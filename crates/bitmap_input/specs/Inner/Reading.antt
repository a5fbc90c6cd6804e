-- A step of the reader, which reads one part of a page: its result, and the state in which it leaves the inputs.
use Rattle.std.specs.Prelude.{◌≡◌, ℕ, ◌≤◌, Bool, true, false, List, ◌++◌, Option, Result, Ok, Err}
use Rattle.pt_core.specs.Files.{Files}
use Rattle.pt_core.specs.Counts.{Rose}
use Rattle.pt_core.specs.declared.inputs.Inputs.{Ghosts}
use Rattle.bitmap_input.specs.declared.stop.Stop.{Stop}
use Rattle.bitmap_input.specs.declared.stop.Stop.TheVariants as stop
use Rattle.bitmap_input.specs.Cut.{Cut, is_by_end}
use Rattle.bitmap_input.specs.Cut.FileEnd.{End, Trailing}
use Rattle.bitmap_input.specs.Cut.Cut.{Takes, Stops}
use Rattle.bitmap_input.specs.Reading.{Buffered, Moves, Cause, cause_of_fault, AreNeeded}
use Rattle.bitmap_input.specs.Reading.Cause.{Says, Device, Memory}

-- the cause that stopped the reading
abbrev pub cause_of : Stop → Cause
cause_of stop.End = Says End
cause_of stop.Trailing = Says Trailing
cause_of (stop.Fault f) = cause_of_fault f

-- the cut stops for this cause: the bytes say so; or a read failed and bytes added could change the cut
abbrev pub StopsBy : {A : Type 0} → Cut A → Cause → Buffered → Type 0
StopsBy cut (Says ending) held = (e : Bool) × (cut ≡ Stops e ending) × (e ≡ true → held.ended ≡ true)
StopsBy cut Device held = (is_by_end cut ≡ true) × (held.ended ≡ false)
StopsBy cut Memory held = Unit {0}

-- the result is what the cut of the bytes says, and `held` is the rest; if bytes added could change
-- the cut, a read has returned nothing, so there are no more bytes
abbrev pub Gives : {A X : Type 0} → (X → A → Type 0) → Cut A → Result X Stop → Buffered → Type 0
Gives {A = A} is cut (Ok x) held =
    (e : Bool) × (a : A) × is x a × (cut ≡ Takes e a held.bytes) × (e ≡ true → held.ended ≡ true)
Gives is cut (Err s) held = StopsBy cut (cause_of s) held

-- a step of the reader reads the bytes that the part needs, and its result is what the part says of
-- the bytes held and read
pub record Reads {A X : Type 0} (is : X → A → Type 0) (part : List ℕ → Cut A) (old : Buffered) (before : Option Files) (result : Result X Stop) (new : Buffered) (now : Option Files) : Type 0 where
  pub more : List ℕ
  pub moves : Moves old.ended before new.ended now more
  pub needed : AreNeeded (λ bytes. part (old.bytes ++ bytes)) more
  pub gives : Gives is (part (old.bytes ++ more)) result new

-- the value may be anything
abbrev pub Any : {X A : Type 0} → X → A → Type 0
Any x a = Unit {0}

-- the value is this one
abbrev pub Same : {A : Type 0} → A → A → Type 0
Same x a = a ≡ x

-- the inputs' count of faults rises if a read failed, and otherwise stays
abbrev pub CountsBy : Cause → ℕ → ℕ → Type 0
CountsBy (Says ending) before now = now ≡ before
CountsBy Device before now = Rose before now × (before ≤ now)
CountsBy Memory before now = now ≡ before

-- the inputs' count of faults rises if the step failed to read, and otherwise stays
abbrev pub Counts : {X : Type 0} → Result X Stop → ℕ → ℕ → Type 0
Counts (Ok x) before now = now ≡ before
Counts (Err s) before now = CountsBy (cause_of s) before now

-- memory didn't run out
abbrev pub HasMemory : Cause → Type 0
HasMemory (Says ending) = Unit {0}
HasMemory Device = Unit {0}
HasMemory Memory = ⊥

-- the step didn't run out of memory
abbrev pub TakesNone : {X : Type 0} → Result X Stop → Type 0
TakesNone (Ok x) = Unit {0}
TakesNone (Err s) = HasMemory (cause_of s)

-- how inputs are left: their count of faults moved as given, the file is still open, and none was
-- opened
pub record LeavesCounting {A : Type 0} (told : Ghosts A) (moves : ℕ → ℕ → Type 0) (before now : A) : Type 0 where
  pub counts : moves (told.faults before) (told.faults now)
  pub opened : told.is_opened now ≡ true
  pub same_openings : told.openings now ≡ told.openings before

-- how a step leaves the inputs: the count of faults rises if a read failed, and otherwise stays
abbrev pub Leaves : {A X : Type 0} → Ghosts A → Result X Stop → A → A → Type 0
Leaves told result before now = LeavesCounting told (Counts result) before now

-- a step of the reader on inputs: it reads this part, its result is what the part says, and it
-- leaves the inputs as described
pub record ReadsFrom {A X B : Type 0} (told : Ghosts B) (is : X → A → Type 0) (part : List ℕ → Cut A) (old : Buffered) (before : B) (result : Result X Stop) (new : Buffered) (now : B) : Type 0 where
  pub step : Reads is part old (told.files before) result new (told.files now)
  pub leaves : Leaves told result before now
