-- The reader of a file's pages, and what its results say of the file.
use Rattle.std.specs.Prelude.{◌≡◌, ℕ, ◌+◌, ◌-◌, Bool, true, false, nat_lt, List, [], ◌++◌, drop, Option, IfSome, Result, Ok, Err}
use Rattle.pt_core.specs.Files.{Files, unread}
use Rattle.bit_image.specs.Page.{Page as Pixels}
use Rattle.bitmap_input.specs.declared.fault.InFault.{InFault}
use Rattle.bitmap_input.specs.declared.next.Next.{Next}
use Rattle.bitmap_input.specs.declared.next.Next.TheVariants as next
use Rattle.bitmap_input.specs.Cut.{FileEnd, is_by_end}
use Rattle.bitmap_input.specs.Cut.FileEnd.{End, Trailing}
use Rattle.bitmap_input.specs.Raw.{Raw, shown}
use Rattle.bitmap_input.specs.Front.{Answer, front, page_at}
use Rattle.bitmap_input.specs.Front.Answer.{Page, Ends}
use Rattle.bitmap_input.specs.FilePages.{next_begins}
use Rattle.bitmap_input.specs.Reading.{Moves, AreNeeded, Cause, cause_of_fault}
use Rattle.bitmap_input.specs.Reading.Cause.{Says, Device, Memory}

-- the bytes that were read and not used yet, how many bytes are still to be skipped after the last
-- page, how many pages were returned, whether a read has returned nothing, and whether the reader
-- is over
pub record Reader : Type 0 where
  pub bytes : List ℕ
  pub skip : ℕ
  pub pages : ℕ
  pub ended : Bool
  pub over : Bool

-- a reader at the beginning of a file
abbrev pub at_start : Reader
at_start = record { bytes = []; skip = 0; pages = 0; ended = false; over = false }

-- a page of this file came before
abbrev pub is_later : Reader → Bool
is_later reader = nat_lt 0 reader.pages

-- the bytes that the next page begins with: those held and those read after them, without those to
-- be skipped
abbrev pub ahead : Reader → List ℕ → List ℕ
ahead reader more = drop reader.skip (reader.bytes ++ more)

-- the bytes that this answer needs were read, and the bytes held and read give it; if bytes added
-- could change the answer, a read has returned nothing
pub record Answers (old : Reader) (before : Option Files) (answer : Answer) (new : Reader) (now : Option Files) : Type 0 where
  pub more : List ℕ
  pub moves : Moves old.ended before new.ended now more
  pub needed : AreNeeded (λ bytes. page_at (is_later old) (ahead old bytes)) more
  pub is : front (is_later old) (ahead old more) ≡ answer
  pub settled : is_by_end (page_at (is_later old) (ahead old more)) ≡ true → new.ended ≡ true

-- the next page was returned, at this level and inverted or not: the bytes after it are left, and
-- those that it claims are to be skipped
pub record GivesPage (level : ℕ) (invert : Bool) (old : Reader) (before : Option Files) (page : Pixels) (new : Reader) (now : Option Files) : Type 0 where
  pub raw : Raw
  pub used : ℕ
  pub answers : Answers old before (Page raw used) new now
  pub shows : page ≡ shown level invert raw
  pub left : new.bytes ≡ drop used (ahead old answers.more)
  pub skipped : new.skip ≡ next_begins (ahead old answers.more) raw used - used
  pub counted : new.pages ≡ old.pages + 1
  pub going_on : new.over ≡ false

-- the pages end in this way, and the reader is over
pub record GivesEnding (old : Reader) (before : Option Files) (ending : FileEnd) (new : Reader) (now : Option Files) : Type 0 where
  pub answers : Answers old before (Ends ending) new now
  pub counted : new.pages ≡ old.pages
  pub over : new.over ≡ true

-- a read failed: bytes added could change the answer, so all bytes that were read are needed, and
-- no read had returned nothing before
pub record ReadFails (old : Reader) (before : Option Files) (new : Reader) (now : Option Files) : Type 0 where
  pub more : List ℕ
  pub moves : Moves old.ended before new.ended now more
  pub by_end : is_by_end (page_at (is_later old) (ahead old more)) ≡ true
  pub going_on : new.ended ≡ false
  pub counted : new.pages ≡ old.pages
  pub over : new.over ≡ true

-- memory ran out: the inputs are as the reading left them, which read only bytes that the page
-- needs
pub record MemoryFails (old : Reader) (before : Option Files) (new : Reader) (now : Option Files) : Type 0 where
  pub more : List ℕ
  pub moves : Moves old.ended before new.ended now more
  pub needed : AreNeeded (λ bytes. page_at (is_later old) (ahead old bytes)) more
  pub counted : new.pages ≡ old.pages
  pub over : new.over ≡ true

-- whether the result is Over
abbrev pub is_over : Result Next InFault → Bool
is_over (Ok next.Over) = true
is_over (Ok (next.Page page)) = false
is_over (Ok next.End) = false
is_over (Ok next.Trailing) = false
is_over (Err f) = false

-- if the result is a page, P holds for it
abbrev pub IfPage : Result Next InFault → (Pixels → Type 0) → Type 0
IfPage (Ok (next.Page page)) P = P page
IfPage (Ok next.Over) P = Unit {0}
IfPage (Ok next.End) P = Unit {0}
IfPage (Ok next.Trailing) P = Unit {0}
IfPage (Err f) P = Unit {0}

-- if the bytes say how the pages end, P holds for the ending
abbrev pub IfSays : Cause → (FileEnd → Type 0) → Type 0
IfSays (Says ending) P = P ending
IfSays Device P = Unit {0}
IfSays Memory P = Unit {0}

-- if the result is End, Trailing or a refusal, P holds for the ending
abbrev pub IfEnding : Result Next InFault → (FileEnd → Type 0) → Type 0
IfEnding (Ok next.End) P = P End
IfEnding (Ok next.Trailing) P = P Trailing
IfEnding (Ok (next.Page page)) P = Unit {0}
IfEnding (Ok next.Over) P = Unit {0}
IfEnding (Err f) P = IfSays (cause_of_fault f) P

-- the whole rest of the file gives this page, at this level and inverted or not, and the next page
-- is looked for after it
pub record TellsPage (level : ℕ) (invert : Bool) (old : Reader) (rest : List ℕ) (page : Pixels) (new : Reader) (now : Option Files) : Type 0 where
  pub raw : Raw
  pub used : ℕ
  pub is : front (is_later old) (ahead old rest) ≡ Page raw used
  pub shows : page ≡ shown level invert raw
  pub left : IfSome (unread now) (λ more. ahead new more ≡ drop (next_begins (ahead old rest) raw used) (ahead old rest))

-- the fault is what the bytes say
abbrev pub IsCauseOf : Cause → Answer → Type 0
IsCauseOf (Says ending) answer = answer ≡ Ends ending
IsCauseOf Device answer = ⊥
IsCauseOf Memory answer = ⊥

-- the reader's result is the answer that the bytes give, at this level and inverted or not
abbrev pub IsAnswer : ℕ → Bool → Result Next InFault → Answer → Type 0
IsAnswer level invert (Ok (next.Page page)) (Page raw used) = page ≡ shown level invert raw
IsAnswer level invert (Ok (next.Page page)) (Ends ending) = ⊥
IsAnswer level invert (Ok next.End) answer = answer ≡ Ends End
IsAnswer level invert (Ok next.Trailing) answer = answer ≡ Ends Trailing
IsAnswer level invert (Ok next.Over) answer = ⊥
IsAnswer level invert (Err f) answer = IsCauseOf (cause_of_fault f) answer
