-- The result of reading a page, together with what was held, is the reader's result.
use Rattle.std.proofs.Common.{◌≤◌, arith, ◌⊎◌, inl, inr, ◌≡◌, refl, ℕ, ◌+◌, ◌-◌, Bool, true, false, List, [], ◌++◌, length, drop, ap, sym, ◌∙◌, subst, Option, Some, None, IfSome, Result, Ok, Err, append-nil}
use Rattle.std.proofs.lemmas.List.{drop-append-le, drop-drop}
use Rattle.std.proofs.Math.Seq.{drop-length}
use Rattle.pt_core.specs.Files.{Files, unread}
use Rattle.bit_image.specs.Page.{Page as Pixels}
use Rattle.std.specs.Prelude.{IsErrOf}
use Rattle.pt_core.specs.Counts.{Rose}
use Rattle.bitmap_input.specs.declared.stop.Stop.{Stop}
use Rattle.bitmap_input.specs.declared.fault.InFault.{InFault}
use Rattle.bitmap_input.specs.declared.fault.InFault.TheVariants as fault
use Rattle.bitmap_input.specs.declared.next.Next.{Next}
use Rattle.bitmap_input.specs.declared.next.Next.TheVariants as next
use Rattle.bitmap_input.specs.Cut.{FileEnd, is_by_end}
use Rattle.bitmap_input.specs.Cut.FileEnd.{End, Trailing}
use Rattle.bitmap_input.specs.Cut.Cut.{Takes}
use Rattle.bitmap_input.specs.Raw.{Raw, shown}
use Rattle.bitmap_input.specs.Inner.Behind.{IsRead, counted_page}
use Rattle.bitmap_input.specs.declared.extent.ReadPage.{ReadPage}
use Rattle.bitmap_input.specs.Front.{Answer, front, page_at, answer_of}
use Rattle.bitmap_input.specs.Front.Answer.{Page, Ends}
use Rattle.bitmap_input.specs.FilePages.{next_begins}
use Rattle.bitmap_input.specs.Reading.{Buffered, AtEnd, AreNeeded, Cause, cause_of_fault}
use Rattle.bitmap_input.specs.Inner.Reading.{cause_of, StopsBy, Reads, CountsBy}
use Rattle.bitmap_input.specs.Reading.Cause.{Says, Device, Memory}
use Rattle.bitmap_input.specs.Reader.{Reader, is_later, ahead, Answers, GivesPage, GivesEnding, ReadFails, MemoryFails, TellsPage, IfSays, IsAnswer}
use Rattle.bitmap_input.proofs.FrontStays.{front_stays}
use Rattle.bitmap_input.proofs.NeededBytes.{needs_as}
use Rattle.bitmap_input.proofs.Rests.{none_left, rest_after, taken_first, where_told}
use Rattle.bitmap_input.proofs.ComposedSteps.{not_true}
use Rattle.bitmap_input.proofs.FrontKeeps.{rest_behind}
use Rattle.bitmap_input.proofs.Behind.{forget, forget-page, is_by_end-forget, stops_forget, begins_behind, front_within, begins_with_more, ahead_with_more}

-- a reader that holds these bytes
abbrev pub reader_of : Buffered → ℕ → ℕ → Bool → Reader
reader_of h skip pages over = record { bytes = h.bytes; skip = skip; pages = pages; ended = h.ended; over = over }

if_nothing : (o : Option (List ℕ)) → IfSome o (λ _. Unit {0})
if_nothing None = tt
if_nothing (Some rest) = tt

-- a fact that holds for each ending holds if there is an ending
pub if_says : (why : Cause) (P : FileEnd → Type 0) → ((ending : FileEnd) → why ≡ Says ending → P ending) → IfSays why P
if_says (Says ending) P each = each ending refl
if_says Device P each = tt
if_says Memory P each = tt

left_over : (used n : ℕ) → n ≡ (used + n) - used
left_over used n = omega arith

-- the bytes after those used, and then after those skipped
left_behind : (used skipped begins : ℕ) (taken tail : List ℕ) → used ≤ length taken → used ≤ begins → skipped ≡ begins - used →
    drop skipped (drop used taken ++ tail) ≡ drop begins (taken ++ tail)
left_behind used skipped begins taken tail within least is =
    let n : used + skipped ≡ begins = omega arith in
    ap (drop skipped) (sym (drop-append-le used taken tail within)) ∙ drop-drop skipped used (taken ++ tail) ∙ ap (λ m. drop m (taken ++ tail)) n

module _ (level : ℕ) (invert : Bool) (h h2 : Buffered) (skip skip2 pages pages2 : ℕ) (was over : Bool) (before now : Option Files) where
  abbrev pub old : Reader
  old = reader_of h skip pages was

  abbrev pub new : Reader
  new = reader_of h2 skip2 pages2 over

  -- what was read is what the bytes say
  abbrev pub ReadsAhead : Result ReadPage Stop → Type 0
  ReadsAhead result = Reads (IsRead level invert) (λ bytes. counted_page (is_later old) (drop skip bytes)) h before result h2 now

  -- if the page with its count needs the bytes, so does the page without it
  needed_ahead : {more : List ℕ} → AreNeeded (λ bytes. counted_page (is_later old) (ahead old bytes)) more →
      AreNeeded (λ bytes. page_at (is_later old) (ahead old bytes)) more
  needed_ahead n =
      needs_as (λ bytes. page_at (is_later old) (ahead old bytes)) (λ bytes still.
      ap is_by_end (sym (forget-page (is_later old) (ahead old bytes))) ∙ is_by_end-forget (counted_page (is_later old) (ahead old bytes)) ∙ still) n

  pub gives_page : {read : ReadPage} → ReadsAhead (Ok read) → skip2 ≡ read.behind → pages2 ≡ pages + 1 → over ≡ false →
      GivesPage level invert old before read.page new now
  gives_page r claimed counted going_on =
      let (e, p, is, takes, settled) = r.gives in
      let bytes : List ℕ = ahead old r.more in
      let page : page_at (is_later old) bytes ≡ Takes e p.0 h2.bytes = sym (forget-page (is_later old) bytes) ∙ ap forget takes in
      let used : ℕ = length bytes - length h2.bytes in
      let begins : next_begins bytes p.0 used ≡ used + (p.0.least_length - (2 + p.1)) = begins_behind (is_later old) bytes e p.0 p.1 h2.bytes takes in
      record {
        raw = p.0;
        used = used;
        answers = record {
          more = r.more;
          moves = r.moves;
          needed = needed_ahead r.needed;
          is = ap (answer_of bytes) page;
          settled = λ end. settled (sym (ap is_by_end page) ∙ end);
        };
        shows = is.0;
        left = rest_behind (is_later old) bytes e p.0 h2.bytes page;
        skipped = rw begins (claimed ∙ is.1 ∙ left_over used (p.0.least_length - (2 + p.1)));
        counted = counted;
        going_on = going_on;
      }

  -- why no page was read is what the bytes say
  stops_ahead : (stop : Stop) → (r : ReadsAhead (Err stop)) → StopsBy (page_at (is_later old) (ahead old r.more)) (cause_of stop) h2
  stops_ahead stop r =
      subst (λ c. StopsBy c (cause_of stop) h2) (forget-page (is_later old) (ahead old r.more))
      (stops_forget (counted_page (is_later old) (ahead old r.more)) (cause_of stop) h2 r.gives)

  pub gives_ending : (stop : Stop) → ReadsAhead (Err stop) → pages2 ≡ pages → over ≡ true → (ending : FileEnd) →
      cause_of stop ≡ Says ending → GivesEnding old before ending new now
  gives_ending stop r counted is_over ending why =
      let (e, is, settled) = subst (λ why. StopsBy (page_at (is_later old) (ahead old r.more)) why h2) why (stops_ahead stop r) in
      record {
        answers = record {
          more = r.more;
          moves = r.moves;
          needed = needed_ahead r.needed;
          is = ap (answer_of (ahead old r.more)) is;
          settled = λ end. settled (sym (ap is_by_end is) ∙ end);
        };
        counted = counted;
        over = is_over;
      }

  pub fails_read : (stop : Stop) → ReadsAhead (Err stop) → pages2 ≡ pages → over ≡ true → cause_of stop ≡ Device → ReadFails old before new now
  fails_read stop r counted is_over why =
      let stops = subst (λ why. StopsBy (page_at (is_later old) (ahead old r.more)) why h2) why (stops_ahead stop r) in
      record { more = r.more; moves = r.moves; by_end = stops.0; going_on = stops.1; counted = counted; over = is_over }

  pub wants_memory : (stop : Stop) → ReadsAhead (Err stop) → pages2 ≡ pages → over ≡ true → MemoryFails old before new now
  wants_memory stop r counted is_over =
      record { more = r.more; moves = r.moves; needed = needed_ahead r.needed; counted = counted; over = is_over }

  -- the bytes ahead, if the rest is known: those that were read and those that follow them
  ahead_told : {answer : Answer} (t : Bool) (rest : List ℕ) → (h.ended ≡ true → AtEnd before) → unread before ≡ Some rest →
      (a : Answers old before answer new now) → is_by_end (page_at (is_later old) (ahead old a.more)) ≡ t →
      ahead old rest ≡ ahead old a.more ++ drop (length a.more) rest
  ahead_told true rest at_end is a test =
      let same : a.more ≡ rest = none_left h h2 before now a.more rest at_end is a.moves (a.settled test) in
      let none : drop (length a.more) rest ≡ [] = ap (λ xs. drop (length xs) rest) same ∙ drop-length rest in
      ap (ahead old) (sym same) ∙ sym (append-nil (ahead old a.more)) ∙ ap (λ xs. ahead old a.more ++ xs) (sym none)
  ahead_told false rest at_end is a test =
      ap (drop skip) (taken_first h h2 before now a.more rest at_end is a.moves).1 ∙ ahead_with_more skip (is_later old) (h.bytes ++ a.more) (drop (length a.more) rest) test

  -- what the bytes read say, the whole rest says
  answer_told : {answer : Answer} (t : Bool) (rest : List ℕ) → (h.ended ≡ true → AtEnd before) → unread before ≡ Some rest →
      (a : Answers old before answer new now) → is_by_end (page_at (is_later old) (ahead old a.more)) ≡ t →
      front (is_later old) (ahead old rest) ≡ answer
  answer_told true rest at_end is a test =
      let same : a.more ≡ rest = none_left h h2 before now a.more rest at_end is a.moves (a.settled test) in
      ap (λ xs. front (is_later old) (ahead old xs)) (sym same) ∙ a.is
  answer_told false rest at_end is a test =
      ap (front (is_later old)) (ahead_told false rest at_end is a test) ∙
      front_stays (is_later old) (ahead old a.more) (drop (length a.more) rest) test ∙ a.is

  pub told_page : {page : Pixels} → (h.ended ≡ true → AtEnd before) → GivesPage level invert old before page new now →
      IfSome (unread before) (λ rest. TellsPage level invert old rest page new now)
  told_page {page} at_end gives =
      where_told (unread before) (λ rest. TellsPage level invert old rest page new now) (λ rest is.
      let answers = gives.answers in
      let taken : List ℕ = ahead old answers.more in
      let tail : List ℕ = drop (length answers.more) rest in
      let by_end : Bool = is_by_end (page_at (is_later old) taken) in
      record {
        raw = gives.raw;
        used = gives.used;
        is = answer_told by_end rest at_end is answers refl;
        shows = gives.shows;
        left = where_told (unread now) (λ more. ahead new more ≡ drop (next_begins (ahead old rest) gives.raw gives.used) (ahead old rest)) (λ more now_is.
            let behind : more ≡ tail
            = rest_after before (length answers.more) rest more is (subst (λ (f : Option Files). unread f ≡ Some more) answers.moves.files now_is) in
            let within = front_within (is_later old) taken gives.raw gives.used answers.is in
            let begins : next_begins (taken ++ tail) gives.raw gives.used ≡ next_begins taken gives.raw gives.used
            = begins_with_more taken tail gives.raw gives.used within.1 in
            rw (ahead_told by_end rest at_end is answers refl, begins, behind, gives.left)
            (left_behind gives.used skip2 (next_begins taken gives.raw gives.used) taken tail within.0 (omega arith) gives.skipped));
      })

  pub told_ending : {ending : FileEnd} → (h.ended ≡ true → AtEnd before) → GivesEnding old before ending new now →
      IfSome (unread before) (λ rest. front (is_later old) (ahead old rest) ≡ Ends ending)
  told_ending {ending} at_end gives =
      where_told (unread before) (λ rest. front (is_later old) (ahead old rest) ≡ Ends ending) (λ rest is.
      answer_told (is_by_end (page_at (is_later old) (ahead old gives.answers.more))) rest at_end is gives.answers refl)

  -- a fault that the bytes read say, the whole rest says
  pub told_says : (why : Cause) → (h.ended ≡ true → AtEnd before) → ((ending : FileEnd) → why ≡ Says ending → GivesEnding old before ending new now) →
      IfSome (unread before) (λ rest. IfSays why (λ ending. front (is_later old) (ahead old rest) ≡ Ends ending))
  told_says (Says ending) at_end gives = told_ending at_end (gives ending refl)
  told_says Device at_end gives = if_nothing (unread before)
  told_says Memory at_end gives = if_nothing (unread before)

-- If no read failed, there is a result.

-- if the rest is known and no read failed, the result is the one that it gives, or memory ran out
abbrev pub Comes : ℕ → Bool → Result Next InFault → Reader → Option (List ℕ) → ℕ → ℕ → Type 0
Comes level invert result reader rest_of before now = IfSome rest_of (λ rest. reader.over ≡ false → (Rose before now → ⊥) →
    IsAnswer level invert result (front (is_later reader) (ahead reader rest)) ⊎ IsErrOf result fault.NoMemory)

pub over_comes : (level : ℕ) (invert : Bool) (reader : Reader) (o : Option (List ℕ)) (m n : ℕ) → reader.over ≡ true → Comes level invert (Ok next.Over) reader o m n
over_comes level invert reader None m n over = tt
over_comes level invert reader (Some rest) m n over = λ going_on _. absurd (not_true (sym going_on ∙ over))

page_is : (level : ℕ) (invert : Bool) (page : Pixels) (answer : Answer) (raw : Raw) (used : ℕ) → answer ≡ Page raw used → page ≡ shown level invert raw → IsAnswer level invert (Ok (next.Page page)) answer
page_is level invert page answer raw used is shows = rw is shows

pub page_comes : (level : ℕ) (invert : Bool) (reader reader2 : Reader) (now : Option Files) (page : Pixels) (o : Option (List ℕ)) (m n : ℕ) → IfSome o (λ rest. TellsPage level invert reader rest page reader2 now) →
    Comes level invert (Ok (next.Page page)) reader o m n
page_comes level invert reader reader2 now page None m n told = tt
page_comes level invert reader reader2 now page (Some rest) m n told = λ _ _. inl (page_is level invert page (front (is_later reader) (ahead reader rest)) told.raw told.used told.is told.shows)

pub end_comes : (level : ℕ) (invert : Bool) (reader : Reader) (o : Option (List ℕ)) (m n : ℕ) → IfSome o (λ rest. front (is_later reader) (ahead reader rest) ≡ Ends End) →
    Comes level invert (Ok next.End) reader o m n
end_comes level invert reader None m n told = tt
end_comes level invert reader (Some rest) m n told = λ _ _. inl told

pub trailing_comes : (level : ℕ) (invert : Bool) (reader : Reader) (o : Option (List ℕ)) (m n : ℕ) → IfSome o (λ rest. front (is_later reader) (ahead reader rest) ≡ Ends Trailing) →
    Comes level invert (Ok next.Trailing) reader o m n
trailing_comes level invert reader None m n told = tt
trailing_comes level invert reader (Some rest) m n told = λ _ _. inl told

pub fault_comes : (level : ℕ) (invert : Bool) (f : InFault) (reader : Reader) (o : Option (List ℕ)) (m n : ℕ) →
    IfSome o (λ rest. IfSays (cause_of_fault f) (λ ending. front (is_later reader) (ahead reader rest) ≡ Ends ending)) →
    CountsBy (cause_of_fault f) m n → Comes level invert (Err f) reader o m n
fault_comes level invert f reader None m n told counts = tt
fault_comes level invert fault.UnknownFormat reader (Some rest) m n told counts = λ _ _. inl told
fault_comes level invert fault.BadHeader reader (Some rest) m n told counts = λ _ _. inl told
fault_comes level invert fault.ZeroSide reader (Some rest) m n told counts = λ _ _. inl told
fault_comes level invert fault.TooLarge reader (Some rest) m n told counts = λ _ _. inl told
fault_comes level invert fault.Truncated reader (Some rest) m n told counts = λ _ _. inl told
fault_comes level invert fault.BadRaster reader (Some rest) m n told counts = λ _ _. inl told
fault_comes level invert fault.BmpKind reader (Some rest) m n told counts = λ _ _. inl told
fault_comes level invert fault.BadOffset reader (Some rest) m n told counts = λ _ _. inl told
fault_comes level invert fault.TooLong reader (Some rest) m n told counts = λ _ _. inl told
fault_comes level invert fault.ReadFault reader (Some rest) m n told counts = λ _ no_rise. absurd (no_rise counts.0)
fault_comes level invert fault.NoMemory reader (Some rest) m n told counts = λ _ _. inr refl
