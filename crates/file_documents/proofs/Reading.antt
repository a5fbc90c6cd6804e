-- The reader's answers, as the run sees them.
use Rattle.std.proofs.Common.{◌≡◌, ◌≤◌, ℕ, ◌+◌, ◌-◌, Bool, true, false, inr, List, [], ◌∷◌, ◌++◌, length, take, drop, Option, None, Some, IfSome, option_map, refl, sym, ◌∙◌, ap, subst, append-nil, append_assoc, length-append, arith}
use Rattle.std.specs.FinMap.{get}
use Rattle.std.proofs.lemmas.List.{drop-append-le, drop-drop, length-drop, take-append-drop}
use Rattle.std.proofs.lemmas.List.Elements.{All-head}
use Rattle.pt_core.specs.Counts.{Rose}
use Rattle.pt_core.specs.Files.{Files, Opened, taken_of, unread, unread_of, with_file, with_no_file, with_read}
use Rattle.bit_image.specs.Page.{IsPage, Page as Pixels}
use Rattle.bitmap_input.specs.declared.fault.InFault.{InFault}
use Rattle.bitmap_input.specs.declared.fault.InFault.TheVariants as fault
use Rattle.bitmap_input.specs.Cut.{Cut, is_by_end}
use Rattle.bitmap_input.specs.Cut.Cut.{Takes, Stops}
use Rattle.bitmap_input.specs.Cut.{FileEnd}
use Rattle.bitmap_input.specs.Front.{front, page_at}
use Rattle.bitmap_input.specs.Front.Answer.{Page}
use Rattle.bitmap_input.specs.FilePages.{FilePages, next_begins}
use Rattle.bitmap_input.specs.FilePages.FilePages.{Next}
use Rattle.bitmap_input.specs.Raw.{Raw}
use Rattle.bitmap_input.specs.Reading.{AtEnd, cause_of_fault}
use Rattle.bitmap_input.specs.Reader.{Reader, ahead as reader_ahead, is_later, GivesEnding, GivesPage, IfSays, MemoryFails, ReadFails, TellsPage}
use Rattle.bitmap_input.proofs.AddedBytes.{with_more}
use Rattle.bitmap_input.proofs.FrontStays.{front_stays, page_stays}
use Rattle.bitmap_input.proofs.Behind.{ahead_with_more, begins_with_more, front_within}
use Rattle.bitmap_input.proofs.Files.{file_pages_some}
use Rattle.bitmap_input.proofs.Sided.{pages_shown}
use Rattle.file_documents.specs.FileItems.{told_contents}
use Rattle.file_documents.specs.Manner.{Manner, shown_by}
use Rattle.file_documents.specs.Outcome.{opened_name}
use Rattle.file_documents.specs.Inner.Progress.{FaultsBy, ReadsPage, Settles, TakesNeeded, ahead}
use Rattle.file_documents.specs.declared.pages.PagesEnd.TheVariants as why

-- what holds of what the bytes give holds of that
pub mapped : (o : Option (List ℕ)) (f : List ℕ → List ℕ) (P : List ℕ → Type 0) → IfSome o (λ rest. P (f rest)) → IfSome (option_map f o) P
mapped None f P h = tt
mapped (Some rest) f P h = h

unread_after : (file : Option Opened) (n : ℕ) (rest : List ℕ) → option_map unread_of file ≡ Some rest
    → option_map unread_of (option_map (taken_of n) file) ≡ Some (drop n rest)
unread_after None n rest h = cc
unread_after (Some file) n rest h = let same : file.rest ≡ rest = cc in ap (λ r. Some (drop n r)) same

-- after n bytes are taken the others are unread
pub unread-with_read : (before : Option Files) (n : ℕ) (rest : List ℕ) → unread before ≡ Some rest → unread (with_read before n) ≡ Some (drop n rest)
unread-with_read None n rest h = cc
unread-with_read (Some files) n rest h = unread_after files.opened n rest h

-- whether a cut is by the end stays where bytes are added to what it leaves
is_by_end-with_more : {A : Type 0} (more : List ℕ) (c : Cut A) → is_by_end (with_more more c) ≡ is_by_end c
is_by_end-with_more more (Takes e x rest) = refl
is_by_end-with_more more (Stops e ending) = refl

-- the bytes behind the used ones and then behind the skipped ones
left_behind : (used skipped begins : ℕ) (taken tail : List ℕ) → used ≤ length taken → used ≤ begins → skipped ≡ begins - used
    → drop skipped (drop used taken ++ tail) ≡ drop begins (taken ++ tail)
left_behind used skipped begins taken tail within least is =
    let n : used + skipped ≡ begins = omega arith in
    ap (drop skipped) (sym (drop-append-le used taken tail within)) ∙ drop-drop skipped used (taken ++ tail) ∙ ap (λ m. drop m (taken ++ tail)) n

-- what isn't by the end as long as a read gives something is not by the end before one gives nothing
not_by_end : (by_end ended : Bool) → (by_end ≡ true → ended ≡ true) → ended ≡ false → by_end ≡ false
not_by_end false ended settled going = refl
not_by_end true ended settled going = absurd (let wrong : true ≡ false = sym (settled refl) ∙ going in cc)

-- a page that was given before a read gave nothing is the next page, whatever comes behind the bytes taken
settles : (manner : Manner) (old new : Reader) (before now : Option Files) (page : Pixels)
    → (gives : GivesPage manner.level manner.invert old before page new now) → new.ended ≡ false → (tail : List ℕ)
    → Settles (is_later old) (reader_ahead old (gives.answers.more ++ tail)) gives.raw gives.used (reader_ahead new tail)
settles manner old new before now page gives going tail =
    let taken : List ℕ = reader_ahead old gives.answers.more in
    let open_end : is_by_end (page_at (is_later old) taken) ≡ false = not_by_end _ new.ended gives.answers.settled going in
    let split : reader_ahead old (gives.answers.more ++ tail) ≡ taken ++ tail =
    ap (drop old.skip) (sym (append_assoc old.bytes gives.answers.more tail)) ∙ ahead_with_more old.skip (is_later old) (old.bytes ++ gives.answers.more) tail open_end in
    let within = front_within (is_later old) taken gives.raw gives.used gives.answers.is in
    let begins = begins_with_more taken tail gives.raw gives.used within.1 in
    rw split (record {
      is = front_stays (is_later old) taken tail open_end ∙ gives.answers.is;
      open_end = ap is_by_end (page_stays (is_later old) taken tail open_end) ∙ is_by_end-with_more tail (page_at (is_later old) taken) ∙ open_end;
      behind = rw (begins, gives.left) (left_behind gives.used new.skip (next_begins taken gives.raw gives.used) taken tail within.0 (omega arith) gives.skipped);
    })

-- the bytes taken are the first ones of the rest
pub first_taken : (before : Option Files) (more rest : List ℕ) → IfSome (unread before) (λ all. more ≡ take (length more) all) → unread before ≡ Some rest
    → rest ≡ more ++ drop (length more) rest
first_taken before more rest told is =
    let front_of = subst (λ (o : Option (List ℕ)). IfSome o (λ all. more ≡ take (length more) all)) is told in
    sym (take-append-drop (length more) rest) ∙ ap (λ l. l ++ drop (length more) rest) (sym front_of)

-- the same where the whole rest of the file tells the page
settles_told : (manner : Manner) (old new : Reader) (before now : Option Files) (page : Pixels) (rest : List ℕ)
    → (gives : GivesPage manner.level manner.invert old before page new now) → unread before ≡ Some rest
    → (raw : Raw) (used : ℕ) → front (is_later old) (reader_ahead old rest) ≡ Page raw used → new.ended ≡ false → (tail : List ℕ)
    → Settles (is_later old) (reader_ahead old (gives.answers.more ++ tail)) raw used (reader_ahead new tail)
settles_told manner old new before now page rest gives is raw used here going tail =
    let whole = first_taken before gives.answers.more rest gives.answers.moves.told is in
    let at_rest = settles manner old new before now page gives going (drop (length gives.answers.more) rest) in
    let there : front (is_later old) (reader_ahead old rest) ≡ Page gives.raw gives.used = ap (λ bs. front (is_later old) (reader_ahead old bs)) whole ∙ at_rest.is in
    let same : Page gives.raw gives.used ≡ Page raw used = sym there ∙ here in
    let same_raw : gives.raw ≡ raw = cc in
    let same_used : gives.used ≡ used = cc in
    let bytes : List ℕ = reader_ahead old (gives.answers.more ++ tail) in
    subst (λ (r : Raw). Settles (is_later old) bytes r used (reader_ahead new tail)) same_raw
    (subst (λ (n : ℕ). Settles (is_later old) bytes gives.raw n (reader_ahead new tail)) same_used (settles manner old new before now page gives going tail))

-- the page that was given stands in the whole rest of the file
same_page : (manner : Manner) (old new : Reader) (before now : Option Files) (page : Pixels) (rest : List ℕ)
    → (gives : GivesPage manner.level manner.invert old before page new now) → unread before ≡ Some rest → (new.ended ≡ true → AtEnd now)
    → front (is_later old) (reader_ahead old rest) ≡ Page gives.raw gives.used
same_page manner old new before now page rest gives is at_end = by_ended new.ended refl where
  more : List ℕ
  more = gives.answers.more

  whole : rest ≡ more ++ drop (length more) rest
  whole = first_taken before more rest gives.answers.moves.told is

  by_ended : (e : Bool) → new.ended ≡ e → front (is_later old) (reader_ahead old rest) ≡ Page gives.raw gives.used
  by_ended false going = ap (λ bs. front (is_later old) (reader_ahead old bs)) whole ∙ (settles manner old new before now page gives going (drop (length more) rest)).is
  by_ended true ended =
      let still : unread now ≡ Some (drop (length more) rest) = ap unread gives.answers.moves.files ∙ unread-with_read before (length more) rest is in
      let none = subst (λ (o : Option (List ℕ)). IfSome o (λ r. r ≡ [])) still (at_end ended) in
      ap (λ bs. front (is_later old) (reader_ahead old bs)) (whole ∙ ap (λ l. more ++ l) none ∙ append-nil more) ∙ gives.answers.is

-- what is behind the used bytes is what is at hand and what is unread
left_near : (skip used : ℕ) (bytes more left : List ℕ) → length (drop used (drop skip (bytes ++ more))) ≤ 65536
    → length (drop used (drop skip (bytes ++ (more ++ left)))) ≤ length left + 65536
left_near skip used bytes more left within =
    let a = length-drop used (drop skip (bytes ++ more)) in
    let b = length-drop skip (bytes ++ more) in
    let c = length-append bytes more in
    let d = length-drop used (drop skip (bytes ++ (more ++ left))) in
    let e = length-drop skip (bytes ++ (more ++ left)) in
    let f = length-append bytes (more ++ left) in
    let g = length-append more left in omega (arith, within, a, b, c, d, e, f, g)

-- little was taken behind the used bytes of a page that was given
page_near : (manner : Manner) (old new : Reader) (before now : Option Files) (page : Pixels) (rest : List ℕ) (raw : Raw) (used : ℕ)
    → (gives : GivesPage manner.level manner.invert old before page new now) → unread before ≡ Some rest → (new.ended ≡ true → AtEnd now) → length new.bytes ≤ 65536
    → front (is_later old) (reader_ahead old rest) ≡ Page raw used
    → length (drop used (reader_ahead old rest)) ≤ length (drop (length gives.answers.more) rest) + 65536
page_near manner old new before now page rest raw used gives is at_end within here =
    let more : List ℕ = gives.answers.more in
    let left : List ℕ = drop (length more) rest in
    let whole = first_taken before more rest gives.answers.moves.told is in
    let same : Page gives.raw gives.used ≡ Page raw used = sym (same_page manner old new before now page rest gives is at_end) ∙ here in
    let same_used : gives.used ≡ used = cc in
    let few : length (drop gives.used (reader_ahead old more)) ≤ 65536 = subst (λ (l : List ℕ). length l ≤ 65536) gives.left within in
    let P : List ℕ → Type 0 = λ l. length (drop used (reader_ahead old l)) ≤ length left + 65536 in
    let Q : ℕ → Type 0 = λ n. length (drop n (reader_ahead old (more ++ left))) ≤ length left + 65536 in
    subst P (sym whole) (subst Q same_used (left_near old.skip gives.used old.bytes more left few))

pub reads_page : (manner : Manner) (old new : Reader) (before now : Option Files) (page : Pixels)
    → GivesPage manner.level manner.invert old before page new now
    → IfSome (unread before) (λ rest. TellsPage manner.level manner.invert old rest page new now)
    → (new.ended ≡ true → AtEnd now) → length new.bytes ≤ 65536 → ReadsPage manner old before page new now
reads_page manner old new before now page gives tells at_end within = by_told (unread before) refl tells where
  by_told : (o : Option (List ℕ)) → unread before ≡ o → IfSome o (λ rest. TellsPage manner.level manner.invert old rest page new now) → ReadsPage manner old before page new now
  by_told None is h = record {
    raw = gives.raw;
    used = gives.used;
    more = gives.answers.more;
    moves = gives.answers.moves;
    shows = gives.shows;
    told = subst (λ (o : Option (List ℕ)). IfSome (option_map (reader_ahead old) o)
        (λ bytes. (front (is_later old) bytes ≡ Page gives.raw gives.used) × (ahead new now ≡ Some (drop (next_begins bytes gives.raw gives.used) bytes)))) (sym is) tt;
    settled = settles manner old new before now page gives;
    near = subst (λ (o : Option (List ℕ)). IfSome o
        (λ rest. (left : List ℕ) × (unread now ≡ Some left) × (length (drop gives.used (reader_ahead old rest)) ≤ length left + 65536))) (sym is) tt;
    counted = gives.counted;
    going_on = gives.going_on;
  }
  by_told (Some rest) is h =
      let still : unread now ≡ Some (drop (length gives.answers.more) rest) =
      ap unread gives.answers.moves.files ∙ unread-with_read before (length gives.answers.more) rest is in
      let left = subst (λ (o : Option (List ℕ)). IfSome o
      (λ more. reader_ahead new more ≡ drop (next_begins (reader_ahead old rest) h.raw h.used) (reader_ahead old rest))) still h.left in
      record {
        raw = h.raw;
        used = h.used;
        more = gives.answers.more;
        moves = gives.answers.moves;
        shows = h.shows;
        told = subst (λ (o : Option (List ℕ)). IfSome (option_map (reader_ahead old) o)
            (λ bytes. (front (is_later old) bytes ≡ Page h.raw h.used) × (ahead new now ≡ Some (drop (next_begins bytes h.raw h.used) bytes)))) (sym is)
            (h.is, ap (option_map (reader_ahead new)) still ∙ ap Some left);
        settled = settles_told manner old new before now page rest gives is h.raw h.used h.is;
        near = subst (λ (o : Option (List ℕ)). IfSome o
            (λ rest. (left : List ℕ) × (unread now ≡ Some left) × (length (drop h.used (reader_ahead old rest)) ≤ length left + 65536))) (sym is)
            (drop (length gives.answers.more) rest, still, page_near manner old new before now page rest h.raw h.used gives is at_end within h.is);
        counted = gives.counted;
        going_on = gives.going_on;
      }

-- what the reader gives is a page: its sides are in range
pub given_page : (manner : Manner) (old new : Reader) (before now : Option Files) (page : Pixels)
    → GivesPage manner.level manner.invert old before page new now → IsPage page
given_page manner old new before now page gives =
    let bytes : List ℕ = reader_ahead old gives.answers.more in
    let P : Raw → Type 0 = λ raw. IsPage (shown_by manner raw) in
    let (raws, ending, pages) = file_pages_some true (drop (next_begins bytes gives.raw gives.used) bytes) in
    let all : FilePages (is_later old) bytes (gives.raw ∷ raws) ending = Next gives.answers.is pages in
    subst IsPage (sym gives.shows) (All-head P gives.raw raws (pages_shown manner.level manner.invert all))

-- how the inputs' count of faults moved with a fault
pub fault_counts : (f : InFault) (before now : ℕ) → IfSays (cause_of_fault f) (λ ending. now ≡ before) → (f ≡ fault.ReadFault → Rose before now)
    → FaultsBy (why.Fault f) before now
fault_counts fault.ReadFault before now steady rose = rose refl
fault_counts fault.NoMemory before now steady rose = tt
fault_counts f before now steady rose = steady

-- taking bytes keeps the opened file's name
name-with_read : (before : Option Files) (n : ℕ) → opened_name (with_read before n) ≡ opened_name before
name-with_read None n = refl
name-with_read (Some files) n = by_file files.opened where
  by_file : (file : Option Opened) → option_map (λ f. f.name) (option_map (taken_of n) file) ≡ option_map (λ f. f.name) file
  by_file None = refl
  by_file (Some file) = refl

pub name_taken : (old new : Reader) (before now : Option Files) → TakesNeeded old before new now → opened_name now ≡ opened_name before
name_taken old new before now takes = ap opened_name takes.moves.files ∙ name-with_read before (length takes.more)

-- taken as far as that is needed: for a page
pub takes_page : (manner : Manner) (old new : Reader) (before now : Option Files) (page : Pixels)
    → GivesPage manner.level manner.invert old before page new now → TakesNeeded old before new now
takes_page manner old new before now page gives = record { more = gives.answers.more; moves = gives.answers.moves; needed = gives.answers.needed }

-- for an end
pub takes_ending : (ending : FileEnd) (old new : Reader) (before now : Option Files) → GivesEnding old before ending new now → TakesNeeded old before new now
takes_ending ending old new before now gives = record { more = gives.answers.more; moves = gives.answers.moves; needed = gives.answers.needed }

-- and for a page that isn't read
pub fault_takes : (f : InFault) (old new : Reader) (before now : Option Files)
    → IfSays (cause_of_fault f) (λ ending. GivesEnding old before ending new now)
    → (f ≡ fault.ReadFault → ReadFails old before new now) → (f ≡ fault.NoMemory → MemoryFails old before new now) → TakesNeeded old before new now
fault_takes fault.ReadFault old new before now ends fails wants =
    let r = fails refl in
    record { more = r.more; moves = r.moves; needed = record { before = r.more; block = []; split = sym (append-nil r.more); within = omega arith; undecided = inr r.by_end } }
fault_takes fault.NoMemory old new before now ends fails wants =
    let m = wants refl in record { more = m.more; moves = m.moves; needed = m.needed }
fault_takes f old new before now ends fails wants = takes_ending _ old new before now ends

-- taking bytes keeps what the files hold
contents-with_read : (before : Option Files) (n : ℕ) → told_contents (with_read before n) ≡ told_contents before
contents-with_read None n = refl
contents-with_read (Some files) n = refl

pub contents_taken : (old new : Reader) (before now : Option Files) → TakesNeeded old before new now → told_contents now ≡ told_contents before
contents_taken old new before now takes = ap told_contents takes.moves.files ∙ contents-with_read before (length takes.more)

-- opening a file keeps it too
contents-with_file : (before : Option Files) (name : List ℕ) → told_contents (with_file before name) ≡ told_contents before
contents-with_file None name = refl
contents-with_file (Some files) name = refl

contents-with_no_file : (before : Option Files) → told_contents (with_no_file before) ≡ told_contents before
contents-with_no_file None = refl
contents-with_no_file (Some files) = refl

-- opening a file, and then what keeps it, keeps it
pub contents_through : (before mid now : Option Files) (name : List ℕ) → mid ≡ with_file before name → told_contents now ≡ told_contents mid → told_contents now ≡ told_contents before
contents_through before mid now name opened same = same ∙ ap told_contents opened ∙ contents-with_file before name

-- and so does a file that can't be opened
pub contents_unopened : (before now : Option Files) → now ≡ with_no_file before → told_contents now ≡ told_contents before
contents_unopened before now closed = ap told_contents closed ∙ contents-with_no_file before

abbrev opened_as : List ℕ → List ℕ → Opened
opened_as name bytes = record { name = name; rest = bytes }

-- the opened file has the name that was asked for
pub name-with_file : (before : Option Files) (name : List ℕ) → IfSome (opened_name (with_file before name)) (λ opened. opened ≡ name)
name-with_file None name = tt
name-with_file (Some files) name = by_bytes (get files.contents name) where
  by_bytes : (bytes : Option (List ℕ)) → IfSome (option_map (λ f. f.name) (option_map (opened_as name) bytes)) (λ opened. opened ≡ name)
  by_bytes None = tt
  by_bytes (Some bytes) = refl

pub no_name : (before : Option Files) (name : List ℕ) → IfSome (opened_name (with_no_file before)) (λ opened. opened ≡ name)
no_name None name = tt
no_name (Some files) name = tt
