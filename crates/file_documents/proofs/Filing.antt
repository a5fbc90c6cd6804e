-- What the end of a file's pages means for the run.
use Rattle.std.proofs.Common.{◌≡◌, ◌≤◌, ℕ, suc, ◌+◌, Bool, true, false, List, [], ◌∷◌, ◌++◌, length, drop, Option, None, Some, IfSome, option_map, inl, inr, refl, sym, ◌∙◌, ap, subst, append_assoc, arith, append-nil}
use Rattle.std.specs.FinMap.{get}
use Rattle.pt_core.specs.Files.{Contents, Files, Lacks, unread, unread_of, with_file}
use Rattle.bitmap_input.specs.Cut.{FileEnd, Kind}
use Rattle.bitmap_input.specs.Cut.FileEnd.{End, Trailing, Refused}
use Rattle.bitmap_input.specs.FaultText.{cause_text, kind_text}
use Rattle.bitmap_input.specs.Inner.FaultText.{fault_text}
use Rattle.bitmap_input.specs.Reading.{cause_of_fault}
use Rattle.bitmap_input.specs.Reading.Cause.{Says}
use Rattle.bitmap_input.specs.Raw.{Raw}
use Rattle.bitmap_input.specs.Front.{front}
use Rattle.bitmap_input.specs.Front.Answer.{Page as Gives, Ends}
use Rattle.bitmap_input.specs.FilePages.{FilePages, next_begins}
use Rattle.bitmap_input.specs.FilePages.FilePages.{Ended, Next}
use Rattle.bitmap_input.specs.Reader.{IfSays}
use Rattle.bitmap_input.specs.declared.fault.InFault.{InFault}
use Rattle.bitmap_input.specs.declared.fault.InFault.TheVariants as fault
use Rattle.run_output.specs.Messages.{page_line, trailing_line}
use Rattle.run_output.specs.Names.{next_name}
use Rattle.run_output.specs.Made.{Past, most_pages, past_file}
use Rattle.run_output.specs.declared.status.Status.{Status}
use Rattle.run_output.specs.declared.status.Status.TheVariants as status
use Rattle.page_batches.specs.Held.{AreHeld}
use Rattle.page_batches.specs.Inner.Held.{Holds}
use Rattle.page_batches.specs.Items.{Item, end_items}
use Rattle.page_batches.specs.Items.Item.{Refuse}
use Rattle.page_batches.specs.ItemsDone.{HasEnded}
use Rattle.page_batches.specs.Inner.ItemsDone.{IsHalt}
use Rattle.run_output.specs.Told.{Sinks, Source}
use Rattle.page_batches.proofs.Carrying.{ended_more}
use Rattle.page_batches.proofs.Holding.{holds_on}
use Rattle.file_documents.specs.FileItems.{AreItems, ArePageItems, FileEnds, HoldsPages, Nothing, PagesAlone, Rest, told_contents, too_many}
use Rattle.file_documents.specs.Manner.{HasTexts, Manner, base_by}
use Rattle.file_documents.specs.Inner.Outcome.{BeginsWith}
use Rattle.file_documents.specs.Outcome.{is_later}
use Rattle.file_documents.specs.Inner.Progress.{AreConverted, EndsWith, end_message, items_at_end, status_of, text_items}
use Rattle.file_documents.specs.declared.pages.PagesEnd.{PagesEnd}
use Rattle.file_documents.specs.declared.pages.PagesEnd.TheVariants as why
use Rattle.file_documents.proofs.Exists.{AreShown, file_pages_found, items_found, pages_found}
use Rattle.file_documents.proofs.Paging.{pages_on}
use Rattle.file_documents.proofs.Standing.{ConvertsFileTo, ConvertsTo, HaltsAt, OpensFile, Standing}

-- behind k pages of a file, these items follow
module _ (manner : Manner) (name base : List ℕ) (Behind : ℕ → Rest) (more : List Raw) (k : ℕ) (past : Past) (after : List Item)
    (follow : ArePageItems manner name base Behind more k past after) (few : k + past.pages ≤ most_pages) where
  -- the items of the file are those of its first pages and these
  pub first_pages : (raws : List Raw) (texts : List (List ℕ)) (pages : ℕ) → AreConverted manner raws texts → k ≡ pages + length raws
      → ArePageItems manner name base Behind (raws ++ more) pages past (text_items manner base past pages texts ++ after)
  first_pages [] [] pages t count =
      let P : ℕ → Type 0 = λ n. ArePageItems manner name base Behind more n past after in subst P (omega (arith, count)) follow
  first_pages (raw ∷ raws) (text ∷ texts) pages t count =
      inl (
        omega (arith, count, few),
        (
          text,
          text_items manner base past (suc pages) texts ++ after,
          t.0,
          refl,
          first_pages raws texts (suc pages) t.1 (omega (arith, count)),
        ),
      )
  first_pages [] (text ∷ texts) pages t count = absurd t
  first_pages (raw ∷ raws) [] pages t count = absurd t

-- the items of a file with these pages alone
pub pages_alone : (manner : Manner) (name base : List ℕ) (past : Past) (raws : List Raw) (texts : List (List ℕ)) → AreConverted manner raws texts → length raws + past.pages ≤ most_pages
    → ArePageItems manner name base PagesAlone raws 0 past (text_items manner base past 0 texts)
pages_alone manner name base past raws texts converted few =
    let items = first_pages manner name base PagesAlone [] (length raws) past [] refl few raws texts 0 converted (omega arith) in
    subst (λ (rs : List Raw). ArePageItems manner name base PagesAlone rs 0 past (text_items manner base past 0 texts)) (append-nil raws)
    (subst (λ (l : List Item). ArePageItems manner name base PagesAlone (raws ++ []) 0 past l) (append-nil (text_items manner base past 0 texts)) items)

-- the pages that were found in the file's bytes are those of the file

-- the file of this name was opened, and these are its bytes, where they are told
abbrev pub HasBytes : Option Contents → List ℕ → Option (List ℕ) → Type 0
HasBytes None name all = Unit {0}
HasBytes (Some contents) name all = (bytes : List ℕ) × (get contents name ≡ Some bytes) × (all ≡ Some bytes)

opened_bytes : (contents : Contents) (name : List ℕ) (held : Option (List ℕ)) → get contents name ≡ held → (held ≡ None → ⊥)
    → (bytes : List ℕ) × (get contents name ≡ Some bytes)
opened_bytes contents name None is there = absurd (there refl)
opened_bytes contents name (Some bytes) is there = (bytes, is)

unread-opened : (files : Files) (name bytes : List ℕ) → get files.contents name ≡ Some bytes → unread (with_file (Some files) name) ≡ Some bytes
unread-opened files name bytes is = ap (λ o. option_map unread_of (option_map (λ (b : List ℕ). record { name = name; rest = b }) o)) is

pub has_bytes : (told now : Option Files) (name : List ℕ) → now ≡ with_file told name → (Lacks told name → ⊥) → HasBytes (told_contents told) name (unread now)
has_bytes None now name opened there = tt
has_bytes (Some files) now name opened there =
    let (bytes, is) = opened_bytes files.contents name (get files.contents name) refl there in
    (bytes, is, ap unread opened ∙ unread-opened files name bytes is)

pub holds_pages : (contents : Option Contents) (name : List ℕ) (all rest : Option (List ℕ)) (raws more : List Raw) (ending : FileEnd) → HasBytes contents name all
    → IfSome all (λ bytes. (left : List ℕ) × (rest ≡ Some left) × BeginsWith false bytes raws left)
    → IfSome rest (λ left. FilePages (is_later false raws) left more ending) → HoldsPages contents name (raws ++ more) ending
holds_pages None name all rest raws more ending has begins pages = tt
holds_pages (Some contents) name all rest raws more ending (bytes, held, is) begins pages =
    let (left, rest_is, b) = subst (λ (o : Option (List ℕ)). IfSome o (λ bs. (left : List ℕ) × (rest ≡ Some left) × BeginsWith false bs raws left)) is begins in
    let behind = subst (λ (o : Option (List ℕ)). IfSome o (λ l. FilePages (is_later false raws) l more ending)) rest_is pages in
    (bytes, held, pages_on false bytes raws left more ending b behind)

-- where no page is left
pages_end : (later : Bool) (ending : FileEnd) (rest : Option (List ℕ)) → IfSome rest (λ left. front later left ≡ Ends ending) → IfSome rest (λ left. FilePages later left [] ending)
pages_end later ending None here = tt
pages_end later ending (Some left) here = Ended here

-- behind a page that is left
record HasPage (manner : Manner) (raw : Raw) (later : Bool) (rest : Option (List ℕ)) : Type 0 where
  raws : List Raw
  ending : FileEnd
  pages : IfSome rest (λ left. FilePages later left (raw ∷ raws) ending)
  shows : AreShown manner raws

page_found : (manner : Manner) (raw : Raw) (used : ℕ) (later : Bool) (rest : Option (List ℕ)) → IfSome rest (λ left. front later left ≡ Gives raw used) → HasPage manner raw later rest
page_found manner raw used later None here =
    let none = pages_found manner later None in record { raws = none.raws; ending = none.ending; pages = tt; shows = none.shows }
page_found manner raw used later (Some left) here =
    let more = pages_found manner true (Some (drop (next_begins left raw used) left)) in
    record { raws = more.raws; ending = more.ending; pages = Next here more.pages; shows = more.shows }

-- What was done of a file.

-- a page is refused for what its bytes say
refusal : (f : InFault) → status_of (why.Fault f) ≡ status.Refused → (kind : Kind) × (cause_of_fault f ≡ Says (Refused kind))
refusal fault.ReadFault is = absurd (let no : status.Unread ≡ status.Refused = is in cc)
refusal fault.NoMemory is = absurd (let no : status.OutOfMemory ≡ status.Refused = is in cc)
refusal f is = (_, refl)

-- the message of a fault tells the kind of the refusal
fault_text-kind : (f : InFault) (kind : Kind) → cause_of_fault f ≡ Says (Refused kind) → fault_text f ≡ kind_text kind
fault_text-kind f kind e = ap cause_text e

-- these are pages of the file of this name, and the texts of their documents; `rest` is what follows them
pub record HasRead (contents : Option Contents) (manner : Manner) (name : List ℕ) (past : Past) : Type 0 where
  pub raws : List Raw
  pub texts : List (List ℕ)
  pub few : length raws + past.pages ≤ most_pages
  pub converted : AreConverted manner raws texts
  pub rest : Option (List ℕ)
  pub holds : (more : List Raw) (ending : FileEnd) → IfSome rest (λ left. FilePages (is_later false raws) left more ending) → HoldsPages contents name (raws ++ more) ending

abbrev pub read_by_converting : (size : ℕ) (contents : Option Contents) (manner : Manner) (name base : List ℕ) (from : Standing) (start : Source) (to : Standing) (k : ℕ) (end : PagesEnd)
    → HasBytes contents name (unread start.files) → ConvertsTo size manner base from start to k end → HasRead contents manner name from.made
read_by_converting size contents manner name base from start to k end has t = record {
  raws = t.raws;
  texts = t.texts;
  few = omega (arith, t.count, t.few);
  converted = t.converted;
  rest = t.rest;
  holds = λ more ending pages. holds_pages contents name (unread start.files) t.rest t.raws more ending has t.begins pages;
}

-- the same base name, spelled otherwise
pub converted_named : (size : ℕ) (manner : Manner) (base other : List ℕ) (from : Standing) (start : Source) (to : Standing) (k : ℕ) (end : PagesEnd) → base ≡ other
    → ConvertsTo size manner base from start to k end → ConvertsTo size manner other from start to k end
converted_named size manner base other from start to k end same t = subst (λ (name : List ℕ). ConvertsTo size manner name from start to k end) same t

pub halts_named : (s : Status) (size : ℕ) (manner : Manner) (base other : List ℕ) (from : Standing) (start : Source) (to : Standing) → base ≡ other
    → HaltsAt s size manner base from start to → HaltsAt s size manner other from start to
halts_named s size manner base other from start to same t = subst (λ (name : List ℕ). HaltsAt s size manner name from start to) same t

-- and the same status
pub halts_as : (s other : Status) (size : ℕ) (manner : Manner) (base : List ℕ) (from : Standing) (start : Source) (to : Standing) → s ≡ other
    → HaltsAt s size manner base from start to → HaltsAt other size manner base from start to
halts_as s other size manner base from start to is t = subst (λ (v : Status). HaltsAt v size manner base from start to) is t

-- the same where the reading halted
pub record IsBehind (contents : Option Contents) (name : List ℕ) (raws : List Raw) : Type 0 where
  pub rest : Option (List ℕ)
  pub holds : (more : List Raw) (ending : FileEnd) → IfSome rest (λ left. FilePages (is_later false raws) left more ending) → HoldsPages contents name (raws ++ more) ending

pub behind_pages : (contents : Option Contents) (name : List ℕ) (all : Option (List ℕ)) (raws : List Raw) → HasBytes contents name all
    → IfSome all (λ bytes. (left : List ℕ) × BeginsWith false bytes raws left) → IsBehind contents name raws
behind_pages None name all raws has begins = record { rest = None; holds = λ more ending pages. tt }
behind_pages (Some contents) name all raws (bytes, held, is) begins =
    let (left, b) = subst (λ (o : Option (List ℕ)). IfSome o (λ bs. (left : List ℕ) × BeginsWith false bs raws left)) is begins in
    record { rest = Some left; holds = λ more ending pages. (bytes, held, pages_on false bytes raws left more ending b pages) }

abbrev pub read_by_halting : (s : Status) (size : ℕ) (contents : Option Contents) (manner : Manner) (name base : List ℕ) (from : Standing) (start : Source) (to : Standing)
    → HasBytes contents name (unread start.files) → HaltsAt s size manner base from start to → HasRead contents manner name from.made
read_by_halting s size contents manner name base from start to has t =
    let behind = behind_pages contents name (unread start.files) t.raws has t.begins in
    record { raws = t.raws; texts = t.texts; few = t.few; converted = t.converted; rest = behind.rest; holds = behind.holds }

module _ (contents : Option Contents) (manner : Manner) (name : List ℕ) (past : Past) where
  abbrev base : List ℕ
  base = base_by manner name

  -- the items of the file, and of what follows it
  listed : (F : Rest) (r : HasRead contents manner name past) (k : ℕ) → k ≡ length r.raws → (more : List Raw) (ending : FileEnd) (after : List Item)
      → IfSome r.rest (λ left. FilePages (is_later false r.raws) left more ending)
      → ArePageItems manner name base (FileEnds manner name base ending F) more k past after
      → (raws : List Raw) × (ending : FileEnd) × HoldsPages contents name raws ending
      × ArePageItems manner name base (FileEnds manner name base ending F) raws 0 past (text_items manner base past 0 r.texts ++ after)
  listed F r k count more ending after pages follow = (
    r.raws ++ more,
    ending,
    r.holds more ending pages,
    first_pages manner name base (FileEnds manner name base ending F) more k past after follow (let few = r.few in omega (arith, count, few)) r.raws r.texts 0 r.converted (omega (arith, count)),
  )

  -- the items of the file and of those behind it, behind the first ones, as far as the status says
  abbrev EndsFile : Status → List Item → List (List ℕ) → Sinks → Sinks → Type 0
  EndsFile s first names a c = (items : List Item) × AreItems contents manner Nothing (name ∷ names) past items × HasEnded s (first ++ items) a c

  -- no page follows those that were read
  all_read : (r : HasRead contents manner name past) (ending : FileEnd) → IfSome r.rest (λ left. FilePages (is_later false r.raws) left [] ending) → HoldsPages contents name r.raws ending
  all_read r ending pages = subst (λ (raws : List Raw). HoldsPages contents name raws ending) (append-nil r.raws) (r.holds [] ending pages)

  abbrev Behind : List (List ℕ) → Rest
  Behind names = AreItems contents manner Nothing names

  -- the documents of its first pages, and then items of the rest of it and of the files behind it
  pub items_after : HasTexts manner → (names : List (List ℕ)) (r : HasRead contents manner name past)
      → (after : List Item) × AreItems contents manner Nothing (name ∷ names) past (text_items manner base past 0 r.texts ++ after)
  items_after can names r =
      let k = length r.raws in
      let left = pages_found manner (is_later false r.raws) r.rest in
      let behind = file_pages_found manner can name base left.ending (Behind names) (λ m. items_found contents manner can names m) left.raws left.shows k past in
      (behind.0, inr (listed (Behind names) r k refl left.raws left.ending behind.0 left.pages behind.1))

  -- the run ends within the file
  pub file_halts : HasTexts manner → (s : Status) → IsHalt s → (first : List Item) (names : List (List ℕ)) (a c : Sinks) (r : HasRead contents manner name past)
      → HasEnded s (first ++ text_items manner base past 0 r.texts) a c → EndsFile s first names a c
  file_halts can s which first names a c r ended =
      let (after, are) = items_after can names r in (
        text_items manner base past 0 r.texts ++ after,
        are,
        subst (λ l. HasEnded s l a c) (append_assoc first (text_items manner base past 0 r.texts) after) (ended_more s which (first ++ text_items manner base past 0 r.texts) after a c ended),
      )

-- the file was opened, and these are its bytes, where they are told
pub opened_bytes_of : (name : List ℕ) (old start : Source) → OpensFile name old start → HasBytes (told_contents old.files) name (unread start.files)
opened_bytes_of name old start opens = has_bytes old.files start.files name opens.file opens.there

-- the file was opened, and k pages of it were read
module _ (size : ℕ) (manner : Manner) (name : List ℕ) (from : Standing) (start : Source) (to : Standing) (opens : OpensFile name from.source start) (k : ℕ) where
  abbrev told : Option Contents
  told = told_contents from.source.files

  abbrev its_base : List ℕ
  its_base = base_by manner name

  -- the reading ended so
  abbrev ConvertedTo : PagesEnd → Type 0
  ConvertedTo end = ConvertsTo size manner its_base from start to k end

  abbrev pub read_of : (end : PagesEnd) → ConvertedTo end → HasRead told manner name from.made
  read_of end t = read_by_converting size told manner name its_base from start to k end (opened_bytes_of name from.source start opens) t

  -- the items of its pages, and of its end
  abbrev items_to : (end : PagesEnd) → ConvertedTo end → List Item
  items_to end t = text_items manner its_base from.made 0 t.texts ++ items_at_end manner name its_base from.made end k

  -- what was made behind the file
  abbrev behind_file : Past
  behind_file = past_file manner.binding its_base k from.made

  -- its end's items, and none behind them
  ends_alone : (messages : List (List ℕ))
      → (rest : List Item) × (end_items manner.binding (next_name its_base from.made.made) k messages ≡ end_items manner.binding (next_name its_base from.made.made) k messages ++ rest)
      × EndsWith behind_file behind_file rest
  ends_alone messages = ([], sym (append-nil (end_items manner.binding (next_name its_base from.made.made) k messages)), (refl, refl))

  -- the items of the file, where the run goes on behind it
  items_of : (end : PagesEnd) (t : ConvertedTo end) → status_of end ≡ status.Done
      → (raws : List Raw) × (ending : FileEnd) × HoldsPages told name raws ending
      × ArePageItems manner name its_base (FileEnds manner name its_base ending (EndsWith behind_file)) raws 0 from.made (items_to end t)
  items_of why.End t done =
      listed told manner name from.made (EndsWith behind_file) (read_of why.End t) k t.count [] End (items_at_end manner name its_base from.made why.End k) (pages_end _ End t.rest t.ends) (ends_alone [])
  items_of why.Trailing t done =
      listed told manner name from.made (EndsWith behind_file) (read_of why.Trailing t) k t.count [] Trailing (items_at_end manner name its_base from.made why.Trailing k) (pages_end _ Trailing t.rest t.ends)
      (ends_alone (trailing_line name k ∷ []))
  items_of why.TooMany t done = absurd (let no : status.Refused ≡ status.Done = done in cc)
  items_of (why.Fault fault.ReadFault) t done = absurd (let no : status.Unread ≡ status.Done = done in cc)
  items_of (why.Fault fault.NoMemory) t done = absurd (let no : status.OutOfMemory ≡ status.Done = done in cc)
  items_of (why.Fault f) t done = absurd (let no : status.Refused ≡ status.Done = done in cc)

  -- and its pages
  pub pages_of : (end : PagesEnd) (t : ConvertedTo end) → status_of end ≡ status.Done → (ending : FileEnd) × HoldsPages told name t.raws ending
  pages_of why.End t done = (End, all_read told manner name from.made (read_of why.End t) End (pages_end _ End t.rest t.ends))
  pages_of why.Trailing t done = (Trailing, all_read told manner name from.made (read_of why.Trailing t) Trailing (pages_end _ Trailing t.rest t.ends))
  pages_of why.TooMany t done = absurd (let no : status.Refused ≡ status.Done = done in cc)
  pages_of (why.Fault fault.ReadFault) t done = absurd (let no : status.Unread ≡ status.Done = done in cc)
  pages_of (why.Fault fault.NoMemory) t done = absurd (let no : status.OutOfMemory ≡ status.Done = done in cc)
  pages_of (why.Fault f) t done = absurd (let no : status.Refused ≡ status.Done = done in cc)

  -- the run goes on behind the file, whose items are those of its pages and of its end
  pub file_goes_on : (end : PagesEnd) (t : ConvertedTo end) (next : Standing) → next.made ≡ behind_file
      → ((left : List Item) → AreHeld manner.binding manner.belongs to.held left
      → Holds manner.binding size manner.belongs (left ++ items_at_end manner name its_base from.made end k) next.held to.sinks next.sinks) → status_of end ≡ status.Done
      → (file : ConvertsFileTo size told manner name from next) × (file.items ≡ items_to end t)
  file_goes_on end t next made behind done =
      let texts = text_items manner its_base from.made 0 t.texts in
      let last = items_at_end manner name its_base from.made end k in (
        record {
          items = texts ++ last;
          are = subst (λ (m : Past). AreItems told manner (EndsWith m) (name ∷ []) from.made (texts ++ last)) (sym made) (inr (items_of end t done));
          holds = λ first are. subst (λ l. Holds manner.binding size manner.belongs l next.held from.sinks next.sinks) (append_assoc first texts last)
              (holds_on manner.binding size manner.belongs (first ++ texts) last to.held next.held from.sinks to.sinks next.sinks (t.holds first are) behind);
        },
        refl,
      )

  -- its pages, and a refusal
  abbrev AreRefused : List (List ℕ) → List (List ℕ) → List ℕ → Type 0
  AreRefused names texts message = AreItems told manner Nothing (name ∷ names) from.made (text_items manner its_base from.made 0 texts ++ Refuse message ∷ [])

  pub refused_items : (f : InFault) → status_of (why.Fault f) ≡ status.Refused → (names : List (List ℕ)) (t : ConvertedTo (why.Fault f))
      → AreRefused names t.texts (end_message name (why.Fault f) k)
  refused_items f is names t =
      let (kind, cause) = refusal f is in
      let later = is_later false t.raws in
      let here = subst (λ c. IfSome t.rest (λ bytes. IfSays c (λ ending. front later bytes ≡ Ends ending))) cause t.ends in
      let message = page_line name (k + 1) (kind_text kind) in
      let same : page_line name (k + 1) (fault_text f) ≡ message = ap (page_line name (k + 1)) (fault_text-kind f kind cause) in
      subst (AreRefused names t.texts) (sym same)
      (inr (listed told manner name from.made (AreItems told manner Nothing names) (read_of (why.Fault f) t) k t.count [] (Refused kind) (Refuse message ∷ []) (pages_end _ (Refused kind) t.rest here) refl))

  pub full_items : (names : List (List ℕ)) (t : ConvertedTo why.TooMany) → AreRefused names t.texts (end_message name why.TooMany k)
  full_items names t =
      let (raw, used, here) = t.ends in
      let page = page_found manner raw used (is_later false t.raws) t.rest here in
      let message = page_line name (k + 1) too_many in
      inr (listed told manner name from.made (AreItems told manner Nothing names) (read_of why.TooMany t) k t.count (raw ∷ page.raws) page.ending (Refuse message ∷ []) page.pages (inr (t.full refl, refl)))
