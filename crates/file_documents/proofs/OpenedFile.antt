-- How a run ends in a file that was opened.
use Rattle.std.proofs.Common.{◌≡◌, ◌≢◌, ◌≤◌, ℕ, ◌+◌, List, [], ◌∷◌, ◌++◌, length, Option, None, Some, IfSome, option_map, inl, inr, refl, sym, ◌∙◌, ap, subst, arith}
use Rattle.pt_core.specs.Counts.{Rose, next_count}
use Rattle.pt_core.specs.Files.{Contents, Files, Lacks, unread, unread_of, with_file}
use Rattle.bitmap_input.specs.declared.fault.InFault.TheVariants as fault
use Rattle.bitmap_input.specs.FaultText.{cause_text}
use Rattle.bitmap_input.specs.Reading.Cause.{Device}
use Rattle.run_output.specs.Messages.{page_line}
use Rattle.run_output.specs.Made.{most_pages}
use Rattle.run_output.specs.declared.status.Status.{Status}
use Rattle.run_output.specs.declared.status.Status.TheVariants as status
use Rattle.page_batches.specs.Held.{AreHeld}
use Rattle.page_batches.specs.Items.{Item}
use Rattle.page_batches.specs.Items.Item.{Refuse}
use Rattle.page_batches.specs.ItemsDone.{AreCarriedOut, HasEnded}
use Rattle.page_batches.specs.Inner.ItemsDone.{IsHalt}
use Rattle.run_output.specs.Told.{Sinks, Source}
use Rattle.page_batches.proofs.Carrying.{carried_on, ended_on}
use Rattle.file_documents.specs.FileItems.{AreItems, Nothing, told_contents}
use Rattle.file_documents.specs.Manner.{HasTexts, Manner, base_by}
use Rattle.file_documents.specs.Order.{order_of}
use Rattle.file_documents.specs.Outcome.{EndsNear, HoldsBytes, IsOpenedAt, IsUnread, opened_name}
use Rattle.file_documents.specs.Inner.Progress.{AsksFor, EndsWithFile, OpensNoFile, end_message, status_of, text_items}
use Rattle.file_documents.specs.declared.pages.PagesEnd.{PagesEnd}
use Rattle.file_documents.specs.declared.pages.PagesEnd.TheVariants as why
use Rattle.file_documents.proofs.Ending.{at_first, name-opened, near_opened, opened_as, outcome_of_halt}
use Rattle.file_documents.proofs.Filing.{file_halts, full_items, has_bytes, opened_bytes_of, pages_alone, pages_of, read_by_halting, read_of, refused_items, HasRead}
use Rattle.file_documents.proofs.Reading.{contents_through, name-with_file}
use Rattle.file_documents.proofs.Standing.{ConvertsTo, HaltsAt, IsOutcomeAt, OpensFile, Standing}

-- it was asked for
pub asks_opened : (name : List ℕ) (old start now : Source) → start.files ≡ with_file old.files name → start.openings ≡ next_count old.openings → OpensNoFile start now → AsksFor name old now
asks_opened name old start now file one stays = record {
  one_more = stays.openings ∙ one;
  named = rw (stays.name, file) (name-with_file old.files name);
  contents = contents_through old.files start.files now.files name file stays.contents;
}

-- what is left of the opened file, where that is told
record HasLeft (told now : Option Files) (name taken : List ℕ) : Type 0 where
  rest : List ℕ
  opened : IsOpenedAt name rest now
  bytes : HoldsBytes (told_contents told) name taken rest

left_of : (told start now : Option Files) (name taken : List ℕ) → start ≡ with_file told name → (Lacks told name → ⊥)
    → told_contents now ≡ told_contents start → opened_name now ≡ opened_name start
    → IfSome (unread start) (λ bytes. (rest : List ℕ) × (bytes ≡ taken ++ rest) × (unread now ≡ Some rest)) → HasLeft told now name taken
left_of None start None name taken opened there contents named told = record { rest = []; opened = tt; bytes = tt }
left_of None start (Some files) name taken opened there contents named told =
    absurd (let e : Some files.contents ≡ None = contents ∙ ap told_contents opened in cc)
left_of (Some files) start None name taken opened there contents named told =
    absurd (let e : None ≡ Some files.contents = contents ∙ ap told_contents opened in cc)
left_of (Some files) start (Some now) name taken opened there contents named told =
    let (bytes, held, is) = has_bytes (Some files) start name opened there in
    let (rest, split, left) = subst (λ (o : Option (List ℕ)). IfSome o (λ bs. (rest : List ℕ) × (bs ≡ taken ++ rest) × (option_map unread_of now.opened ≡ Some rest))) is told in
    record {
      rest = rest;
      opened = opened_as now.opened name rest left (named ∙ ap opened_name opened ∙ name-opened files name bytes held);
      bytes = held ∙ ap (λ (bs : List ℕ). Some bs) split;
    }

-- the file was opened, and then bytes were taken of it
module _ (size : ℕ) (manner : Manner) (can : HasTexts manner) (name : List ℕ) (from : Standing) (start : Source) (to : Standing)
    (opens : OpensFile name from.source start) (stays : OpensNoFile start to.source) where
  abbrev base : List ℕ
  base = base_by manner name

  abbrev told : Option Contents
  told = told_contents from.source.files

  abbrev ConvertedTo : ℕ → PagesEnd → Type 0
  ConvertedTo k end = ConvertsTo size manner base from start to k end

  -- the items of so many pages of it
  abbrev texts_of : List (List ℕ) → List Item
  texts_of texts = text_items manner base from.made 0 texts

  -- how the run ends in it, with these sinks
  abbrev Ends : Status → List Item → List (List ℕ) → Sinks → Type 0
  Ends s first names c = IsOutcomeAt s first (order_of manner (name ∷ names) from.source) from (record to { sinks = c })

  one : to.source.openings ≡ next_count from.source.openings
  one = stays.openings ∙ opens.one_more

  -- the run goes on behind its pages
  pub file_near : (k : ℕ) (end : PagesEnd) → ConvertedTo k end → status_of end ≡ status.Done → EndsNear told name to.source
  file_near k end t done =
      let (rest, here, near) = near_opened name from.source start to.source t.raws opens stays t.near in
      let (ending, pages) = pages_of size manner name from start to opens k end t done in
      record { raws = t.raws; ending = ending; rest = rest; pages = pages; opened = here; near = near }

  -- with a page that is refused
  stopped : (k : ℕ) (end : PagesEnd) (t : ConvertedTo k end) (names : List (List ℕ)) (first : List Item) (c : Sinks)
      → AreItems told manner Nothing (name ∷ names) from.made (texts_of t.texts ++ Refuse (end_message name end k) ∷ [])
      → AreCarriedOut (first ++ texts_of t.texts) (end_message name end k ∷ []) from.sinks c → Ends status.Refused first names c
  stopped k end t names first c all done =
      let (rest, here, near) = near_opened name from.source start to.source t.raws opens stays t.near in
      let few : length t.raws + from.made.pages ≤ most_pages = omega (arith, t.count, t.few) in
      record {
        place = record {
          name = name;
          front = [];
          raws = t.raws;
          rest = rest;
          before = texts_of t.texts;
          reached = at_first name names from.source.openings to.source.openings one;
          opened = here;
          items = pages_alone manner name base from.made t.raws t.texts t.converted few;
        };
        message = end_message name end k;
        near = near;
        all = all;
        done = done;
      }

  -- where a read failed behind its pages
  unread_in : (k : ℕ) (t : ConvertedTo k (why.Fault fault.ReadFault)) → Rose from.source.faults to.source.faults → (names : List (List ℕ)) (first : List Item) (c : Sinks)
      → AreCarriedOut (first ++ texts_of t.texts) (end_message name (why.Fault fault.ReadFault) k ∷ []) from.sinks c
      → IsUnread first (order_of manner (name ∷ names) from.source) from.made from.source to.source from.sinks c
  unread_in k t rose names first c done =
      let u = t.unread refl in
      let left = left_of from.source.files start.files to.source.files name u.taken opens.file opens.there stays.contents stays.name u.told in
      let few : length t.raws + from.made.pages ≤ most_pages = omega (arith, t.count, t.few) in
      record {
        place = record {
          name = name;
          front = [];
          raws = t.raws;
          rest = left.rest;
          before = texts_of t.texts;
          reached = at_first name names from.source.openings to.source.openings one;
          opened = left.opened;
          items = pages_alone manner name base from.made t.raws t.texts t.converted few;
        };
        taken = u.taken;
        bytes = left.bytes;
        rose = rose;
        stops = u.stops;
        done = subst (λ (n : ℕ). AreCarriedOut (first ++ texts_of t.texts) (page_line name (n + 1) (cause_text Device) ∷ []) from.sinks c) t.count done;
      }

  -- behind all that was held, and its message is said
  ends_said : (k : ℕ) (end : PagesEnd) → (end ≡ why.Fault fault.ReadFault → Rose from.source.faults to.source.faults) → (t : ConvertedTo k end) → status_of end ≢ status.Done → status_of end ≢ status.OutOfMemory
      → (names : List (List ℕ)) (first : List Item) (c : Sinks) → AreCarriedOut (first ++ texts_of t.texts) (end_message name end k ∷ []) from.sinks c → Ends (status_of end) first names c
  ends_said k why.End rose t going memory names first c done = absurd (going refl)
  ends_said k why.Trailing rose t going memory names first c done = absurd (going refl)
  ends_said k why.TooMany rose t going memory names first c done =
      stopped k why.TooMany t names first c (full_items size manner name from start to opens k names t) done
  ends_said k (why.Fault fault.ReadFault) rose t going memory names first c done = inr (unread_in k t (rose refl) names first c done)
  ends_said k (why.Fault fault.NoMemory) rose t going memory names first c done = absurd (memory refl)
  ends_said k (why.Fault f) rose t going memory names first c done =
      stopped k (why.Fault f) t names first c (refused_items size manner name from start to opens k f refl names t) done

  -- within what was held
  ends_within : (s : Status) → IsHalt s → (r : HasRead told manner name from.made) (names : List (List ℕ)) (first : List Item) (c : Sinks)
      → HasEnded s (first ++ texts_of r.texts) from.sinks c → Ends s first names c
  ends_within s which r names first c ended =
      outcome_of_halt s which first (order_of manner (name ∷ names) from.source) from (record to { sinks = c })
      (file_halts told manner name from.made can s which first names from.sinks c r ended)

  -- the run ends with its pages
  pub file_ends : (s : Status) (k : ℕ) (end : PagesEnd) → (end ≡ why.Fault fault.ReadFault → Rose from.source.faults to.source.faults) → ConvertedTo k end → (c : Sinks)
      → ((left : List Item) → AreHeld manner.binding manner.belongs to.held left → EndsWithFile name end k s left to.sinks c)
      → (names : List (List ℕ)) (first : List Item) → AreHeld manner.binding manner.belongs from.held first → Ends s first names c
  file_ends s k end rose t c ends names first are =
      let h = t.holds first are in
      elim (ends h.left h.are_held) [
        | inl (is, going, memory, done) ↦
            subst (λ (v : Status). Ends v first names c) (sym is)
            (ends_said k end rose t (λ e. going (is ∙ e)) (λ e. memory (is ∙ e)) names first c
            (subst (λ l. AreCarriedOut l (end_message name end k ∷ []) from.sinks c) (sym h.split) (carried_on h.done h.left (end_message name end k ∷ []) from.sinks to.sinks c h.carried done)))
        | inr (which, ended) ↦
            ends_within s which (read_of size manner name from start to opens k end t) names first c
            (subst (λ l. HasEnded s l from.sinks c) (sym h.split) (ended_on s h.done h.left from.sinks to.sinks c h.carried ended))
      ]

  -- or within them
  pub file_halted : (s : Status) → IsHalt s → HaltsAt s size manner base from start to
      → (names : List (List ℕ)) (first : List Item) → AreHeld manner.binding manner.belongs from.held first → Ends s first names to.sinks
  file_halted s which t names first are =
      ends_within s which (read_by_halting s size told manner name base from start to (opened_bytes_of name from.source start opens) t) names first to.sinks (t.ended first are)
