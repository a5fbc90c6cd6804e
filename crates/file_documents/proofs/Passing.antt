-- How far a run has read that ends in a file, where a document couldn't be written.
use Rattle.std.proofs.Common.{◌≡◌, ◌≤◌, ◌<◌, ◌⊎◌, ℕ, suc, ◌+◌, false, List, [], ◌∷◌, ◌++◌, length, Option, None, Some, IfSome, inl, inr, refl, sym, ◌∙◌, ap, subst, append_assoc, zero-mul, arith}
use Rattle.pt_core.specs.Counts.{Rose}
use Rattle.pt_core.specs.Files.{Contents, Files, Lacks, unread, with_file}
use Rattle.bitmap_input.specs.declared.fault.InFault.TheVariants as fault
use Rattle.run_output.specs.declared.status.Status.TheVariants as status
use Rattle.run_output.specs.Made.{Past}
use Rattle.page_batches.specs.Held.{AreHeld, Held}
use Rattle.page_batches.specs.Inner.Held.{pages_held}
use Rattle.page_batches.specs.Items.{GoesOn, Item, page_count}
use Rattle.page_batches.specs.Items.Item.{Missing, Refuse}
use Rattle.page_batches.specs.ItemsDone.{IsUnwritten}
use Rattle.run_output.specs.Told.{Sinks, Source}
use Rattle.page_batches.proofs.Holding.{page_count-held}
use Rattle.file_documents.specs.FileItems.{IsAbsent, told_contents}
use Rattle.file_documents.specs.Manner.{HasTexts, Manner, base_by}
use Rattle.file_documents.specs.OnePass.{IfReadsTo}
use Rattle.file_documents.specs.Order.{order_by, order_of}
use Rattle.file_documents.specs.Outcome.{IsOpenedAt, LeavesBehind, opened_name}
use Rattle.file_documents.specs.Inner.Progress.{EndsWithFile, IsInPart, OpensNoFile, end_message, status_of, text_items}
use Rattle.file_documents.specs.Inner.Unopened.{EndsUnopened}
use Rattle.file_documents.specs.declared.pages.PagesEnd.{PagesEnd}
use Rattle.file_documents.specs.declared.pages.PagesEnd.TheVariants as why
use Rattle.file_documents.proofs.Ending.{at_first, name-opened, opened_as, IsShut}
use Rattle.file_documents.proofs.Exists.{items_found}
use Rattle.file_documents.proofs.Filing.{full_items, has_bytes, items_after, opened_bytes_of, pages_alone, read_by_halting, read_of, refused_items}
use Rattle.file_documents.proofs.OnePass.{part_halts, pass_of_batch, pass_of_part, pass_of_rise}
use Rattle.file_documents.proofs.Standing.{ConvertsTo, HaltsAt, IsOnePassAt, OpensFile, Standing}

-- a document of what was held couldn't be written, where that fills no batch
pub held_part : (size : ℕ) (manner : Manner) (held : List Held) (first : List Item) (a c : Sinks) → pages_held held < size → AreHeld manner.binding manner.belongs held first → IsUnwritten first a c → IsInPart size first a c
held_part size manner held first a c few are u =
    let count = page_count-held manner.binding manner.belongs held first are in
    let none = zero-mul size in
    record { unwritten = u; batches = 0; behind = omega (arith, none); most = omega (arith, count, few, none) }

-- the file can't be opened, and a document of what was held couldn't be written
pub pass_unopened : (size : ℕ) → 0 < size → (manner : Manner) → HasTexts manner → (name : List ℕ) (from to : Standing) → pages_held from.held < size → IsShut name from.source to.source
    → ((first : List Item) → AreHeld manner.binding manner.belongs from.held first → EndsUnopened name status.Unwritten first from.sinks to.sinks)
    → (names : List (List ℕ)) (first : List Item) → AreHeld manner.binding manner.belongs from.held first → IsOnePassAt size first (order_of manner (name ∷ names) from.source) from to
pass_unopened size some manner can name from to few shut ends names first are = by_cause shut.cause (unwritten (ends first are)) where
  unwritten : EndsUnopened name status.Unwritten first from.sinks to.sinks → IsUnwritten first from.sinks to.sinks
  unwritten (inl (is, done)) = absurd (let no : status.Unwritten ≡ status.Unread = is in cc)
  unwritten (inr (which, ended)) = ended

  by_cause : IsAbsent (told_contents from.source.files) name ⊎ Rose from.source.faults to.source.faults → IsUnwritten first from.sinks to.sinks
      → IsOnePassAt size first (order_of manner (name ∷ names) from.source) from to
  by_cause (inl absent) u =
      pass_of_part size some first (order_of manner (name ∷ names) from.source) from to first (Missing name ∷ []) (Missing name ∷ [])
      (inl (absent, refl)) (held_part size manner from.held first from.sinks to.sinks few are u) refl refl
  by_cause (inr rose) u =
      let more = items_found (told_contents from.source.files) manner can (name ∷ names) from.made in
      pass_of_rise size some first (order_of manner (name ∷ names) from.source) from to first more.0 more.0 more.1 u refl rose

-- the run goes on after pages
pub pages_go_on : (manner : Manner) (base : List ℕ) (past : Past) (pages : ℕ) (texts : List (List ℕ)) → GoesOn (text_items manner base past pages texts)
pages_go_on manner base past pages [] = tt
pages_go_on manner base past pages (text ∷ texts) = pages_go_on manner base past (suc pages) texts

-- where the end of the pages is to be said, and the run ended as one that can't write, a document of these items couldn't be
-- written
unwritten_of : (name : List ℕ) (k : ℕ) (end : PagesEnd) (items : List Item) (a b : Sinks) → EndsWithFile name end k status.Unwritten items a b
    → (status_of end ≡ status.Refused) ⊎ (status_of end ≡ status.Unread) → IsUnwritten items a b
unwritten_of name k end items a b (inl (is, going, memory, done)) (inl refused) = absurd (let no : status.Unwritten ≡ status.Refused = is ∙ refused in cc)
unwritten_of name k end items a b (inl (is, going, memory, done)) (inr late) = absurd (let no : status.Unwritten ≡ status.Unread = is ∙ late in cc)
unwritten_of name k end items a b (inr (halt, ended)) which = ended

-- the file was opened, and then bytes were taken of it
module _ (size : ℕ) (some : 0 < size) (manner : Manner) (can : HasTexts manner) (name : List ℕ) (from : Standing) (start : Source) (to : Standing)
    (opens : OpensFile name from.source start) (stays : OpensNoFile start to.source) where
  abbrev base : List ℕ
  base = base_by manner name

  abbrev told : Option Contents
  told = told_contents from.source.files

  abbrev texts_of : List (List ℕ) → List Item
  texts_of texts = text_items manner base from.made 0 texts

  -- how far the run has read, with these sinks
  abbrev Passes : List Item → List (List ℕ) → Sinks → Type 0
  Passes first names c = IsOnePassAt size first (order_of manner (name ∷ names) from.source) from (record to { sinks = c })

  -- the run ends with the pages of the file, and a document of what is held then couldn't be written
  pub pass_ended : (k : ℕ) (end : PagesEnd) → (end ≡ why.Fault fault.ReadFault → Rose from.source.faults to.source.faults) → ConvertsTo size manner base from start to k end → (c : Sinks)
      → pages_held to.held < size → ((left : List Item) → AreHeld manner.binding manner.belongs to.held left → EndsWithFile name end k status.Unwritten left to.sinks c)
      → (status_of end ≡ status.Refused) ⊎ (status_of end ≡ status.Unread)
      → (names : List (List ℕ)) (first : List Item) → AreHeld manner.binding manner.belongs from.held first → Passes first names c
  pass_ended k end rose t c few ends which names first are = by_end end rose t ends which where
    -- what is held is a part of a batch
    part : (e : PagesEnd) (t : ConvertsTo size manner base from start to k e)
        → ((left : List Item) → AreHeld manner.binding manner.belongs to.held left → EndsWithFile name e k status.Unwritten left to.sinks c)
        → (status_of e ≡ status.Refused) ⊎ (status_of e ≡ status.Unread) → IsInPart size (first ++ texts_of t.texts) from.sinks c
    part e t ends which =
        part_halts size manner (first ++ texts_of t.texts) to.held from.sinks to.sinks c (t.holds first are) (λ left held. unwritten_of name k e left to.sinks c (ends left held) which) few

    split : (texts : List (List ℕ)) (after : List Item) → first ++ (texts_of texts ++ after) ≡ (first ++ texts_of texts) ++ after
    split texts after = sym (append_assoc first (texts_of texts) after)

    by_end : (e : PagesEnd) → (e ≡ why.Fault fault.ReadFault → Rose from.source.faults to.source.faults) → (t : ConvertsTo size manner base from start to k e)
        → ((left : List Item) → AreHeld manner.binding manner.belongs to.held left → EndsWithFile name e k status.Unwritten left to.sinks c)
        → (status_of e ≡ status.Refused) ⊎ (status_of e ≡ status.Unread) → Passes first names c
    by_end why.TooMany rose t ends which =
        let last : List Item = Refuse (end_message name why.TooMany k) ∷ [] in
        pass_of_part size some first (order_of manner (name ∷ names) from.source) from (record to { sinks = c }) (first ++ texts_of t.texts) last (texts_of t.texts ++ last)
        (full_items size manner name from start to opens k names t) (part why.TooMany t ends which) (split t.texts last) refl
    by_end why.End rose t ends (inl is) = absurd (let no : status.Done ≡ status.Refused = is in cc)
    by_end why.End rose t ends (inr is) = absurd (let no : status.Done ≡ status.Unread = is in cc)
    by_end why.Trailing rose t ends (inl is) = absurd (let no : status.Done ≡ status.Refused = is in cc)
    by_end why.Trailing rose t ends (inr is) = absurd (let no : status.Done ≡ status.Unread = is in cc)
    by_end (why.Fault fault.NoMemory) rose t ends (inl is) = absurd (let no : status.OutOfMemory ≡ status.Refused = is in cc)
    by_end (why.Fault fault.NoMemory) rose t ends (inr is) = absurd (let no : status.OutOfMemory ≡ status.Unread = is in cc)
    by_end (why.Fault fault.ReadFault) rose t ends which =
        let e : PagesEnd = why.Fault fault.ReadFault in
        let held = part e t ends which in
        let (after, items) = items_after told manner name from.made can names (read_of size manner name from start to opens k e t) in
        pass_of_rise size some first (order_of manner (name ∷ names) from.source) from (record to { sinks = c }) (first ++ texts_of t.texts) after (texts_of t.texts ++ after)
        items held.unwritten (split t.texts after) (rose refl)
    by_end (why.Fault f) rose t ends which =
        let last : List Item = Refuse (end_message name (why.Fault f) k) ∷ [] in
        pass_of_part size some first (order_of manner (name ∷ names) from.source) from (record to { sinks = c }) (first ++ texts_of t.texts) last (texts_of t.texts ++ last)
        (refused_items size manner name from start to opens k f refl names t) (part (why.Fault f) t ends which) (split t.texts last) refl

  -- a document of the batch that the last page of the file fills couldn't be written
  pub pass_halted : HaltsAt status.Unwritten size manner base from start to
      → (names : List (List ℕ)) (first : List Item) → AreHeld manner.binding manner.belongs from.held first → Passes first names to.sinks
  pass_halted t names first are =
      let r = read_by_halting status.Unwritten size told manner name base from start to (opened_bytes_of name from.source start opens) t in
      let (after, items) = items_after told manner name from.made can names r in
      pass_of_batch size some first (order_of manner (name ∷ names) from.source) from to (first ++ texts_of t.texts) after (texts_of t.texts ++ after)
      items (t.in_batch refl first are) (sym (append_assoc first (texts_of t.texts) after)) (reads from.source.files opens.file opens.there) where
        opened_at : (now : Option Files) (rest : List ℕ) → unread now ≡ Some rest → opened_name now ≡ Some name → IsOpenedAt name rest now
        opened_at None rest e f = tt
        opened_at (Some files) rest e f = opened_as files.opened name rest e f

        reads : (told : Option Files) → start.files ≡ with_file told name → (Lacks told name → ⊥)
            → IfReadsTo (page_count (first ++ texts_of t.texts)) first (order_by (told_contents told) manner (name ∷ names)) from.made from.source to.source
        reads None opened there = tt
        reads (Some files) opened there =
            let (bytes, held_is, is) = has_bytes (Some files) start.files name opened there in
            let (behind, rest, begins, unread_is, near) = subst (λ (o : Option (List ℕ)).
            IfSome o (λ all. (behind : List ℕ) × (rest : List ℕ) × LeavesBehind false all t.raws behind × (unread to.source.files ≡ Some rest) × (length behind ≤ length rest + 65536))) is t.near in
            record {
              place = record {
                name = name;
                front = [];
                raws = t.raws;
                rest = rest;
                before = texts_of t.texts;
                reached = at_first name names from.source.openings to.source.openings (stays.openings ∙ opens.one_more);
                opened = opened_at to.source.files rest unread_is (stays.name ∙ ap opened_name opened ∙ name-opened files name bytes held_is);
                items = pages_alone manner name base from.made t.raws t.texts t.converted t.few;
              };
              bytes = bytes;
              behind = behind;
              held = held_is;
              some = t.some;
              begins = begins;
              near = near;
              goes_on = pages_go_on manner base from.made 0 t.texts;
              count = refl;
            }
