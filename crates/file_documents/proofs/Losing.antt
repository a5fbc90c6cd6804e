-- How far a run has read where memory ran out.
use Rattle.std.proofs.Common.{◌≡◌, ◌≤◌, ◌<◌, ℕ, ◌+◌, false, List, [], ◌∷◌, ◌++◌, length, Option, None, Some, IfSome, inl, inr, refl, sym, ◌∙◌, ap, append_assoc, zero-mul, arith}
use Rattle.std.proofs.lemmas.List.{append-nil}
use Rattle.pt_core.specs.Counts.{next_count}
use Rattle.pt_core.specs.Files.{Contents, unread}
use Rattle.bitmap_input.specs.Raw.{Raw}
use Rattle.run_output.specs.Messages.{out_of_memory}
use Rattle.run_output.specs.Made.{Past, most_pages, no_past}
use Rattle.run_output.specs.declared.status.Status.TheVariants as status
use Rattle.page_batches.specs.Held.{AreHeld}
use Rattle.page_batches.specs.Inner.Held.{pages_held}
use Rattle.page_batches.specs.Items.{Item, page_count}
use Rattle.page_batches.specs.ItemsDone.{AreCarriedOut}
use Rattle.run_output.specs.Told.{Sinks, Source}
use Rattle.page_batches.proofs.Carrying.{GoesOn-behind}
use Rattle.page_batches.proofs.Holding.{all_held, holds_goes_on, page_count-append}
use Rattle.file_documents.specs.FileItems.{Nothing, told_contents}
use Rattle.file_documents.specs.LastBatch.{IsReadTo, LosesBatch, ReadsAtMost}
use Rattle.file_documents.specs.Manner.{HasTexts, Manner, base_by}
use Rattle.file_documents.specs.Order.{AreAllItems, Order, order_by, order_of}
use Rattle.file_documents.specs.Outcome.{LeavesBehind, ReadsNear}
use Rattle.file_documents.specs.Inner.Progress.{AreConverted, OpensNoFile, RunsOutIn, text_items}
use Rattle.file_documents.specs.declared.pages.PagesEnd.{PagesEnd}
use Rattle.file_documents.proofs.Ending.{at_first, near_opened}
use Rattle.file_documents.proofs.Exists.{items_found}
use Rattle.file_documents.proofs.Filing.{items_after, opened_bytes_of, pages_alone, read_by_halting, read_of}
use Rattle.file_documents.proofs.Joining.{items_join}
use Rattle.file_documents.proofs.LastBatch.{batch_held, out_as, out_more}
use Rattle.file_documents.proofs.Passing.{pages_go_on}
use Rattle.file_documents.proofs.Standing.{ConvertsFileTo, ConvertsTo, HaltsAt, LosesAt, OpensFile, Standing}

-- fewer pages were read, and so at most these
reads_fewer : (n m : ℕ) (first : List Item) (order : Order) (past : Past) (source source_now : Source) → n ≤ m
    → ReadsAtMost n first order past source source_now → ReadsAtMost m first order past source source_now
reads_fewer n m first order past source source_now less r =
    let few = r.few in
    record { name = r.name; front = r.front; raws = r.raws; before = r.before; reached = r.reached; read = r.read; items = r.items; goes_on = r.goes_on; few = omega (arith, few, less) }

-- memory ran out within what was read
lose_of : (size : ℕ) (first : List Item) (order : Order) (from to : Standing) (read after items : List Item) → AreAllItems order from.made items → RunsOutIn size read from.sinks to.sinks
    → first ++ items ≡ read ++ after → ReadsAtMost (page_count read) first order from.made from.source to.source → LosesAt size first order from to
lose_of size first order from to read after items are p split reads =
    let (v, e) = out_more read after from.sinks to.sinks p.out in
    let (w, d) = out_as (first ++ items) (read ++ after) from.sinks to.sinks split v in
    let before : page_count w.before ≡ page_count p.out.before = ap page_count (d ∙ e) in
    let most = p.most in
    let whole = p.whole in
    record {
      items = items;
      are = are;
      out = w;
      batches = p.batches;
      whole = before ∙ whole;
      reads = reads_fewer (page_count read) (page_count w.before + size) first order from.made from.source to.source (omega (arith, before, most, whole)) reads;
    }

-- no page of a file was read, and what was held isn't carried out
module _ (size : ℕ) (manner : Manner) (can : HasTexts manner) (name : List ℕ) (from to : Standing) (few : pages_held from.held < size) (one : to.source.openings ≡ next_count from.source.openings)
    (idle : AreCarriedOut [] (out_of_memory ∷ []) from.sinks to.sinks) where
  lose_unread : IsReadTo (told_contents from.source.files) name [] to.source
      → (names : List (List ℕ)) (first : List Item) → AreHeld manner.binding manner.belongs from.held first → LosesAt size first (order_of manner (name ∷ names) from.source) from to
  lose_unread read names first are =
      let items = items_found (told_contents from.source.files) manner can (name ∷ names) from.made in
      let none = ap page_count (append-nil first) in
      lose_of size first (order_of manner (name ∷ names) from.source) from to first items.0 items.0 items.1
      (batch_held size manner first from.held from.sinks from.sinks to.sinks (all_held manner.binding size manner.belongs from.held first from.sinks are) idle few) refl
      (record {
        name = name;
        front = [];
        raws = [];
        before = [];
        reached = at_first name names from.source.openings to.source.openings one;
        read = read;
        items = refl;
        goes_on = tt;
        few = omega (arith, none);
      })

  -- since the file can't be opened
  pub lose_unopened : to.source.is_opened ≡ false
      → (names : List (List ℕ)) (first : List Item) → AreHeld manner.binding manner.belongs from.held first → LosesAt size first (order_of manner (name ∷ names) from.source) from to
  lose_unopened closed = lose_unread (inl (refl, closed))

  -- or since memory ran out as soon as it was opened
  pub lose_at_start : OpensFile name from.source to.source
      → (names : List (List ℕ)) (first : List Item) → AreHeld manner.binding manner.belongs from.held first → LosesAt size first (order_of manner (name ∷ names) from.source) from to
  lose_at_start opens =
      let stays : OpensNoFile to.source to.source = record { openings = refl; name = refl; contents = refl } in
      let (rest, here, close) = near_opened name from.source to.source to.source [] opens stays (all_left (unread to.source.files)) in
      lose_unread (inr (rest, here, close)) where
        all_left : (o : Option (List ℕ)) → IfSome o (λ bytes. (left : List ℕ) × (o ≡ Some left) × ReadsNear bytes [] left)
        all_left None = tt
        all_left (Some bytes) = (bytes, refl, inl (bytes, refl, omega arith))

-- the file was opened, and then bytes were taken of it
module _ (size : ℕ) (manner : Manner) (can : HasTexts manner) (name : List ℕ) (from : Standing) (start : Source) (to : Standing)
    (opens : OpensFile name from.source start) (stays : OpensNoFile start to.source) where
  abbrev base : List ℕ
  base = base_by manner name

  abbrev told : Option Contents
  told = told_contents from.source.files

  abbrev texts_of : List (List ℕ) → List Item
  texts_of texts = text_items manner base from.made 0 texts

  -- how far the run has read, with these sinks
  abbrev Loses : List Item → List (List ℕ) → Sinks → Type 0
  Loses first names c = LosesAt size first (order_of manner (name ∷ names) from.source) from (record to { sinks = c })

  -- these pages of it were read
  reads : (names : List (List ℕ)) (first : List Item) (raws : List Raw) (texts : List (List ℕ)) → AreConverted manner raws texts → length raws + from.made.pages ≤ most_pages
      → IfSome (unread start.files) (λ bytes. (left : List ℕ) × (unread to.source.files ≡ Some left) × ReadsNear bytes raws left)
      → ReadsAtMost (page_count (first ++ texts_of texts)) first (order_of manner (name ∷ names) from.source) from.made from.source to.source
  reads names first raws texts converted few near =
      let (rest, here, close) = near_opened name from.source start to.source raws opens stays near in
      record {
        name = name;
        front = [];
        raws = raws;
        before = texts_of texts;
        reached = at_first name names from.source.openings to.source.openings (stays.openings ∙ opens.one_more);
        read = inr (rest, here, close);
        items = pages_alone manner name base from.made raws texts converted few;
        goes_on = pages_go_on manner base from.made 0 texts;
        few = omega arith;
      }

  -- a page more was read, and what was held with it isn't carried out
  pub lose_halted : HaltsAt status.OutOfMemory size manner base from start to
      → (names : List (List ℕ)) (first : List Item) → AreHeld manner.binding manner.belongs from.held first → Loses first names to.sinks
  lose_halted t names first are =
      let r = read_by_halting status.OutOfMemory size told manner name base from start to (opened_bytes_of name from.source start opens) t in
      let (after, items) = items_after told manner name from.made can names r in
      let texts = texts_of t.texts in
      lose_of size first (order_of manner (name ∷ names) from.source) from to (first ++ texts) after (texts ++ after) items
      (t.in_memory refl first are) (sym (append_assoc first texts after)) (reads names first t.raws t.texts t.converted t.few (near_by (unread start.files) t.near)) where
        near_by : (o : Option (List ℕ))
            → IfSome o (λ all. (behind : List ℕ) × (rest : List ℕ) × LeavesBehind false all t.raws behind × (unread to.source.files ≡ Some rest) × (length behind ≤ length rest + 65536))
            → IfSome o (λ all. (left : List ℕ) × (unread to.source.files ≡ Some left) × ReadsNear all t.raws left)
        near_by None near = tt
        near_by (Some all) (behind, rest, leaves, is, few) = (rest, is, inl (behind, leaves, few))

  module _ (k : ℕ) (end : PagesEnd) (t : ConvertsTo size manner base from start to k end) where
    its_reads : (names : List (List ℕ)) (first : List Item)
        → ReadsAtMost (page_count (first ++ texts_of t.texts)) first (order_of manner (name ∷ names) from.source) from.made from.source to.source
    its_reads names first =
        let few : length t.raws + from.made.pages ≤ most_pages = (let most = t.few in let count = t.count in omega (arith, most, count)) in
        reads names first t.raws t.texts t.converted few t.near

    -- its pages were read, and what is held then isn't carried out
    pub lose_ended : (c : Sinks) → pages_held to.held < size → AreCarriedOut [] (out_of_memory ∷ []) to.sinks c
        → (names : List (List ℕ)) (first : List Item) → AreHeld manner.binding manner.belongs from.held first → Loses first names c
    lose_ended c few idle names first are =
        let (after, items) = items_after told manner name from.made can names (read_of size manner name from start to opens k end t) in
        let texts = texts_of t.texts in
        lose_of size first (order_of manner (name ∷ names) from.source) from (record to { sinks = c }) (first ++ texts) after (texts ++ after) items
        (batch_held size manner (first ++ texts) to.held from.sinks to.sinks c (t.holds first are) idle few) (sym (append_assoc first texts after)) (its_reads names first)

    -- the same behind the file, whose items are these pages' and more
    pub lose_behind : (next : Standing) (d : Sinks) (file : ConvertsFileTo size told manner name from next) (last : List Item)
        → file.items ≡ texts_of t.texts ++ last → pages_held next.held < size → AreCarriedOut [] (out_of_memory ∷ []) next.sinks d
        → (names : List (List ℕ)) (first : List Item) → AreHeld manner.binding manner.belongs from.held first → Loses first names d
    lose_behind next d file last same few idle names first are =
        let h = file.holds first are in
        let goes = GoesOn-behind first file.items (holds_goes_on manner.binding size manner.belongs (first ++ file.items) next.held from.sinks next.sinks h) in
        let more = items_found told manner can names next.made in
        let items = items_join told manner Nothing names next.made more.0 more.1 (name ∷ []) from.made file.items goes file.are in
        let texts = texts_of t.texts in
        let less = page_count-append first texts in
        let all = ap (λ l. page_count (first ++ l)) same ∙ page_count-append first (texts ++ last) in
        let both = page_count-append texts last in
        lose_of size first (order_of manner (name ∷ names) from.source) from (record to { sinks = d }) (first ++ file.items) more.0 (file.items ++ more.0) items
        (batch_held size manner (first ++ file.items) next.held from.sinks next.sinks d h idle few) (sym (append_assoc first file.items more.0))
        (reads_fewer (page_count (first ++ texts)) (page_count (first ++ file.items)) first (order_of manner (name ∷ names) from.source) from.made from.source to.source
        (omega (arith, less, all, both)) (its_reads names first))

-- memory ran out before a file was opened
pub lose_none : (size : ℕ) (contents : Option Contents) (manner : Manner) → HasTexts manner → (names : List (List ℕ)) (source source_now : Source) (a c : Sinks)
    → source_now.openings ≡ source.openings → source_now.files ≡ source.files → AreCarriedOut [] (out_of_memory ∷ []) a c → LosesBatch size (order_by contents manner names) source source_now a c
lose_none size contents manner can names source source_now a c openings files idle =
    let items = items_found contents manner can names no_past in
    record { items = items.0; are = items.1; out = record { before = []; after = items.0; split = refl; done = idle }; batches = 0; whole = sym (zero-mul size); no_farther = inl (openings, files) }
