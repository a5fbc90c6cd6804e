-- The entries of a batch, carried out one after another.
use Rattle.std.proofs.Common.{◌≡◌, ◌≤◌, ◌<◌, ℕ, suc, ◌+◌, Bool, false, not, List, [], ◌∷◌, ◌++◌, Vec, Global, length, get_or, drop, refl, sym, ◌∙◌, ap, subst, append_assoc, arith}
use Rattle.std.specs.Prelude.{string_bytes}
use Rattle.std.specs.List.{AllZip}
use Rattle.std.proofs.lemmas.List.{append-nil, drop_all, drop_more}
use Rattle.bit_image.specs.Page.{Page as Pixels}
use Rattle.run_output.specs.Messages.{trailing_line}
use Rattle.run_output.specs.declared.status.Status.TheVariants as status
use Rattle.run_output.specs.Parts.{end_part, page_part}
use Rattle.run_output.specs.Inner.Parts.{is_begun}
use Rattle.run_output.specs.declared.part.Binding.{Binding}
use Rattle.run_output.specs.declared.part.Binding.TheVariants.{Apart, Together}
use Rattle.page_batches.specs.Items.{Item, is_open_behind}
use Rattle.page_batches.specs.Items.Item.{Note, Write}
use Rattle.page_batches.specs.ItemsDone.{AreCarriedOut, IsUnwritten}
use Rattle.run_output.specs.Told.{IsMessage, Sinks}
use Rattle.page_batches.specs.Inner.Entries.{AreInOrder, held_by, items_by, pages_among}
use Rattle.page_batches.specs.Held.{AreHeld, Held}
use Rattle.page_batches.specs.Inner.Held.{AreInTurn, is_open_held, pages_held}
use Rattle.page_batches.specs.Held.Held.{End, Message, Page}
use Rattle.page_batches.specs.declared.batch.Pending.{Pending as Given}
use Rattle.page_batches.specs.declared.batch.Pending.TheVariants as entry
use Rattle.page_batches.proofs.Carrying.{IsSaying, carried_on, ended_on, note_said, nothing_done}

-- what entries hold, and others behind them
pub held_by-append : (entries more : List Given) (pages next : List Pixels) → length pages ≡ pages_among entries
    → held_by (entries ++ more) (pages ++ next) ≡ held_by entries pages ++ held_by more next
held_by-append [] more [] next e = refl
held_by-append [] more (p ∷ pages) next e = absurd (omega (arith, e))
held_by-append (entry.Page n k ∷ entries) more [] next e = absurd (omega (arith, e))
held_by-append (entry.Page n k ∷ entries) more (p ∷ pages) next e =
    ap (λ (held : List Held). Page (string_bytes n) k p ∷ held) (held_by-append entries more pages next (omega (arith, e)))
held_by-append (entry.End n count ∷ entries) more pages next e =
    ap (λ (held : List Held). End (string_bytes n) count [] ∷ held) (held_by-append entries more pages next e)
held_by-append (entry.EndTrailing n file count ∷ entries) more pages next e =
    ap (λ (held : List Held). End (string_bytes n) count (trailing_line (string_bytes file) count ∷ []) ∷ held) (held_by-append entries more pages next e)
held_by-append (entry.Trailing n count ∷ entries) more pages next e =
    ap (λ (held : List Held). Message (trailing_line (string_bytes n) count) ∷ held) (held_by-append entries more pages next e)

-- the same of others that speak of no page
pub held_by-behind : (entries more : List Given) (pages : List Pixels) → length pages ≡ pages_among entries
    → held_by (entries ++ more) pages ≡ held_by entries pages ++ held_by more []
held_by-behind entries more pages e = ap (held_by (entries ++ more)) (sym (append-nil pages)) ∙ held_by-append entries more pages [] e

pub pages_among-append : (entries more : List Given) → pages_among (entries ++ more) ≡ pages_among entries + pages_among more
pages_among-append [] more = omega arith
pages_among-append (entry.Page name before ∷ entries) more = omega (arith, pages_among-append entries more)
pages_among-append (entry.End name count ∷ entries) more = pages_among-append entries more
pages_among-append (entry.EndTrailing name file count ∷ entries) more = pages_among-append entries more
pages_among-append (entry.Trailing name count ∷ entries) more = pages_among-append entries more

-- all pages are held
pub pages_held-held_by : (entries : List Given) (pages : List Pixels) → length pages ≡ pages_among entries → pages_held (held_by entries pages) ≡ length pages
pages_held-held_by [] [] e = refl
pages_held-held_by [] (p ∷ pages) e = absurd (omega (arith, e))
pages_held-held_by (entry.Page name before ∷ entries) [] e = absurd (omega (arith, e))
pages_held-held_by (entry.Page name before ∷ entries) (page ∷ pages) e = ap suc (pages_held-held_by entries pages (omega (arith, e)))
pages_held-held_by (entry.End name count ∷ entries) pages e = pages_held-held_by entries pages e
pages_held-held_by (entry.EndTrailing name file count ∷ entries) pages e = pages_held-held_by entries pages e
pages_held-held_by (entry.Trailing name count ∷ entries) pages e = pages_held-held_by entries pages e

-- what is held begins and ends documents in turn, and so do the entries
pub turn_by : (b : Binding) (is_open : Bool) (entries : List Given) (pages : List Pixels) → length pages ≡ pages_among entries → AreInTurn b is_open (held_by entries pages) → AreInOrder b is_open entries
turn_by b is_open [] pages e turn = tt
turn_by b is_open (entry.Page name before ∷ entries) [] e turn = absurd (omega (arith, e))
turn_by b is_open (entry.Page name before ∷ entries) (page ∷ pages) e turn = (turn.0, turn_by b (is_begun b (suc before)) entries pages (omega (arith, e)) turn.1)
turn_by b is_open (entry.End name count ∷ entries) pages e turn = (turn.0, turn_by b false entries pages e turn.1)
turn_by b is_open (entry.EndTrailing name file count ∷ entries) pages e turn = (turn.0, turn_by b false entries pages e turn.1)
turn_by b is_open (entry.Trailing name count ∷ entries) pages e turn = turn_by b is_open entries pages e turn

-- behind a page a document is open or not, as its binding says
pub open_behind_page : (b : Binding) (name : List ℕ) (before : ℕ) (text : List ℕ) → not (page_part b name before text).ends ≡ is_begun b (suc before)
open_behind_page Apart name before text = refl
open_behind_page Together name before text = refl

-- whether a document is open behind the items of entries follows from what they hold
pub open_by : (b : Binding) (is_open : Bool) (entries : List Given) (pages : List Pixels) (texts : List (Vec ℕ Global)) → length pages ≡ pages_among entries → length texts ≡ pages_among entries
    → is_open_behind is_open (items_by b entries texts) ≡ is_open_held b is_open (held_by entries pages)
open_by b is_open [] pages texts e h = refl
open_by b is_open (entry.Page name before ∷ entries) [] texts e h = absurd (omega (arith, e))
open_by b is_open (entry.Page name before ∷ entries) (page ∷ pages) [] e h = absurd (omega (arith, h))
open_by b is_open (entry.Page name before ∷ entries) (page ∷ pages) (text ∷ texts) e h =
    ap (λ (o : Bool). is_open_behind o (items_by b entries texts)) (open_behind_page b (string_bytes name) before text.items)
    ∙ open_by b (is_begun b (suc before)) entries pages texts (omega (arith, e)) (omega (arith, h))
open_by b is_open (entry.End name count ∷ entries) pages texts e h = open_by b false entries pages texts e h
open_by b is_open (entry.EndTrailing name file count ∷ entries) pages texts e h = open_by b false entries pages texts e h
open_by b is_open (entry.Trailing name count ∷ entries) pages texts e h = open_by b is_open entries pages texts e h

-- the items of what the entries hold, where the texts belong to their pages
pub items_are_held : (b : Binding) (belongs : Pixels → List ℕ → Type 0) (entries : List Given) (pages : List Pixels) (texts : List (Vec ℕ Global))
    → AllZip (λ (page : Pixels) (text : Vec ℕ Global). belongs page text.items) pages texts → length pages ≡ pages_among entries
    → AreHeld b belongs (held_by entries pages) (items_by b entries texts)
items_are_held b belongs [] pages texts all e = refl
items_are_held b belongs (entry.Page name before ∷ entries) [] texts all e = absurd (omega (arith, e))
items_are_held b belongs (entry.Page name before ∷ entries) (page ∷ pages) [] all e = absurd all
items_are_held b belongs (entry.Page name before ∷ entries) (page ∷ pages) (text ∷ texts) all e =
    (text.items, items_by b entries texts, all.0, refl, items_are_held b belongs entries pages texts all.1 (omega (arith, e)))
items_are_held b belongs (entry.End name count ∷ entries) pages texts all e = (items_by b entries texts, refl, items_are_held b belongs entries pages texts all e)
items_are_held b belongs (entry.EndTrailing name file count ∷ entries) pages texts all e = (items_by b entries texts, refl, items_are_held b belongs entries pages texts all e)
items_are_held b belongs (entry.Trailing name count ∷ entries) pages texts all e = (items_by b entries texts, refl, items_are_held b belongs entries pages texts all e)

-- the first i entries are carried out, with the first n texts
pub record AreWritten (b : Binding) (entries : List Given) (texts : List (Vec ℕ Global)) (i n : ℕ) (old new : Sinks) : Type 0 where
  pub before : List Item
  pub split : items_by b entries texts ≡ before ++ items_by b (drop i entries) (drop n texts)
  pub carried : AreCarriedOut before [] old new
  pub left : length texts ≡ n + pages_among (drop i entries)

pub none_written : (b : Binding) (entries : List Given) (texts : List (Vec ℕ Global)) (a : Sinks) → length texts ≡ pages_among entries → AreWritten b entries texts 0 0 a a
none_written b entries texts a e = record { before = []; split = refl; carried = nothing_done a; left = omega (arith, e) }

-- the entry at this place, and those behind it
pub entries_from : (entries : List Given) (i : ℕ) (this here : Given) → i < length entries → here ≡ get_or entries i here → here ≡ this → drop i entries ≡ this ∷ drop (i + 1) entries
entries_from entries i this here within is e = drop_more entries i here within ∙ ap (λ (x : Given). x ∷ drop (i + 1) entries) (sym is ∙ e)

-- the next items begin with the part that is this page
page_next : (b : Binding) (entries : List Given) (texts : List (Vec ℕ Global)) (i n : ℕ) (name : _) (before : ℕ) (text : Vec ℕ Global) → drop i entries ≡ entry.Page name before ∷ drop (i + 1) entries
    → n < length texts → text ≡ get_or texts n text
    → items_by b (drop i entries) (drop n texts) ≡ Write (page_part b (string_bytes name) before text.items) ∷ items_by b (drop (i + 1) entries) (drop (n + 1) texts)
page_next b entries texts i n name before text from some at =
    ap (λ (l : List Given). items_by b l (drop n texts)) from
    ∙ ap (λ (l : List (Vec ℕ Global)). items_by b (entry.Page name before ∷ drop (i + 1) entries) l) (drop_more texts n text some ∙ ap (λ (t : Vec ℕ Global). t ∷ drop (n + 1) texts) (sym at))

-- one item more is carried out
item_more : (all before next rest : List Item) (item : Item) → all ≡ before ++ next → next ≡ item ∷ rest → all ≡ (before ++ item ∷ []) ++ rest
item_more all before next rest item split e = split ∙ ap (λ l. before ++ l) e ∙ sym (append_assoc before (item ∷ []) rest)

-- a message was said behind a part
pub said_with : (name : List ℕ) (pages : ℕ) (message : List ℕ) (x y z : Sinks) → AreCarriedOut (Write (end_part name pages []) ∷ []) [] x y
    → IsSaying y z → IsMessage message y.errs z.errs → AreCarriedOut (Write (end_part name pages (message ∷ [])) ∷ []) [] x z
said_with name pages message x y z done same said =
    let both = carried_on (Write (end_part name pages []) ∷ []) (Note message ∷ []) [] x y z done (note_said message y z same said) in
    record { goes_on = both.goes_on; documents = both.documents; went = both.went; opened = both.opened; messages = both.messages }

-- a page's part goes by the name of its document
pub name_of_page : (b : Binding) (name : List ℕ) (before : ℕ) (text : List ℕ) → (page_part b name before text).name ≡ name
name_of_page Apart name before text = refl
name_of_page Together name before text = refl

-- what an entry asks of the outputs, and what the entries behind it do
pub turn_at : (b : Binding) (is_open : Bool) (entries : List Given) (i : ℕ) (this : Given) → drop i entries ≡ this ∷ drop (i + 1) entries → AreInOrder b is_open (drop i entries)
    → AreInOrder b is_open (this ∷ drop (i + 1) entries)
turn_at b is_open entries i this from turn = subst (AreInOrder b is_open) from turn

module _ {b : Binding} {entries : List Given} {texts : List (Vec ℕ Global)} {i n : ℕ} {x y : Sinks} (w : AreWritten b entries texts i n x y) where
  -- the entry at this place is a page, so there is a text for it
  text_left : (name : _) (before : ℕ) → drop i entries ≡ entry.Page name before ∷ drop (i + 1) entries → n < length texts
  text_left name before from = omega (arith, w.left, ap pages_among from)

  -- the item at this place is carried out
  pub item_written : (m : ℕ) (z : Sinks) (item : Item) → items_by b (drop i entries) (drop n texts) ≡ item ∷ items_by b (drop (i + 1) entries) (drop m texts)
      → length texts ≡ m + pages_among (drop (i + 1) entries) → AreCarriedOut (item ∷ []) [] y z → AreWritten b entries texts (i + 1) m x z
  item_written m z item next left done = record {
    before = w.before ++ item ∷ [];
    split = item_more _ w.before _ _ item w.split next;
    carried = carried_on w.before (item ∷ []) [] x y z w.carried done;
    left = left;
  }

  -- a part at this place is cut off
  pub item_cut : (m : ℕ) (z : Sinks) (item : Item) → items_by b (drop i entries) (drop n texts) ≡ item ∷ items_by b (drop (i + 1) entries) (drop m texts)
      → IsUnwritten (item ∷ []) y z → IsUnwritten (items_by b entries texts) x z
  item_cut m z item next cut =
      let rest = items_by b (drop (i + 1) entries) (drop m texts) in
      let more : IsUnwritten (item ∷ rest) y z = record {
        before = cut.before;
        part = cut.part;
        after = cut.after ++ rest;
        split = ap (λ l. l ++ rest) cut.split ∙ append_assoc cut.before (Write cut.part ∷ cut.after) rest;
        goes_on = cut.goes_on;
        cut_off = cut.cut_off;
        broke = cut.broke;
        messages = cut.messages;
      } in
      subst (λ l. IsUnwritten l x z) (sym (w.split ∙ ap (λ l. w.before ++ l) next)) (ended_on status.Unwritten w.before (item ∷ rest) x y z w.carried more)

  -- a page at this place
  pub page_written : (z : Sinks) (name : _) (before : ℕ) (text : Vec ℕ Global) → drop i entries ≡ entry.Page name before ∷ drop (i + 1) entries
      → text ≡ get_or texts n text → AreCarriedOut (Write (page_part b (string_bytes name) before text.items) ∷ []) [] y z
      → AreWritten b entries texts (i + 1) (n + 1) x z
  page_written z name before text from at done =
      item_written (n + 1) z (Write (page_part b (string_bytes name) before text.items))
      (page_next b entries texts i n name before text from (text_left name before from) at) (omega (arith, w.left, ap pages_among from)) done

  pub page_cut : (z : Sinks) (name : _) (before : ℕ) (text : Vec ℕ Global) → drop i entries ≡ entry.Page name before ∷ drop (i + 1) entries
      → text ≡ get_or texts n text → IsUnwritten (Write (page_part b (string_bytes name) before text.items) ∷ []) y z → IsUnwritten (items_by b entries texts) x z
  page_cut z name before text from at cut =
      item_cut (n + 1) z (Write (page_part b (string_bytes name) before text.items))
      (page_next b entries texts i n name before text from (text_left name before from) at) cut

  -- the message at this place is said
  pub message_written : (z : Sinks) (name : _) (count : ℕ) → drop i entries ≡ entry.Trailing name count ∷ drop (i + 1) entries
      → IsSaying y z → IsMessage (trailing_line (string_bytes name) count) y.errs z.errs → AreWritten b entries texts (i + 1) n x z
  message_written z name count from same said =
      item_written n z (Note (trailing_line (string_bytes name) count))
      (ap (λ (l : List Given). items_by b l (drop n texts)) from) (omega (arith, w.left, ap pages_among from)) (note_said _ y z same said)

  -- the end of a document at this place
  pub end_written : (z : Sinks) (this : Given) (item : Item) → drop i entries ≡ this ∷ drop (i + 1) entries
      → items_by b (this ∷ drop (i + 1) entries) (drop n texts) ≡ item ∷ items_by b (drop (i + 1) entries) (drop n texts)
      → pages_among (this ∷ drop (i + 1) entries) ≡ pages_among (drop (i + 1) entries)
      → AreCarriedOut (item ∷ []) [] y z → AreWritten b entries texts (i + 1) n x z
  end_written z this item from is count done =
      item_written n z item (ap (λ (l : List Given). items_by b l (drop n texts)) from ∙ is) (omega (arith, w.left, ap pages_among from, count)) done

  pub end_cut : (z : Sinks) (this : Given) (item : Item) → drop i entries ≡ this ∷ drop (i + 1) entries
      → items_by b (this ∷ drop (i + 1) entries) (drop n texts) ≡ item ∷ items_by b (drop (i + 1) entries) (drop n texts)
      → IsUnwritten (item ∷ []) y z → IsUnwritten (items_by b entries texts) x z
  end_cut z this item from is cut = item_cut n z item (ap (λ (l : List Given). items_by b l (drop n texts)) from ∙ is) cut

  -- all entries are carried out
  pub all_written : length entries ≤ i → AreCarriedOut (items_by b entries texts) [] x y
  all_written most =
      let none = ap (λ (l : List Given). items_by b l (drop n texts)) (drop_all i entries most) in
      subst (λ l. AreCarriedOut l [] x y) (sym (w.split ∙ ap (λ l. w.before ++ l) none ∙ append-nil w.before)) w.carried
