-- What is held goes on: of the items read the first are carried out, and the others are held.
use Rattle.std.proofs.Common.{◌≡◌, ◌<◌, ◌≤◌, inl, inr, Result, Ok, Err, IfErr, OnOk, ℕ, zero, suc, ◌+◌, ◌*◌, Bool, List, add-mul, one-mul, zero-mul, [], ◌∷◌, ◌++◌, map, refl, sym, ◌∙◌, ap, subst, append_assoc, arith}
use Rattle.std.proofs.lemmas.List.{append-nil}
use Rattle.bit_image.specs.Page.{Page as Pixels}
use Rattle.run_output.specs.Parts.{end_part, page_part}
use Rattle.run_output.specs.Inner.Parts.{is_begun}
use Rattle.run_output.specs.declared.part.Binding.{Binding}
use Rattle.run_output.specs.declared.part.Binding.TheVariants.{Apart, Together}
use Rattle.run_output.specs.declared.status.Status.{Status}
use Rattle.run_output.specs.declared.status.Status.TheVariants as status
use Rattle.page_batches.specs.Held.{AreHeld, Held}
use Rattle.page_batches.specs.Inner.Held.{AreInTurn, Holds, HoldsMore, EndsHolding, LeavesBatch, Waits, end_held, is_open_held, pages_held}
use Rattle.page_batches.specs.Held.Held.{End, Message, Page}
use Rattle.page_batches.specs.Items.{GoesOn, Item, end_items, page_count, pages_in}
use Rattle.page_batches.specs.Items.Item.{Missing, Note, Refuse, Write}
use Rattle.page_batches.specs.ItemsDone.{AreCarriedOut, HasEnded}
use Rattle.page_batches.specs.Inner.ItemsDone.{IsHalt, ended_with}
use Rattle.run_output.specs.Told.{Sinks}
use Rattle.page_batches.proofs.Carrying.{GoesOn-append, carried_on, ended_on, nothing_done}

-- more is held where the call went well
pub more_is_held : {E : Type 0} (r : Result Unit E) (more old now : List Held) → HoldsMore r more old now → OnOk r (now ≡ old ++ more)
more_is_held (Ok done) more old now is = is
more_is_held (Err failed) more old now is = tt

-- which text belongs to a page
abbrev pub Belongs : Type 1
Belongs = Pixels → List ℕ → Type 0

-- the items of what is held, and of what is held behind it
pub AreHeld-append : (b : Binding) (belongs : Belongs) (held more : List Held) (first next : List Item) → AreHeld b belongs held first → AreHeld b belongs more next
    → AreHeld b belongs (held ++ more) (first ++ next)
AreHeld-append b belongs [] more first next are behind = subst (λ l. AreHeld b belongs more (l ++ next)) (sym are) behind
AreHeld-append b belongs (Page name before page ∷ held) more first next (text, rest, is, split, are) behind =
    (text, rest ++ next, is, ap (λ l. l ++ next) split, AreHeld-append b belongs held more rest next are behind)
AreHeld-append b belongs (End name pages notes ∷ held) more first next (rest, split, are) behind =
    (rest ++ next, ap (λ l. l ++ next) split, AreHeld-append b belongs held more rest next are behind)
AreHeld-append b belongs (Message message ∷ held) more first next (rest, split, are) behind =
    (rest ++ next, ap (λ l. l ++ next) split, AreHeld-append b belongs held more rest next are behind)

-- the same of a page that was put behind what is held
pub page_held : (b : Binding) (belongs : Belongs) (held held_now : List Held) (name : List ℕ) (before : ℕ) (page : Pixels) → held_now ≡ held ++ Page name before page ∷ []
    → (first : List Item) → AreHeld b belongs held first → (text : List ℕ) → belongs page text
    → AreHeld b belongs held_now (first ++ Write (page_part b name before text) ∷ [])
page_held b belongs held held_now name before page is first are text is_text =
    rw is (AreHeld-append b belongs held (Page name before page ∷ []) first (Write (page_part b name before text) ∷ []) are (text, [], is_text, refl, refl))

-- messages more are held
AreHeld-notes : (b : Binding) (belongs : Belongs) (messages : List (List ℕ)) → AreHeld b belongs (map Message messages) (map Note messages)
AreHeld-notes b belongs [] = refl
AreHeld-notes b belongs (message ∷ messages) = (map Note messages, refl, AreHeld-notes b belongs messages)

-- the items of what is held of the end of a file
end_items_held : (b : Binding) (belongs : Belongs) (name : List ℕ) (pages : ℕ) (messages : List (List ℕ)) → AreHeld b belongs (end_held b name pages messages) (end_items b name pages messages)
end_items_held Apart belongs name pages messages = AreHeld-notes Apart belongs messages
end_items_held Together belongs name zero messages = AreHeld-notes Together belongs messages
end_items_held Together belongs name (suc k) messages = ([], refl, refl)

-- the end of a file more is held
pub end_is_held : (b : Binding) (belongs : Belongs) (held : List Held) (name : List ℕ) (pages : ℕ) (messages : List (List ℕ)) (first : List Item) → AreHeld b belongs held first
    → AreHeld b belongs (held ++ end_held b name pages messages) (first ++ end_items b name pages messages)
end_is_held b belongs held name pages messages first are =
    AreHeld-append b belongs held (end_held b name pages messages) first (end_items b name pages messages) are (end_items_held b belongs name pages messages)

-- notes have no page, and the run goes on behind them
notes_have_no_page : (messages : List (List ℕ)) → page_count (map Note messages) ≡ 0
notes_have_no_page [] = refl
notes_have_no_page (message ∷ messages) = notes_have_no_page messages

notes_go_on : (messages : List (List ℕ)) → GoesOn (map Note messages)
notes_go_on [] = tt
notes_go_on (message ∷ messages) = notes_go_on messages

-- the end of a file has no page
pub page_count-end : (b : Binding) (name : List ℕ) (pages : ℕ) (messages : List (List ℕ)) → page_count (end_items b name pages messages) ≡ 0
page_count-end Apart name pages messages = notes_have_no_page messages
page_count-end Together name zero messages = notes_have_no_page messages
page_count-end Together name (suc k) messages = refl

-- the run goes on behind the end of a file
pub end_goes_on : (b : Binding) (name : List ℕ) (pages : ℕ) (messages : List (List ℕ)) → GoesOn (end_items b name pages messages)
end_goes_on Apart name pages messages = notes_go_on messages
end_goes_on Together name zero messages = notes_go_on messages
end_goes_on Together name (suc k) messages = tt

pub pages_held-append : (held more : List Held) → pages_held (held ++ more) ≡ pages_held held + pages_held more
pages_held-append [] more = omega arith
pages_held-append (Page name before page ∷ held) more = let behind = pages_held-append held more in omega (arith, behind)
pages_held-append (End name pages notes ∷ held) more = pages_held-append held more
pages_held-append (Message message ∷ held) more = pages_held-append held more

-- one page more
pub pages_held-more : (held : List Held) (name : List ℕ) (before : ℕ) (page : Pixels) → pages_held (held ++ Page name before page ∷ []) ≡ pages_held held + 1
pages_held-more held name before page = pages_held-append held (Page name before page ∷ [])

-- how many pages there are in both
pub page_count-append : (items more : List Item) → page_count (items ++ more) ≡ page_count items + page_count more
page_count-append [] more = omega arith
page_count-append (Write part ∷ items) more = let behind = page_count-append items more in omega (arith, behind)
page_count-append (Note message ∷ items) more = page_count-append items more
page_count-append (Refuse message ∷ items) more = page_count-append items more
page_count-append (Missing name ∷ items) more = page_count-append items more

-- a page's part has one page
pub pages_in-page : (b : Binding) (name : List ℕ) (before : ℕ) (text : List ℕ) → pages_in (page_part b name before text).begins (page_part b name before text).ends ≡ 1
pages_in-page Apart name before text = refl
pages_in-page Together name zero text = refl
pages_in-page Together name (suc k) text = refl

-- a part for each page that is held
pub page_count-held : (b : Binding) (belongs : Belongs) (held : List Held) (items : List Item) → AreHeld b belongs held items → page_count items ≡ pages_held held
page_count-held b belongs [] items is = ap page_count is
page_count-held b belongs (Page name before page ∷ held) items (text, rest, is_text, is, are) =
    let all = ap page_count is in
    let one = pages_in-page b name before text in
    let more = page_count-held b belongs held rest are in
    omega (arith, all, one, more)
page_count-held b belongs (End name pages notes ∷ held) items (rest, is, are) =
    let all = ap page_count is in
    let more = page_count-held b belongs held rest are in
    omega (arith, all, more)
page_count-held b belongs (Message message ∷ held) items (rest, is, are) = ap page_count is ∙ page_count-held b belongs held rest are

-- a page has one text, so what is held has one list of items
pub one_items : (b : Binding) (belongs : Belongs) → ((page : Pixels) (x y : List ℕ) → belongs page x → belongs page y → x ≡ y)
    → (held : List Held) (items others : List Item) → AreHeld b belongs held items → AreHeld b belongs held others → items ≡ others
one_items b belongs one [] items others this that = this ∙ sym that
one_items b belongs one (Page name before page ∷ held) items others (text, rest, is_text, is, are) (other, rests, is_other, so, too) =
    is ∙ ap (λ (t : List ℕ). Write (page_part b name before t) ∷ rest) (one page text other is_text is_other)
    ∙ ap (λ (l : List Item). Write (page_part b name before other) ∷ l) (one_items b belongs one held rest rests are too) ∙ sym so
one_items b belongs one (End name pages notes ∷ held) items others (rest, is, are) (rests, so, too) =
    is ∙ ap (λ (l : List Item). Write (end_part name pages notes) ∷ l) (one_items b belongs one held rest rests are too) ∙ sym so
one_items b belongs one (Message message ∷ held) items others (rest, is, are) (rests, so, too) =
    is ∙ ap (λ (l : List Item). Note message ∷ l) (one_items b belongs one held rest rests are too) ∙ sym so

-- all that was read is held
pub all_held : (b : Binding) (size : ℕ) (belongs : Belongs) (held : List Held) (first : List Item) (a : Sinks) → AreHeld b belongs held first → Holds b size belongs first held a a
all_held b size belongs held first a are = record { done = []; left = first; split = refl; batches = 0; whole = sym (zero-mul size); carried = nothing_done a; are_held = are }

-- all that was read is carried out
pub all_carried : (b : Binding) (size : ℕ) (belongs : Belongs) (read : List Item) (held : List Held) (x y : Sinks) → held ≡ [] → page_count read ≡ size → AreCarriedOut read [] x y → Holds b size belongs read held x y
all_carried b size belongs read held x y empty full done =
    record { done = read; left = []; split = sym (append-nil read); batches = 1; whole = full ∙ sym (one-mul size); carried = done; are_held = subst (λ h. AreHeld b belongs h []) (sym empty) refl }

-- what was read, and then more
pub split_on : (done left read more : List Item) → read ≡ done ++ left → read ++ more ≡ done ++ (left ++ more)
split_on done left read more split = ap (λ l. l ++ more) split ∙ append_assoc done left more

-- what was read, and then more of which the first are carried out
pub holds_on : (b : Binding) (size : ℕ) (belongs : Belongs) (read more : List Item) (held held_now : List Held) (x y z : Sinks) → Holds b size belongs read held x y
    → ((left : List Item) → AreHeld b belongs held left → Holds b size belongs (left ++ more) held_now y z) → Holds b size belongs (read ++ more) held_now x z
holds_on b size belongs read more held held_now x y z h behind =
    let next = behind h.left h.are_held in
    record {
      done = h.done ++ next.done;
      left = next.left;
      split = split_on h.done h.left read more h.split ∙ ap (λ l. h.done ++ l) next.split ∙ sym (append_assoc h.done next.done next.left);
      batches = h.batches + next.batches;
      whole = page_count-append h.done next.done ∙ ap (λ n. n + page_count next.done) h.whole ∙ ap (λ n. h.batches * size + n) next.whole ∙ sym (add-mul h.batches next.batches size);
      carried = carried_on h.done next.done [] x y z h.carried next.carried;
      are_held = next.are_held;
    }

-- what was read, and then more, is carried out, and then these messages are said
pub carried_behind : (b : Binding) (size : ℕ) (belongs : Belongs) (read more : List Item) (held : List Held) (last : List (List ℕ)) (x y z : Sinks) → Holds b size belongs read held x y
    → ((left : List Item) → AreHeld b belongs held left → AreCarriedOut (left ++ more) last y z) → AreCarriedOut (read ++ more) last x z
carried_behind b size belongs read more held last x y z h behind =
    subst (λ l. AreCarriedOut l last x z) (sym (split_on h.done h.left read more h.split))
    (carried_on h.done (h.left ++ more) last x y z h.carried (behind h.left h.are_held))

-- what was read, and then more, is carried out as far as the status says
pub ended_behind : (s : Status) (b : Binding) (size : ℕ) (belongs : Belongs) (read more : List Item) (held : List Held) (x y z : Sinks) → Holds b size belongs read held x y
    → ((left : List Item) → AreHeld b belongs held left → HasEnded s (left ++ more) y z) → HasEnded s (read ++ more) x z
ended_behind s b size belongs read more held x y z h behind =
    subst (λ l. HasEnded s l x z) (sym (split_on h.done h.left read more h.split))
    (ended_on s h.done (h.left ++ more) x y z h.carried (behind h.left h.are_held))

-- the run goes on after what is held
held_goes_on : (b : Binding) (belongs : Belongs) (held : List Held) (items : List Item) → AreHeld b belongs held items → GoesOn items
held_goes_on b belongs [] items is = subst GoesOn (sym is) tt
held_goes_on b belongs (Page name before page ∷ held) items (text, rest, is_text, is, are) = subst GoesOn (sym is) (held_goes_on b belongs held rest are)
held_goes_on b belongs (End name pages notes ∷ held) items (rest, is, are) = subst GoesOn (sym is) (held_goes_on b belongs held rest are)
held_goes_on b belongs (Message message ∷ held) items (rest, is, are) = subst GoesOn (sym is) (held_goes_on b belongs held rest are)

-- and so after what was read
pub holds_goes_on : (b : Binding) (size : ℕ) (belongs : Belongs) (read : List Item) (held : List Held) (x y : Sinks) → Holds b size belongs read held x y → GoesOn read
holds_goes_on b size belongs read held x y h =
    subst GoesOn (sym h.split) (GoesOn-append h.done h.left h.carried.goes_on (held_goes_on b belongs held h.left h.are_held))

-- a full batch was carried out, or the run ends within it
pub held_or_ended : (r : Result Unit Status) (b : Binding) (size : ℕ) (belongs : Belongs) (read : List Item) (is_open is_open_now : Bool) (held held_now : List Held) (x y : Sinks)
    → HasEnded (ended_with r) read x y → LeavesBatch r b is_open is_open_now held held_now → page_count read ≡ size → EndsHolding r b size belongs read held_now x y
held_or_ended (Ok done) b size belongs read is_open is_open_now held held_now x y ended left full = all_carried b size belongs read held_now x y left.0 full ended
held_or_ended (Err status.Unwritten) b size belongs read is_open is_open_now held held_now x y ended left full = ended
held_or_ended (Err status.OutOfMemory) b size belongs read is_open is_open_now held held_now x y ended left full = ended
held_or_ended (Err s) b size belongs read is_open is_open_now held held_now x y ended left full = absurd left

-- where a batch wasn't carried out, the run ends within it
pub halts_by : (r : Result Unit Status) (b : Binding) (is_open is_open_now : Bool) (held held_now : List Held) → LeavesBatch r b is_open is_open_now held held_now → IfErr r IsHalt
halts_by (Ok done) b is_open is_open_now held held_now left = tt
halts_by (Err status.Unwritten) b is_open is_open_now held held_now left = inl refl
halts_by (Err status.OutOfMemory) b is_open is_open_now held held_now left = inr refl
halts_by (Err s) b is_open is_open_now held held_now left = absurd left

-- one page more fills the batch
pub filled : (old now : List Held) (name : List ℕ) (before : ℕ) (page : Pixels) (count workers : ℕ) → now ≡ old ++ Page name before page ∷ [] → count ≡ pages_held now → 2 * workers ≤ count → pages_held old < 2 * workers
    → (pages_held now ≡ 2 * workers) × (pages_held old + 1 ≡ 2 * workers)
filled old now name before page count workers is counted most few =
    let more = pages_held-more old name before page in
    let same = ap pages_held is in (omega (arith, more, same, counted, most, few), omega (arith, more, same, counted, most, few))

-- where a batch was carried out, the file's pages go on
pub waits_on : (r : Result Unit Status) (b : Binding) (size before : ℕ) (is_open is_open_now : Bool) (held held_now : List Held) → 0 < size → LeavesBatch r b is_open is_open_now held held_now
    → is_open_held b is_open held ≡ is_begun b (suc before) → OnOk r (Waits b size (suc before) is_open_now held_now)
waits_on (Ok done) b size before is_open is_open_now held held_now some left next = record {
  few = subst (λ h. pages_held h < size) (sym left.0) some;
  turn = subst (AreInTurn b is_open_now) (sym left.0) tt;
  next = ap (is_open_held b is_open_now) left.0 ∙ left.1 ∙ next;
}
waits_on (Err s) b size before is_open is_open_now held held_now some left next = tt
