-- Items carried out one after another.
use Rattle.std.proofs.Common.{◌≡◌, not, Bool, ℕ, List, [], ◌∷◌, ◌++◌, Option, Result, Ok, Err, IsErr, inl, inr, refl, sym, ◌∙◌, ap, subst, append_assoc}
use Rattle.std.proofs.lemmas.List.{append-nil}
use Rattle.pt_core.specs.Documents.{Documents}
use Rattle.run_output.specs.Messages.{not_written, out_of_memory}
use Rattle.run_output.specs.Parts.{IsCutIn, with_part}
use Rattle.run_output.specs.declared.status.Status.{Status}
use Rattle.run_output.specs.declared.status.Status.TheVariants as status
use Rattle.page_batches.specs.Items.{GoesOn, Item, is_open_behind, notes, with_items}
use Rattle.page_batches.specs.Items.Item.{Missing, Note, Refuse, Write}
use Rattle.page_batches.specs.ItemsDone.{AreCarriedOut, AreSaid, HasEnded, IsUnwritten}
use Rattle.page_batches.specs.Inner.ItemsDone.{EndsWriting, IsHalt}
use Rattle.run_output.specs.Told.{IsMessage, Sinks, Told}
use Rattle.run_output.proofs.Calls.{broke_on, went_on}

pub GoesOn-append : (items more : List Item) → GoesOn items → GoesOn more → GoesOn (items ++ more)
GoesOn-append [] more h k = k
GoesOn-append (Write part ∷ items) more h k = GoesOn-append items more h k
GoesOn-append (Note message ∷ items) more h k = GoesOn-append items more h k
GoesOn-append (Refuse message ∷ items) more h k = h
GoesOn-append (Missing name ∷ items) more h k = h

pub with_items-append : (told : Option Documents) (items more : List Item) → with_items told (items ++ more) ≡ with_items (with_items told items) more
with_items-append told [] more = refl
with_items-append told (Write part ∷ items) more = with_items-append (with_part told part) items more
with_items-append told (Note message ∷ items) more = with_items-append told items more
with_items-append told (Refuse message ∷ items) more = with_items-append told items more
with_items-append told (Missing name ∷ items) more = with_items-append told items more

pub notes-append : (items more : List Item) → notes (items ++ more) ≡ notes items ++ notes more
notes-append [] more = refl
notes-append (Write part ∷ items) more = ap (λ ms. part.notes ++ ms) (notes-append items more) ∙ sym (append_assoc part.notes (notes items) (notes more))
notes-append (Note message ∷ items) more = ap (λ ms. message ∷ ms) (notes-append items more)
notes-append (Refuse message ∷ items) more = notes-append items more
notes-append (Missing name ∷ items) more = notes-append items more

pub is_open_behind-append : (is_open : Bool) (items more : List Item) → is_open_behind is_open (items ++ more) ≡ is_open_behind (is_open_behind is_open items) more
is_open_behind-append is_open [] more = refl
is_open_behind-append is_open (Write part ∷ items) more = is_open_behind-append (not part.ends) items more
is_open_behind-append is_open (Note message ∷ items) more = is_open_behind-append is_open items more
is_open_behind-append is_open (Refuse message ∷ items) more = is_open_behind-append is_open items more
is_open_behind-append is_open (Missing name ∷ items) more = is_open_behind-append is_open items more

-- the messages, and then others
pub said_on : (old mid new : Told) (messages last : List (List ℕ)) → AreSaid old mid messages → AreSaid mid new last → AreSaid old new (messages ++ last)
said_on old mid new [] last same behind = subst (λ t. AreSaid t new last) same behind
said_on old mid new (message ∷ messages) last (next, one, said) behind = (next, one, said_on next mid new messages last said behind)

notes_on : (items more : List Item) (last : List (List ℕ)) → (notes items ++ []) ++ (notes more ++ last) ≡ notes (items ++ more) ++ last
notes_on items more last =
    ap (λ ms. ms ++ (notes more ++ last)) (append-nil (notes items)) ∙ sym (append_assoc (notes items) (notes more) last)
    ∙ ap (λ ms. ms ++ last) (sym (notes-append items more))

said_behind : (items more : List Item) (last : List (List ℕ)) (a b c : Sinks) → AreCarriedOut items [] a b
    → AreSaid b.errs c.errs (notes more ++ last) → AreSaid a.errs c.errs (notes (items ++ more) ++ last)
said_behind items more last a b c done said =
    subst (AreSaid a.errs c.errs) (notes_on items more last) (said_on a.errs b.errs c.errs (notes items ++ []) (notes more ++ last) done.messages said)

documents_on : (items more : List Item) (a b : Sinks) → AreCarriedOut items [] a b → with_items b.outs.documents more ≡ with_items a.outs.documents (items ++ more)
documents_on items more a b done = ap (λ o. with_items o more) done.documents ∙ sym (with_items-append a.outs.documents items more)

-- items, and then others
pub carried_on : (items more : List Item) (last : List (List ℕ)) (a b c : Sinks) → AreCarriedOut items [] a b → AreCarriedOut more last b c
    → AreCarriedOut (items ++ more) last a c
carried_on items more last a b c done next = record {
  goes_on = GoesOn-append items more done.goes_on next.goes_on;
  documents = next.documents ∙ documents_on items more a b done;
  went = went_on a.outs b.outs c.outs done.went next.went;
  opened = next.opened ∙ ap (λ o. is_open_behind o more) done.opened ∙ sym (is_open_behind-append a.is_open items more);
  messages = said_behind items more last a b c done next.messages;
}

-- items, and then others of which a document couldn't be written
pub unwritten_on : (items more : List Item) (a b c : Sinks) → AreCarriedOut items [] a b → (u : IsUnwritten more b c)
    → (v : IsUnwritten (items ++ more) a c) × (v.before ≡ items ++ u.before)
unwritten_on items more a b c done next = (
  record {
    before = items ++ next.before;
    part = next.part;
    after = next.after;
    split = ap (λ l. items ++ l) next.split ∙ sym (append_assoc items next.before (Write next.part ∷ next.after));
    goes_on = GoesOn-append items next.before done.goes_on next.goes_on;
    cut_off = subst (λ o. IsCutIn next.part o c.outs.documents) (documents_on items next.before a b done) next.cut_off;
    broke = broke_on a.outs b.outs c.outs done.went next.broke;
    messages = said_behind items next.before (not_written next.part.name ∷ []) a b c done next.messages;
  },
  refl,
)

-- the same of items that are these
pub unwritten_as : (items others : List Item) (a b : Sinks) → items ≡ others → (u : IsUnwritten others a b) → (v : IsUnwritten items a b) × (v.before ≡ u.before)
unwritten_as items others a b same u = (
  record {
    before = u.before;
    part = u.part;
    after = u.after;
    split = same ∙ u.split;
    goes_on = u.goes_on;
    cut_off = u.cut_off;
    broke = u.broke;
    messages = u.messages;
  },
  refl,
)

-- the same of these and more
pub unwritten_more : (items more : List Item) (a b : Sinks) → (u : IsUnwritten items a b) → (v : IsUnwritten (items ++ more) a b) × (v.before ≡ u.before)
unwritten_more items more a b u = (
  record {
    before = u.before;
    part = u.part;
    after = u.after ++ more;
    split = ap (λ l. l ++ more) u.split ∙ append_assoc u.before (Write u.part ∷ u.after) more;
    goes_on = u.goes_on;
    cut_off = u.cut_off;
    broke = u.broke;
    messages = u.messages;
  },
  refl,
)

-- items, and then others as far as the status says
pub ended_on : (s : Status) (items more : List Item) (a b c : Sinks) → AreCarriedOut items [] a b → HasEnded s more b c → HasEnded s (items ++ more) a c
ended_on status.Done items more a b c done next = carried_on items more [] a b c done next
ended_on status.Refused items more a b c done next = record {
  before = items ++ next.before;
  message = next.message;
  split = ap (λ l. items ++ l) next.split ∙ sym (append_assoc items next.before (Refuse next.message ∷ []));
  done = carried_on items next.before (next.message ∷ []) a b c done next.done;
}
ended_on status.Unwritten items more a b c done next = (unwritten_on items more a b c done next).0
ended_on status.OutOfMemory items more a b c done next = record {
  before = items ++ next.before;
  after = next.after;
  split = ap (λ l. items ++ l) next.split ∙ sym (append_assoc items next.before next.after);
  done = carried_on items next.before (out_of_memory ∷ []) a b c done next.done;
}
ended_on s items more a b c done next = next

-- so a call ended that was to write these items
pub cut_off_at : {E : Type 0} (r : Result Unit E) (items : List Item) (a b : Sinks) → IsErr r → IsUnwritten items a b → EndsWriting r items a b
cut_off_at (Ok done) items a b is cut = cc
cut_off_at (Err fault) items a b is cut = cut

-- one message was said
pub one_said : (message : List ℕ) (old new : Told) → IsMessage message old new → AreSaid old new (message ∷ [])
one_said message old new said = (new, said, refl)

-- nothing was done
pub nothing_done : (a : Sinks) → AreCarriedOut [] [] a a
nothing_done a = record { goes_on = tt; documents = refl; went = record { steady = refl; went = refl }; opened = refl; messages = refl }

-- only the messages differ
pub record IsSaying (a b : Sinks) : Type 0 where
  pub outs : b.outs ≡ a.outs
  pub opened : b.is_open ≡ a.is_open

-- nothing was written, and one message was said
pub only_said : (message : List ℕ) (a b : Sinks) → IsSaying a b → IsMessage message a.errs b.errs → AreCarriedOut [] (message ∷ []) a b
only_said message a b same said = record {
  goes_on = tt;
  documents = ap (λ t. t.documents) same.outs;
  went = record { steady = ap (λ t. t.faults) same.outs; went = ap (λ t. t.failures.count) same.outs };
  opened = same.opened;
  messages = one_said message a.errs b.errs said;
}

-- a note was said
pub note_said : (message : List ℕ) (a b : Sinks) → IsSaying a b → IsMessage message a.errs b.errs → AreCarriedOut (Note message ∷ []) [] a b
note_said message a b same said =
    let done = only_said message a b same said in
    record { goes_on = tt; documents = done.documents; went = done.went; opened = done.opened; messages = done.messages }

-- the run goes on after what is read, and so after the last of it
pub GoesOn-behind : (items more : List Item) → GoesOn (items ++ more) → GoesOn more
GoesOn-behind [] more goes = goes
GoesOn-behind (Write part ∷ items) more goes = GoesOn-behind items more goes
GoesOn-behind (Note message ∷ items) more goes = GoesOn-behind items more goes
GoesOn-behind (Refuse message ∷ items) more goes = absurd goes
GoesOn-behind (Missing name ∷ items) more goes = absurd goes

-- memory ran out before any of the items was carried out
pub memory_out : (items : List Item) (a b : Sinks) → IsSaying a b → IsMessage out_of_memory a.errs b.errs → HasEnded status.OutOfMemory items a b
memory_out items a b same said = record { before = []; after = items; split = refl; done = only_said out_of_memory a b same said }

-- the run ends within items, and so within these and more
pub ended_more : (s : Status) → IsHalt s → (items more : List Item) (a b : Sinks) → HasEnded s items a b → HasEnded s (items ++ more) a b
ended_more status.Unwritten which items more a b e = (unwritten_more items more a b e).0
ended_more status.OutOfMemory which items more a b e = record {
  before = e.before;
  after = e.after ++ more;
  split = ap (λ l. l ++ more) e.split ∙ append_assoc e.before e.after more;
  done = e.done;
}
ended_more status.Done (inl is) items more a b e = absurd (let no : status.Done ≡ status.Unwritten = is in cc)
ended_more status.Done (inr is) items more a b e = absurd (let no : status.Done ≡ status.OutOfMemory = is in cc)
ended_more status.Refused (inl is) items more a b e = absurd (let no : status.Refused ≡ status.Unwritten = is in cc)
ended_more status.Refused (inr is) items more a b e = absurd (let no : status.Refused ≡ status.OutOfMemory = is in cc)
ended_more s which items more a b e = absurd e

-- a document that couldn't be written is no want of memory
pub unwritten_not_out : status.Unwritten ≡ status.OutOfMemory → ⊥
unwritten_not_out e = cc
