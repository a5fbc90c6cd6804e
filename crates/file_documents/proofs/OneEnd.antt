-- A run that nothing disturbs ends as its items say, and they are one list.
use Rattle.std.proofs.Common.{◌≡◌, ◌≢◌, ◌⊎◌, ℕ, List, [], ◌∷◌, ◌++◌, Option, Some, inl, inr, refl, sym, ◌∙◌, ap, subst}
use Rattle.std.proofs.lemmas.List.{append-nil}
use Rattle.std.specs.List.{concat}
use Rattle.pt_core.specs.Counts.{Rose}
use Rattle.pt_core.specs.Documents.{Documents, with_bytes}
use Rattle.pt_core.specs.Files.{Contents}
use Rattle.run_output.specs.Made.{Past, no_past}
use Rattle.run_output.specs.Messages.{not_opened}
use Rattle.run_output.specs.Parts.{Part}
use Rattle.run_output.specs.Told.{Sinks, Source, Told}
use Rattle.run_output.specs.declared.status.Status.{Status}
use Rattle.run_output.specs.declared.status.Status.TheVariants as status
use Rattle.page_batches.specs.Items.{GoesOn, Item, notes, with_items}
use Rattle.page_batches.specs.Items.Item.{Missing, Note, Refuse, Write}
use Rattle.page_batches.specs.ItemsDone.{AreCarriedOut, AreSaid, HasEnded}
use Rattle.page_batches.proofs.Fronts.{said_in_fronts}
use Rattle.file_documents.specs.Alike.{EndAlike, IsUndisturbed}
use Rattle.file_documents.specs.FileItems.{AreItems, IsAbsent, Nothing, told_contents}
use Rattle.file_documents.specs.Inner.Manner.{HasOneText}
use Rattle.file_documents.specs.Manner.{Manner}
use Rattle.file_documents.specs.Outcome.{IsOutcome}
use Rattle.file_documents.proofs.Joining.{items_behind}
use Rattle.file_documents.proofs.OneItems.{one_list}

-- the items in front of the one with which a run ends
abbrev pub done_of : List Item → List Item
done_of [] = []
done_of (Write part ∷ items) = Write part ∷ done_of items
done_of (Note message ∷ items) = Note message ∷ done_of items
done_of (Refuse message ∷ items) = []
done_of (Missing name ∷ items) = []

-- how the run ends
abbrev pub ending_of : List Item → Status
ending_of [] = status.Done
ending_of (Write part ∷ items) = ending_of items
ending_of (Note message ∷ items) = ending_of items
ending_of (Refuse message ∷ items) = status.Refused
ending_of (Missing name ∷ items) = status.Unread

-- what it says last
abbrev pub said_last : List Item → List (List ℕ)
said_last [] = []
said_last (Write part ∷ items) = said_last items
said_last (Note message ∷ items) = said_last items
said_last (Refuse message ∷ items) = message ∷ []
said_last (Missing name ∷ items) = not_opened name ∷ []

-- the run ended as the items say
pub record IsEndOf (items : List Item) (s : Status) (old now : Sinks) : Type 0 where
  pub ended : s ≡ ending_of items
  pub done : AreCarriedOut (done_of items) (said_last items) old now

-- items after which the run goes on are done
done_behind : (before after : List Item) → GoesOn before → done_of (before ++ after) ≡ before ++ done_of after
done_behind [] after goes = refl
done_behind (Write part ∷ before) after goes = ap (λ (items : List Item). Write part ∷ items) (done_behind before after goes)
done_behind (Note message ∷ before) after goes = ap (λ (items : List Item). Note message ∷ items) (done_behind before after goes)
done_behind (Refuse message ∷ before) after goes = absurd goes
done_behind (Missing name ∷ before) after goes = absurd goes

-- what is worked out of items, and passes over those after which the run goes on, is that of the items behind them
passed_over : {A : Type 0} (f : List Item → A) → ((part : Part) (items : List Item) → f (Write part ∷ items) ≡ f items)
    → ((message : List ℕ) (items : List Item) → f (Note message ∷ items) ≡ f items) → (before after : List Item) → GoesOn before → f (before ++ after) ≡ f after
passed_over f over over' [] after goes = refl
passed_over f over over' (Write part ∷ before) after goes = over part (before ++ after) ∙ passed_over f over over' before after goes
passed_over f over over' (Note message ∷ before) after goes = over' message (before ++ after) ∙ passed_over f over over' before after goes
passed_over f over over' (Refuse message ∷ before) after goes = absurd goes
passed_over f over over' (Missing name ∷ before) after goes = absurd goes

ending_behind : (before after : List Item) → GoesOn before → ending_of (before ++ after) ≡ ending_of after
ending_behind = passed_over ending_of (λ part items. refl) (λ message items. refl)

last_behind : (before after : List Item) → GoesOn before → said_last (before ++ after) ≡ said_last after
last_behind = passed_over said_last (λ part items. refl) (λ message items. refl)

-- where items are carried out, and with what is behind them the run ends
end_behind : (before after : List Item) (old now : Sinks) → done_of after ≡ [] → AreCarriedOut before (said_last after) old now → IsEndOf (before ++ after) (ending_of after) old now
end_behind before after old now none done =
    let goes = done.goes_on in
    let all : done_of (before ++ after) ≡ before = done_behind before after goes ∙ ap (λ (items : List Item). before ++ items) none ∙ append-nil before in
    record {
      ended = sym (ending_behind before after goes);
      done =
          subst (λ (last : List (List ℕ)). AreCarriedOut (done_of (before ++ after)) last old now) (sym (last_behind before after goes))
          (subst (λ (items : List Item). AreCarriedOut items (said_last after) old now) (sym all) done);
    }

pub items_end_so : (s : Status) (items : List Item) (old now : Sinks) → HasEnded s items old now → (Rose old.outs.faults now.outs.faults → ⊥) → s ≢ status.OutOfMemory
    → IsEndOf items s old now
items_end_so status.Done items old now done written memory =
    subst (λ (l : List Item). IsEndOf l status.Done old now) (append-nil items) (end_behind items [] old now refl done)
items_end_so status.Refused items old now r written memory =
    subst (λ (l : List Item). IsEndOf l status.Refused old now) (sym r.split) (end_behind r.before (Refuse r.message ∷ []) old now refl r.done)
items_end_so status.Unwritten items old now u written memory = absurd (written u.broke.rose)
items_end_so status.OutOfMemory items old now o written memory = absurd (memory refl)
items_end_so s items old now ended written memory = absurd ended

-- messages that were said whole
said_whole : (old now : Told) (messages : List (List ℕ)) → AreSaid old now messages → (Rose old.faults now.faults → ⊥) → now.documents ≡ with_bytes old.documents (concat messages)
said_whole old now messages said silent =
    let fronts = said_in_fronts old now messages said in
    elim (fronts.whole) [
      | inl all ↦ fronts.appended ∙ ap (λ (texts : List (List ℕ)). with_bytes old.documents (concat texts)) all
      | inr rose ↦ absurd (silent rose)
    ]

-- with the same items two runs end alike
pub end_alike : (items : List Item) (s t : Status) (old now before after : Sinks) → IsEndOf items s old now → IsEndOf items t before after → EndAlike s t old now before after
end_alike items s t old now before after one other = record {
  statuses = one.ended ∙ sym other.ended;
  documents = λ same. one.done.documents ∙ ap (λ (told : Option Documents). with_items told (done_of items)) same ∙ sym other.done.documents;
  messages = λ same silent quiet.
      let texts : List (List ℕ) = notes (done_of items) ++ said_last items in
      said_whole old.errs now.errs texts one.done.messages silent
      ∙ ap (λ (told : Option Documents). with_bytes told (concat texts)) same
      ∙ sym (said_whole before.errs after.errs texts other.done.messages quiet);
}

-- the items of files in front of one that isn't there
pub missing_items : (contents : Option Contents) (manner : Manner) (front back : List (List ℕ)) (name : List ℕ) (before : List Item) → IsAbsent contents name → GoesOn before
    → AreItems contents manner Nothing front no_past before → AreItems contents manner Nothing (front ++ name ∷ back) no_past (before ++ Missing name ∷ [])
missing_items contents manner front back name before absent goes are =
    items_behind contents manner Nothing Nothing (name ∷ back) (Missing name ∷ []) on front no_past before goes are where
      on : (past : Past) (items : List Item) → GoesOn items → Nothing past items → AreItems contents manner Nothing (name ∷ back) past (items ++ Missing name ∷ [])
      on past items goes_on none = inl (absent, ap (λ l. l ++ Missing name ∷ []) none)

-- the files have items, and the run ended as these say
abbrev AreEndedSo : Option Contents → Manner → List (List ℕ) → Status → Sinks → Sinks → Type 0
AreEndedSo contents manner names s old now = (items : List Item) × AreItems contents manner Nothing names no_past items × IsEndOf items s old now

files_end_so : (s : Status) (manner : Manner) (names : List (List ℕ)) (source source_now : Source) (old now : Sinks) → IsOutcome s manner names source source_now old now
    → (Rose source.faults source_now.faults → ⊥) → (Rose old.outs.faults now.outs.faults → ⊥) → s ≢ status.OutOfMemory
    → AreEndedSo (told_contents source.files) manner names s old now
files_end_so status.Done manner names source source_now old now (items, are, done, opens, near) read written memory =
    (items, are, items_end_so status.Done items old now done written memory)
files_end_so status.BadWords manner names source source_now old now (items, are, ended) read written memory = absurd ended
files_end_so status.Wrong manner names source source_now old now (items, are, ended) read written memory = absurd ended
files_end_so status.Refused manner names source source_now old now r read written memory =
    (r.place.before ++ Refuse r.message ∷ [], r.all, end_behind r.place.before (Refuse r.message ∷ []) old now refl r.done)
files_end_so status.Unwritten manner names source source_now old now (items, are, u) read written memory = absurd (written u.broke.rose)
files_end_so status.OutOfMemory manner names source source_now old now o read written memory = absurd (memory refl)
files_end_so status.Unread manner names source source_now old now (inr u) read written memory = absurd (read u.rose)
files_end_so status.Unread manner names source source_now old now (inl u) read written memory = by_cause u.cause where
  by_cause : IsAbsent (told_contents source.files) u.name ⊎ Rose source.faults source_now.faults → AreEndedSo (told_contents source.files) manner names status.Unread old now
  by_cause (inr rose) = absurd (read rose)
  by_cause (inl absent) =
      let items : List Item = u.before ++ Missing u.name ∷ [] in
      let are = missing_items (told_contents source.files) manner u.front u.reached.back u.name u.before absent u.done.goes_on u.items in (
        items,
        subst (λ (ns : List (List ℕ)). AreItems (told_contents source.files) manner Nothing ns no_past items) (sym u.reached.listed) are,
        end_behind u.before (Missing u.name ∷ []) old now refl u.done,
      )

module _ (manner : Manner) (single : HasOneText manner) (contents : Contents) (names : List (List ℕ)) where
  told_end_so : (s : Status) (source source_now : Source) (old now : Sinks) → IsOutcome s manner names source source_now old now
      → IsUndisturbed contents s source source_now old now → AreEndedSo (Some contents) manner names s old now
  told_end_so s source source_now old now outcome calm =
      subst (λ (c : Option Contents). AreEndedSo c manner names s old now) calm.told
      (files_end_so s manner names source source_now old now outcome calm.read calm.written calm.memory)

  pub outcomes_alike : (s t : Status) (source source_now other other_now : Source) (old now before after : Sinks)
      → IsOutcome s manner names source source_now old now → IsOutcome t manner names other other_now before after
      → IsUndisturbed contents s source source_now old now → IsUndisturbed contents t other other_now before after → EndAlike s t old now before after
  outcomes_alike s t source source_now other other_now old now before after one two calm quiet =
      let these = told_end_so s source source_now old now one calm in
      let those = told_end_so t other other_now before after two quiet in
      let same : these.0 ≡ those.0 = one_list contents manner single Nothing (λ past a b is are. is ∙ sym are) names no_past these.0 those.0 these.1 those.1 in
      end_alike those.0 s t old now before after (subst (λ (l : List Item). IsEndOf l s old now) same these.2) those.2
