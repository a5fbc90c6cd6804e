-- What the outcome of a run says where no device failed, and of the causes of its status.
use Rattle.std.proofs.Common.{◌≡◌, ◌≢◌, ◌*◌, ◌<◌, ◌⊎◌, ℕ, zero, suc, false, List, [], ◌∷◌, ◌++◌, Option, None, Some, inl, inr, refl, sym, ◌∙◌, ap, subst, arith}
use Rattle.pt_core.specs.Counts.{Rose}
use Rattle.pt_core.specs.Files.{Contents}
use Rattle.pt_core.specs.declared.settings.Settings.{Settings}
use Rattle.pt_core.specs.Needs.{CanWrite}
use Rattle.run_output.specs.Made.{no_past}
use Rattle.run_output.specs.Messages.{not_opened, out_of_memory}
use Rattle.run_output.specs.Parts.{Part}
use Rattle.run_output.specs.Names.{dash}
use Rattle.run_output.specs.declared.part.Binding.TheVariants.{Apart}
use Rattle.run_output.specs.Status.{code_of}
use Rattle.run_output.specs.declared.status.Status.{Status}
use Rattle.run_output.specs.declared.status.Status.TheVariants as status
use Rattle.potrace_words.specs.Asked.{CanBeDone}
use Rattle.potrace_words.specs.declared.ask.Ask.{Ask}
use Rattle.potrace_words.specs.declared.ask.Ask.TheVariants as asks
use Rattle.page_batches.specs.Items.{Doc, GoesOn, Item}
use Rattle.page_batches.specs.Items.Item.{Missing, Note, Refuse, Write}
use Rattle.page_batches.specs.ItemsDone.{AreCarriedOut, HasEnded}
use Rattle.run_output.specs.Told.{AllWent, Sinks, Source}
use Rattle.file_documents.specs.FileItems.{AreItems, AreWhole, IsAbsent, Nothing, told_contents}
use Rattle.file_documents.specs.Manner.{HasTexts, Manner}
use Rattle.file_documents.specs.Outcome.{InputCount, IsOutcome, LastEndsNear}
use Rattle.file_documents.proofs.Closing.{AreWhole-front, alone_end, carried_closed, items_end, nothing_ends}
use Rattle.file_documents.proofs.Exists.{items_found}
use Rattle.file_documents.proofs.Losing.{lose_none}
use Rattle.file_documents.proofs.OneEnd.{missing_items}
use Rattle.potrace_main.proofs.Found.{demo_found}
use Rattle.potrace_main.specs.Run.{AreItemsOf, BindsApart, EndsMissing, EndsRefused, FailureCount, IsComplete, IsMissing, IsOutcomeOf, LosesBatchOf, manner_under, names_of}
use Rattle.potrace_main.specs.Inner.Run.{IsRun, OutputsMove}
use Rattle.potrace_main.specs.Usage.{help_text, version_text}

-- what the tracer's law says: each page has a document, under settings under which one is written
abbrev pub HaveDocuments : Type 0
HaveDocuments = (settings : Settings) → CanWrite settings → (output : Option (List ℕ)) → HasTexts (manner_under settings output)

-- a run doesn't go on after a refusal
no_stop : (before : List Item) (message : List ℕ) → GoesOn (before ++ Refuse message ∷ []) → ⊥
no_stop [] message h = h
no_stop (Write part ∷ before) message h = no_stop before message h
no_stop (Note note ∷ before) message h = no_stop before message h
no_stop (Refuse other ∷ before) message h = h
no_stop (Missing name ∷ before) message h = h

-- nor after a file that isn't there
no_missing : (before : List Item) (name : List ℕ) → GoesOn (before ++ Missing name ∷ []) → ⊥
no_missing [] name h = h
no_missing (Write part ∷ before) name h = no_missing before name h
no_missing (Note note ∷ before) name h = no_missing before name h
no_missing (Refuse other ∷ before) name h = h
no_missing (Missing other ∷ before) name h = h

never_refused : (items : List Item) → GoesOn items → EndsRefused items → ⊥
never_refused items goes (before, message, is) = no_stop before message (subst GoesOn is goes)

never_missing : (items : List Item) → GoesOn items → EndsMissing items → ⊥
never_missing items goes (before, name, is) = no_missing before name (subst GoesOn is goes)

-- the last item is one
one_last : (before others : List Item) (message name : List ℕ) → before ++ Refuse message ∷ [] ≡ others ++ Missing name ∷ [] → ⊥
one_last [] [] message name e = cc
one_last [] (item ∷ []) message name e = cc
one_last [] (item ∷ other ∷ others) message name e = cc
one_last (item ∷ []) [] message name e = cc
one_last (item ∷ other ∷ before) [] message name e = cc
one_last (item ∷ before) (other ∷ others) message name e =
    let rest : before ++ Refuse message ∷ [] ≡ others ++ Missing name ∷ [] = cc in one_last before others message name rest

no_both : (items : List Item) → EndsRefused items → EndsMissing items → ⊥
no_both items (before, message, is) (others, name, are) = one_last before others message name (sym is ∙ are)

-- what there was to write, and the status where no device failed
abbrev pub Completes : Option Contents → Manner → List (List ℕ) → Status → ℕ → ℕ → ℕ → ℕ → Type 0
Completes contents manner names s read read_now written written_now =
    (items : List Item) × AreItems contents manner Nothing names no_past items × ((Rose read read_now → ⊥) → (Rose written written_now → ⊥) → IsComplete s items)

pub files_complete : (s : Status) (manner : Manner) → HasTexts manner → (names : List (List ℕ)) (source now : Source) (a b : Sinks)
    → IsOutcome s manner names source now a b
    → Completes (told_contents source.files) manner names s source.faults now.faults a.outs.faults b.outs.faults
files_complete status.Done manner can names source now a b (items, are, done, opens, near) =
    (items, are, λ _ _. record { all = λ _. inl refl; refusal = λ r. absurd (never_refused items done.goes_on r); missing = λ m. absurd (never_missing items done.goes_on m) })
files_complete status.BadWords manner can names source now a b (items, are, ended) = absurd ended
files_complete status.Wrong manner can names source now a b (items, are, ended) = absurd ended
files_complete status.Refused manner can names source now a b r =
    let items : List Item = r.place.before ++ Refuse r.message ∷ [] in
    let refusal : EndsRefused items = (r.place.before, r.message, refl) in
    (items, r.all, λ _ _. record { all = λ goes. absurd (never_refused items goes refusal); refusal = λ _. inl refl; missing = λ m. absurd (no_both items refusal m) })
files_complete status.Unwritten manner can names source now a b (items, are, u) = (items, are, λ _ no_write. absurd (no_write u.broke.rose))
files_complete status.OutOfMemory manner can names source now a b (items, are, o) =
    (items, are, λ _ _. record { all = λ _. inr refl; refusal = λ _. inr refl; missing = λ _. inr refl })
files_complete status.Unread manner can names source now a b (inr u) =
    let items = items_found (told_contents source.files) manner can names no_past in
    (items.0, items.1, λ no_read _. absurd (no_read u.rose))
files_complete status.Unread manner can names source now a b (inl u) = by_cause u.cause where
  by_cause : IsAbsent (told_contents source.files) u.name ⊎ Rose source.faults now.faults
      → Completes (told_contents source.files) manner names status.Unread source.faults now.faults a.outs.faults b.outs.faults
  by_cause (inr rose) =
      let items = items_found (told_contents source.files) manner can names no_past in
      (items.0, items.1, λ no_read _. absurd (no_read rose))
  by_cause (inl absent) =
      let are = missing_items (told_contents source.files) manner u.front u.reached.back u.name u.before absent u.done.goes_on u.items in
      let missing : EndsMissing (u.before ++ Missing u.name ∷ []) = (u.before, u.name, refl) in (
        u.before ++ Missing u.name ∷ [],
        subst (λ ns. AreItems (told_contents source.files) manner Nothing ns no_past (u.before ++ Missing u.name ∷ [])) (sym u.reached.listed) are,
        λ _ _. record {
          all = λ goes. absurd (never_missing (u.before ++ Missing u.name ∷ []) goes missing);
          refusal = λ r. absurd (no_both (u.before ++ Missing u.name ∷ []) r missing);
          missing = λ _. inl refl;
        },
      )

-- one text is written, or not
text_complete : (s : Status) (text : List ℕ) (items : List Item) (a b : Sinks) → items ≡ Doc dash text ∷ [] → HasEnded s items a b
    → (Rose a.outs.faults b.outs.faults → ⊥) → IsComplete s items
text_complete s text items a b is ended no_write =
    subst (IsComplete s) (sym is) (by_status s (subst (λ l. HasEnded s l a b) is ended)) where
      one : List Item
      one = Doc dash text ∷ []

      by_status : (s : Status) → HasEnded s one a b → IsComplete s one
      by_status status.Done done =
          record { all = λ _. inl refl; refusal = λ r. absurd (never_refused one tt r); missing = λ m. absurd (never_missing one tt m) }
      by_status status.Refused r = absurd (never_refused one tt (r.before, r.message, r.split))
      by_status status.Unwritten u = absurd (no_write u.broke.rose)
      by_status status.OutOfMemory o = record { all = λ _. inr refl; refusal = λ _. inr refl; missing = λ _. inr refl }
      by_status other ended = absurd ended

-- no input is read for it
pub input_of_text : (s : Status) (items : List Item) (a b : Sinks) (n : ℕ) → HasEnded s items a b → InputCount s n n
input_of_text status.Done items a b n ended = refl
input_of_text status.Refused items a b n ended = refl
input_of_text status.Unwritten items a b n ended = tt
input_of_text status.OutOfMemory items a b n ended = tt
input_of_text s items a b n ended = absurd ended

pub run_complete : HaveDocuments → (ask : Ask) (s : Status) (source now : Source) (a b : Sinks) → CanBeDone ask → IsRun ask s source now a b
    → (items : List Item) × AreItemsOf ask (told_contents source.files) items × ((Rose source.faults now.faults → ⊥) → (Rose a.outs.faults b.outs.faults → ⊥) → IsComplete s items)
run_complete law asks.Help s source now a b can ran =
    let (items, is, ended) = ran.outcome in (items, is, λ _ no_write. text_complete s help_text items a b is ended no_write)
run_complete law asks.Version s source now a b can ran =
    let (items, is, ended) = ran.outcome in (items, is, λ _ no_write. text_complete s version_text items a b is ended no_write)
run_complete law (asks.Demo pages workers settings) s source now a b can ran =
    let (items, are, ended) = ran.outcome in (items, are, λ _ no_write. text_complete s are.0 items a b are.2 ended no_write)
run_complete law (asks.Files names output workers settings) s source now a b can ran =
    files_complete s (manner_under settings output) (law settings can.0.document output) names source now a b ran.outcome

-- a status of an input that fails has its cause
unread_cause : (manner : Manner) (names : List (List ℕ)) (source now : Source) (a b : Sinks) → IsOutcome status.Unread manner names source now a b
    → Rose source.faults now.faults ⊎ IsMissing names (told_contents source.files)
unread_cause manner names source now a b (inr u) = inl u.rose
unread_cause manner names source now a b (inl u) = by_cause u.cause where
  by_cause : IsAbsent (told_contents source.files) u.name ⊎ Rose source.faults now.faults → Rose source.faults now.faults ⊎ IsMissing names (told_contents source.files)
  by_cause (inl absent) = inr (u.name, u.front, u.reached.back, u.reached.listed, absent)
  by_cause (inr rose) = inl rose

pub run_unread : (ask : Ask) (s : Status) (source now : Source) (a b : Sinks) → IsRun ask s source now a b → s ≡ status.Unread
    → Rose source.faults now.faults ⊎ IsMissing (names_of ask) (told_contents source.files)
run_unread (asks.Files names output workers settings) s source now a b ran is =
    unread_cause (manner_under settings output) names source now a b (subst (λ t. IsOutcome t (manner_under settings output) names source now a b) is ran.outcome)
run_unread ask s source now a b ran is =
    let (items, are, ended) = ran.outcome in absurd (subst (λ t. HasEnded t items a b) is ended)

-- where all is done, how far the last file is read
pub run_near : (ask : Ask) (s : Status) (source now : Source) (a b : Sinks) → IsRun ask s source now a b → s ≡ status.Done → LastEndsNear (told_contents source.files) (names_of ask) now
run_near (asks.Files names output workers settings) s source now a b ran is =
    let (items, are, done, opens, near) = subst (λ t. IsOutcome t (manner_under settings output) names source now a b) is ran.outcome in near
run_near ask s source now a b ran is = tt

-- where the first file isn't there
only_missing : (contents : Option Contents) (manner : Manner) (name : List ℕ) (names : List (List ℕ)) (items : List Item) → IsAbsent contents name
    → AreItems contents manner Nothing (name ∷ names) no_past items → items ≡ Missing name ∷ []
only_missing None manner name names items absent are = absurd absent
only_missing (Some contents) manner name names items absent (inl (none, is)) = is
only_missing (Some contents) manner name names items absent (inr (raws, ending, (bytes, held, pages), are)) =
    absurd (let e : None ≡ Some bytes = sym absent ∙ held in cc)

not_stop : (name : List ℕ) (before : List Item) (message : List ℕ) → Missing name ∷ [] ≡ before ++ Refuse message ∷ [] → ⊥
not_stop name [] message e = cc
not_stop name (item ∷ []) message e = cc
not_stop name (item ∷ other ∷ before) message e = cc

not_document : (name : List ℕ) (before : List Item) (part : Part) (after : List Item) → Missing name ∷ [] ≡ before ++ Write part ∷ after → ⊥
not_document name [] part after e = cc
not_document name (item ∷ []) part after e = cc
not_document name (item ∷ other ∷ before) part after e = cc

first_absent : (s : Status) (manner : Manner) (name : List ℕ) (names : List (List ℕ)) (source now : Source) (a b : Sinks) → IsAbsent (told_contents source.files) name
    → IsOutcome s manner (name ∷ names) source now a b → (s ≡ status.Unread) ⊎ (s ≡ status.OutOfMemory)
first_absent status.Done manner name names source now a b absent (items, are, done, opens, near) =
    absurd (subst GoesOn (only_missing (told_contents source.files) manner name names items absent are) done.goes_on)
first_absent status.BadWords manner name names source now a b absent (items, are, ended) = absurd ended
first_absent status.Wrong manner name names source now a b absent (items, are, ended) = absurd ended
first_absent status.Refused manner name names source now a b absent r =
    absurd (not_stop name r.place.before r.message (sym (only_missing (told_contents source.files) manner name names (r.place.before ++ Refuse r.message ∷ []) absent r.all)))
first_absent status.Unread manner name names source now a b absent u = inl refl
first_absent status.Unwritten manner name names source now a b absent (items, are, u) =
    absurd (not_document name u.before u.part u.after (sym (only_missing (told_contents source.files) manner name names items absent are) ∙ u.split))
first_absent status.OutOfMemory manner name names source now a b absent o = inr refl

pub run_absent : (ask : Ask) (s : Status) (name : List ℕ) (names : List (List ℕ)) (source now : Source) (a b : Sinks) → IsRun ask s source now a b → names_of ask ≡ name ∷ names
    → IsAbsent (told_contents source.files) name → (s ≡ status.Unread) ⊎ (s ≡ status.OutOfMemory)
run_absent (asks.Files listed output workers settings) s name names source now a b ran is absent =
    first_absent s (manner_under settings output) name names source now a b absent (subst (λ ns. IsOutcome s (manner_under settings output) ns source now a b) is ran.outcome)
run_absent ask s name names source now a b ran is absent = absurd (let e : [] ≡ name ∷ names = is in cc)

-- memory ran out while the words were read
pub out_at_once : HaveDocuments → (ask : Ask) (source : Source) (a b : Sinks) → CanBeDone ask → AreCarriedOut [] (out_of_memory ∷ []) a b → IsOutcomeOf ask status.OutOfMemory source source a b
out_at_once law asks.Help source a b can done = (Doc dash help_text ∷ [], refl, record { before = []; after = Doc dash help_text ∷ []; split = refl; done = done })
out_at_once law asks.Version source a b can done = (Doc dash version_text ∷ [], refl, record { before = []; after = Doc dash version_text ∷ []; split = refl; done = done })
out_at_once law (asks.Demo pages workers settings) source a b can done =
    let (text, is) = demo_found pages settings can.0.document in (Doc dash text ∷ [], (text, is, refl), record { before = []; after = Doc dash text ∷ []; split = refl; done = done })
out_at_once law (asks.Files names output workers settings) source a b can done =
    let items = items_found (told_contents source.files) (manner_under settings output) (law settings can.0.document output) names no_past in
    (items.0, items.1, record { before = []; after = items.0; split = refl; done = done })

-- and no file was opened
pub lost_at_once : HaveDocuments → (ask : Ask) (source : Source) (a b : Sinks) → CanBeDone ask → AreCarriedOut [] (out_of_memory ∷ []) a b → LosesBatchOf ask source source a b
lost_at_once law (asks.Files names output workers settings) source a b can done =
    lose_none (2 * workers) (told_contents source.files) (manner_under settings output) (law settings can.0.document output) names source source a b refl refl done
lost_at_once law ask source a b can done = tt

-- How the outputs moved, by the outcome.

carried_moves : (P : Type 0) (items : List Item) (last : List (List ℕ)) (a b : Sinks) → (P → AreWhole items) → a.is_open ≡ false → AreCarriedOut items last a b
    → AllWent a.outs b.outs × (P → b.is_open ≡ false)
carried_moves P items last a b all closed done = (done.went, λ p. (carried_closed items last a b done (all p) closed).1)

ended_moves : (P : Type 0) (s : Status) (items : List Item) (a b : Sinks) → (P → AreWhole items) → a.is_open ≡ false → HasEnded s items a b → OutputsMove P s a b
ended_moves P status.Done items a b all closed done = carried_moves P items [] a b all closed done
ended_moves P status.BadWords items a b all closed ended = absurd ended
ended_moves P status.Wrong items a b all closed ended = absurd ended
ended_moves P status.Refused items a b all closed r =
    carried_moves P r.before (r.message ∷ []) a b (λ p. AreWhole-front r.before (Refuse r.message ∷ []) (subst AreWhole r.split (all p))) closed r.done
ended_moves P status.Unread items a b all closed ended = absurd ended
ended_moves P status.Unwritten items a b all closed u = u.broke
ended_moves P status.OutOfMemory items a b all closed o =
    carried_moves P o.before (out_of_memory ∷ []) a b (λ p. AreWhole-front o.before o.after (subst AreWhole o.split (all p))) closed o.done

files_move : (s : Status) (manner : Manner) (names : List (List ℕ)) (source now : Source) (a b : Sinks) → a.is_open ≡ false
    → IsOutcome s manner names source now a b → OutputsMove (manner.binding ≡ Apart) s a b
files_move s manner names source now a b closed outcome = by_status s outcome where
  told : Option Contents
  told = told_contents source.files

  whole : (items : List Item) → AreItems told manner Nothing names no_past items → (manner.binding ≡ Apart) → AreWhole items
  whole items are apart = items_end told manner apart Nothing nothing_ends names no_past items are

  by_status : (s : Status) → IsOutcome s manner names source now a b → OutputsMove (manner.binding ≡ Apart) s a b
  by_status status.Done (items, are, done, opens, near) = carried_moves (manner.binding ≡ Apart) items [] a b (whole items are) closed done
  by_status status.BadWords (items, are, ended) = absurd ended
  by_status status.Wrong (items, are, ended) = absurd ended
  by_status status.Refused r =
      carried_moves (manner.binding ≡ Apart) r.place.before (r.message ∷ []) a b (λ apart. AreWhole-front r.place.before (Refuse r.message ∷ []) (whole (r.place.before ++ Refuse r.message ∷ []) r.all apart)) closed r.done
  by_status status.Unread (inl u) =
      carried_moves (manner.binding ≡ Apart) u.before (not_opened u.name ∷ []) a b (λ apart. items_end told manner apart Nothing nothing_ends u.front no_past u.before u.items) closed u.done
  by_status status.Unread (inr u) =
      carried_moves (manner.binding ≡ Apart) u.place.before _ a b
      (λ apart. items_end told manner apart _ (alone_end manner apart u.place.name u.place.raws) u.place.front no_past u.place.before u.place.items) closed u.done
  by_status status.Unwritten (items, are, u) = u.broke
  by_status status.OutOfMemory (items, are, o) = ended_moves (manner.binding ≡ Apart) status.OutOfMemory items a b (whole items are) closed o

-- a text is a whole document
text_moves : (s : Status) (text : List ℕ) (items : List Item) (a b : Sinks) → items ≡ Doc dash text ∷ [] → a.is_open ≡ false → HasEnded s items a b → OutputsMove (Unit {0}) s a b
text_moves s text items a b is closed ended = ended_moves (Unit {0}) s items a b (λ p. subst AreWhole (sym is) (refl, tt)) closed ended

run_moves : (ask : Ask) (s : Status) (source now : Source) (a b : Sinks) → a.is_open ≡ false → IsOutcomeOf ask s source now a b → OutputsMove (BindsApart ask) s a b
run_moves asks.Help s source now a b closed (items, is, ended) = text_moves s help_text items a b is closed ended
run_moves asks.Version s source now a b closed (items, is, ended) = text_moves s version_text items a b is closed ended
run_moves (asks.Demo pages workers settings) s source now a b closed (items, (text, demo, is), ended) = text_moves s text items a b is closed ended
run_moves (asks.Files names output workers settings) s source now a b closed outcome = files_move s (manner_under settings output) names source now a b closed outcome

-- the same where this is known of it
moves_where : (P Q : Type 0) (s : Status) (a b : Sinks) → (Q → P) → OutputsMove P s a b → OutputsMove Q s a b
moves_where P Q status.Unwritten a b known moves = moves
moves_where P Q status.Done a b known moves = (moves.0, λ q. moves.1 (known q))
moves_where P Q status.BadWords a b known moves = (moves.0, λ q. moves.1 (known q))
moves_where P Q status.Wrong a b known moves = moves
moves_where P Q status.Refused a b known moves = (moves.0, λ q. moves.1 (known q))
moves_where P Q status.Unread a b known moves = (moves.0, λ q. moves.1 (known q))
moves_where P Q status.OutOfMemory a b known moves = (moves.0, λ q. moves.1 (known q))

pub asked_moves : (Asks : Ask → Type 0) (ask : Ask) → Asks ask → (s : Status) (source now : Source) (a b : Sinks) → a.is_open ≡ false → IsOutcomeOf ask s source now a b
    → OutputsMove ((other : Ask) → Asks other → BindsApart other) s a b
asked_moves Asks ask asked s source now a b closed outcome =
    moves_where (BindsApart ask) ((other : Ask) → Asks other → BindsApart other) s a b (λ all. all ask asked) (run_moves ask s source now a b closed outcome)

-- Statuses and their codes.

-- the status of a code
abbrev with_code : ℕ → Status
with_code zero = status.Done
with_code (suc zero) = status.BadWords
with_code (suc (suc zero)) = status.Refused
with_code (suc (suc (suc zero))) = status.Unread
with_code (suc (suc (suc (suc zero)))) = status.Unwritten
with_code (suc (suc (suc (suc (suc zero))))) = status.OutOfMemory
with_code (suc (suc (suc (suc (suc (suc n)))))) = status.Wrong

with_code-code_of : (s : Status) → with_code (code_of s) ≡ s
with_code-code_of status.Done = refl
with_code-code_of status.BadWords = refl
with_code-code_of status.Refused = refl
with_code-code_of status.Unread = refl
with_code-code_of status.Unwritten = refl
with_code-code_of status.OutOfMemory = refl
with_code-code_of status.Wrong = refl

pub code_one : (s t : Status) → code_of s ≡ code_of t → s ≡ t
code_one s t e = sym (with_code-code_of s) ∙ ap with_code e ∙ with_code-code_of t

-- the outputs' count rises only at that status, and where this is so no document stays open at another
pub rose_by : (P : Type 0) (s : Status) (a b : Sinks) → OutputsMove P s a b → s ≡ status.Unwritten → Rose a.outs.faults b.outs.faults
rose_by P s a b moves is = (subst (λ t. OutputsMove P t a b) is moves).rose

pub unwritten_by : (P : Type 0) (s : Status) (a b : Sinks) → OutputsMove P s a b → a.outs.faults < b.outs.faults → s ≡ status.Unwritten
unwritten_by P status.Unwritten a b moves less = refl
unwritten_by P status.Done a b moves less = absurd (omega (arith, moves.0.steady, less))
unwritten_by P status.BadWords a b moves less = absurd (omega (arith, moves.0.steady, less))
unwritten_by P status.Wrong a b moves less = absurd moves
unwritten_by P status.Refused a b moves less = absurd (omega (arith, moves.0.steady, less))
unwritten_by P status.Unread a b moves less = absurd (omega (arith, moves.0.steady, less))
unwritten_by P status.OutOfMemory a b moves less = absurd (omega (arith, moves.0.steady, less))

pub closed_else : (P : Type 0) (s : Status) (a b : Sinks) → OutputsMove P s a b → P → s ≢ status.Unwritten → b.is_open ≡ false
closed_else P status.Unwritten a b moves so other = absurd (other refl)
closed_else P status.Done a b moves so other = moves.1 so
closed_else P status.BadWords a b moves so other = moves.1 so
closed_else P status.Wrong a b moves so other = absurd moves
closed_else P status.Refused a b moves so other = moves.1 so
closed_else P status.Unread a b moves so other = moves.1 so
closed_else P status.OutOfMemory a b moves so other = moves.1 so

-- what the calls of the outputs answered
pub failed_by : (P : Type 0) (s : Status) (a b : Sinks) → OutputsMove P s a b → FailureCount s a.outs.failures b.outs.failures
failed_by P status.Unwritten a b moves = moves.failed
failed_by P status.Done a b moves = moves.0.went
failed_by P status.BadWords a b moves = moves.0.went
failed_by P status.Wrong a b moves = absurd moves
failed_by P status.Refused a b moves = moves.0.went
failed_by P status.Unread a b moves = moves.0.went
failed_by P status.OutOfMemory a b moves = moves.0.went

-- what is asked for isn't refused
pub never_refuses : (ask : Ask) (source now : Source) (a b : Sinks) → IsRun ask status.BadWords source now a b → ⊥
never_refuses (asks.Files names output workers settings) source now a b ran = ran.outcome.2
never_refuses ask source now a b ran = ran.outcome.2
