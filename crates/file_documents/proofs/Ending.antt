-- How a run ends in a file.
use Rattle.std.proofs.Common.{◌≡◌, ◌≢◌, ◌⊎◌, ℕ, Bool, false, List, [], ◌∷◌, ◌++◌, Option, None, Some, IfSome, option_map, Err, inl, inr, refl, sym, ◌∙◌, ap, subst, append-nil, append_assoc}
use Rattle.std.specs.FinMap.{get}
use Rattle.pt_core.specs.Counts.{Rose, next_count}
use Rattle.pt_core.specs.Files.{Contents, Files, Lacks, Opened, unread, unread_of, with_file}
use Rattle.pt_core.specs.declared.fault.OpenFault.{OpenFault}
use Rattle.pt_core.specs.declared.fault.OpenFault.TheVariants as opening
use Rattle.bitmap_input.specs.declared.fault.InFault.{InFault}
use Rattle.bitmap_input.specs.Raw.{Raw}
use Rattle.run_output.specs.Messages.{not_opened, out_of_memory}
use Rattle.run_output.specs.Made.{Past}
use Rattle.run_output.specs.declared.status.Status.{Status}
use Rattle.run_output.specs.declared.status.Status.TheVariants as status
use Rattle.run_output.specs.declared.part.Binding.{Binding}
use Rattle.page_batches.specs.Held.{AreHeld, Held}
use Rattle.page_batches.specs.Inner.Held.{LeavesBatch}
use Rattle.page_batches.specs.Items.{Item}
use Rattle.page_batches.specs.ItemsDone.{AreCarriedOut, HasEnded}
use Rattle.page_batches.specs.Inner.ItemsDone.{IsHalt}
use Rattle.run_output.specs.Told.{IsMessage, Sinks, Source}
use Rattle.page_batches.proofs.Carrying.{GoesOn-behind, IsSaying, carried_on, ended_more, memory_out, only_said}
use Rattle.page_batches.proofs.Holding.{ended_behind, halts_by, holds_goes_on}
use Rattle.file_documents.specs.FileItems.{AreItems, IsAbsent, Nothing, told_contents}
use Rattle.file_documents.specs.Manner.{HasTexts, Manner}
use Rattle.file_documents.specs.Order.{AreAllItems, Order, order_of}
use Rattle.file_documents.specs.Outcome.{IsOpenedAt, IsUnopened, OpensUpTo, ReadsFileNear, ReadsNear, opened_name, InputCount}
use Rattle.file_documents.specs.Inner.Progress.{EndsWithFile, OpensNoFile, end_message, status_of}
use Rattle.file_documents.specs.Inner.Unopened.{EndsUnopened}
use Rattle.file_documents.specs.declared.pages.PagesEnd.{PagesEnd}
use Rattle.file_documents.specs.declared.pages.PagesEnd.TheVariants as why
use Rattle.file_documents.proofs.Exists.{items_found}
use Rattle.file_documents.proofs.Filing.{has_bytes}
use Rattle.file_documents.proofs.Joining.{items_join}
use Rattle.file_documents.proofs.Standing.{ConvertsFileTo, IsOutcomeAt, OpensFile, Standing}

-- where a batch wasn't carried out, the run ends within it
pub halts_in : (s : Status) (b : Binding) (is_open is_open_now : Bool) (held held_now : List Held) → LeavesBatch (Err s) b is_open is_open_now held held_now → IsHalt s
halts_in s b is_open is_open_now held held_now left = halts_by (Err s) b is_open is_open_now held held_now left

-- the first file was asked for
pub at_first : (name : List ℕ) (names : List (List ℕ)) (openings openings_now : ℕ) → openings_now ≡ next_count openings → OpensUpTo (name ∷ names) name [] openings openings_now
at_first name names openings openings_now one = record { back = names; listed = refl; grew = one }

-- the file of this name was asked for, and it can't be opened
pub record IsShut (name : List ℕ) (old new : Source) : Type 0 where
  pub one_more : new.openings ≡ next_count old.openings
  pub closed : new.is_opened ≡ false
  pub cause : IsAbsent (told_contents old.files) name ⊎ Rose old.faults new.faults

-- behind the first items
file_unopened : (manner : Manner) (name : List ℕ) (from to : Standing) → IsShut name from.source to.source
    → (names : List (List ℕ)) (first : List Item) → AreCarriedOut first (not_opened name ∷ []) from.sinks to.sinks
    → IsUnopened first (order_of manner (name ∷ names) from.source) from.made from.source to.source from.sinks to.sinks
file_unopened manner name from to shut names first done = record {
  name = name;
  front = [];
  before = [];
  reached = at_first name names from.source.openings to.source.openings shut.one_more;
  closed = shut.closed;
  cause = shut.cause;
  items = refl;
  done = subst (λ (l : List Item). AreCarriedOut l (not_opened name ∷ []) from.sinks to.sinks) (sym (append-nil first)) done;
}

-- all that was held is carried out, and then that is said
pub unopened_said : (name : List ℕ) (items : List Item) (a b c : Sinks) → AreCarriedOut items [] a b
    → IsSaying b c → IsMessage (not_opened name) b.errs c.errs → EndsUnopened name status.Unread items a c
unopened_said name items a b c done same one =
    inl (
      refl,
      subst (λ (l : List Item). AreCarriedOut l (not_opened name ∷ []) a c) (append-nil items)
          (carried_on items [] (not_opened name ∷ []) a b c done (only_said (not_opened name) b c same one)),
    )

pub opened_as : (file : Option Opened) (name rest : List ℕ) → option_map unread_of file ≡ Some rest → option_map (λ (f : Opened). f.name) file ≡ Some name
    → file ≡ Some (record { name = name; rest = rest })
opened_as None name rest e f = cc
opened_as (Some file) name rest e f =
    let left : file.rest ≡ rest = cc in
    let named : file.name ≡ name = cc in
    ap (λ (r : List ℕ). Some (record { name = file.name; rest = r })) left ∙ ap (λ (n : List ℕ). Some (record { name = n; rest = rest })) named

pub name-opened : (files : Files) (name bytes : List ℕ) → get files.contents name ≡ Some bytes → opened_name (with_file (Some files) name) ≡ Some name
name-opened files name bytes is = ap (λ o. option_map (λ (f : Opened). f.name) (option_map (λ (b : List ℕ). record { name = name; rest = b }) o)) is

-- how near the opened file is read, where that is told
near_of : (told start now : Option Files) (name : List ℕ) (raws : List Raw) → start ≡ with_file told name → (Lacks told name → ⊥)
    → told_contents now ≡ told_contents start → opened_name now ≡ opened_name start
    → IfSome (unread start) (λ bytes. (left : List ℕ) × (unread now ≡ Some left) × ReadsNear bytes raws left)
    → (rest : List ℕ) × IsOpenedAt name rest now × ReadsFileNear (told_contents told) name raws rest
near_of None start None name raws opened there contents named near = ([], tt, tt)
near_of None start (Some files) name raws opened there contents named near =
    absurd (let e : Some files.contents ≡ None = contents ∙ ap told_contents opened in cc)
near_of (Some files) start None name raws opened there contents named near =
    absurd (let e : None ≡ Some files.contents = contents ∙ ap told_contents opened in cc)
near_of (Some files) start (Some now) name raws opened there contents named near =
    let (bytes, held, is) = has_bytes (Some files) start name opened there in
    let (rest, left, few) = subst (λ (o : Option (List ℕ)). IfSome o (λ bs. (left : List ℕ) × (option_map unread_of now.opened ≡ Some left) × ReadsNear bs raws left)) is near in
    (rest, opened_as now.opened name rest left (named ∙ ap opened_name opened ∙ name-opened files name bytes held), (bytes, held, few))

-- the same of the file that was opened
pub near_opened : (name : List ℕ) (old start now : Source) (raws : List Raw) → OpensFile name old start → OpensNoFile start now
    → IfSome (unread start.files) (λ bytes. (left : List ℕ) × (unread now.files ≡ Some left) × ReadsNear bytes raws left)
    → (rest : List ℕ) × IsOpenedAt name rest now.files × ReadsFileNear (told_contents old.files) name raws rest
near_opened name old start now raws opens stays near = near_of old.files start.files now.files name raws opens.file opens.there stays.contents stays.name near

-- what isn't there is absent
lacks_absent : (told : Option Files) (name : List ℕ) → Lacks told name → IsAbsent (told_contents told) name
lacks_absent None name lacking = lacking
lacks_absent (Some files) name lacking = lacking

-- why a file can't be opened
pub unopened_by : (told : Option Files) (name : List ℕ) (before now : ℕ) (f : OpenFault) → (f ≡ opening.Absent → Lacks told name) → (f ≡ opening.Device → Rose before now)
    → IsAbsent (told_contents told) name ⊎ Rose before now
unopened_by told name before now opening.Absent absent device = inl (lacks_absent told name (absent refl))
unopened_by told name before now opening.Device absent device = inr (device refl)

-- where the run ends within items, and there are items of the files behind them
pub outcome_of_halt : (s : Status) → IsHalt s → (first : List Item) (order : Order) (from to : Standing)
    → (items : List Item) × AreAllItems order from.made items × HasEnded s (first ++ items) from.sinks to.sinks → IsOutcomeAt s first order from to
outcome_of_halt status.Done (inl is) first order from to h = absurd (let no : status.Done ≡ status.Unwritten = is in cc)
outcome_of_halt status.Done (inr is) first order from to h = absurd (let no : status.Done ≡ status.OutOfMemory = is in cc)
outcome_of_halt status.BadWords which first order from to h = h
outcome_of_halt status.Wrong which first order from to h = h
outcome_of_halt status.Refused (inl is) first order from to h = absurd (let no : status.Refused ≡ status.Unwritten = is in cc)
outcome_of_halt status.Refused (inr is) first order from to h = absurd (let no : status.Refused ≡ status.OutOfMemory = is in cc)
outcome_of_halt status.Unwritten which first order from to h = h
outcome_of_halt status.OutOfMemory which first order from to h = h
outcome_of_halt status.Unread (inl is) first order from to h = absurd (let no : status.Unread ≡ status.Unwritten = is in cc)
outcome_of_halt status.Unread (inr is) first order from to h = absurd (let no : status.Unread ≡ status.OutOfMemory = is in cc)

-- the run ends within the first items
ends_before : (s : Status) → IsHalt s → (order : Order) → HasTexts order.manner → (from to : Standing) (first : List Item)
    → HasEnded s first from.sinks to.sinks → IsOutcomeAt s first order from to
ends_before s which order can from to first ended =
    let items = items_found order.contents order.manner can order.names from.made in
    outcome_of_halt s which first order from to (items.0, items.1, ended_more s which first items.0 from.sinks to.sinks ended)

-- the run ends where the file can't be opened
pub unopened_ends : (manner : Manner) → HasTexts manner → (name : List ℕ) (from to : Standing) → IsShut name from.source to.source
    → (s : Status) → ((first : List Item) → AreHeld manner.binding manner.belongs from.held first → EndsUnopened name s first from.sinks to.sinks)
    → (names : List (List ℕ)) (first : List Item) → AreHeld manner.binding manner.belongs from.held first → IsOutcomeAt s first (order_of manner (name ∷ names) from.source) from to
unopened_ends manner can name from to shut s ends names first are = elim (ends first are) [
  | inl (is, done) ↦
      subst (λ (v : Status). IsOutcomeAt v first (order_of manner (name ∷ names) from.source) from to) (sym is) (inl (file_unopened manner name from to shut names first done))
  | inr (which, ended) ↦ ends_before s which (order_of manner (name ∷ names) from.source) can from to first ended
]

-- memory ran out before any of the first items was carried out, and of the files behind them
pub ends_at_once : (contents : Option Contents) (manner : Manner) → HasTexts manner → (names : List (List ℕ)) (past : Past) (a b : Sinks)
    → IsSaying a b → IsMessage out_of_memory a.errs b.errs → (first : List Item)
    → (items : List Item) × AreItems contents manner Nothing names past items × HasEnded status.OutOfMemory (first ++ items) a b
ends_at_once contents manner can names past a b same one first =
    let items = items_found contents manner can names past in
    (items.0, items.1, memory_out (first ++ items.0) a b same one)

-- memory ran out behind a file
pub ends_behind : (size : ℕ) (contents : Option Contents) (manner : Manner) → HasTexts manner → (name : List ℕ) (from to : Standing) (c : Sinks) → ConvertsFileTo size contents manner name from to
    → IsSaying to.sinks c → IsMessage out_of_memory to.sinks.errs c.errs → (names : List (List ℕ)) (first : List Item) → AreHeld manner.binding manner.belongs from.held first
    → (items : List Item) × AreItems contents manner Nothing (name ∷ names) from.made items × HasEnded status.OutOfMemory (first ++ items) from.sinks c
ends_behind size contents manner can name from to c file same one names first are_held =
    let h = file.holds first are_held in
    let goes = GoesOn-behind first file.items (holds_goes_on manner.binding size manner.belongs (first ++ file.items) to.held from.sinks to.sinks h) in
    let more = items_found contents manner can names to.made in
    let are = items_join contents manner Nothing names to.made more.0 more.1 (name ∷ []) from.made file.items goes file.are in (
      file.items ++ more.0,
      are,
      subst (λ (l : List Item). HasEnded status.OutOfMemory l from.sinks c) (append_assoc first file.items more.0)
          (ended_behind status.OutOfMemory manner.binding size manner.belongs (first ++ file.items) more.0 to.held from.sinks to.sinks c h (λ left is. memory_out (left ++ more.0) to.sinks c same one)),
    )

-- the run ends so with the pages of a file, and this line is said
pub record IsStop (name : List ℕ) (end : PagesEnd) (k : ℕ) (s : Status) (line : List ℕ) : Type 0 where
  pub is : s ≡ status_of end
  pub going : s ≢ status.Done
  pub memory : s ≢ status.OutOfMemory
  pub same : line ≡ end_message name end k

-- all that was held is carried out, and then the line of the end is said
pub end_said : (name : List ℕ) (end : PagesEnd) (k : ℕ) (s : Status) (line : List ℕ) (items : List Item) (a b c : Sinks) → AreCarriedOut items [] a b → IsSaying b c → IsMessage line b.errs c.errs
    → IsStop name end k s line → EndsWithFile name end k s items a c
end_said name end k s line items a b c done outs one stop =
    let both : AreCarriedOut (items ++ []) (end_message name end k ∷ []) a c =
    carried_on items [] (end_message name end k ∷ []) a b c done
    (only_said (end_message name end k) b c outs (subst (λ m. IsMessage m b.errs c.errs) stop.same one)) in
    inl (stop.is, stop.going, stop.memory, subst (λ (l : List Item). AreCarriedOut l (end_message name end k ∷ []) a c) (append-nil items) both)

-- with a refusal or a failed read the run ends, and not for want of memory
pub not_done : (f : InFault) → (status_of (why.Fault f) ≡ status.Refused) ⊎ (status_of (why.Fault f) ≡ status.Unread) → status_of (why.Fault f) ≢ status.Done
not_done f (inl refused) = λ done. absurd (let no : status.Refused ≡ status.Done = sym refused ∙ done in cc)
not_done f (inr unread) = λ done. absurd (let no : status.Unread ≡ status.Done = sym unread ∙ done in cc)

pub not_out : (f : InFault) → (status_of (why.Fault f) ≡ status.Refused) ⊎ (status_of (why.Fault f) ≡ status.Unread) → status_of (why.Fault f) ≢ status.OutOfMemory
not_out f (inl refused) = λ out. absurd (let no : status.Refused ≡ status.OutOfMemory = sym refused ∙ out in cc)
not_out f (inr unread) = λ out. absurd (let no : status.Unread ≡ status.OutOfMemory = sym unread ∙ out in cc)

-- how the inputs moved where the run ends within items: that isn't told
pub input_of_halt : (s : Status) → IsHalt s → (before now : ℕ) → InputCount s before now
input_of_halt s (inl is) before now = subst (λ v. InputCount v before now) (sym is) tt
input_of_halt s (inr is) before now = subst (λ v. InputCount v before now) (sym is) tt

-- nor where the file can't be opened
pub input_unopened : (s : Status) → (s ≡ status.Unread) ⊎ IsHalt s → (before now : ℕ) → InputCount s before now
input_unopened s (inl is) before now = subst (λ v. InputCount v before now) (sym is) tt
input_unopened s (inr which) before now = input_of_halt s which before now

-- how they moved where the run ends in a file
pub input_count : (s : Status) (end : PagesEnd) (before now : ℕ) → (s ≡ status_of end) ⊎ IsHalt s → InputCount (status_of end) before now → InputCount s before now
input_count s end before now (inl is) count = subst (λ v. InputCount v before now) (sym is) count
input_count s end before now (inr which) count = input_of_halt s which before now
