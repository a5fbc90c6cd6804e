-- Files converted one after another.
use Rattle.std.proofs.Common.{◌≡◌, ◌<◌, ℕ, ◌+◌, false, min, List, [], ◌∷◌, ◌++◌, length, take, drop, get_or, Option, inl, inr, refl, sym, ◌∙◌, ap, subst, append-nil, length-append, arith}
use Rattle.std.proofs.lemmas.List.{take-append-drop, take_more}
use Rattle.pt_core.specs.Counts.{last_count, next_count}
use Rattle.pt_core.specs.Files.{Contents}
use Rattle.run_output.specs.Made.{no_past}
use Rattle.run_output.specs.Messages.{out_of_memory}
use Rattle.run_output.specs.Inner.Parts.{is_begun}
use Rattle.run_output.specs.declared.part.Binding.{Binding}
use Rattle.run_output.specs.declared.part.Binding.TheVariants.{Apart, Together}
use Rattle.run_output.specs.declared.status.Status.{Status}
use Rattle.run_output.specs.declared.status.Status.TheVariants as status
use Rattle.page_batches.specs.Held.{AreHeld}
use Rattle.page_batches.specs.Inner.Held.{pages_held}
use Rattle.page_batches.specs.Items.{Item}
use Rattle.page_batches.specs.ItemsDone.{AreCarriedOut, HasEnded, IsUnwritten}
use Rattle.page_batches.specs.Inner.ItemsDone.{IsHalt}
use Rattle.run_output.specs.Told.{Sinks, Source}
use Rattle.page_batches.proofs.Carrying.{carried_on, ended_on}
use Rattle.page_batches.proofs.Holding.{holds_on}
use Rattle.file_documents.specs.FileItems.{AreItems, Nothing, told_contents}
use Rattle.file_documents.specs.LastBatch.{LosesBatch}
use Rattle.file_documents.specs.Order.{order_of}
use Rattle.file_documents.specs.Outcome.{EndsNear, LastEndsNear, OpensFirst}
use Rattle.file_documents.specs.Inner.Progress.{AsksFor, EndsWith}
use Rattle.file_documents.proofs.Ending.{outcome_of_halt}
use Rattle.file_documents.proofs.DoneFiles.{AreDone, FilesRun, goes_on, joined, lose_on, one_pass_on, outcome_on, run_begin}
use Rattle.file_documents.proofs.Joining.{items_join, near_on}
use Rattle.file_documents.proofs.LastBatch.{batch_held}
use Rattle.file_documents.proofs.OnePass.{part_halts, pass_of_part}
use Rattle.file_documents.proofs.Standing.{ConvertsFileTo, IsOnePassAt, IsOutcomeAt, LosesAt, Standing}

-- before a file's first page no document is open
pub none_begun : (b : Binding) → is_begun b 0 ≡ false
none_begun Apart = refl
none_begun Together = refl

-- the first names, and the i-th one
take_one : (names : List (List ℕ)) (i : ℕ) (name : List ℕ) → i < length names → name ≡ get_or names i name → take (i + 1) names ≡ take i names ++ name ∷ []
take_one names i name within is = take_more names i name within ∙ ap (λ n. take i names ++ n ∷ []) (sym is)

-- a list around its i-th item
around : (names : List (List ℕ)) (i : ℕ) (name : List ℕ) → i < length names → name ≡ get_or names i name → names ≡ take i names ++ name ∷ drop (i + 1) names
around names i name within is =
    let more = take_one names i name within is in
    sym (take-append-drop (i + 1) names) ∙ ap (λ l. l ++ drop (i + 1) names) more ∙ assoc_one (take i names) name (drop (i + 1) names) where
      assoc_one : (xs : List (List ℕ)) (x : List ℕ) (ys : List (List ℕ)) → (xs ++ x ∷ []) ++ ys ≡ xs ++ x ∷ ys
      assoc_one [] x ys = refl
      assoc_one (y ∷ xs) x ys = ap (λ l. y ∷ l) (assoc_one xs x ys)

opened_more : (n k m o : ℕ) → m ≡ min (n + k) last_count → o ≡ next_count m → o ≡ min (n + (k + 1)) last_count
opened_more n k m o e f = omega (arith, e, f)

-- the files in front of the i-th one are done
module _ (run : FilesRun) (i : ℕ) (name : List ℕ) (within : i < length run.names) (is : name ≡ get_or run.names i name) (here : Standing) (done : AreDone run (take i run.names) here) where
  abbrev told : Option Contents
  told = told_contents run.source.files

  abbrev behind_it : List (List ℕ)
  behind_it = drop (i + 1) run.names

  abbrev all_are : run.names ≡ take i run.names ++ name ∷ behind_it
  all_are = around run.names i name within is

  -- one file more
  pub one_done : (next : Standing) → ConvertsFileTo run.size told run.manner name here next
      → next.source.openings ≡ next_count here.source.openings → next.source.faults ≡ here.source.faults → AreDone run (take (i + 1) run.names) next
  one_done next file one steady =
      let more = take_one run.names i name within is in
      let are = items_join told run.manner (EndsWith next.made) (name ∷ []) here.made file.items file.are (take i run.names) no_past done.items (goes_on run (take i run.names) here done) done.are in
      record {
        items = done.items ++ file.items;
        are = subst (λ ns. AreItems told run.manner (EndsWith next.made) ns no_past (done.items ++ file.items)) (sym more) are;
        holds = holds_on run.manner.binding run.size run.manner.belongs done.items file.items here.held next.held run.sinks here.sinks next.sinks done.holds file.holds;
        openings = rw (more, length-append) (opened_more run.source.openings (length (take i run.names)) here.source.openings next.source.openings done.openings one);
        faults = steady ∙ done.faults;
      }

  -- which is the last one
  pub one_near : (now : Source) → EndsNear told name now → LastEndsNear told (take (i + 1) run.names) now
  one_near now near = subst (λ ns. LastEndsNear told ns now) (sym (take_one run.names i name within is)) (near_on told (take i run.names) name [] now near)

  -- it was opened
  pub opens_to : (now : Source) → AsksFor name here.source now → OpensFirst run.names run.source now
  opens_to now asked =
      inr (
        name,
        take i run.names,
        record {
          back = behind_it;
          listed = all_are;
          grew = opened_more run.source.openings (length (take i run.names)) here.source.openings now.openings done.openings asked.one_more;
        },
        asked.named,
      )

  -- the run ends in it
  pub ends_in : (s : Status) (to : Standing)
      → ((back : List (List ℕ)) (first : List Item) → AreHeld run.manner.binding run.manner.belongs here.held first → IsOutcomeAt s first (order_of run.manner (name ∷ back) run.source) here to)
      → IsOutcomeAt s [] (order_of run.manner run.names run.source) (run_begin run) to
  ends_in s to ends =
      subst (λ ns. IsOutcomeAt s [] (order_of run.manner ns run.source) (run_begin run) to) (sym all_are)
      (outcome_on run (take i run.names) (name ∷ behind_it) here done to s (near_on told (take i run.names) name behind_it to.source) (ends behind_it))

  -- and how far it has read
  pub passes_in : 0 < run.size → (to : Standing)
      → ((back : List (List ℕ)) (first : List Item) → AreHeld run.manner.binding run.manner.belongs here.held first → IsOnePassAt run.size first (order_of run.manner (name ∷ back) run.source) here to)
      → IsOnePassAt run.size [] (order_of run.manner run.names run.source) (run_begin run) to
  passes_in some to passes =
      subst (λ ns. IsOnePassAt run.size [] (order_of run.manner ns run.source) (run_begin run) to) (sym all_are)
      (one_pass_on run (take i run.names) (name ∷ behind_it) here done to some (passes behind_it))

  -- where memory ran out, too
  pub loses_in : (to : Standing)
      → ((back : List (List ℕ)) (first : List Item) → AreHeld run.manner.binding run.manner.belongs here.held first → LosesAt run.size first (order_of run.manner (name ∷ back) run.source) here to)
      → LosesBatch run.size (order_of run.manner run.names run.source) run.source to.source run.sinks to.sinks
  loses_in to loses =
      let all = lose_on run (take i run.names) (name ∷ behind_it) here done to (loses behind_it) in
      let l = subst (λ ns. LosesAt run.size [] (order_of run.manner ns run.source) (run_begin run) to) (sym all_are) all in
      record { items = l.items; are = l.are; out = l.out; batches = l.batches; whole = l.whole; no_farther = inr (inl l.reads) }

-- all files are done
module _ (run : FilesRun) (here : Standing) (done : AreDone run run.names here) where
  abbrev all_told : Option Contents
  all_told = told_contents run.source.files

  -- the outcome, with these sinks
  abbrev Ends : Status → Sinks → Type 0
  Ends s c = IsOutcomeAt s [] (order_of run.manner run.names run.source) (run_begin run) (record here { sinks = c })

  -- their items
  all_items : AreItems all_told run.manner Nothing run.names no_past done.items
  all_items =
      subst (λ ns. AreItems all_told run.manner Nothing ns no_past done.items) (append-nil run.names)
      (subst (λ (l : List Item). AreItems all_told run.manner Nothing (run.names ++ []) no_past l) (append-nil done.items) (joined run run.names here done Nothing [] [] refl))

  -- what is held then is carried out
  pub all_done : (c : Sinks) → ((items : List Item) → AreHeld run.manner.binding run.manner.belongs here.held items → AreCarriedOut items [] here.sinks c)
      → LastEndsNear all_told run.names here.source → Ends status.Done c
  all_done c carried near =
      let h = done.holds in
      (done.items, all_items, subst (λ l. AreCarriedOut l [] run.sinks c) (sym h.split) (carried_on h.done h.left [] run.sinks here.sinks c h.carried (carried h.left h.are_held)), done.openings, near)

  -- or as far as the status says
  pub ends_after : (s : Status) → IsHalt s → (c : Sinks) → ((items : List Item) → AreHeld run.manner.binding run.manner.belongs here.held items → HasEnded s items here.sinks c) → Ends s c
  ends_after s which c ended =
      let h = done.holds in
      outcome_of_halt s which [] (order_of run.manner run.names run.source) (run_begin run) (record here { sinks = c })
      (done.items, all_items, subst (λ l. HasEnded s l run.sinks c) (sym h.split) (ended_on s h.done h.left run.sinks here.sinks c h.carried (ended h.left h.are_held)))

  -- a document of it couldn't be written
  pub passes_after : 0 < run.size → (c : Sinks) → pages_held here.held < run.size → ((items : List Item) → AreHeld run.manner.binding run.manner.belongs here.held items → IsUnwritten items here.sinks c)
      → IsOnePassAt run.size [] (order_of run.manner run.names run.source) (run_begin run) (record here { sinks = c })
  passes_after some c few unwritten =
      pass_of_part run.size some [] (order_of run.manner run.names run.source) (run_begin run) (record here { sinks = c }) done.items [] done.items all_items
      (part_halts run.size run.manner done.items here.held run.sinks here.sinks c done.holds unwritten few) (sym (append-nil done.items)) refl

  -- memory ran out before it was carried out
  pub loses_after : (c : Sinks) → pages_held here.held < run.size → AreCarriedOut [] (out_of_memory ∷ []) here.sinks c → LastEndsNear all_told run.names here.source
      → LosesBatch run.size (order_of run.manner run.names run.source) run.source here.source run.sinks c
  loses_after c few idle near =
      let p = batch_held run.size run.manner done.items here.held run.sinks here.sinks c done.holds idle few in
      let most = p.most in
      let whole = p.whole in
      record {
        items = done.items;
        are = all_items;
        out = p.out;
        batches = p.batches;
        whole = whole;
        no_farther = inr (inr (omega (arith, most, whole), near));
      }
