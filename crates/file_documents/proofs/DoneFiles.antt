-- Files that are done, and what is so of the files behind them: it is so of all.
use Rattle.std.proofs.Common.{◌≡◌, ℕ, ◌+◌, ◌*◌, ◌<◌, ◌⊎◌, min, List, [], ◌++◌, ◌∷◌, length, Option, None, Some, IfSome, inl, inr, sym, ◌∙◌, ap, subst, add-mul, append_assoc, length-append, refl, arith}
use Rattle.pt_core.specs.Counts.{Rose, last_count}
use Rattle.pt_core.specs.Files.{Contents}
use Rattle.bitmap_input.specs.FaultText.{cause_text}
use Rattle.bitmap_input.specs.Reading.Cause.{Device}
use Rattle.run_output.specs.Made.{no_past}
use Rattle.run_output.specs.Messages.{not_opened, page_line}
use Rattle.run_output.specs.Told.{Sinks, Source}
use Rattle.run_output.specs.declared.status.Status.{Status}
use Rattle.run_output.specs.declared.status.Status.TheVariants as status
use Rattle.page_workers.specs.declared.job.PageJob.{Ghosts as JobGhosts}
use Rattle.page_batches.specs.Held.{AreHeld}
use Rattle.page_batches.specs.Inner.Held.{Holds}
use Rattle.page_batches.specs.Items.{GoesOn, Item, page_count}
use Rattle.page_batches.specs.Items.Item.{Refuse}
use Rattle.page_batches.specs.ItemsDone.{AreCarriedOut, HasEnded}
use Rattle.page_batches.proofs.Carrying.{GoesOn-append, carried_on, ended_on, unwritten_as, unwritten_on}
use Rattle.page_batches.proofs.Holding.{all_held, holds_goes_on, page_count-append}
use Rattle.file_documents.specs.FileItems.{AreItems, IsAbsent, Nothing, Rest, told_contents}
use Rattle.file_documents.specs.Manner.{Manner}
use Rattle.file_documents.specs.OnePass.{ReadsTo, batch_end}
use Rattle.file_documents.specs.Order.{AreAllItems, order_of}
use Rattle.file_documents.specs.Outcome.{LastEndsNear, StandsIn}
use Rattle.file_documents.specs.Inner.Progress.{EndsWith}
use Rattle.file_documents.specs.Inner.Tasks.{manner_of}
use Rattle.file_documents.specs.declared.task.Task.{Task}
use Rattle.file_documents.proofs.Joining.{items_join, opened_behind, reached_on}
use Rattle.file_documents.proofs.LastBatch.{out_as, out_on}
use Rattle.file_documents.proofs.OnePass.{batch_end_behind}
use Rattle.file_documents.proofs.Standing.{IsOnePassAt, IsOutcomeAt, LosesAt, Standing}

-- a run over files: by batches of so many pages, in this manner, the files of these names; and what its inputs and its
-- sinks told when it began
pub record FilesRun : Type 1 where
  pub size : ℕ
  pub manner : Manner
  pub names : List (List ℕ)
  pub source : Source
  pub sinks : Sinks

-- a task's run over files, that begins with these inputs and these sinks
abbrev pub files_run : {R J G : Type 0} → (of_job : JobGhosts J) → Task R J G of_job → List (List ℕ) → Source → Sinks → FilesRun
files_run of_job task names source sinks =
    record { size = 2 * task.plan.workers; manner = manner_of of_job task; names = names; source = source; sinks = sinks }

-- where it begins
abbrev pub run_begin : FilesRun → Standing
run_begin run = record { made = no_past; held = []; source = run.source; sinks = run.sinks }

-- these are the items of the files in front; the first are carried out, and the others are held; each of these files was
-- opened, and no input failed
pub record AreDone (run : FilesRun) (front : List (List ℕ)) (here : Standing) : Type 0 where
  pub items : List Item
  pub are : AreItems (told_contents run.source.files) run.manner (EndsWith here.made) front no_past items
  pub holds : Holds run.manner.binding run.size run.manner.belongs items here.held run.sinks here.sinks
  pub openings : here.source.openings ≡ min (run.source.openings + length front) last_count
  pub faults : here.source.faults ≡ run.source.faults

-- no file is done yet
pub none_done : (run : FilesRun) → run.source.openings ≡ min (run.source.openings + 0) last_count → AreDone run [] (run_begin run)
none_done run openings =
    record { items = []; are = (refl, refl); holds = all_held run.manner.binding run.size run.manner.belongs [] [] run.sinks refl; openings = openings; faults = refl }

-- what follows from the value, where there is one
if_some : {A : Type 0} (o : Option A) (P Q : A → Type 0) → ((a : A) → P a → Q a) → IfSome o P → IfSome o Q
if_some None P Q so h = tt
if_some (Some a) P Q so h = so a h

-- the items of the files in front, and then others
module _ (run : FilesRun) (front : List (List ℕ)) (here : Standing) (done : AreDone run front here) where
  abbrev told : Option Contents
  told = told_contents run.source.files

  -- the run goes on behind them
  pub goes_on : GoesOn done.items
  goes_on = holds_goes_on run.manner.binding run.size run.manner.belongs done.items here.held run.sinks here.sinks done.holds

  -- these items, and then those of the files behind
  pub joined : (F : Rest) (back : List (List ℕ)) (after : List Item) → AreItems told run.manner F back here.made after → AreItems told run.manner F (front ++ back) no_past (done.items ++ after)
  joined F back after follow = items_join told run.manner F back here.made after follow front no_past done.items goes_on done.are

  -- behind what is carried out: what is held, and then these
  read_more : (after : List Item) → done.holds.done ++ (done.holds.left ++ after) ≡ done.items ++ after
  read_more after = sym (append_assoc done.holds.done done.holds.left after) ∙ ap (λ l. l ++ after) (sym done.holds.split)

  -- and how many pages there are
  counted : (after : List Item) → page_count (done.items ++ after) ≡ done.holds.batches * run.size + page_count (done.holds.left ++ after)
  counted after =
      ap page_count (sym (read_more after)) ∙ page_count-append done.holds.done (done.holds.left ++ after) ∙ ap (λ n. n + page_count (done.holds.left ++ after)) done.holds.whole

  -- what is carried out behind what is held is so behind all
  carried : (after : List Item) (last : List (List ℕ)) (c : Sinks) → AreCarriedOut (done.holds.left ++ after) last here.sinks c → AreCarriedOut (done.items ++ after) last run.sinks c
  carried after last c out =
      subst (λ l. AreCarriedOut l last run.sinks c) (read_more after) (carried_on done.holds.done (done.holds.left ++ after) last run.sinks here.sinks c done.holds.carried out)

  -- and so is how the run ended
  ended : (s : Status) (after : List Item) (c : Sinks) → HasEnded s (done.holds.left ++ after) here.sinks c → HasEnded s (done.items ++ after) run.sinks c
  ended s after c end =
      subst (λ l. HasEnded s l run.sinks c) (read_more after) (ended_on s done.holds.done (done.holds.left ++ after) run.sinks here.sinks c done.holds.carried end)

-- and where the run goes on from there, through the files behind
module _ (run : FilesRun) (front back : List (List ℕ)) (here : Standing) (done : AreDone run front here) (to : Standing) where
  -- where it stands among the files behind, it stands among all
  abbrev stands_on : StandsIn (order_of run.manner back run.source) here.made here.source to.source → StandsIn (order_of run.manner (front ++ back) run.source) no_past run.source to.source
  stands_on p = record {
    name = p.name;
    front = front ++ p.front;
    raws = p.raws;
    rest = p.rest;
    before = done.items ++ p.before;
    reached = reached_on front back run.source.openings here.source.openings to.source.openings done.openings p.name p.front p.reached;
    opened = p.opened;
    items = joined run front here done _ p.front p.before p.items;
  }

  -- its outcome, behind what is held, is that of all
  pub outcome_on : (s : Status) → (LastEndsNear (told_contents run.source.files) back to.source → LastEndsNear (told_contents run.source.files) (front ++ back) to.source)
      → ((left : List Item) → AreHeld run.manner.binding run.manner.belongs here.held left → IsOutcomeAt s left (order_of run.manner back run.source) here to)
      → IsOutcomeAt s [] (order_of run.manner (front ++ back) run.source) (run_begin run) to
  outcome_on s last behind = by_status s (behind done.holds.left done.holds.are_held) where
    all_ended : (s : Status) → (items : List Item) × AreAllItems (order_of run.manner back run.source) here.made items × HasEnded s (done.holds.left ++ items) here.sinks to.sinks
        → (items : List Item) × AreAllItems (order_of run.manner (front ++ back) run.source) no_past items × HasEnded s items run.sinks to.sinks
    all_ended s (items, follow, end) = (done.items ++ items, joined run front here done Nothing back items follow, ended run front here done s items to.sinks end)

    by_status : (s : Status) → IsOutcomeAt s done.holds.left (order_of run.manner back run.source) here to → IsOutcomeAt s [] (order_of run.manner (front ++ back) run.source) (run_begin run) to
    by_status status.Done (items, follow, end, opens, near) =
        let (all, are, all_end) = all_ended status.Done (items, follow, end) in
        (all, are, all_end, rw (length-append front back) (opened_behind (length front) (length back) run.source.openings here.source.openings to.source.openings done.openings opens), last near)
    by_status status.BadWords o = all_ended status.BadWords o
    by_status status.Wrong o = all_ended status.Wrong o
    by_status status.Refused u = record {
      place = stands_on u.place;
      message = u.message;
      near = u.near;
      all = subst (λ l. AreItems (told_contents run.source.files) run.manner Nothing (front ++ back) no_past l) (sym (append_assoc done.items u.place.before (Refuse u.message ∷ [])))
          (joined run front here done Nothing back (u.place.before ++ Refuse u.message ∷ []) u.all);
      done = carried run front here done u.place.before (u.message ∷ []) to.sinks u.done;
    }
    by_status status.Unwritten o = all_ended status.Unwritten o
    by_status status.OutOfMemory o = all_ended status.OutOfMemory o
    by_status status.Unread (inl u) = inl (record {
      name = u.name;
      front = front ++ u.front;
      before = done.items ++ u.before;
      reached = reached_on front back run.source.openings here.source.openings to.source.openings done.openings u.name u.front u.reached;
      closed = u.closed;
      cause = subst (λ n. IsAbsent (told_contents run.source.files) u.name ⊎ Rose n to.source.faults) done.faults u.cause;
      items = joined run front here done Nothing u.front u.before u.items;
      done = carried run front here done u.before (not_opened u.name ∷ []) to.sinks u.done;
    })
    by_status status.Unread (inr u) = inr (record {
      place = stands_on u.place;
      taken = u.taken;
      bytes = u.bytes;
      rose = subst (λ n. Rose n to.source.faults) done.faults u.rose;
      stops = u.stops;
      done = carried run front here done u.place.before (page_line u.place.name (length u.place.raws + 1) (cause_text Device) ∷ []) to.sinks u.done;
    })

  -- so is how far it has read, where a document couldn't be written
  pub one_pass_on : 0 < run.size → ((left : List Item) → AreHeld run.manner.binding run.manner.belongs here.held left → IsOnePassAt run.size left (order_of run.manner back run.source) here to)
      → IsOnePassAt run.size [] (order_of run.manner (front ++ back) run.source) (run_begin run) to
  one_pass_on some behind =
      let h = done.holds in
      let o = behind h.left h.are_held in
      let (v, e) = unwritten_on h.done (h.left ++ o.items) run.sinks here.sinks to.sinks h.carried o.unwritten in
      let (w, d) = unwritten_as (done.items ++ o.items) (h.done ++ (h.left ++ o.items)) run.sinks to.sinks (sym (read_more run front here done o.items)) v in
      let k = page_count o.unwritten.before in
      let written : page_count w.before ≡ h.batches * run.size + k = ap page_count (d ∙ e) ∙ page_count-append h.done o.unwritten.before ∙ ap (λ n. n + k) h.whole in
      let end : batch_end run.size (page_count w.before) ≡ h.batches * run.size + batch_end run.size k = ap (batch_end run.size) written ∙ batch_end_behind run.size k h.batches some in
      let all = counted run front here done o.items in
      record {
        items = done.items ++ o.items;
        are = joined run front here done Nothing back o.items o.are;
        unwritten = w;
        no_farther = λ steady enough.
            if_some (told_contents run.source.files) (ReadsTo (batch_end run.size k) h.left (order_of run.manner back run.source) here.made here.source to.source)
            (ReadsTo (batch_end run.size (page_count w.before)) [] (order_of run.manner (front ++ back) run.source) no_past run.source to.source)
            (λ contents u. subst (λ n. ReadsTo n [] (order_of run.manner (front ++ back) run.source) no_past run.source to.source contents) (sym end) (farther (batch_end run.size k) contents u))
            (o.no_farther (λ rose. steady (subst (λ n. Rose n to.source.faults) done.faults rose)) (omega (arith, enough, end, all)));
      } where
        farther : (n : ℕ) (contents : Contents) → ReadsTo n done.holds.left (order_of run.manner back run.source) here.made here.source to.source contents
            → ReadsTo (done.holds.batches * run.size + n) [] (order_of run.manner (front ++ back) run.source) no_past run.source to.source contents
        farther n contents u = record {
          place = stands_on u.place;
          bytes = u.bytes;
          behind = u.behind;
          held = u.held;
          some = u.some;
          begins = u.begins;
          near = u.near;
          goes_on = GoesOn-append done.items u.place.before (goes_on run front here done) u.goes_on;
          count = counted run front here done u.place.before ∙ ap (λ n. done.holds.batches * run.size + n) u.count;
        }

  -- and where memory ran out
  pub lose_on : ((left : List Item) → AreHeld run.manner.binding run.manner.belongs here.held left → LosesAt run.size left (order_of run.manner back run.source) here to)
      → LosesAt run.size [] (order_of run.manner (front ++ back) run.source) (run_begin run) to
  lose_on behind =
      let h = done.holds in
      let o = behind h.left h.are_held in
      let (v, e) = out_on h.done (h.left ++ o.items) run.sinks here.sinks to.sinks h.carried o.out in
      let (w, d) = out_as (done.items ++ o.items) (h.done ++ (h.left ++ o.items)) run.sinks to.sinks (sym (read_more run front here done o.items)) v in
      let k = page_count o.out.before in
      let written : page_count w.before ≡ h.batches * run.size + k = ap page_count (d ∙ e) ∙ page_count-append h.done o.out.before ∙ ap (λ n. n + k) h.whole in
      let sum = add-mul h.batches o.batches run.size in
      let u = o.reads in
      record {
        items = done.items ++ o.items;
        are = joined run front here done Nothing back o.items o.are;
        out = w;
        batches = h.batches + o.batches;
        whole = (let whole = o.whole in omega (arith, written, whole, sum));
        reads = record {
          name = u.name;
          front = front ++ u.front;
          raws = u.raws;
          before = done.items ++ u.before;
          reached = reached_on front back run.source.openings here.source.openings to.source.openings done.openings u.name u.front u.reached;
          read = u.read;
          items = joined run front here done _ u.front u.before u.items;
          goes_on = GoesOn-append done.items u.before (goes_on run front here done) u.goes_on;
          few = (let all = counted run front here done u.before in let few = u.few in omega (arith, all, few, written));
        };
      }
