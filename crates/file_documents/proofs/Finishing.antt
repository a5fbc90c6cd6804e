-- The end of a file's pages is held, or memory runs out.
use Rattle.std.proofs.Common.{◌≡◌, ℕ, List, ◌++◌, Result, Ok, Err, inr, sym, ◌∙◌, subst}
use Rattle.run_output.specs.Made.{Past}
use Rattle.run_output.specs.declared.status.Status.{Status}
use Rattle.run_output.specs.declared.status.Status.TheVariants as status
use Rattle.page_batches.specs.Held.{AreHeld, Held}
use Rattle.page_batches.specs.Inner.Held.{Holds}
use Rattle.page_batches.specs.Items.{Item}
use Rattle.page_batches.specs.ItemsDone.{HasEnded}
use Rattle.run_output.specs.Told.{Sinks}
use Rattle.file_documents.specs.Manner.{Manner}
use Rattle.file_documents.specs.Inner.Progress.{EndsHeld, EndsWithPages, GoesOnAfter, items_at_end, status_of}
use Rattle.file_documents.specs.declared.pages.PagesEnd.{PagesEnd}

-- the end is held and the run goes on, or the run ends for want of memory
pub goes_on_or_out : (r : Result Unit Status) (size : ℕ) (manner : Manner) (more : List Item) (end : PagesEnd) (held held_now : List Held) (a b : Sinks) → status_of end ≡ status.Done
    → EndsHeld r manner size more held held_now a b → GoesOnAfter r end
goes_on_or_out (Ok done) size manner more end held held_now a b goes out = goes
goes_on_or_out (Err s) size manner more end held held_now a b goes (is, out) = record {
  which = inr (inr is);
  unwritten = λ e. absurd (let no : status.OutOfMemory ≡ status.Unwritten = sym is ∙ e in cc);
}

-- behind k pages of a file, whose reading ended so
module _ (size : ℕ) (manner : Manner) (name base : List ℕ) (past : Past) (end : PagesEnd) (k : ℕ) where
  -- the items of the end are held behind those that were read
  pub end_held_or_out : (r : Result Unit Status) (held held_now : List Held) (a b : Sinks) → EndsHeld r manner size (items_at_end manner name base past end k) held held_now a b
      → (first : List Item) → AreHeld manner.binding manner.belongs held first → EndsWithPages r size manner name base past end k first held_now a b
  end_held_or_out (Ok done) held held_now a b holds first are = holds first are
  end_held_or_out (Err s) held held_now a b (is, out) first are = inr (inr is, subst (λ (v : Status). HasEnded v first a b) (sym is) (out first))

  -- the same base name, spelled otherwise
  pub end_named : (other : List ℕ) (held held_now : List Held) (a b : Sinks) → base ≡ other
      → ((left : List Item) → AreHeld manner.binding manner.belongs held left → Holds manner.binding size manner.belongs (left ++ items_at_end manner name base past end k) held_now a b)
      → (left : List Item) → AreHeld manner.binding manner.belongs held left → Holds manner.binding size manner.belongs (left ++ items_at_end manner name other past end k) held_now a b
  end_named other held held_now a b same holds left are =
      subst (λ (n : List ℕ). Holds manner.binding size manner.belongs (left ++ items_at_end manner name n past end k) held_now a b) same (holds left are)
