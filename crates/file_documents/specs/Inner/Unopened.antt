-- How a run ends if a file can't be opened.
use Rattle.std.specs.Prelude.{◌≡◌, ◌⊎◌, ℕ, List, [], ◌∷◌}
use Rattle.run_output.specs.Messages.{not_opened}
use Rattle.run_output.specs.declared.status.Status.{Status}
use Rattle.run_output.specs.declared.status.Status.TheVariants as status
use Rattle.page_batches.specs.Items.{Item}
use Rattle.page_batches.specs.ItemsDone.{AreCarriedOut, HasEnded}
use Rattle.page_batches.specs.Inner.ItemsDone.{IsHalt}
use Rattle.run_output.specs.Told.{Sinks}

-- the run ends because the file of this name can't be opened: these items, which were held, are carried out, and that
-- is reported; or the items are carried out as far as the status says
abbrev pub EndsUnopened : List ℕ → Status → List Item → Sinks → Sinks → Type 0
EndsUnopened name s items old new =
    ((s ≡ status.Unread) × AreCarriedOut items (not_opened name ∷ []) old new)
    ⊎ (IsHalt s × HasEnded s items old new)
