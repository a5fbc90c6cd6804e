-- What a run has done, against the items that it was to do.
use Rattle.std.specs.Prelude.{◌≡◌, ℕ, ◌≤◌, List, [], ◌∷◌, ◌++◌, length, take}
use Rattle.run_output.specs.Messages.{not_written, out_of_memory}
use Rattle.run_output.specs.Parts.{IsCutIn, Part}
use Rattle.run_output.specs.Told.{AllWent, BrokeOff, IsMessage, Sinks, Told}
use Rattle.run_output.specs.declared.status.Status.{Status}
use Rattle.run_output.specs.declared.status.Status.TheVariants as status
use Rattle.page_batches.specs.Items.{GoesOn, Item, is_open_behind, notes, with_items}
use Rattle.page_batches.specs.Items.Item.{Refuse, Write}

-- these messages were said, one after another
abbrev pub AreSaid : Told → Told → List (List ℕ) → Type 0
AreSaid old new [] = new ≡ old
AreSaid old new (message ∷ messages) = (mid : Told) × IsMessage message old mid × AreSaid mid new messages

-- each of these texts is a front of its message
abbrev pub AreFronts : List (List ℕ) → List (List ℕ) → Type 0
AreFronts [] [] = Unit {0}
AreFronts (text ∷ texts) (message ∷ messages) = ((n : ℕ) × (n ≤ length message) × (text ≡ take n message)) × AreFronts texts messages
AreFronts [] (message ∷ messages) = ⊥
AreFronts (text ∷ texts) [] = ⊥

-- these items are carried out: their parts are written, and no call of the outputs failed; and their messages were
-- said, and then these
pub record AreCarriedOut (items : List Item) (last : List (List ℕ)) (old new : Sinks) : Type 0 where
  pub goes_on : GoesOn items
  pub documents : new.outs.documents ≡ with_items old.outs.documents items
  pub went : AllWent old.outs new.outs
  pub opened : new.is_open ≡ is_open_behind old.is_open items
  pub messages : AreSaid old.errs new.errs (notes items ++ last)

-- the last item is a page that is refused: all before it are carried out, and its message is the last one
pub record IsRefused (items : List Item) (old new : Sinks) : Type 0 where
  pub before : List Item
  pub message : List ℕ
  pub split : items ≡ before ++ Refuse message ∷ []
  pub done : AreCarriedOut before (message ∷ []) old new

-- all items before a part are carried out, and that part is cut off, by the one call of the outputs that failed,
-- which was the last one; the fault of the part's document is the last message
pub record IsUnwritten (items : List Item) (old new : Sinks) : Type 0 where
  pub before : List Item
  pub part : Part
  pub after : List Item
  pub split : items ≡ before ++ Write part ∷ after
  pub goes_on : GoesOn before
  pub cut_off : IsCutIn part (with_items old.outs.documents before) new.outs.documents
  pub broke : BrokeOff old.outs new.outs
  pub messages : AreSaid old.errs new.errs (notes before ++ not_written part.name ∷ [])

-- some first items are carried out, and then memory ran out
pub record IsOutOfMemory (items : List Item) (old new : Sinks) : Type 0 where
  pub before : List Item
  pub after : List Item
  pub split : items ≡ before ++ after
  pub done : AreCarriedOut before (out_of_memory ∷ []) old new

-- the items are carried out as far as the status says
abbrev pub HasEnded : Status → List Item → Sinks → Sinks → Type 0
HasEnded status.Done items old new = AreCarriedOut items [] old new
HasEnded status.Refused items old new = IsRefused items old new
HasEnded status.Unwritten items old new = IsUnwritten items old new
HasEnded status.OutOfMemory items old new = IsOutOfMemory items old new
HasEnded s items old new = ⊥
