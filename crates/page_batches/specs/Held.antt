-- What was read and isn't carried out yet.
use Rattle.std.specs.Prelude.{◌≡◌, ℕ, List, [], ◌∷◌}
use Rattle.bit_image.specs.Page.{Page as Pixels}
use Rattle.run_output.specs.Parts.{end_part, page_part}
use Rattle.run_output.specs.declared.part.Binding.{Binding}
use Rattle.page_batches.specs.Items.{Item}
use Rattle.page_batches.specs.Items.Item.{Note, Write}

-- one thing that is held: a page, with the name of its document and how many pages of its file came before; the
-- end of a document of so many pages, and what is said then; or a message
pub data Held : Type 0 where
  Page : List ℕ → ℕ → Pixels → Held
  End : List ℕ → ℕ → List (List ℕ) → Held
  Message : List ℕ → Held

-- these are the items of what is held: a part for each page, with a text that belongs to it, and so on
abbrev pub AreHeld : Binding → (Pixels → List ℕ → Type 0) → List Held → List Item → Type 0
AreHeld b belongs [] items = items ≡ []
AreHeld b belongs (Page name before page ∷ held) items =
    (text : List ℕ) × (rest : List Item) × belongs page text × (items ≡ Write (page_part b name before text) ∷ rest) × AreHeld b belongs held rest
AreHeld b belongs (End name pages notes ∷ held) items =
    (rest : List Item) × (items ≡ Write (end_part name pages notes) ∷ rest) × AreHeld b belongs held rest
AreHeld b belongs (Message message ∷ held) items = (rest : List Item) × (items ≡ Note message ∷ rest) × AreHeld b belongs held rest
