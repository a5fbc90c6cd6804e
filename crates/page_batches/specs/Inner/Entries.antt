-- The entries of a batch, and the pages that they speak of.
use Rattle.std.specs.Prelude.{◌≡◌, ℕ, suc, Bool, true, false, List, [], ◌∷◌, Vec, string_bytes}
use Rattle.std.specs.Global.{Global}
use Rattle.bit_image.specs.Page.{Page as Pixels}
use Rattle.run_output.specs.Messages.{trailing_line}
use Rattle.run_output.specs.Parts.{end_part, page_part}
use Rattle.run_output.specs.Inner.Parts.{is_begun}
use Rattle.run_output.specs.declared.part.Binding.{Binding}
use Rattle.page_batches.specs.Items.{Item}
use Rattle.page_batches.specs.Items.Item.{Note, Write}
use Rattle.page_batches.specs.Held.{Held}
use Rattle.page_batches.specs.Held.Held.{End, Message, Page}
use Rattle.page_batches.specs.declared.batch.Pending.{Pending as Given}
use Rattle.page_batches.specs.declared.batch.Pending.TheVariants as entry

-- how many pages these entries speak of
abbrev pub pages_among : List Given → ℕ
pages_among [] = 0
pages_among (entry.Page name before ∷ entries) = suc (pages_among entries)
pages_among (other ∷ entries) = pages_among entries

-- what these entries hold, where these are the pages that they speak of, in order
abbrev pub held_by : List Given → List Pixels → List Held
held_by [] pages = []
held_by (entry.Page name before ∷ entries) [] = []
held_by (entry.Page name before ∷ entries) (page ∷ pages) = Page (string_bytes name) before page ∷ held_by entries pages
held_by (entry.End name count ∷ entries) pages = End (string_bytes name) count [] ∷ held_by entries pages
held_by (entry.EndTrailing name file count ∷ entries) pages =
    End (string_bytes name) count (trailing_line (string_bytes file) count ∷ []) ∷ held_by entries pages
held_by (entry.Trailing name count ∷ entries) pages = Message (trailing_line (string_bytes name) count) ∷ held_by entries pages

-- the items of these entries, where these are the texts of the pages that they speak of, in order
abbrev pub items_by : Binding → List Given → List (Vec ℕ Global) → List Item
items_by b [] texts = []
items_by b (entry.Page name before ∷ entries) [] = []
items_by b (entry.Page name before ∷ entries) (text ∷ texts) = Write (page_part b (string_bytes name) before text.items) ∷ items_by b entries texts
items_by b (entry.End name count ∷ entries) texts = Write (end_part (string_bytes name) count []) ∷ items_by b entries texts
items_by b (entry.EndTrailing name file count ∷ entries) texts =
    Write (end_part (string_bytes name) count (trailing_line (string_bytes file) count ∷ [])) ∷ items_by b entries texts
items_by b (entry.Trailing name count ∷ entries) texts = Note (trailing_line (string_bytes name) count) ∷ items_by b entries texts

-- the entries begin a document exactly where none is open, and end one where one is
abbrev pub AreInOrder : Binding → Bool → List Given → Type 0
AreInOrder b is_open [] = Unit {0}
AreInOrder b is_open (entry.Page name before ∷ entries) = (is_open ≡ is_begun b before) × AreInOrder b (is_begun b (suc before)) entries
AreInOrder b is_open (entry.End name count ∷ entries) = (is_open ≡ true) × AreInOrder b false entries
AreInOrder b is_open (entry.EndTrailing name file count ∷ entries) = (is_open ≡ true) × AreInOrder b false entries
AreInOrder b is_open (entry.Trailing name count ∷ entries) = AreInOrder b is_open entries
