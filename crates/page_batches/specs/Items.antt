-- What a run does, as a list of items in order. An item is done without taking memory.
use Rattle.std.specs.Prelude.{ℕ, zero, suc, ◌+◌, Bool, true, false, not, List, [], ◌∷◌, ◌++◌, map, Option}
use Rattle.pt_core.specs.Documents.{Documents}
use Rattle.run_output.specs.Parts.{Part, end_part, page_part, whole, with_part}
use Rattle.run_output.specs.declared.part.Binding.{Binding}
use Rattle.run_output.specs.declared.part.Binding.TheVariants as binding

-- one thing to do: to write a part of a document, or a whole one; to say a message after which the run goes on; to
-- say one with which it ends; or that a file isn't there, with which it ends too
pub data Item : Type 0 where
  Write : Part → Item
  Note : List ℕ → Item
  Refuse : List ℕ → Item
  Missing : List ℕ → Item

-- a whole document of a name and a text
abbrev pub Doc : List ℕ → List ℕ → Item
Doc name text = Write (whole name text)

-- the parts that are pages with these texts, behind so many pages of their file
abbrev pub page_items : Binding → List ℕ → ℕ → List (List ℕ) → List Item
page_items b name before [] = []
page_items b name before (text ∷ texts) = Write (page_part b name before text) ∷ page_items b name (suc before) texts

-- the items of the end of a file of so many pages, of which these messages are said: where its pages stand in one
-- document, that is ended first
abbrev pub end_items : Binding → List ℕ → ℕ → List (List ℕ) → List Item
end_items binding.Apart name pages notes = map Note notes
end_items binding.Together name zero notes = map Note notes
end_items binding.Together name (suc k) notes = Write (end_part name (suc k) notes) ∷ []

-- how many pages a part has that begins a document, or doesn't, and ends one, or doesn't: one that only ends a
-- document has none
abbrev pub pages_in : Bool → Bool → ℕ
pages_in true ends = 1
pages_in false true = 0
pages_in false false = 1

-- how many pages the items have
abbrev pub page_count : List Item → ℕ
page_count [] = 0
page_count (Write part ∷ items) = pages_in part.begins part.ends + page_count items
page_count (item ∷ items) = page_count items

-- the run goes on after each of the items
abbrev pub GoesOn : List Item → Type 0
GoesOn [] = Unit {0}
GoesOn (Refuse message ∷ items) = ⊥
GoesOn (Missing name ∷ items) = ⊥
GoesOn (item ∷ items) = GoesOn items

-- the parts of the items are written, in order
abbrev pub with_items : Option Documents → List Item → Option Documents
with_items told [] = told
with_items told (Write part ∷ items) = with_items (with_part told part) items
with_items told (item ∷ items) = with_items told items

-- whether a document is open behind the items
abbrev pub is_open_behind : Bool → List Item → Bool
is_open_behind is_open [] = is_open
is_open_behind is_open (Write part ∷ items) = is_open_behind (not part.ends) items
is_open_behind is_open (item ∷ items) = is_open_behind is_open items

-- the messages of the items after which the run goes on, in order
abbrev pub notes : List Item → List (List ℕ)
notes [] = []
notes (Write part ∷ items) = part.notes ++ notes items
notes (Note message ∷ items) = message ∷ notes items
notes (item ∷ items) = notes items
