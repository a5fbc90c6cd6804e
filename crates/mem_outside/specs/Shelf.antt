-- Documents in one buffer: all names and texts in order, with the start and the end of each.
use Rattle.std.specs.Prelude.{◌≡◌, ℕ, ◌+◌, ◌-◌, ◌≤◌, ◌<◌, ◌^◌, Bool, true, false, cond, List, length, map, take, drop, All, Option, None, Some}
use Rattle.pt_core.specs.Documents.{Document, Documents}
use Rattle.mem_outside.specs.declared.shelf.ShelfPlace.{ShelfPlace}

-- the documents, how many more can be added, and the number of free bytes
pub record ShelfState : Type 0 where
  pub documents : Documents
  pub free_documents : ℕ
  pub free_bytes : ℕ

-- the document at a position in the buffer
abbrev pub document_at : List ℕ → ShelfPlace → Document
document_at bytes p = record { name = take (p.middle - p.start) (drop p.start bytes); bytes = take (p.end - p.middle) (drop p.middle bytes) }

-- the open document, which reaches to the buffer's end
abbrev pub open_at : Bool → ℕ → ℕ → List ℕ → Option Document
open_at false start middle bytes = None
open_at true start middle bytes = Some (record { name = take (middle - start) (drop start bytes); bytes = drop middle bytes })

-- the position is within the first n bytes
abbrev pub IsWithin : ℕ → ShelfPlace → Type 0
IsWithin n p = (p.start ≤ p.middle) × (p.middle ≤ p.end) × (p.end ≤ n)

-- how many documents there are, including an open one
abbrev pub count_with : Bool → ℕ → ℕ
count_with is_open n = cond is_open (n + 1) n

-- the state of a shelf, by its fields
abbrev pub shelf_of : List ℕ → ℕ → List ShelfPlace → ℕ → Bool → ℕ → ℕ → ShelfState
shelf_of bytes room places room_for is_open start middle = record {
  documents = record { whole = map (document_at bytes) places; last_open = open_at is_open start middle bytes };
  free_documents = room_for - count_with is_open (length places);
  free_bytes = room - length bytes;
}

-- all positions are within the buffer, and everything is within the memory that was allocated
pub record IsHeld (bytes : List ℕ) (bytes_taken room : ℕ) (places : List ShelfPlace) (places_taken room_for : ℕ) (is_open : Bool) (start middle : ℕ) : Type 0 where
  pub within : All (IsWithin (length bytes)) places
  pub begun : is_open ≡ true → (start ≤ middle) × (middle ≤ length bytes)
  pub bytes_fit : length bytes ≤ room
  pub bytes_kept : room ≤ bytes_taken
  pub documents_fit : count_with is_open (length places) ≤ room_for
  pub documents_kept : room_for ≤ places_taken
  pub few : room_for < 2 ^ 32
