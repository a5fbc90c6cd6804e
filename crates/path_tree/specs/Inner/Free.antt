-- Starts of paths that have a holder are skipped, with the pointers of a union-find structure
-- (Tarjan, "Efficiency of a good but not linear set union algorithm", 1975).
use Rattle.std.specs.Prelude.{◌≡◌, ℕ, ◌+◌, ◌<◌, ◌≤◌, ◌^◌, Bool, true, None, Option, is_some, All, List, length, slice_index_or}
use Rattle.std.specs.List.Sorted.{IsNonDecreasingBy}
use Rattle.path_tree.specs.declared.starts.PathStart.{PathStart}

-- an empty start, for indices beyond a list
abbrev pub no_start : PathStart
no_start = record { place = 0; path = 0 }

-- the path of start number k has a holder
abbrev pub has_holder : List PathStart → List (Option ℕ) → ℕ → Bool
has_holder starts holders k = is_some (slice_index_or holders (slice_index_or starts k no_start).path None)

-- each pointer points to its own index or to a later one within the list
pub record AreSkips (skips : List ℕ) : Type 0 where
  pub onwards : (i : ℕ) → i < length skips → i ≤ slice_index_or skips i 0
  pub within : (i : ℕ) → i < length skips → slice_index_or skips i 0 < length skips

-- whatever lies from an index on and before the one that it points to is held
abbrev pub LeadPast : (ℕ → Bool) → List ℕ → Type 0
LeadPast held skips = (i k : ℕ) → i < length skips → i ≤ k → k < slice_index_or skips i 0 → held k ≡ true

-- The starts are sorted, and each one's path is in the list of holders. There is a pointer for each
-- start and one for the end, and the pointers only skip starts of paths that have a holder.
pub record AreFree (starts : List PathStart) (holders : List (Option ℕ)) (skips : List ℕ) : Type 0 where
  pub order : IsNonDecreasingBy (λ start. start.place) starts
  pub known : All (λ start. start.path < length holders) starts
  pub are : AreSkips skips
  pub places : length skips ≡ length starts + 1
  pub few : length starts < 2 ^ 32
  pub past : LeadPast (has_holder starts holders) skips

-- the first n starts lie before a place
pub record StandBefore (starts : List PathStart) (n place : ℕ) : Type 0 where
  pub most : n ≤ length starts
  pub below : (k : ℕ) → k < n → (slice_index_or starts k no_start).place < place
