-- Windows that are all empty, as a search begins with them.
use Rattle.std.specs.Prelude.{◌≡◌, ℕ, List, slice_get, Some}
use Rattle.least_walk.specs.declared.window.Window.{Window}

-- all windows are empty
abbrev pub AreNone : ℕ → List Window → Type 0
AreNone size windows = (c : ℕ) (w : Window) → slice_get windows c ≡ Some w → w ≡ record { least = size; greatest = 0 }
