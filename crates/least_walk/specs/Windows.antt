-- Windows: where walks of fewest steps stand after so many steps.
use Rattle.std.specs.Prelude.{◌≡◌, ℕ, ◌+◌, ◌≤◌, List, length, slice_get, Some}
use Rattle.least_walk.specs.LeastWalk.{step_count, IsFewest, IsFewestPlace}
use Rattle.least_walk.specs.declared.window.Window.{Window}

-- the window goes from the least to the greatest index at which walks of fewest steps stand after c
-- steps
pub record IsWindow (size : ℕ) (is_allowed : ℕ → ℕ → Type 0) (c : ℕ) (window : Window) : Type 0 where
  pub least_stands : IsFewestPlace size is_allowed c window.least
  pub greatest_stands : IsFewestPlace size is_allowed c window.greatest
  pub none_below : (i : ℕ) → IsFewestPlace size is_allowed c i → window.least ≤ i
  pub none_above : (i : ℕ) → IsFewestPlace size is_allowed c i → i ≤ window.greatest

-- there is one window for each number of steps, from none to the fewest that a walk has
pub record AreWindows (size : ℕ) (is_allowed : ℕ → ℕ → Type 0) (windows : List Window) : Type 0 where
  pub walk : List ℕ
  pub is_fewest : IsFewest size is_allowed walk
  pub count : length windows ≡ step_count walk + 1
  pub each : (c : ℕ) (w : Window) → slice_get windows c ≡ Some w → IsWindow size is_allowed c w
