-- How many of a path's next few steps are straight.
use Rattle.std.specs.Prelude.{◌≡◌, ◌↔◌, ℕ, suc, ◌≤◌, IsTrue}
use Rattle.pt_core.specs.declared.point.Point.{Point}
use Rattle.path_cones.specs.Inner.Codes.{IsCoded, coded_step}
use Rattle.path_cones.specs.Corners.{step_from}
use Rattle.path_cones.specs.Straight.{IsStraight, Takes, east, north, west, south}
use Rattle.straight_paths.specs.declared.flags.Flags.{Flags}

-- of the path's first `most` steps, exactly the first `count` are straight
pub record IsStraightUpTo (path : ℕ → Point) (most count : ℕ) : Type 0 where
  pub within : count ≤ most
  pub straight : IsStraight path count
  pub no_more : (c : ℕ) → c ≤ most → IsStraight path c → c ≤ count

-- which directions occur in the path's first `count` steps
pub record AreTaken (path : ℕ → Point) (count : ℕ) (flags : Flags) : Type 0 where
  pub east : IsTrue flags.east ↔ Takes path count east
  pub north : IsTrue flags.north ↔ Takes path count north
  pub west : IsTrue flags.west ↔ Takes path count west
  pub south : IsTrue flags.south ↔ Takes path count south

-- of each path that takes a step and whose next steps are straight and have a code, the longest straight front, up to
-- these steps, has another code
abbrev pub TellsNext : ℕ → ℕ → ℕ → ℕ → ℕ → Type 0
TellsNext count digits digit to_count to_digits = (path : ℕ → Point) → step_from path 0 ≡ coded_step digit
    → IsCoded count (λ k. path (suc k)) digits → IsStraight (λ k. path (suc k)) count
    → IsStraightUpTo path (suc count) to_count × IsCoded to_count path to_digits

-- the same of the path without the last of these steps, and which step the last one is
abbrev pub TellsFront : ℕ → ℕ → ℕ → ℕ → ℕ → ℕ → Type 0
TellsFront count digits digit to_count to_digits last = (path : ℕ → Point) → step_from path 0 ≡ coded_step digit
    → IsCoded count (λ k. path (suc k)) digits → IsStraight (λ k. path (suc k)) count
    → (IsStraightUpTo path count to_count × IsCoded to_count path to_digits) × (step_from path count ≡ coded_step last)
