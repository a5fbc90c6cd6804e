-- How far the runs that begin at a piece can reach.
use Rattle.std.specs.Prelude.{ℕ, ◌+◌, ◌<◌, ◌≤◌, List, length, slice_range, All}
use Rattle.curve_join.specs.Join.{GoesRound, first_bend, sense_at}
use Rattle.curve_join.specs.declared.bend.Bend.{Bend}
use Rattle.curve_join.specs.Choice.{MayBeOne}

-- `last` is the farthest end of a run that begins at piece i, and up to it the pieces go round as a run does
pub record IsLastRun (bends : List Bend) (i last : ℕ) : Type 0 where
  pub beyond : i < last
  pub within : last ≤ length bends
  pub few : last ≤ i + 64
  pub all : (tol j : ℕ) → MayBeOne tol bends i j → j ≤ last
  pub round : (j : ℕ) → i + 1 < j → j ≤ last
      → All (GoesRound (sense_at (slice_range bends i j)) (first_bend (slice_range bends i j)).arrives) (slice_range bends i j)
