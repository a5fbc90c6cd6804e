use Rattle.std.proofs.Common.{◌≡◌, ℕ, ◌<◌, ◌≤◌, length}
use Rattle.std.specs.Prelude.{slice_index}
use Rattle.polygon_search.specs.Inner.Search.{BeginsWindow, counts_of}
use Rattle.polygon_search.proofs.windows.fill_begins.Given as goal

-- the windows from this one on begin where it is written
abbrev pub invariant-loop-window : goal.invariant-loop-window
invariant-loop-window l = record {
  places : length l.begins.items ≡ length l.farthest;
  inside : l.window < length l.farthest;
  each : (v : ℕ) → l.window ≤ v → v < length l.farthest
      → BeginsWindow (length l.segments.moments.now) (counts_of (length l.segments.moments.now) l.segments.lasts.items) v (slice_index l.begins.items v);
}
