use Rattle.std.proofs.Common.{◌≡◌, ℕ, ◌-◌, ◌<◌, ◌≤◌, Bool, true, length}
use Rattle.path_tree.specs.Inner.Free.{AreSkips, LeadPast}
use Rattle.path_tree.proofs.free.next_free.Given as goal

-- everything before the current index is held
abbrev pub invariant-places : goal.invariant-places
invariant-places l = record {
  are : AreSkips l.skips;
  len : length l.skips ≡ length l.fn.skips;
  past : (held : ℕ → Bool) → LeadPast held l.fn.skips → LeadPast held l.skips;
  from : l.from ≤ l.at;
  place : l.at < length l.skips;
  passed : (held : ℕ → Bool) → LeadPast held l.fn.skips → (k : ℕ) → l.from ≤ k → k < l.at → held k ≡ true;
}

-- the number of indices that are left
abbrev pub decreases-places : goal.decreases-places
decreases-places l = length l.skips - l.at
