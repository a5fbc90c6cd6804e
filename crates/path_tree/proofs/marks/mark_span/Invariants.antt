use Rattle.std.proofs.Common.{◌≡◌, ◌-◌, ◌≤◌, length, drop}
use Rattle.path_tree.specs.Inner.Free.{AreFree}
use Rattle.path_tree.specs.Inner.Starts.{is_in_span, marked}
use Rattle.path_tree.proofs.marks.mark_span.Given as goal

-- marking the starts that are left gives what marking all starts gives
abbrev pub invariant-starts : goal.invariant-starts
invariant-starts l = record {
  len : length l.holders ≡ length l.fn.holders;
  free : AreFree l.starts l.holders l.skips;
  from : l.first ≤ l.at;
  place : l.at ≤ length l.starts;
  marks : marked l.path (is_in_span l.low l.high) (drop l.at l.starts) l.holders ≡ marked l.path (is_in_span l.low l.high) l.starts l.fn.holders;
}

-- the number of starts that are left
abbrev pub decreases-starts : goal.decreases-starts
decreases-starts l = length l.starts - l.at
