use Rattle.std.proofs.Common.{◌≡◌, ◌≤◌, length}
use Rattle.std.specs.Path.{rfind_below}
use Rattle.run_output.specs.Names.{last_place}
use Rattle.run_output.proofs.names.last_place.Given as goal

-- the byte isn't at or after `end`
abbrev pub invariant-loop-end : goal.invariant-loop-end
invariant-loop-end l = record {
  within : l.end ≤ length l.name;
  same : last_place l.byte l.name ≡ rfind_below l.byte l.name l.end;
}

abbrev pub decreases-loop-end : goal.decreases-loop-end
decreases-loop-end l = l.end
