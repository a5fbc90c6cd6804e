use Rattle.std.proofs.Common.{◌≡◌, ℕ, ◌*◌, ◌<◌, ◌^◌, length, get_or}
use Rattle.prefix_moments.specs.Inner.Table.{prefix_of, no_prefix}
use Rattle.prefix_moments.proofs.moments.table.Given as goal

-- the rows so far hold the sums so far, and the next one's are ready
abbrev pub invariant-loop-m : goal.invariant-loop-m
invariant-loop-m l = record {
  now : l.sums ≡ prefix_of l.points (l.m * 2 ^ l.shift);
  full : length l.rows.items ≡ l.m;
  each : (m : ℕ) → m < l.m → get_or l.rows.items m no_prefix ≡ prefix_of l.points (m * 2 ^ l.shift);
}
