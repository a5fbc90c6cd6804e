use Rattle.std.proofs.Common.{◌-◌, ◌≤◌, drop, length}
use Rattle.list_reader.proofs.EntryLines.{IsReading}
use Rattle.list_reader.proofs.lines.read_line.Given as goal

-- the values read are the first ones of the line, and the rest of the line starts at `here`
abbrev pub invariant-loop-entry : goal.invariant-loop-entry
invariant-loop-entry g l = record {
  onwards : l.at ≤ l.here;
  within : l.here ≤ length l.text;
  reading : IsReading _ g.E.Entries.text_of (g.E.Entries.IsIn l.kind) (drop l.at l.text) l.values.items (drop l.here l.text);
}

abbrev pub decreases-loop-entry : goal.decreases-loop-entry
decreases-loop-entry g l = length l.text - l.here
