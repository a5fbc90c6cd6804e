use Rattle.bitmap_input.proofs.Longest.{run_is_run, run_is_longest, gap_is_gap, gap_is_longest}
use Rattle.bitmap_input.proofs.laws.cuts_are_longest.Goals as goal

pub returns : goal.returns
returns c = record { run = run_is_run; longest_run = run_is_longest; gap = gap_is_gap; longest_gap = gap_is_longest }
