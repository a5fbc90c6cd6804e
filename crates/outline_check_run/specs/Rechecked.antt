-- Right certificates, checked by a run.
use Rattle.std.specs.Prelude.{◌≡◌, ℕ, ◌⊎◌, codes}
use Rattle.pt_core.specs.Counts.{Rose}
use Rattle.run_output.specs.Told.{Sinks, Source}
use Rattle.small_program.specs.ProgramRun.{Writes}
use Rattle.run_output.specs.declared.status.Status.{Status}
use Rattle.run_output.specs.declared.status.Status.TheVariants as status
use Rattle.outline_check_run.specs.Verdict.{verdict_line}

-- what holds after a run with right certificates of this number of paths as its input: if no device failed, the run is
-- done or ran out of memory; and if it is done, it wrote that all are right
pub record FindsRight (paths : ℕ) (end : Status) (source source_now : Source) (old new : Sinks) : Type 0 where
  pub done : (Rose source.faults source_now.faults → ⊥) → (Rose old.outs.faults new.outs.faults → ⊥)
      → (end ≡ status.Done) ⊎ (end ≡ status.OutOfMemory)
  pub writes : end ≡ status.Done → Writes (verdict_line (codes "right ") paths) old new
