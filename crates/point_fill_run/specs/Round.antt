-- Points texts that potrace wrote, filled again.
use Rattle.std.specs.Prelude.{◌≡◌, ◌⊎◌}
use Rattle.pt_core.specs.Counts.{Rose}
use Rattle.bit_image.specs.Page.{Page}
use Rattle.bit_image.specs.PbmText.{pbm_text}
use Rattle.run_output.specs.Told.{Sinks, Source}
use Rattle.small_program.specs.ProgramRun.{Writes}
use Rattle.run_output.specs.declared.status.Status.{Status}
use Rattle.run_output.specs.declared.status.Status.TheVariants as status

-- what holds after a run with the points text of this page as its input: if no device failed, the run is done or ran
-- out of memory; and if it is done, it wrote the same page
pub record GivesBack (page : Page) (end : Status) (source source_now : Source) (old new : Sinks) : Type 0 where
  pub done : (Rose source.faults source_now.faults → ⊥) → (Rose old.outs.faults new.outs.faults → ⊥)
      → (end ≡ status.Done) ⊎ (end ≡ status.OutOfMemory)
  pub writes : end ≡ status.Done → Writes (pbm_text page) old new
