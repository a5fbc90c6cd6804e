-- Two runs that end alike if nothing disturbs them.
use Rattle.std.specs.Prelude.{◌≡◌, ◌≢◌, Some}
use Rattle.pt_core.specs.Counts.{Rose}
use Rattle.pt_core.specs.Files.{Contents}
use Rattle.run_output.specs.Told.{Sinks, Source}
use Rattle.run_output.specs.declared.status.Status.{Status}
use Rattle.run_output.specs.declared.status.Status.TheVariants as status
use Rattle.file_documents.specs.FileItems.{told_contents}

-- a run over files with these known contents ended with this status, and no fault of its inputs or outputs and no lack
-- of memory disturbed it
pub record IsUndisturbed (contents : Contents) (s : Status) (source source_now : Source) (old now : Sinks) : Type 0 where
  pub told : told_contents source.files ≡ Some contents
  pub read : Rose source.faults source_now.faults → ⊥
  pub written : Rose old.outs.faults now.outs.faults → ⊥
  pub memory : s ≢ status.OutOfMemory

-- two runs have the same status, the same list of documents if they began with the same, and the same messages if no
-- count of faults of the messages rose
pub record EndAlike (s t : Status) (old now before after : Sinks) : Type 0 where
  pub statuses : s ≡ t
  pub documents : old.outs.documents ≡ before.outs.documents → now.outs.documents ≡ after.outs.documents
  pub messages : old.errs.documents ≡ before.errs.documents → (Rose old.errs.faults now.errs.faults → ⊥) → (Rose before.errs.faults after.errs.faults → ⊥)
      → now.errs.documents ≡ after.errs.documents
