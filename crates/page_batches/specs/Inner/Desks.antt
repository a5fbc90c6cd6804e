-- The outside of a run as one value.
use Rattle.std.specs.Prelude.{◌≡◌, ◌≤◌, true}
use Rattle.pt_core.specs.declared.sink.Sink.{Ghosts as SinkGhosts}
use Rattle.page_batches.specs.declared.desk.Desk.{Desk}
use Rattle.run_output.specs.Told.{Sinks, sinks_of}

-- what a desk tells
abbrev pub sinks_at : {A B : Type 0} → SinkGhosts A → SinkGhosts B → Desk A B → Sinks
sinks_at of_outs of_errs desk = sinks_of of_outs of_errs desk.outs.now desk.errs.now

-- it is the desk of the same outputs and the same sink for messages; messages can be said; and the outputs' count
-- of faults never falls
pub record Keeps {A B : Type 0} (of_outs : SinkGhosts A) (of_errs : SinkGhosts B) (old new : Desk A B) : Type 0 where
  pub outs : new.outs.ghost_name ≡ old.outs.ghost_name
  pub errs : new.errs.ghost_name ≡ old.errs.ghost_name
  pub ready : of_errs.is_ready new.errs.now ≡ true
  pub never_falls : of_outs.faults old.outs.now ≤ of_outs.faults new.outs.now
